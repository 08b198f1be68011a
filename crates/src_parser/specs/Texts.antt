-- Program texts as bytes: their tokens are read by the grammar.
use Rattle.std.specs.Prelude.{ℕ, List}
use Rattle.rec_bits.specs.declared.fault.ParseFault.{ParseFault}
use Rattle.rec_bits.specs.declared.fault.ParseFault.TheVariants.{Text, Memory}
use Rattle.src_lexer.specs.Programs.{src_tokens}
use Rattle.src_model.specs.Grammar.{Lexed, IsProgram}
use Rattle.src_model.specs.Written.{ProgramModel}
use Rattle.grammar.specs.Parses.{IsFaultAt}
use Rattle.src_parser.specs.Words.{src_words}

-- the tokens of the bytes, with the words that they are
abbrev pub src_lexed : List ℕ → List Lexed
src_lexed bytes = src_words bytes (src_tokens bytes)

-- the bytes are a program text, of these declarations and statements
pub record IsSrcText (bytes : List ℕ) (program : ProgramModel) : Type 0 where
  pub spelled : IsProgram (src_lexed bytes) program

-- the bytes are none: the offset of the first token with which those before it begin no text any
-- more, or the length of the bytes
pub record IsNoSrcText (bytes : List ℕ) (offset : ℕ) : Type 0 where
  pub fault : IsFaultAt IsProgram bytes (src_lexed bytes) offset

-- nothing is said where memory ran out
abbrev pub IsSrcTextFault : List ℕ → ParseFault → Type 0
IsSrcTextFault bytes (Text offset) = IsNoSrcText bytes offset
IsSrcTextFault bytes Memory = Unit {0}
