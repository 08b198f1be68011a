-- Netlist texts as bytes: their tokens are read by the grammar.
use Rattle.std.specs.Prelude.{ℕ, List}
use Rattle.rec_bits.specs.declared.fault.ParseFault.{ParseFault}
use Rattle.rec_bits.specs.declared.fault.ParseFault.TheVariants.{Text, Memory}
use Rattle.net_lexer.specs.Netlists.{net_tokens}
use Rattle.net_model.specs.Editions.{Lexed}
use Rattle.net_model.specs.Grammar.{IsText}
use Rattle.net_model.specs.Written.{UnitsModel as NetText}
use Rattle.grammar.specs.Parses.{IsFaultAt}
use Rattle.net_parser.specs.Words.{net_words}

-- the tokens of the bytes, with the words that they are
abbrev pub net_lexed : List ℕ → List Lexed
net_lexed bytes = net_words bytes (net_tokens bytes)

-- the bytes are a netlist text, of this edition and these items
pub record IsNetText (bytes : List ℕ) (text : NetText) : Type 0 where
  pub spelled : IsText (net_lexed bytes) text

-- the bytes are none: the offset of the first token with which those before it begin no text any
-- more, or the length of the bytes
pub record IsNoNetText (bytes : List ℕ) (offset : ℕ) : Type 0 where
  pub fault : IsFaultAt IsText bytes (net_lexed bytes) offset

-- nothing is said where memory ran out
abbrev pub IsNetTextFault : List ℕ → ParseFault → Type 0
IsNetTextFault bytes (Text offset) = IsNoNetText bytes offset
IsNetTextFault bytes Memory = Unit {0}
