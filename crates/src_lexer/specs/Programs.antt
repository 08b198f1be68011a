-- The tokens of programs.
use Rattle.std.specs.Prelude.{ℕ, List, [], ◌∷◌, map, codes}
use Rattle.lexing.specs.declared.token.Token.{Token}
use Rattle.lexing.specs.Table.{Lexicon}
use Rattle.lexing.specs.Tokens.{tokens_of}

-- the reserved words and the signs of programs
unfoldable pub programs : Lexicon
programs = record {
  reserved =
      map codes ("var" ∷ "if" ∷ "else" ∷ "while" ∷ "for" ∷ "to" ∷ "zext" ∷ "sext" ∷ "low" ∷ "slt"
      ∷ "sle" ∷ "sgt" ∷ "sge" ∷ []);
  signs =
      map codes ("=" ∷ ";" ∷ "," ∷ "[" ∷ "]" ∷ "{" ∷ "}" ∷ "(" ∷ ")" ∷ "==" ∷ "!=" ∷ "<" ∷ "<="
      ∷ ">" ∷ ">=" ∷ "|" ∷ "^" ∷ "&" ∷ "<<" ∷ ">>" ∷ ">>>" ∷ "+" ∷ "-" ∷ "*" ∷ "~" ∷ []);
}

-- the tokens of a program's text
abbrev pub src_tokens : List ℕ → List Token
src_tokens bytes = tokens_of programs bytes
