-- The tokens of netlists.
use Rattle.std.specs.Prelude.{ℕ, List, [], ◌∷◌, map, codes}
use Rattle.lexing.specs.declared.token.Token.{Token}
use Rattle.lexing.specs.Table.{Lexicon}
use Rattle.lexing.specs.Tokens.{tokens_of}

-- the reserved words and the signs of netlists
unfoldable pub netlists : Lexicon
netlists = record {
  reserved =
      map codes ("code" ∷ "register" ∷ "memory" ∷ "net" ∷ "bus" ∷ "module" ∷ "part" ∷ "size" ∷ "at"
      ∷ "in" ∷ "out" ∷ "when" ∷ "addr" ∷ "write" ∷ "case" ∷ "else" ∷ "read" ∷ "slice" ∷ "zext"
      ∷ "sext" ∷ "cat" ∷ "add" ∷ "sub" ∷ "mul" ∷ "and" ∷ "or" ∷ "xor" ∷ "not" ∷ "neg" ∷ "shl"
      ∷ "shr" ∷ "sar" ∷ "eq" ∷ "ltu" ∷ "lts" ∷ []);
  signs = map codes (":" ∷ ";" ∷ "," ∷ "=" ∷ "." ∷ "#" ∷ "(" ∷ ")" ∷ "{" ∷ "}" ∷ "[" ∷ "]" ∷ []);
}

-- the tokens of a netlist's text
abbrev pub net_tokens : List ℕ → List Token
net_tokens bytes = tokens_of netlists bytes
