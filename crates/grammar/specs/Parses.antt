-- What parsing a text answers where it is none. The offset of a fault is that of its token, or the
-- length of the text where all tokens begin some text.
use Rattle.std.specs.Prelude.{◌≡◌, ℕ, List, [], ◌∷◌, length}
use Rattle.rec_bits.specs.declared.fault.ParseFault.{ParseFault}
use Rattle.rec_bits.specs.declared.fault.ParseFault.TheVariants.{Text, Memory}
use Rattle.grammar.specs.declared.words.Lexed.{Lexed}
use Rattle.grammar.specs.Reading.{IsFault}

-- the offset of the first token that is left, or the length of the text
abbrev pub offset_of : {S K : Type 0} → ℕ → List (Lexed S K) → ℕ
offset_of size [] = size
offset_of size (t ∷ ts) = t.at

-- the offset of the first token with which those before it begin no text any more
pub record IsFaultAt {S K V : Type 0} (R : List (Lexed S K) → V → Type 0) (bytes : List ℕ)
    (ts : List (Lexed S K)) (offset : ℕ) : Type 0 where
  pub rest : List (Lexed S K)
  pub fault : IsFault R ts rest
  pub at : offset ≡ offset_of (length bytes) rest

-- nothing is said where memory ran out
abbrev pub IsParseFault : {S K V : Type 0} → (List (Lexed S K) → V → Type 0) → List ℕ →
    List (Lexed S K) → ParseFault → Type 0
IsParseFault R bytes ts (Text offset) = IsFaultAt R bytes ts offset
IsParseFault R bytes ts Memory = Unit {0}
