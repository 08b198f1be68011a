-- What an output took of a piece, where it tells what it took.
use Rattle.std.specs.Prelude.{◌≡◌, ℕ, ◌<◌, List, ◌++◌, length, take, Option, option_map}

-- what has been taken is what had been taken, and then this piece
abbrev pub Takes : Option (List ℕ) → Option (List ℕ) → List ℕ → Type 0
Takes before now piece = now ≡ option_map (λ bytes. bytes ++ piece) before

-- a prefix of the piece was taken, and not all of it
pub record TakesPrefix (before now : Option (List ℕ)) (piece : List ℕ) : Type 0 where
  pub count : ℕ
  pub within : count < length piece
  pub taken : Takes before now (take count piece)
