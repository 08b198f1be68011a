use Rattle.std.proofs.Common.{◌≡◌, ℕ, ◌+◌, ◌-◌, length, List, ◌++◌, take, drop, None, Some, arith, ◌∙◌, append_assoc}
use Rattle.std.proofs.lemmas.Grind.{common_steps}
use Rattle.std.proofs.Math.Seq.{take-add}
use Rattle.std.specs.declared.option.Option.{Option}
use Rattle.rec_io.specs.Written.{Takes}

-- one piece, and then the next
pub Takes-append : (a b c : Option (List ℕ)) (xs ys : List ℕ) → Takes a b xs → Takes b c ys → Takes a c (xs ++ ys)
Takes-append None b c xs ys first second = rw first at second
Takes-append (Some old) b c xs ys first second = (rw first at second) ∙ simp append_assoc

-- the rest of a piece
rest : (xs : List ℕ) (i : ℕ) → take (length xs - i) (drop i xs) ≡ drop i xs
rest xs i = grind (arith, common_steps)

-- the first i bytes of a piece, and then n more
pub Takes-take : (a b c : Option (List ℕ)) (xs : List ℕ) (i n : ℕ) → Takes a b (take i xs) → Takes b c (take n (take (length xs - i) (drop i xs))) → Takes a c (take (i + n) xs)
Takes-take a b c xs i n first second = rw (take-add i n xs) (Takes-append a b c _ _ first (rw (rest xs i) at second))
