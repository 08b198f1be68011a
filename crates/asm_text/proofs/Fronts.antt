-- A text that begins with a transfer's.
use Rattle.std.proofs.Common.{◌≡◌, ℕ, ◌-◌, ◌≤◌, List, ◌++◌, length, take, drop, codes, sym, ap, ◌∙◌, append_assoc, length-append, arith}
use Rattle.std.proofs.Math.Seq.{drop-append_seam, take-append_seam}

-- a text is cut before what ends it
module _ (text front rest : List ℕ) (is : text ≡ front ++ rest) where
  place : length text - length rest ≡ length front
  place = omega (arith, ap length is, length-append front rest)

  pub short : length rest ≤ length text
  short = omega (arith, ap length is, length-append front rest)

  pub front_is : take (length text - length rest) text ≡ front
  front_is = ap (λ (n : ℕ). take n text) place ∙ ap (take (length front)) is ∙ take-append_seam front rest

  pub rest_is : drop (length text - length rest) text ≡ rest
  rest_is = ap (λ (n : ℕ). drop n text) place ∙ ap (drop (length front)) is ∙ drop-append_seam front rest

-- the words of a transfer, and what follows them
pub joined : (text place behind more value rest : List ℕ) → text ≡ place ++ behind → behind ≡ codes " := " ++ more → more ≡ value ++ rest → text ≡ (place ++ (codes " := " ++ value)) ++ rest
joined text place behind more value rest a b c =
    a ∙ ap (λ (r : List ℕ). place ++ r) (b ∙ ap (λ (r : List ℕ). codes " := " ++ r) c)
    ∙ sym (append_assoc place (codes " := " ++ value) rest)
