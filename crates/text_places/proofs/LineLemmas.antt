-- The line that an offset stands in, as a part of the text.
use Rattle.std.proofs.Common.{◌≡◌, ℕ, ◌+◌, ◌-◌, ◌≤◌, List, ◌++◌, length, take, drop, ap, ◌∙◌, arith, length-drop}
use Rattle.std.proofs.Math.Seq.{take-append-add}
use Rattle.std.proofs.lemmas.List.{drop-append-le}

-- the last n bytes of one part with the first k of the next
pub around : (b d text : List ℕ) (n k : ℕ) → text ≡ b ++ d → n ≤ length b →
    take (length b + k - (length b - n)) (drop (length b - n) text) ≡ drop (length b - n) b ++ take k d
around b d text n k e h =
    let s : ℕ = length b - n in
    let long : length b + k - s ≡ length (drop s b) + k = omega (arith, length-drop s b) in
    (λ j. take (long j) (drop s (e j)))
    ∙ ap (take (length (drop s b) + k)) (drop-append-le s b d (omega arith))
    ∙ take-append-add (drop s b) d k
