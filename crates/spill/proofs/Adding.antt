-- Cells that are added to a list, each with the number of those before it.
use Rattle.std.proofs.Common.{◌≡◌, ℕ, ◌+◌, List, [], ◌∷◌, ◌++◌, length, sym, ap, ◌∙◌}
use Rattle.std.specs.List.{range_with_len}
use Rattle.std.proofs.lemmas.List.{append-nil, append_assoc, length-append}
use Rattle.std.proofs.lemmas.List.FromFn.{length-range_with_len}
use Rattle.spill.proofs.InOrder.{range_joined}

pub added_none : (list : List ℕ) → list ≡ list ++ range_with_len (length list) 0
added_none list = sym (append-nil list)

pub added_more : (old mid new : List ℕ) (m n : ℕ) → mid ≡ old ++ range_with_len (length old) m → new ≡ mid ++ range_with_len (length mid) n → new ≡ old ++ range_with_len (length old) (m + n)
added_more old mid new m n e f =
    let long : length mid ≡ length old + m = ap length e ∙ length-append old (range_with_len (length old) m) ∙ ap (λ k. length old + k) (length-range_with_len (length old) m) in
    f ∙ (λ i. e i ++ range_with_len (long i) n) ∙ append_assoc old (range_with_len (length old) m) (range_with_len (length old + m) n) ∙ ap (λ l. old ++ l) (range_joined (length old) m n)

-- one cell more
pub added_one : (old mid new : List ℕ) (m : ℕ) → mid ≡ old ++ range_with_len (length old) m → new ≡ mid ++ (length mid ∷ []) → new ≡ old ++ range_with_len (length old) (m + 1)
added_one old mid new m e f = added_more old mid new m 1 e f
