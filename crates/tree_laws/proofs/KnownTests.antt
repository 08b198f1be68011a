-- Tests on numbers that are known to hold or not.
use Rattle.std.proofs.Common.{◌≡◌, ℕ, ◌+◌, ◌<◌, ◌≤◌, sym, ◌∙◌, arith, inl, inr, nat_lt}
use Rattle.std.proofs.lemmas.Bool.{cases_lt, lt-ltb, le-ltb}

-- both numbers moved up
pub lt_moved : (m n h : ℕ) → nat_lt (m + h) (n + h) ≡ nat_lt m n
lt_moved m n h = elim (cases_lt m n) as (λ _. nat_lt (m + h) (n + h) ≡ nat_lt m n) [
  | inl l ↦ (let k : m + h < n + h = omega (arith, l) in lt-ltb (m + h) (n + h) k ∙ sym (lt-ltb m n l))
  | inr l ↦ (let k : n + h ≤ m + h = omega (arith, l) in le-ltb (m + h) (n + h) k ∙ sym (le-ltb m n l))
]
