-- Runs one after the other, and words that stand in a code.
use Rattle.std.proofs.Common.{◌≡◌, ℕ, zero, suc, ◌+◌, ◌<◌, ◌≤◌, ◌%◌, List, [], ◌∷◌, ◌++◌, append_assoc, length, length-append, refl, sym, ◌∙◌, arith, subst}
use Rattle.std.proofs.Math.Nat.{mod-eq_of_lt}
use Rattle.rec_bits.proofs.Lists.{index_seam}
use Rattle.net_model.specs.declared.hardware.Netlist.{Netlist}
use Rattle.net_model.specs.declared.states.State.{State}
use Rattle.net_model.specs.Clock.{Clash, Next, Outcome, Reached, clock, run_from, then_run}
use Rattle.word_fit.specs.Runs.{StandAt}

-- ---- runs

module _ (netlist : Netlist) (code : List ℕ) where
  -- clocks lead to the same state whatever cycle the first of them is
  pub any_cycle : (n c d : ℕ) (s t : State) → run_from c netlist code s n ≡ Reached t → run_from d netlist code s n ≡ Reached t
  any_cycle zero c d s t e = e
  any_cycle (suc n) c d s t e = by (clock netlist code s) (λ u. any_cycle n (c + 1) (d + 1) u t) e
    where
      by : (o : Outcome) → ((u : State) → run_from (c + 1) netlist code u n ≡ Reached t → run_from (d + 1) netlist code u n ≡ Reached t)
          → then_run c (λ u. run_from (c + 1) netlist code u n) o ≡ Reached t → then_run d (λ u. run_from (d + 1) netlist code u n) o ≡ Reached t
      by (Next u) later e = later u e
      by (Clash bus) later e = absurd cc

  -- clocks from where the clocks before them lead to
  pub run_on : (n k m c : ℕ) (s t u : State) → m ≡ n + k → run_from c netlist code s n ≡ Reached t → ((d : ℕ) → run_from d netlist code t k ≡ Reached u) → run_from c netlist code s m ≡ Reached u
  run_on zero k m c s t u e f g =
      let same : s ≡ t = cc in
      let count : k ≡ m = omega (arith, e) in
      subst (λ v. run_from c netlist code v m ≡ Reached u) (sym same) (subst (λ i. run_from c netlist code t i ≡ Reached u) count (g c))
  run_on (suc n) k zero c s t u e f g = absurd (omega (arith, e))
  run_on (suc n) k (suc m) c s t u e f g = by (clock netlist code s) (λ v h. run_on n k m (c + 1) v t u (omega (arith, e)) h g) f
    where
      by : (o : Outcome) → ((v : State) → run_from (c + 1) netlist code v n ≡ Reached t → run_from (c + 1) netlist code v m ≡ Reached u)
          → then_run c (λ v. run_from (c + 1) netlist code v n) o ≡ Reached t → then_run c (λ v. run_from (c + 1) netlist code v m) o ≡ Reached u
      by (Next v) later e = later v e
      by (Clash bus) later e = absurd cc

-- ---- words

stand_behind : (before ws : List ℕ) (at : ℕ) → at ≡ length before → StandAt (before ++ ws) at ws
stand_behind before [] at e = tt
stand_behind before (w ∷ ws) at e = (
  index_seam before w ws at e,
  subst (λ (code : List ℕ). StandAt code (at + 1) ws) (append_assoc before (w ∷ []) ws)
      (stand_behind (before ++ w ∷ []) ws (at + 1) (omega (arith, e, length-append before (w ∷ [])))),
)

-- words stand in themselves
pub stand_whole : (ws : List ℕ) → StandAt ws 0 ws
stand_whole ws = stand_behind [] ws 0 refl

module _ (code : List ℕ) where
  pub stand_parts : (xs ys : List ℕ) (at : ℕ) → StandAt code at (xs ++ ys) → StandAt code at xs × StandAt code (at + length xs) ys
  stand_parts [] ys at h = (tt, subst (λ n. StandAt code n ys) (let z : at ≡ at + 0 = omega arith in z) h)
  stand_parts (x ∷ xs) ys at h =
      let r = stand_parts xs ys (at + 1) h.1 in
      ((h.0, r.0), subst (λ n. StandAt code n ys) (let z : at + 1 + length xs ≡ at + suc (length xs) = omega arith in z) r.1)

  -- the program counter is at the words behind, or there are none
  pub stand_on : (ws : List ℕ) (at next size : ℕ) → next ≡ at % size → next < size → at + length ws ≤ size → StandAt code at ws → StandAt code next ws × (next + length ws ≤ size)
  stand_on [] at next size e lt b h = (tt, omega (arith, lt))
  stand_on (w ∷ ws) at next size e lt b h =
      let same : next ≡ at = e ∙ mod-eq_of_lt (omega (arith, b)) in
      (subst (λ n. StandAt code n (w ∷ ws)) (sym same) h, omega (arith, same, b))
