-- Clocks, one after the other, up to a state that is looked for.
use Rattle.std.proofs.Common.{ℕ, zero, suc, ◌≡◌, ◌<◌, ◌≤◌, ◌+◌, ◌⊎◌, inl, inr, false, nat_eq, List, Option, Some, None, refl, sym, ◌∙◌, ap, subst, add-one, arith}
use Rattle.std.specs.Option.{option_eq}
use Rattle.std.proofs.lemmas.Bool.{cases_lt}
use Rattle.std.proofs.lemmas.Bool.Decides.{nat_tests}
use Rattle.net_model.specs.declared.hardware.Netlist.{Netlist}
use Rattle.net_model.specs.declared.states.State.{State}
use Rattle.net_model.specs.Clock.{clock, run, run_from, then_run, Outcome, Next, Clash, Reached}
use Rattle.make_command.specs.Stops.{RunsOn}

-- a number that was compared, and isn't there
pub not_there : (o : Option ℕ) (n : ℕ) → option_eq nat_eq o (Some n) ≡ false → o ≡ Some n → ⊥
not_there None n e is = absurd (cc)
not_there (Some m) n e is = let same : m ≡ n = cc in grind (arith, nat_tests)

module _ (netlist : Netlist) (words : List ℕ) where
  -- a clock more at the end
  run_more : (k c : ℕ) (s t u : State) → run_from c netlist words s k ≡ Reached t → clock netlist words t ≡ Next u → run_from c netlist words s (suc k) ≡ Reached u
  run_more zero c s t u e next =
      let same : s ≡ t = cc in
      ap (then_run c (λ (x : State). Reached x)) (ap (clock netlist words) same ∙ next)
  run_more (suc k) c s t u e next = by_outcome (clock netlist words s) (λ x p. run_more k (c + 1) x t u p next) e
    where
      by_outcome : (o : Outcome) → ((x : State) → run_from (c + 1) netlist words x k ≡ Reached t → run_from (c + 1) netlist words x (suc k) ≡ Reached u) →
          then_run c (λ x. run_from (c + 1) netlist words x k) o ≡ Reached t → then_run c (λ x. run_from (c + 1) netlist words x (suc k)) o ≡ Reached u
      by_outcome (Next x) ih p = ih x p
      by_outcome (Clash bus) ih p = absurd (cc)

  module _ (Is : State → Type 0) (start : State) where
    -- where clocks have led that came to no such state
    pub record Underway (clocks : ℕ) (s : State) : Type 0 where
      pub reached : run netlist words start clocks ≡ Reached s
      pub before : (k : ℕ) (t : State) → k < clocks → run netlist words start k ≡ Reached t → Is t → ⊥

    pub begins : Underway 0 start
    begins = record { reached = refl; before = λ k t lt r is. absurd (omega arith) }

    one_state : (clocks : ℕ) (s t : State) → run netlist words start clocks ≡ Reached s → run netlist words start clocks ≡ Reached t → s ≡ t
    one_state clocks s t p q = let e : Reached s ≡ Reached t = sym p ∙ q in cc

    pub goes_on : (clocks : ℕ) (s t : State) → Underway clocks s → (Is s → ⊥) → clock netlist words s ≡ Next t → Underway (clocks + 1) t
    goes_on clocks s t h not next = record {
      reached = rw add-one (run_more clocks 0 start s t h.reached next);
      before = λ k u lt r is. by_place k u lt r is (cases_lt k clocks);
    }
      where
        by_place : (k : ℕ) (u : State) → k < clocks + 1 → run netlist words start k ≡ Reached u → Is u → (k < clocks) ⊎ (clocks ≤ k) → ⊥
        by_place k u less r is (inl lt) = h.before k u lt r is
        by_place k u less r is (inr le) =
            let here : k ≡ clocks = omega arith in
            let there : run netlist words start clocks ≡ Reached u = subst (λ (n : ℕ). run netlist words start n ≡ Reached u) here r in
            not (subst Is (one_state clocks u s there h.reached) is)

  -- a clock that is to be made doesn't clash
  module _ (Is : State → Type 0) where
    pub record GoesOn (more : ℕ) (s : State) : Type 0 where
      pub next : State
      pub clocked : clock netlist words s ≡ Next next
      pub runs : RunsOn netlist words Is more next

    pub clean : (left more : ℕ) (s : State) → left ≡ suc more → (Is s → ⊥) → RunsOn netlist words Is left s → GoesOn more s
    unfolding RunsOn
    clean left more s e not h = by_case (subst (λ (n : ℕ). RunsOn netlist words Is n s) e h)
      where
        by_case : RunsOn netlist words Is (suc more) s → GoesOn more s
        by_case (inl is) = absurd (not is)
        by_case (inr on) = record { next = on.0; clocked = on.1; runs = on.2 }
