-- A netlist of which each net is seen as it is: its values, its clock and its run are those of the
-- netlist.
use Rattle.std.proofs.Common.{◌≡◌, ◌+◌, ℕ, List, length, ap, refl, zero, suc, slice_get, ◌∙◌}
use mathlib.Core.Path.{fun_ext}
use Rattle.net_model.specs.declared.hardware.Netlist.{Netlist}
use Rattle.net_model.specs.declared.states.State.{State}
use Rattle.net_model.specs.Value.{net_value, value_of, value_within}
use Rattle.net_model.specs.Clock.{Run, clash_in, clock, outcome_of, run, run_from, then_run, word_at}
use Rattle.fault_sim.specs.Faulty.{as_it_is, seen_clock, seen_of, seen_run, seen_run_from, seen_within}

module _ (netlist : Netlist) where
  within : (k : ℕ) (s : State) (word n : ℕ) → seen_within as_it_is k netlist s word n ≡ value_within k netlist s word n
  within zero s word n = refl
  within (suc k) s word n =
      ap (λ (v : ℕ → ℕ). net_value v netlist s word (slice_get netlist.nets n)) (fun_ext (within k s word))

  pub good_value : (s : State) (word : ℕ) → seen_of as_it_is netlist s word ≡ value_of netlist s word
  good_value s word = fun_ext (within (length netlist.nets) s word)

  pub good_clock : (words : List ℕ) (s : State) → seen_clock as_it_is netlist words s ≡ clock netlist words s
  good_clock words s =
      ap (λ (v : ℕ → ℕ). outcome_of v netlist s (clash_in v netlist.nets)) (good_value s (word_at netlist words s))

  pub good_run_from : (words : List ℕ) (n cycle : ℕ) (s : State) → seen_run_from as_it_is cycle netlist words s n ≡ run_from cycle netlist words s n
  good_run_from words zero cycle s = refl
  good_run_from words (suc n) cycle s =
      ap (λ (later : State → Run). then_run cycle later (seen_clock as_it_is netlist words s)) (fun_ext (good_run_from words n (cycle + 1)))
      ∙ ap (then_run cycle (λ t. run_from (cycle + 1) netlist words t n)) (good_clock words s)

  pub good_run : (words : List ℕ) (s : State) (n : ℕ) → seen_run as_it_is netlist words s n ≡ run netlist words s n
  good_run words s n = good_run_from words n 0 s
