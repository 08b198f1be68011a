-- A fault that changes no value isn't seen: where the bit has the stuck value already, the clock is
-- that of the netlist.
use Rattle.std.proofs.Common.{inl, inr, ◌≡◌, ℕ, ◌<◌, List, None, length, sym, ◌∙◌, ap, arith, subst, refl, slice_get, zero, suc}
use mathlib.Core.Path.{fun_ext}
use Rattle.std.proofs.lemmas.Bool.{cases_eq}
use Rattle.std.proofs.lemmas.Option.{slice_get_cases}
use Rattle.rec_bits.proofs.Lists.{all_weaker}
use Rattle.net_model.specs.declared.hardware.Netlist.{Netlist}
use Rattle.net_model.specs.declared.states.State.{State}
use Rattle.net_model.specs.Nets.{nets_of}
use Rattle.net_model.specs.Value.{net_value, value_of, value_within}
use Rattle.net_model.specs.Clock.{clash_in, clock, outcome_of, word_at}
use Rattle.net_model.specs.Order.{position_of, IsOrder}
use Rattle.net_model.proofs.Agree.{same_net}
use Rattle.net_model.proofs.Orders.{at_place, value_is}
use Rattle.fault_sim.specs.declared.fault.Fault.{Fault}
use Rattle.fault_sim.specs.Faulty.{IsFault, IsHidden, faulty_clock, faulty_value, seen_under, with_bit}
use Rattle.fault_sim.proofs.Seeing.{fault_sight, other, own, past_zero, seen_is}

no_value : (netlist : Netlist) (s : State) (word k n : ℕ) → slice_get netlist.nets n ≡ None → value_within k netlist s word n ≡ 0
no_value netlist s word zero n e = refl
no_value netlist s word (suc k) n e = ap (net_value (value_within k netlist s word) netlist s word) e

module _ (netlist : Netlist) (order : List ℕ) (o : IsOrder netlist order) (fault : Fault) (f : IsFault netlist fault) where
  module _ (s : State) (word : ℕ) (h : IsHidden netlist fault s word) where
    unchanged : (n : ℕ) → seen_under fault n (value_of netlist s word n) ≡ value_of netlist s word n
    unchanged n =
        elim (cases_eq n fault.net) as (λ _. seen_under fault n (value_of netlist s word n) ≡ value_of netlist s word n) [
          | inl e ↦
              own netlist fault f n (value_of netlist s word n) e
              ∙ subst (λ m. with_bit (value_of netlist s word m) fault.bit fault.value ≡ value_of netlist s word m) (sym e) h
          | inr d ↦ other netlist fault f n (value_of netlist s word n) d
        ]

    member : (m : ℕ) → position_of order m < length order → m < length netlist.nets
    member m h = subst (λ j. j < length netlist.nets) (at_place order m h) (o.nets (position_of order m) h)

    hidden_below : (b n : ℕ) → position_of order n < b → n < length netlist.nets → faulty_value netlist fault s word n ≡ value_of netlist s word n
    hidden_below zero n p lt = absurd (omega arith)
    hidden_below (suc b) n p lt =
        seen_is (seen_under fault) netlist s word order o n lt
        ∙ ap (seen_under fault n)
        (same_net (faulty_value netlist fault s word) (value_of netlist s word) netlist s word (slice_get netlist.nets n)
        (all_weaker (λ m. position_of order m < position_of order n) (λ m. faulty_value netlist fault s word m ≡ value_of netlist s word m)
        (λ m q. hidden_below b m (omega (arith, q, p)) (member m (omega (arith, q, o.places n lt))))
        (nets_of (slice_get netlist.nets n)) (o.falls n))
        ∙ sym (value_is netlist s word order o n lt))
        ∙ unchanged n

    pub hidden_value : (n : ℕ) → faulty_value netlist fault s word n ≡ value_of netlist s word n
    hidden_value n =
        elim (slice_get_cases netlist.nets n).1 as (λ _. faulty_value netlist fault s word n ≡ value_of netlist s word n) [
          | inl w ↦ hidden_below (suc (position_of order n)) n (omega arith) w.1
          | inr w ↦
              past_zero (seen_under fault) netlist s word (fault_sight netlist fault f) (length netlist.nets) n (omega (arith, w.0)) w.1
              ∙ sym (no_value netlist s word (length netlist.nets) n w.1)
        ]

  -- a clock at which the fault is hidden is the netlist's
  pub hidden_clock : (words : List ℕ) (s : State) → IsHidden netlist fault s (word_at netlist words s) → faulty_clock netlist fault words s ≡ clock netlist words s
  hidden_clock words s h =
      ap (λ (v : ℕ → ℕ). outcome_of v netlist s (clash_in v netlist.nets)) (fun_ext (hidden_value s (word_at netlist words s) h))
