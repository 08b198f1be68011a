-- The flags of what is needed, as they are set from the last net in order to the first.
use Rattle.std.proofs.Common.{◌≡◌, ℕ, ◌+◌, ◌<◌, ◌≤◌, ◌&&◌, ◌||◌, ◌⊎◌, inl, inr, nat_eq, Bool, true, false, List, Option, Some, None, length, slice_get, slice_index, refl, sym, ap, ◌∙◌, subst, arith}
use Rattle.std.specs.List.{list_any}
use Rattle.std.proofs.lemmas.Bool.{cases_eq}
use Rattle.net_model.specs.declared.hardware.Netlist.{Netlist}
use Rattle.net_model.specs.declared.hardware.Net.{Net}
use Rattle.net_model.specs.Nets.{nets_of, gate_nets}
use Rattle.net_model.specs.Symbolic.{all_nets}
use Rattle.net_model.specs.CheckedRules.{is_control_gate, net_control, is_control}
use Rattle.net_model.specs.Depends.{named_by}
use Rattle.net_model.specs.Order.{position_of, IsOrder}
use Rattle.net_model.proofs.Orders.{place_at, at_place}
use Rattle.net_model.specs.Flags.{flag_at}
use Rattle.rec_bits.proofs.Booleans.{both, or_left, or_right}
use Rattle.ctl_bdd.proofs.Alls.{fact_of, test_of, facts_of, tests_of}
use Rattle.ctl_bdd.proofs.Walks.{control_is}

parts : (f : ℕ → Bool) (net : Option Net) → net_control f net ≡ true → all_nets f (nets_of net) ≡ true
parts f None e = refl
parts f (Some net) e = (both (is_control_gate net.gate) (all_nets f (gate_nets net.gate)) e).1

module _ (netlist : Netlist) (order : List ℕ) (o : IsOrder netlist order) where
  pub named_control : (n : ℕ) → n < length netlist.nets → is_control netlist n ≡ true → all_nets (is_control netlist) (named_by netlist n) ≡ true
  named_control n h e = parts (is_control netlist) (slice_get netlist.nets n) (sym (control_is netlist order o n h) ∙ e)

  module _ (old new : List Bool) (left : ℕ) (within : left < length order) (flags : (n : ℕ) → flag_at new n ≡ (flag_at old n || (flag_at old (slice_index order left) && list_any (nat_eq n) (named_by netlist (slice_index order left))))) where
    pub kept : (n : ℕ) → flag_at old n ≡ true → flag_at new n ≡ true
    kept n e = flags n ∙ or_left (flag_at old n) _ e

    -- a flag that is set now was set before, or its net is named
    cases : (n : ℕ) → flag_at new n ≡ true → (flag_at old n ≡ true) ⊎ ((flag_at old (slice_index order left) ≡ true) × (list_any (nat_eq n) (named_by netlist (slice_index order left)) ≡ true))
    cases n e = by (flag_at old n) (flag_at old (slice_index order left)) (list_any (nat_eq n) (named_by netlist (slice_index order left))) (sym (flags n) ∙ e)
      where
        by : (a b c : Bool) → (a || (b && c)) ≡ true → (a ≡ true) ⊎ ((b ≡ true) × (c ≡ true))
        by true b c e = inl refl
        by false b c e = inr (both b c e)

    pub control_kept : ((n : ℕ) → n < length netlist.nets → flag_at old n ≡ true → is_control netlist n ≡ true) → (n : ℕ) → n < length netlist.nets → flag_at new n ≡ true → is_control netlist n ≡ true
    control_kept before n h e = elim (cases n e) as (λ _. is_control netlist n ≡ true) [
      | inl p ↦ before n h p
      | inr p ↦
          test_of (is_control netlist) (named_by netlist (slice_index order left)) n
          (named_control (slice_index order left) (o.nets left within) (before (slice_index order left) (o.nets left within) p.0)) p.1
    ]

    here : flag_at new (slice_index order left) ≡ true → all_nets (flag_at new) (named_by netlist (slice_index order left)) ≡ true
    here e = tests_of (flag_at new) (named_by netlist (slice_index order left)) (facts_of (λ m. flag_at new m ≡ true) (named_by netlist (slice_index order left)) (λ m a.
        flags m ∙ or_right (flag_at old m) _ (marked m a)))
      where
        marked : (m : ℕ) → list_any (nat_eq m) (named_by netlist (slice_index order left)) ≡ true → (flag_at old (slice_index order left) && list_any (nat_eq m) (named_by netlist (slice_index order left))) ≡ true
        marked m a = elim (cases (slice_index order left) e) as (λ _. (flag_at old (slice_index order left) && list_any (nat_eq m) (named_by netlist (slice_index order left))) ≡ true) [
          | inl p ↦ rw p a
          | inr p ↦ rw p.0 a
        ]

    weaker : (ns : List ℕ) → all_nets (flag_at old) ns ≡ true → all_nets (flag_at new) ns ≡ true
    weaker ns e = tests_of (flag_at new) ns (facts_of (λ m. flag_at new m ≡ true) ns (λ m a. kept m (test_of (flag_at old) ns m e a)))

    pub closed_kept : ((n : ℕ) → n < length netlist.nets → left + 1 ≤ position_of order n → flag_at old n ≡ true → all_nets (flag_at old) (named_by netlist n) ≡ true) → (n : ℕ) → n < length netlist.nets → left ≤ position_of order n → flag_at new n ≡ true → all_nets (flag_at new) (named_by netlist n) ≡ true
    closed_kept before n h le e = elim (cases_eq (position_of order n) left) as (λ _. all_nets (flag_at new) (named_by netlist n) ≡ true) [
      | inl q ↦
          let same : slice_index order left ≡ n = ap (slice_index order) (sym q) ∙ at_place order n (o.places n h) in
          subst (λ m. all_nets (flag_at new) (named_by netlist m) ≡ true) same (here (subst (λ m. flag_at new m ≡ true) (sym same) e))
      | inr q ↦ elim (cases n e) as (λ _. all_nets (flag_at new) (named_by netlist n) ≡ true) [
        | inl p ↦ weaker (named_by netlist n) (before n h (omega (arith, q, le)) p)
        | inr p ↦
            let lt : position_of order n < position_of order (slice_index order left) =
            fact_of (λ m. position_of order m < position_of order (slice_index order left)) (named_by netlist (slice_index order left)) n (o.falls (slice_index order left)) p.1 in
            absurd (omega (arith, lt, le, place_at order left within))
      ]
    ]
