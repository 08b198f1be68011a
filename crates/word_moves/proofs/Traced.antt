-- The ids of nets stand for their symbolic values, one turn over the order after another.
use Rattle.std.proofs.Common.{◌≡◌, ℕ, ◌+◌, ◌<◌, inl, inr, List, Option, Some, length, sym, ◌∙◌, ap, subst, arith, refl, Bool, slice_get, slice_index, slice_set, get_or}
use Rattle.std.specs.List.{AllByRecursion}
use Rattle.std.proofs.lemmas.Bool.{cases_eq}
use Rattle.std.proofs.lemmas.Option.{slice_get_read}
use Rattle.std.proofs.lemmas.List.{get_or-set_same, get_or-set_other}
use Rattle.net_model.specs.Exprs.{expr_width}
use Rattle.net_model.specs.declared.hardware.Netlist.{Netlist}
use Rattle.net_model.specs.declared.hardware.Net.{Net}
use Rattle.net_model.specs.Nets.{gate_nets, nets_of}
use Rattle.net_model.specs.Value.{value_of}
use Rattle.net_model.specs.Widths.{IsTyped}
use Rattle.net_model.specs.Order.{position_of, IsOrder}
use Rattle.net_model.specs.Symbolic.{no_state, is_static, gate_expr, net_expr, sym_of}
use Rattle.net_model.specs.Control.{GateControlled, IsControlled}
use Rattle.net_model.proofs.GateControls.{gate_controlled}
use Rattle.net_model.proofs.Meanings.{width_is}
use Rattle.net_model.proofs.Syms.{same_gate, sym_is}
use Rattle.rec_bits.proofs.Lists.{all_weaker}
use Rattle.net_model.proofs.Orders.{place_at, at_place}
use Rattle.sym_expr.specs.declared.pool.Node.{Node}
use Rattle.sym_expr.specs.Pools.{Grows, expr_of_id}
use Rattle.sym_expr.proofs.CallerLemmas.{same_expr}
use Rattle.word_moves.specs.Inner.Gates.{IsKnown, net_exprs}

-- the net has the id of its symbolic value
pub record IsTraced (netlist : Netlist) (word : ℕ) (nodes : List Node) (ids : List ℕ) (n : ℕ) : Type 0 where
  pub within : slice_index ids n < length nodes
  pub is : net_exprs nodes ids n ≡ sym_of netlist word n

traced_later : (netlist : Netlist) (word : ℕ) (old new : List Node) (ids : List ℕ) (n : ℕ) → Grows old new → IsTraced netlist word old ids n → IsTraced netlist word new ids n
traced_later netlist word old new ids n g h = record {
  within = omega (arith, h.within, g.longer);
  is = same_expr old new g (slice_index ids n) h.within ∙ h.is;
}

module _ (netlist : Netlist) (word : ℕ) (order : List ℕ) (o : IsOrder netlist order) (nodes : List Node) (ids : List ℕ) (i : ℕ) (inside : i < length order) (done : (m : ℕ) → position_of order m < i → IsTraced netlist word nodes ids m)
    (net : Net) (is : net ≡ get_or netlist.nets (slice_index order i) net) where
  n : ℕ
  n = slice_index order i

  there : slice_get netlist.nets (slice_index order i) ≡ Some net
  there = slice_get_read netlist.nets (length netlist.nets) (slice_index order i) net refl (o.nets i inside) is

  -- the nets that the gate names stand before it
  before : (P : ℕ → Type 0) → ((m : ℕ) → position_of order m < i → P m) → AllByRecursion P (gate_nets net.gate)
  before P h =
      all_weaker (λ m. position_of order m < position_of order (slice_index order i)) P
      (λ m lt. h m (omega (arith, lt, place_at order i inside)))
      (gate_nets net.gate)
      (subst (λ (x : Option Net). AllByRecursion (λ m. position_of order m < position_of order (slice_index order i)) (nets_of x)) there (o.falls (slice_index order i)))

  pub turn_known : IsTyped netlist → AllByRecursion (IsKnown netlist nodes ids) (gate_nets net.gate)
  turn_known t = before (IsKnown netlist nodes ids) (λ m h.
      ((done m h).within, ap expr_width (done m h).is ∙ width_is netlist word t (length netlist.nets) m))

  pub turn_controlled : IsControlled netlist → GateControlled netlist net.gate
  turn_controlled c = gate_controlled netlist c (slice_index order i) net there

  turn_expr : (values : ℕ → ℕ) → values ≡ value_of netlist no_state word → gate_expr (net_exprs nodes ids) values (is_static netlist) netlist net.width net.gate ≡ sym_of netlist word (slice_index order i)
  turn_expr values e =
      same_gate (net_exprs nodes ids) (sym_of netlist word) values (value_of netlist no_state word) (is_static netlist) netlist net.width net.gate
      (before (λ m. (net_exprs nodes ids m ≡ sym_of netlist word m) × (values m ≡ value_of netlist no_state word m)) (λ m h. ((done m h).is, ap (λ v. v m) e)))
      ∙ sym (sym_is netlist word order o (slice_index order i) (o.nets i inside) ∙ ap (net_expr (sym_of netlist word) (value_of netlist no_state word) (is_static netlist) netlist) there)

  -- what one turn over the order does
  pub turn_traced : (long : length ids ≡ length netlist.nets) (values : ℕ → ℕ) (statics : ℕ → Bool) → values ≡ value_of netlist no_state word → statics ≡ is_static netlist → (new : List Node) → Grows nodes new → (id : ℕ) → id < length new → expr_of_id new id ≡ gate_expr (net_exprs nodes ids) values statics netlist net.width net.gate → (m : ℕ) → position_of order m < i + 1 → IsTraced netlist word new (slice_set ids (slice_index order i) id) m
  turn_traced long values statics ve se new g id within e m h =
      elim (cases_eq m (slice_index order i)) as (λ _. IsTraced netlist word new (slice_set ids (slice_index order i) id) m) [
        | inl q ↦
            let lt : slice_index order i < length ids = omega (arith, o.nets i inside, long) in
            let same : slice_index (slice_set ids (slice_index order i) id) (slice_index order i) ≡ id = get_or-set_same ids (slice_index order i) id 0 lt in
            subst (λ k. IsTraced netlist word new (slice_set ids (slice_index order i) id) k) (sym q)
            (record {
              within = subst (λ k. k < length new) (sym same) within;
              is = ap (expr_of_id new) same ∙ e ∙ ap (λ (f : ℕ → Bool). gate_expr (net_exprs nodes ids) values f netlist net.width net.gate) se ∙ turn_expr values ve;
            })
        | inr q ↦
            let same : slice_index (slice_set ids (slice_index order i) id) m ≡ slice_index ids m = get_or-set_other ids (slice_index order i) m id 0 q in
            let earlier : position_of order m < i =
            elim (cases_eq (position_of order m) i) as (λ _. position_of order m < i) [
              | inl p ↦ absurd (q (sym (at_place order m (omega (arith, p, inside))) ∙ ap (slice_index order) p))
              | inr p ↦ omega (arith, p, h)
            ] in
            let later = traced_later netlist word nodes new ids m g (done m earlier) in
            record {
              within = subst (λ k. k < length new) (sym same) later.within;
              is = ap (expr_of_id new) same ∙ later.is;
            }
      ]
