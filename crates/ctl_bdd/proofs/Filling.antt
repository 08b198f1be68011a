-- One more net of the order gets its bits.
use Rattle.std.proofs.Common.{◌≡◌, ℕ, ◌+◌, ◌<◌, ◌^◌, inl, inr, Bool, true, false, List, [], Some, length, slice_get, slice_index, slice_set, sym, ap, ◌∙◌, subst, arith}
use Rattle.std.specs.List.{AllByRecursion}
use Rattle.std.proofs.lemmas.Bool.{cases_eq}
use Rattle.std.proofs.lemmas.List.{get_or-set_same, get_or-set_other}
use Rattle.rec_bits.proofs.Lists.{all_weaker}
use Rattle.net_model.specs.declared.hardware.Netlist.{Netlist}
use Rattle.net_model.specs.declared.hardware.Net.{Net}
use Rattle.net_model.specs.Nets.{gate_nets, nets_of, net_width, width_at}
use Rattle.net_model.specs.Widths.{NetFits, IsTyped}
use Rattle.net_model.specs.Symbolic.{all_nets, no_state}
use Rattle.net_model.specs.Value.{net_value, value_of}
use Rattle.net_model.specs.CheckedRules.{is_control_gate, net_control, is_control}
use Rattle.net_model.specs.Depends.{named_by}
use Rattle.net_model.specs.Order.{position_of, IsOrder}
use Rattle.net_model.proofs.Agree.{same_gate}
use Rattle.net_model.proofs.Orders.{place_at, at_place, one_more, value_is}
use Rattle.bit_bdd.specs.Diagrams.{Diagrams, Extends}
use Rattle.ctl_bdd.specs.Bits.{AreSets}
use Rattle.net_model.specs.Flags.{flag_at}
use Rattle.ctl_bdd.specs.Inner.Flags.{IsClosed}
use Rattle.ctl_bdd.specs.Tables.{AreBits, AreGateBits, IsBitTable, numbers_at, sets_at}
use Rattle.rec_bits.proofs.Booleans.{both}
use Rattle.ctl_bdd.proofs.Alls.{fact_of, test_of, facts_of}
use Rattle.ctl_bdd.proofs.Sets.{sets_later, number_later}
use Rattle.ctl_bdd.proofs.Walks.{control_is}

pub bits_later : (netlist : Netlist) (old new : Diagrams) → Extends old new → (n : ℕ) (sets : List ℕ) → AreSets old sets → AreBits netlist old n sets → AreBits netlist new n sets
bits_later netlist old new e n sets h bits = record {
  long = bits.long;
  number = λ word lt. number_later old new e sets h word ∙ bits.number word (subst (λ b. word < 2 ^ b) e.bits lt);
}

pub table_later : (old new : Diagrams) → Extends old new → (table : List (List ℕ)) → IsBitTable old table → IsBitTable new table
table_later old new e table t = record { sets = λ n. sets_later old new e (sets_at table n) (t.sets n) }

pub table_set : (book : Diagrams) (table : List (List ℕ)) (n : ℕ) (out : List ℕ) → n < length table → IsBitTable book table → AreSets book out → IsBitTable book (slice_set table n out)
table_set book table n out lt t h = record {
  sets = λ m. elim (cases_eq m n) as (λ _. AreSets book (sets_at (slice_set table n out) m)) [
    | inl e ↦ subst (λ k. AreSets book (sets_at (slice_set table n out) k)) (sym e) (rw (get_or-set_same table n out [] lt) h)
    | inr e ↦ rw (get_or-set_other table n m out [] e) (t.sets m)
  ];
}

module _ (netlist : Netlist) (order : List ℕ) (o : IsOrder netlist order) (needed : List Bool) (closed : IsClosed netlist needed) (book : Diagrams) (table : List (List ℕ)) (i : ℕ) (within : i < length order) (done : (m : ℕ) → position_of order m < i → flag_at needed m ≡ true → AreBits netlist book m (sets_at table m)) where
  -- a net without a flag changes nothing
  pub skipped : flag_at needed (slice_index order i) ≡ false → (m : ℕ) → position_of order m < i + 1 → flag_at needed m ≡ true → AreBits netlist book m (sets_at table m)
  skipped no_flag m h e = elim (cases_eq (position_of order m) i) as (λ _. AreBits netlist book m (sets_at table m)) [
    | inl p ↦
        let same : slice_index order i ≡ m = ap (slice_index order) (sym p) ∙ at_place order m (omega (arith, p, within)) in
        absurd (let q : true ≡ false = sym e ∙ ap (flag_at needed) (sym same) ∙ no_flag in cc)
    | inr p ↦ done m (omega (arith, p, h)) e
  ]

  module _ (is_needed : flag_at needed (slice_index order i) ≡ true) (net : Net) (there : slice_get netlist.nets (slice_index order i) ≡ Some net) where
    names : named_by netlist (slice_index order i) ≡ gate_nets net.gate
    names = ap nets_of there

    -- each net that the gate names has its bits
    named_done : AllByRecursion (λ m. AreBits netlist book m (sets_at table m)) (named_by netlist (slice_index order i))
    named_done = facts_of (λ m. AreBits netlist book m (sets_at table m)) (named_by netlist (slice_index order i)) (λ m a.
        let lt : position_of order m < position_of order (slice_index order i) =
        fact_of (λ k. position_of order k < position_of order (slice_index order i)) (named_by netlist (slice_index order i)) m (o.falls (slice_index order i)) a in
        done m (omega (arith, lt, place_at order i within))
        (test_of (flag_at needed) (named_by netlist (slice_index order i)) m (closed.closed (slice_index order i) (o.nets i within) is_needed) a))

    pub named_long : AllByRecursion (λ m. length (sets_at table m) ≡ width_at netlist m) (gate_nets net.gate)
    named_long =
        subst (AllByRecursion (λ m. length (sets_at table m) ≡ width_at netlist m)) names
        (all_weaker (λ m. AreBits netlist book m (sets_at table m)) (λ m. length (sets_at table m) ≡ width_at netlist m) (λ m b. b.long) (named_by netlist (slice_index order i)) named_done)

    pub gate_control : is_control_gate net.gate ≡ true
    gate_control =
        let c : is_control netlist (slice_index order i) ≡ true = closed.control (slice_index order i) (o.nets i within) is_needed in
        let d : net_control (is_control netlist) (slice_get netlist.nets (slice_index order i)) ≡ true = sym (control_is netlist order o (slice_index order i) (o.nets i within)) ∙ c in
        let e : net_control (is_control netlist) (Some net) ≡ true = rw there at d in
        (both (is_control_gate net.gate) (all_nets (is_control netlist) (gate_nets net.gate)) e).0

    pub net_fits : IsTyped netlist → NetFits netlist (Some net)
    net_fits t = subst (NetFits netlist) there (t.nets (slice_index order i))

    -- the gate's bits are the net's
    pub gate_done : (new : Diagrams) (out : List ℕ) → Extends book new → AreGateBits netlist book new table net.width net.gate out → AreBits netlist new (slice_index order i) out
    gate_done new out grows bits = record {
      long = bits.long ∙ ap net_width (sym there);
      number = λ word lt.
          let below : word < 2 ^ book.bits = subst (λ b. word < 2 ^ b) grows.bits lt in
          bits.number word below
          ∙ same_gate (numbers_at book table word) (value_of netlist no_state word) netlist no_state word net.width net.gate
          (subst (AllByRecursion (λ m. numbers_at book table word m ≡ value_of netlist no_state word m)) names
          (all_weaker (λ m. AreBits netlist book m (sets_at table m)) (λ m. numbers_at book table word m ≡ value_of netlist no_state word m) (λ m b. b.number word below) (named_by netlist (slice_index order i)) named_done))
          ∙ sym (value_is netlist no_state word order o (slice_index order i) (o.nets i within) ∙ ap (net_value (value_of netlist no_state word) netlist no_state word) there);
    }

    pub filled : (t : IsBitTable book table) → length table ≡ length netlist.nets → (new : Diagrams) (out : List ℕ) → Extends book new → AreGateBits netlist book new table net.width net.gate out → (m : ℕ) → position_of order m < i + 1 → flag_at needed m ≡ true → AreBits netlist new m (sets_at (slice_set table (slice_index order i) out) m)
    filled t long new out grows bits =
        one_more netlist order o (λ (m : ℕ) (sets : List ℕ). flag_at needed m ≡ true → AreBits netlist new m sets) table [] out i within long
        (λ m h e. bits_later netlist book new grows m (sets_at table m) (t.sets m) (done m h e))
        (λ e. gate_done new out grows bits)
