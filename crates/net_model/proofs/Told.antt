-- Along an order each net's flag is told by its gate and the flags before it.
use Rattle.std.proofs.Common.{◌≡◌, ℕ, ◌+◌, ◌<◌, ◌≤◌, ◌&&◌, if◌then◌else◌, inl, inr, not, Bool, true, false, List, [], ◌∷◌, Option, Some, None, length, slice_get, slice_index, slice_set, get_or, refl, sym, ap, ◌∙◌, arith, zero, suc}
use mathlib.Core.Path.{fun_ext}
use Rattle.std.specs.List.{AllByRecursion}
use Rattle.std.proofs.lemmas.Option.{slice_get_cases, slice_get_read}
use Rattle.std.proofs.lemmas.List.{get_or_past}
use Rattle.net_model.specs.declared.hardware.Netlist.{Netlist}
use Rattle.net_model.specs.declared.hardware.Net.{Net}
use Rattle.net_model.specs.Nets.{gate_nets, nets_of}
use Rattle.net_model.specs.Symbolic.{reads_state, all_nets, net_static, static_within}
use Rattle.net_model.specs.CheckedRules.{is_control_gate, net_control, control_within}
use Rattle.net_model.specs.Order.{position_of, IsOrder}
use Rattle.rec_bits.proofs.Lists.{all_weaker}
use Rattle.net_model.proofs.Orders.{place_at, one_more}
use Rattle.net_model.specs.Flags.{flag_at, is_local, has}
use Rattle.net_model.specs.declared.flags.Property.{Property}
use Rattle.net_model.specs.declared.flags.Property.TheVariants.{Static, Control}

-- what a net's gate tells where f tells of the nets that it names
abbrev pub step_of : Property → (ℕ → Bool) → Option Net → Bool
step_of Static f net = net_static f net
step_of Control f net = net_control f net

abbrev pub within : Property → ℕ → Netlist → ℕ → Bool
within Static k netlist n = static_within k netlist n
within Control k netlist n = control_within k netlist n

within_none : (p : Property) (netlist : Netlist) (n : ℕ) → within p 0 netlist n ≡ true
within_none Static netlist n = refl
within_none Control netlist n = refl

within_more : (p : Property) (k : ℕ) (netlist : Netlist) (n : ℕ) → within p (suc k) netlist n ≡ step_of p (within p k netlist) (slice_get netlist.nets n)
within_more Static k netlist n = refl
within_more Control k netlist n = refl

has_within : (p : Property) (netlist : Netlist) (n : ℕ) → has p netlist n ≡ within p (length netlist.nets) netlist n
has_within Static netlist n = refl
has_within Control netlist n = refl

same_all : (f g : ℕ → Bool) (ms : List ℕ) → AllByRecursion (λ m. f m ≡ g m) ms → all_nets f ms ≡ all_nets g ms
same_all f g [] h = refl
same_all f g (m ∷ ms) h = rw (h.0, same_all f g ms h.1) refl

same_step : (p : Property) (f g : ℕ → Bool) (net : Option Net) → AllByRecursion (λ m. f m ≡ g m) (nets_of net) → step_of p f net ≡ step_of p g net
same_step Static f g None h = refl
same_step Static f g (Some net) h = ap (λ (b : Bool). if reads_state net.gate then false else b) (same_all f g (gate_nets net.gate) h)
same_step Control f g None h = refl
same_step Control f g (Some net) h = ap (λ (b : Bool). is_control_gate net.gate && b) (same_all f g (gate_nets net.gate) h)

by_reads : (b x : Bool) → (not b && x) ≡ (if b then false else x)
by_reads true x = refl
by_reads false x = refl

local_step : (p : Property) (f : ℕ → Bool) (net : Net) → (is_local p net.gate && all_nets f (gate_nets net.gate)) ≡ step_of p f (Some net)
local_step Static f net = by_reads (reads_state net.gate) (all_nets f (gate_nets net.gate))
local_step Control f net = refl

none_true : (p : Property) (f : ℕ → Bool) → step_of p f None ≡ true
none_true Static f = refl
none_true Control f = refl

-- past the nets all is set
past_within : (p : Property) (netlist : Netlist) (k n : ℕ) → slice_get netlist.nets n ≡ None → within p k netlist n ≡ true
past_within p netlist zero n e = within_none p netlist n
past_within p netlist (suc k) n e = within_more p k netlist n ∙ ap (step_of p (within p k netlist)) e ∙ none_true p _

module _ (p : Property) (netlist : Netlist) (order : List ℕ) (o : IsOrder netlist order) where
  -- more depth than a net's place changes nothing
  stable : (b j k n : ℕ) → position_of order n < b → b ≤ j → b ≤ k → within p j netlist n ≡ within p k netlist n
  stable zero j k n h q r = absurd (omega arith)
  stable (suc b) zero k n h q r = absurd (omega arith)
  stable (suc b) (suc j) zero n h q r = absurd (omega arith)
  stable (suc b) (suc j) (suc k) n h q r =
      within_more p j netlist n
      ∙ same_step p (within p j netlist) (within p k netlist) (slice_get netlist.nets n)
      (all_weaker (λ m. position_of order m < position_of order n) (λ m. within p j netlist m ≡ within p k netlist m)
      (λ m lt. stable b j k m (omega (arith, lt, h)) (omega (arith, q)) (omega (arith, r)))
      (nets_of (slice_get netlist.nets n)) (o.falls n))
      ∙ sym (within_more p k netlist n)

  -- the equation of each net
  pub flag_is : (n : ℕ) → n < length netlist.nets → has p netlist n ≡ step_of p (has p netlist) (slice_get netlist.nets n)
  flag_is n h =
      has_within p netlist n
      ∙ stable (length netlist.nets) (length netlist.nets) (suc (length netlist.nets)) n (omega (arith, o.places n h, o.long)) (omega arith) (omega arith)
      ∙ within_more p (length netlist.nets) netlist n
      ∙ ap (λ (f : ℕ → Bool). step_of p f (slice_get netlist.nets n)) (fun_ext (λ m. sym (has_within p netlist m)))

  -- all flags are told
  pub all_told : (flags : List Bool) → length flags ≡ length netlist.nets → ((m : ℕ) → position_of order m < length order → flag_at flags m ≡ has p netlist m) → flag_at flags ≡ has p netlist
  all_told flags long done = fun_ext (λ n.
      elim (slice_get_cases netlist.nets n).1 as (λ _. flag_at flags n ≡ has p netlist n) [
        | inl w ↦ done n (o.places n w.1)
        | inr w ↦ get_or_past flags n true (omega (arith, w.0, long)) ∙ sym (has_within p netlist n ∙ past_within p netlist (length netlist.nets) n w.1)
      ])

  -- one more flag is told
  module _ (flags : List Bool) (i : ℕ) (inside : i < length order) (long : length flags ≡ length netlist.nets) (done : (m : ℕ) → position_of order m < i → flag_at flags m ≡ has p netlist m) where
    next_told : step_of p (flag_at flags) (slice_get netlist.nets (slice_index order i)) ≡ has p netlist (slice_index order i)
    next_told =
        let n : ℕ = slice_index order i in
        same_step p (flag_at flags) (has p netlist) (slice_get netlist.nets n)
        (all_weaker (λ m. position_of order m < position_of order n) (λ m. flag_at flags m ≡ has p netlist m)
        (λ m lt. done m (omega (arith, lt, place_at order i inside)))
        (nets_of (slice_get netlist.nets n)) (o.falls n))
        ∙ sym (flag_is n (o.nets i inside))

    more_told : (x : Bool) → x ≡ has p netlist (slice_index order i) → (m : ℕ) → position_of order m < i + 1 → flag_at (slice_set flags (slice_index order i) x) m ≡ has p netlist m
    more_told x e = one_more netlist order o (λ (m : ℕ) (b : Bool). b ≡ has p netlist m) flags true x i inside long done e

    -- what one turn over the order does
    pub turn_told : (net : Net) → net ≡ get_or netlist.nets (slice_index order i) net → (x : Bool) → x ≡ (is_local p net.gate && all_nets (flag_at flags) (gate_nets net.gate)) → (m : ℕ) → position_of order m < i + 1 → flag_at (slice_set flags (slice_index order i) x) m ≡ has p netlist m
    turn_told net is x ex =
        let there : slice_get netlist.nets (slice_index order i) ≡ Some net = slice_get_read netlist.nets (length netlist.nets) (slice_index order i) net refl (o.nets i inside) is in
        more_told x (ex ∙ local_step p (flag_at flags) net ∙ sym (ap (step_of p (flag_at flags)) there) ∙ next_told)
