-- The places of nets, and what instructions leave there.
use Rattle.std.proofs.Common.{◌≡◌, ◌≢◌, ℕ, ◌+◌, ◌<◌, ◌≤◌, List, [], ◌∷◌, ◌++◌, Option, Some, None, length, sym, ◌∙◌, ap, subst, refl, arith, get_or, slice_index, slice_get, slice_set, inl, inr, length-set}
use Rattle.std.specs.List.{AllByRecursion}
use Rattle.std.proofs.lemmas.Bool.{cases_lt}
use Rattle.std.proofs.lemmas.List.{get_or-set_other, get_or_past}
use Rattle.std.proofs.lemmas.Option.{slice_get_read}
use Rattle.rec_bits.proofs.Lists.{all_append, all_weaker}
use Rattle.net_model.specs.declared.hardware.Netlist.{Netlist}
use Rattle.net_model.specs.declared.hardware.Net.{Net}
use Rattle.net_model.specs.declared.hardware.Gate.{Gate}
use Rattle.net_model.specs.declared.hardware.Gate.TheVariants.{Wire, Zext}
use Rattle.net_model.specs.declared.states.State.{State}
use Rattle.net_model.specs.Nets.{gate_nets, nets_of}
use Rattle.net_model.specs.Value.{gate_value, net_value, value_of}
use Rattle.net_model.specs.Widths.{IsTyped, NetFits, StateFits, WordFits}
use Rattle.net_model.specs.Order.{position_of, IsOrder}
use Rattle.net_model.proofs.Fits.{value_fits}
use Rattle.net_model.proofs.Orders.{at_place, one_more, place_at, value_is}
use Rattle.cycle_sim.specs.declared.operation.Instruction.{Instruction}
use Rattle.cycle_sim.specs.declared.operation.Operation.{Operation}
use Rattle.cycle_sim.specs.Inner.Operations.{AreReady, HasOperands, operation_value, run_of}
use Rattle.cycle_sim.specs.Inner.Decoding.{decoded, source_in, source_of}
use Rattle.cycle_sim.specs.Inner.Programs.{added, AreSources, IsFilled, IsPlain, IsPlainGate, IsSource, Runs, StandsNet}
use Rattle.cycle_sim.proofs.Gates.{Gives, gives, OptionReady, decoded_ready}

-- ---- the place of a net

module _ (netlist : Netlist) (order : List ℕ) (o : IsOrder netlist order) (n : ℕ) (net : Net) (there : slice_get netlist.nets n ≡ Some net) (within : n < length netlist.nets) where
  below : (gate : Gate) → gate ≡ net.gate → AllByRecursion (λ m. position_of order m < position_of order n) (gate_nets gate)
  below gate e =
      subst (λ g. AllByRecursion (λ m. position_of order m < position_of order n) (gate_nets g)) (sym e)
      (subst (λ r. AllByRecursion (λ m. position_of order m < position_of order n) (nets_of r)) there (o.falls n))

  equation : (gate : Gate) → gate ≡ net.gate → (s : State) (word : ℕ) → value_of netlist s word n ≡ gate_value (value_of netlist s word) netlist s word net.width gate
  equation gate e s word =
      value_is netlist s word order o n within
      ∙ ap (net_value (value_of netlist s word) netlist s word) there
      ∙ ap (gate_value (value_of netlist s word) netlist s word net.width) (sym e)

  itself : (gate : Gate) → gate ≡ net.gate → IsPlainGate gate → IsSource netlist order n n
  itself gate e p = record {
    within = within;
    earlier = omega arith;
    plain = subst (λ r. IsPlain r) (sym there) (subst (λ g. IsPlainGate g) e p);
    same = λ s word. refl;
  }

  moved : (a x : ℕ) → position_of order a < position_of order n → ((s : State) (word : ℕ) → value_of netlist s word n ≡ value_of netlist s word a) → IsSource netlist order a x → IsSource netlist order n x
  moved a x lt e h = record {
    within = h.within;
    earlier = omega (arith, h.earlier, lt);
    plain = h.plain;
    same = λ s word. h.same s word ∙ sym (e s word);
  }

  pub source_here : (f : ℕ → ℕ) (i : ℕ) → position_of order n ≤ i → ((m : ℕ) → position_of order m < i → IsSource netlist order m (f m)) → (gate : Gate) → gate ≡ net.gate → IsSource netlist order n (source_of f n gate)
  source_here f i h done (Wire a) e =
      let lt : position_of order a < position_of order n = (below (Wire a) e).0 in
      moved a (f a) lt (equation (Wire a) e) (done a (omega (arith, lt, h)))
  source_here f i h done (Zext a) e =
      let lt : position_of order a < position_of order n = (below (Zext a) e).0 in
      moved a (f a) lt (equation (Zext a) e) (done a (omega (arith, lt, h)))
  source_here f i h done gate e = itself gate e tt

-- one more place
pub sources_turn : (netlist : Netlist) (order : List ℕ) → IsOrder netlist order → (sources : List ℕ) (i : ℕ) → i < length order → length sources ≡ length netlist.nets → (net : Net) → net ≡ get_or netlist.nets (slice_index order i) net → ((m : ℕ) → position_of order m < i → IsSource netlist order m (source_in sources m)) → (m : ℕ) → position_of order m < i + 1 → IsSource netlist order m (source_in (slice_set sources (slice_index order i) (source_of (source_in sources) (slice_index order i) net.gate)) m)
sources_turn netlist order o sources i lt long net is done =
    let within : slice_index order i < length netlist.nets = o.nets i lt in
    let there : slice_get netlist.nets (slice_index order i) ≡ Some net = slice_get_read netlist.nets (length netlist.nets) (slice_index order i) net refl within is in
    one_more netlist order o (IsSource netlist order) sources 4294967295 _ i lt long done
    (source_here netlist order o (slice_index order i) net there within (source_in sources) i (place_at order i lt) done net.gate refl)

pub sources_done : (netlist : Netlist) (order : List ℕ) → IsOrder netlist order → (sources : List ℕ) → length sources ≡ length netlist.nets → ((m : ℕ) → position_of order m < length order → IsSource netlist order m (source_in sources m)) → AreSources netlist order sources
sources_done netlist order o sources long done = record { long = long; each = λ m h. done m (o.places m h) }

-- ---- a run

module _ (s : State) where
  pub run_long : (instructions : List Instruction) (values : List ℕ) → length (run_of s instructions values) ≡ length values
  run_long [] values = refl
  run_long (instruction ∷ instructions) values = run_long instructions _ ∙ length-set _ _ _

  run_more : (instructions : List Instruction) (last : Instruction) (values : List ℕ) → run_of s (instructions ++ last ∷ []) values ≡ slice_set (run_of s instructions values) last.place (operation_value (slice_index (run_of s instructions values)) s last.operation)
  run_more [] last values = refl
  run_more (instruction ∷ instructions) last values = run_more instructions last _

  -- what is written nowhere stays
  run_other : (n : ℕ) (instructions : List Instruction) (values : List ℕ) → AllByRecursion (λ (instruction : Instruction). n ≢ instruction.place) instructions → slice_index (run_of s instructions values) n ≡ slice_index values n
  run_other n [] values h = refl
  run_other n (instruction ∷ instructions) values h =
      run_other n instructions _ h.1 ∙ get_or-set_other values instruction.place n _ 0 h.0

-- the instructions of the first nets of the order
pub record Built (netlist : Netlist) (order : List ℕ) (i : ℕ) (instructions : List Instruction) : Type 0 where
  pub ready : AreReady (length netlist.nets) instructions
  pub before : AllByRecursion (λ (instruction : Instruction). position_of order instruction.place < i) instructions
  pub right : (s : State) (word : ℕ) (room : List ℕ) → StateFits netlist s → WordFits netlist word → IsFilled netlist s word room → (n : ℕ) → position_of order n < i → IsPlain (slice_get netlist.nets n) → slice_index (run_of s instructions room) n ≡ value_of netlist s word n

pub none_built : (netlist : Netlist) (order : List ℕ) → Built netlist order 0 []
none_built netlist order = record { ready = tt; before = tt; right = λ s word room f w r n h. absurd (omega (arith, h)) }

pub all_built : (netlist : Netlist) (order : List ℕ) → IsOrder netlist order → (instructions : List Instruction) → Built netlist order (length order) instructions → Runs netlist instructions
all_built netlist order o instructions b = record {
  ready = b.ready;
  right = λ s word room f w r n h p. b.right s word room f w r n (o.places n h) p;
}

module _ (netlist : Netlist) (order : List ℕ) (o : IsOrder netlist order) (typed : IsTyped netlist) (sources : List ℕ) (places : AreSources netlist order sources) (instructions : List Instruction) (i : ℕ) (lt : i < length order) (net : Net) (is : net ≡ get_or netlist.nets (slice_index order i) net) (b : Built netlist order i instructions) where
  at_turn : slice_get netlist.nets (slice_index order i) ≡ Some net
  at_turn = slice_get_read netlist.nets (length netlist.nets) (slice_index order i) net refl (o.nets i lt) is

  fits_turn : NetFits netlist (Some net)
  fits_turn = subst (λ r. NetFits netlist r) at_turn (typed.nets (slice_index order i))

  module _ (s : State) (word : ℕ) (room : List ℕ) (f : StateFits netlist s) (w : WordFits netlist word) (r : IsFilled netlist s word room) where
    -- a net before this one stands at its place
    stands : (m : ℕ) → position_of order m < i → slice_index (run_of s instructions room) (source_in sources m) ≡ value_of netlist s word m
    stands m h =
        let q : slice_index order (position_of order m) ≡ m = at_place order m (omega (arith, h, lt)) in
        let k : slice_index order (position_of order m) < length netlist.nets = o.nets (position_of order m) (omega (arith, h, lt)) in
        let p = places.each m (subst (λ j. j < length netlist.nets) q k) in
        b.right s word room f w r (source_in sources m) (omega (arith, p.earlier, h)) p.plain ∙ p.same s word

    nowhere : slice_index (run_of s instructions room) 4294967295 ≡ 0
    nowhere =
        get_or_past (run_of s instructions room) 4294967295 0 (omega (arith, run_long s instructions room, r.long, typed.few))

    turn_gives : Gives (slice_index (run_of s instructions room)) (value_of netlist s word) netlist s word net.width net.gate (decoded netlist (source_in sources) net.width net.gate)
    turn_gives =
        gives netlist typed (source_in sources) (slice_index (run_of s instructions room)) (value_of netlist s word) s word net.width net.gate nowhere
        (value_fits netlist s word typed f w (length netlist.nets)) fits_turn.2 fits_turn.1
        (all_weaker (λ m. position_of order m < position_of order (slice_index order i)) (λ m. slice_index (run_of s instructions room) (source_in sources m) ≡ value_of netlist s word m)
        (λ m h. stands m (omega (arith, h, place_at order i lt)))
        (gate_nets net.gate) (below netlist order o (slice_index order i) net at_turn (o.nets i lt) net.gate refl))

    turn_equation : value_of netlist s word (slice_index order i) ≡ gate_value (value_of netlist s word) netlist s word net.width net.gate
    turn_equation = equation netlist order o (slice_index order i) net at_turn (o.nets i lt) net.gate refl s word

    -- a net without an instruction stands there from the start
    turn_none : Gives (slice_index (run_of s instructions room)) (value_of netlist s word) netlist s word net.width net.gate None → (n : ℕ) → position_of order n < i + 1 → IsPlain (slice_get netlist.nets n) → slice_index (run_of s instructions room) n ≡ value_of netlist s word n
    turn_none g n h p =
        elim (cases_lt (position_of order n) i) as (λ _. slice_index (run_of s instructions room) n ≡ value_of netlist s word n) [
          | inl k ↦ b.right s word room f w r n k p
          | inr k ↦
              let q : slice_index order (position_of order n) ≡ n = at_place order n (omega (arith, h, lt)) in
              let e : position_of order n ≡ i = omega (arith, h, k) in
              let e' : slice_index order i ≡ n = ap (slice_index order) (sym e) ∙ q in
              let there : slice_get netlist.nets n ≡ Some net = ap (slice_get netlist.nets) (sym e') ∙ at_turn in
              run_other s n instructions room
              (all_weaker (λ (instruction : Instruction). position_of order instruction.place < i) (λ (instruction : Instruction). n ≢ instruction.place)
              (λ (instruction : Instruction) (l : position_of order instruction.place < i) (d : n ≡ instruction.place). absurd (omega (arith, l, k, ap (position_of order) d)))
              instructions b.before)
              ∙ g (subst (λ r. IsPlain r) there p) (slice_index room n) (subst (λ r. StandsNet s word r (slice_index room n)) there (r.stands n))
              ∙ sym turn_equation
              ∙ ap (value_of netlist s word) e'
        ]

    turn_some : (operation : Operation) → Gives (slice_index (run_of s instructions room)) (value_of netlist s word) netlist s word net.width net.gate (Some operation) → (n : ℕ) → position_of order n < i + 1 → IsPlain (slice_get netlist.nets n) → slice_index (slice_set (run_of s instructions room) (slice_index order i) (operation_value (slice_index (run_of s instructions room)) s operation)) n ≡ value_of netlist s word n
    turn_some operation g n h =
        one_more netlist order o (λ (m v : ℕ). IsPlain (slice_get netlist.nets m) → v ≡ value_of netlist s word m)
        (run_of s instructions room) 0 _ i lt (run_long s instructions room ∙ r.long)
        (λ m k p. b.right s word room f w r m k p) (λ p. g ∙ sym turn_equation) n h

  -- one more net of the order
  added_built : (d : Option Operation) → OptionReady netlist typed (source_in sources) (length netlist.nets) (λ m h. (places.each m h).within) d → ((s : State) (word : ℕ) (room : List ℕ) → StateFits netlist s → WordFits netlist word → IsFilled netlist s word room → Gives (slice_index (run_of s instructions room)) (value_of netlist s word) netlist s word net.width net.gate d) → Built netlist order (i + 1) (added (slice_index order i) d instructions)
  added_built None y g = record {
    ready = b.ready;
    before = all_weaker (λ (instruction : Instruction). position_of order instruction.place < i) (λ (instruction : Instruction). position_of order instruction.place < i + 1) (λ instruction h. omega (arith, h)) instructions b.before;
    right = λ s word room f w r. turn_none s word room f w r (g s word room f w r);
  }
  added_built (Some operation) y g = record {
    ready = all_append (λ (instruction : Instruction). (instruction.place < length netlist.nets) × HasOperands (length netlist.nets) instruction.operation) instructions _ b.ready ((o.nets i lt, y), tt);
    before = all_append (λ (instruction : Instruction). position_of order instruction.place < i + 1) instructions _ (all_weaker (λ (instruction : Instruction). position_of order instruction.place < i) (λ (instruction : Instruction). position_of order instruction.place < i + 1) (λ instruction h. omega (arith, h)) instructions b.before) (omega (arith, place_at order i lt), tt);
    right = λ s word room f w r n h p. ap (λ l. slice_index l n) (run_more s instructions _ room) ∙ turn_some s word room f w r operation (g s word room f w r) n h p;
  }

  pub turn_built : Built netlist order (i + 1) (added (slice_index order i) (decoded netlist (source_in sources) net.width net.gate) instructions)
  turn_built =
      added_built (decoded netlist (source_in sources) net.width net.gate)
      (decoded_ready netlist typed (source_in sources) (length netlist.nets) (λ m h. (places.each m h).within) net.width net.gate fits_turn.2 fits_turn.0 fits_turn.1)
      turn_gives
