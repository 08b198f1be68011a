-- The places of the instruction word and of registers, filled before the instructions run.
use Rattle.std.proofs.Common.{◌≡◌, ◌≢◌, ℕ, ◌+◌, ◌<◌, ◌≤◌, zero, suc, List, [], ◌∷◌, length, sym, ◌∙◌, subst, refl, arith, slice_index, slice_get, slice_set, length-set}
use Rattle.std.specs.List.{AllByRecursion}
use Rattle.std.proofs.lemmas.List.{get_or-set_other, get_or-set_same}
use Rattle.net_model.specs.declared.hardware.Netlist.{Netlist}
use Rattle.net_model.specs.declared.hardware.Net.{Net}
use Rattle.net_model.specs.declared.hardware.Gate.{Gate}
use Rattle.net_model.specs.declared.hardware.Gate.TheVariants.{Word, Reg, Const}
use Rattle.net_model.specs.declared.states.State.{State}
use Rattle.cycle_sim.specs.declared.operation.Inlet.{Inlet}
use Rattle.cycle_sim.specs.Inner.Operations.{AreWithin, filled}
use Rattle.cycle_sim.specs.Inner.Decoding.{inlets_from, inlets_with}
use Rattle.cycle_sim.specs.Inner.Programs.{HoldsGate, HoldsNet, IsFilled, IsRoom, StandsGate, StandsNet}

-- ---- where they are

below_with : (gate : Gate) (n : ℕ) (inlets : List Inlet) (k : ℕ) → n < k → AreWithin k inlets → AreWithin k (inlets_with n gate inlets)
below_with (Word code) n inlets k h r = (h, r)
below_with (Reg id) n inlets k h r = (h, r)
below_with gate n inlets k h r = r

pub inlets_below : (n : ℕ) (nets : List Net) (k : ℕ) → n + length nets ≤ k → AreWithin k (inlets_from n nets)
inlets_below n [] k h = tt
inlets_below n (net ∷ nets) k h =
    below_with net.gate n _ k (omega (arith, h)) (inlets_below (n + 1) nets k (omega (arith, h)))

abbrev pub Avoid : ℕ → List Inlet → Type 0
Avoid m inlets = AllByRecursion (λ (inlet : Inlet). m ≢ inlet.place) inlets

avoid_with : (gate : Gate) (n m : ℕ) (inlets : List Inlet) → m < n → Avoid m inlets → Avoid m (inlets_with n gate inlets)
avoid_with (Word code) n m inlets h r = ((λ (e : m ≡ n). absurd (omega (arith, e, h))), r)
avoid_with (Reg id) n m inlets h r = ((λ (e : m ≡ n). absurd (omega (arith, e, h))), r)
avoid_with gate n m inlets h r = r

inlets_avoid : (n : ℕ) (nets : List Net) (m : ℕ) → m < n → Avoid m (inlets_from n nets)
inlets_avoid n [] m h = tt
inlets_avoid n (net ∷ nets) m h = avoid_with net.gate n m _ h (inlets_avoid (n + 1) nets m (omega (arith, h)))

-- ---- what they leave

module _ (regs : List ℕ) (word : ℕ) where
  pub filled_long : (inlets : List Inlet) (values : List ℕ) → length (filled regs word inlets values) ≡ length values
  filled_long [] values = refl
  filled_long (inlet ∷ inlets) values = filled_long inlets _ ∙ length-set _ _ _

  filled_other : (n : ℕ) (inlets : List Inlet) (values : List ℕ) → Avoid n inlets → slice_index (filled regs word inlets values) n ≡ slice_index values n
  filled_other n [] values h = refl
  filled_other n (inlet ∷ inlets) values h =
      filled_other n inlets _ h.1 ∙ get_or-set_other values inlet.place n _ 0 h.0

module _ (s : State) (word : ℕ) where
  -- the first net of some
  stands_first : (gate : Gate) (n : ℕ) (inlets : List Inlet) (values : List ℕ) → n < length values → Avoid n inlets → HoldsGate gate (slice_index values n) → StandsGate s word gate (slice_index (filled s.regs word (inlets_with n gate inlets) values) n)
  stands_first (Word code) n inlets values lt a h =
      filled_other s.regs word n inlets (slice_set values n word) a ∙ get_or-set_same values n word 0 lt
  stands_first (Reg id) n inlets values lt a h =
      filled_other s.regs word n inlets (slice_set values n (slice_index s.regs id)) a ∙ get_or-set_same values n (slice_index s.regs id) 0 lt
  stands_first (Const c) n inlets values lt a h = filled_other s.regs word n inlets values a ∙ h
  stands_first gate n inlets values lt a h = tt

  -- constants stand at the places of these nets, the first of which has the number n
  abbrev pub Hold : ℕ → List Net → List ℕ → Type 0
  Hold n nets values = (n + length nets ≤ length values) × ((i : ℕ) → HoldsNet (slice_get nets i) (slice_index values (n + i)))

  abbrev pub Stand : ℕ → List Net → List ℕ → Type 0
  Stand n nets values = (i : ℕ) → StandsNet s word (slice_get nets i) (slice_index values (n + i))

  hold_set : (n m : ℕ) (nets : List Net) (values : List ℕ) (x : ℕ) → m < n → Hold n nets values → Hold n nets (slice_set values m x)
  hold_set n m nets values x lt h = (
    omega (arith, h.0, length-set values m x),
    λ i. subst (λ y. HoldsNet (slice_get nets i) y) (sym (get_or-set_other values m (n + i) x 0 (λ (e : n + i ≡ m). absurd (omega (arith, e, lt))))) (h.1 i),
  )

  stand_with : (gate : Gate) (n m : ℕ) (nets : List Net) (inlets : List Inlet) (values : List ℕ) → m < n → ((values : List ℕ) → Hold n nets values → Stand n nets (filled s.regs word inlets values)) → Hold n nets values → Stand n nets (filled s.regs word (inlets_with m gate inlets) values)
  stand_with (Word code) n m nets inlets values lt all h = all (slice_set values m word) (hold_set n m nets values word lt h)
  stand_with (Reg id) n m nets inlets values lt all h =
      all (slice_set values m (slice_index s.regs id)) (hold_set n m nets values (slice_index s.regs id) lt h)
  stand_with gate n m nets inlets values lt all h = all values h

  stand : (nets : List Net) (n : ℕ) (values : List ℕ) → Hold n nets values → Stand n nets (filled s.regs word (inlets_from n nets) values)
  stand [] n values h i = tt
  stand (net ∷ nets) n values h zero =
      let e : n + 0 ≡ n = omega arith in
      subst (λ k. StandsGate s word net.gate (slice_index (filled s.regs word (inlets_with n net.gate (inlets_from (n + 1) nets)) values) k)) (sym e)
      (stands_first net.gate n (inlets_from (n + 1) nets) values (omega (arith, h.0)) (inlets_avoid (n + 1) nets n (omega arith)) (subst (λ k. HoldsGate net.gate (slice_index values k)) e (h.1 zero)))
  stand (net ∷ nets) n values h (suc i) =
      let e : n + 1 + i ≡ n + suc i = omega arith in
      let k : Hold (n + 1) nets values = (omega (arith, h.0), λ j. subst (λ y. HoldsNet (slice_get nets j) (slice_index values y)) (later j) (h.1 (suc j))) in
      subst (λ y. StandsNet s word (slice_get nets i) (slice_index (filled s.regs word (inlets_with n net.gate (inlets_from (n + 1) nets)) values) y)) e
      (stand_with net.gate (n + 1) n nets (inlets_from (n + 1) nets) values (omega arith) (stand nets (n + 1)) k i)
    where
      later : (j : ℕ) → n + suc j ≡ n + 1 + j
      later j = omega arith

pub is_filled : (netlist : Netlist) (s : State) (word : ℕ) (room : List ℕ) → IsRoom netlist room → IsFilled netlist s word (filled s.regs word (inlets_from 0 netlist.nets) room)
is_filled netlist s word room h = record {
  long = filled_long s.regs word (inlets_from 0 netlist.nets) room ∙ h.long;
  stands = λ n. subst (λ k. StandsNet s word (slice_get netlist.nets n) (slice_index (filled s.regs word (inlets_from 0 netlist.nets) room) k)) (front n) (stand s word netlist.nets 0 room (omega (arith, h.long), λ i. subst (λ k. HoldsNet (slice_get netlist.nets i) (slice_index room k)) (sym (front i)) (h.constants i)) n);
}
  where
    front : (i : ℕ) → 0 + i ≡ i
    front i = omega arith
