-- The address at which the end is marked is the one whose label is the end.
use Rattle.std.proofs.Common.{ℕ, ◌≡◌, ◌<◌, ◌==◌, ◌⊎◌, inl, inr, Bool, true, false, List, [], ◌∷◌, Option, Some, None, refl, ap, subst, eqb-true, arith}
use Rattle.std.specs.Prelude.{is_none, if◌then◌else◌}
use Rattle.std.proofs.lemmas.Bool.Decides.{nat_tests}
use Rattle.src_model.specs.declared.checkpoint.Checkpoint.TheVariants.{End}
use Rattle.net_model.specs.declared.hardware.Netlist.{Netlist}
use Rattle.net_model.specs.declared.states.State.{State}
use Rattle.net_model.specs.Clock.{counter_in}
use Rattle.code_model.specs.declared.image.Image.{Image}
use Rattle.code_model.specs.declared.image.Mark.{Mark}
use Rattle.code_model.specs.ImageFits.{AreMarksAfter, HasNumber}
use Rattle.code_model.specs.Places.{checkpoint_of, label_at, words_of}
use Rattle.make_command.specs.Inner.Marks.{end_address}
use Rattle.make_command.specs.Stops.{IsAtEnd, RunsOn, StandsAt, StopsAt}
use Rattle.make_command.proofs.Shown.{runs_likewise, stops_likewise}

-- the end is marked here, or behind a mark of a tree
abbrev IsHere : Option ℕ → ℕ → List Mark → ℕ → Type 0
IsHere label address marks a = ((label ≡ None) × (address ≡ a)) ⊎ (HasNumber label × (end_address marks ≡ Some a))

here : (label : Option ℕ) (address : ℕ) (marks : List Mark) (a : ℕ) → (if is_none label then Some address else end_address marks) ≡ Some a → IsHere label address marks a
here None address marks a e = inl (refl, cc)
here (Some tree) address marks a e = inr (tt, e)

-- the marks behind one have greater addresses
end_behind : (last : Mark) (marks : List Mark) (a : ℕ) → AreMarksAfter (Some last) marks → end_address marks ≡ Some a → last.address < a
end_behind last [] a after e = absurd (cc)
end_behind last (mark ∷ marks) a after e = by_case (λ h. end_behind mark marks a after.1 h) (here mark.label mark.address marks a e)
  where
    by_case : (end_address marks ≡ Some a → mark.address < a) → IsHere mark.label mark.address marks a → last.address < a
    by_case ih (inl at) = omega (arith, after.0.0, at.1)
    by_case ih (inr later) = omega (arith, after.0.0, ih later.1)

-- a label is the end's at the address of the end alone
pub end_label : (last : Option Mark) (marks : List Mark) (a : ℕ) → AreMarksAfter last marks → end_address marks ≡ Some a → label_at marks a ≡ Some End
end_label last [] a after e = absurd (cc)
end_label last (mark ∷ marks) a after e = by_case (λ h. end_label (Some mark) marks a after.1 h) (here mark.label mark.address marks a e)
  where
    by_case : (end_address marks ≡ Some a → label_at marks a ≡ Some End) → IsHere mark.label mark.address marks a → label_at (mark ∷ marks) a ≡ Some End
    by_case ih (inl at) = let e = at.0 in let f = at.1 in grind (arith, nat_tests)
    by_case ih (inr later) = let less = end_behind mark marks a after.1 later.1 in let there = ih later.1 in grind (arith, nat_tests)

-- none stands behind the mark of the end
none_behind : (mark : Mark) (marks : List Mark) → mark.label ≡ None → AreMarksAfter (Some mark) marks → (a : ℕ) → label_at marks a ≡ Some End → ⊥
none_behind mark [] is after a e = absurd (cc)
none_behind mark (next ∷ marks) is after a e = subst HasNumber is after.0.1

here_label : (label : Option ℕ) (address a : ℕ) (marks : List Mark) (ended : Bool) → (if ended then Some (checkpoint_of label) else label_at marks a) ≡ Some End → (ended ≡ true → address ≡ a) →
    (label ≡ None → label_at marks a ≡ Some End → ⊥) → (label_at marks a ≡ Some End → end_address marks ≡ Some a) → (if is_none label then Some address else end_address marks) ≡ Some a
here_label None address a marks true e same last ih = ap (λ (n : ℕ). Some n) (same refl)
here_label None address a marks false e same last ih = absurd (last refl e)
here_label (Some tree) address a marks true e same last ih = absurd (cc)
here_label (Some tree) address a marks false e same last ih = ih e

pub label_end : (last : Option Mark) (marks : List Mark) (a : ℕ) → AreMarksAfter last marks → label_at marks a ≡ Some End → end_address marks ≡ Some a
label_end last [] a after e = absurd (cc)
label_end last (mark ∷ marks) a after e =
    here_label mark.label mark.address a marks (mark.address == a) e (λ t. eqb-true mark.address a t) (λ is. none_behind mark marks is after.1 a) (label_end (Some mark) marks a after.1)

-- ---- states at the end mark are those at its address

module _ (netlist : Netlist) (image : Image) (after : AreMarksAfter None image.marks) where
  stands : (s : State) → IsAtEnd netlist image s → StandsAt netlist (end_address image.marks) s
  stands s = label_end None image.marks (counter_in netlist s) after

  is_at_end : (s : State) → StandsAt netlist (end_address image.marks) s → IsAtEnd netlist image s
  is_at_end s = end_label None image.marks (counter_in netlist s) after

  pub runs_to_address : (n : ℕ) (s : State) → RunsOn netlist (words_of image) (IsAtEnd netlist image) n s → RunsOn netlist (words_of image) (StandsAt netlist (end_address image.marks)) n s
  runs_to_address = runs_likewise netlist (words_of image) (IsAtEnd netlist image) (StandsAt netlist (end_address image.marks)) stands

  pub stops_at_end : (start : State) (most clocks : ℕ) (last : State) → StopsAt netlist (words_of image) (StandsAt netlist (end_address image.marks)) start most clocks last
      → StopsAt netlist (words_of image) (IsAtEnd netlist image) start most clocks last
  stops_at_end = stops_likewise netlist (words_of image) (StandsAt netlist (end_address image.marks)) (IsAtEnd netlist image) is_at_end stands
