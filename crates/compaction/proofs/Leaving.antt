-- A step that leaves its group, with what stood before it and behind it.
use Rattle.std.proofs.Common.{◌≡◌, ℕ, zero, suc, ◌+◌, ◌-◌, ◌<◌, arith, List, [], ◌∷◌, ◌++◌, length, take, drop, get_or, Option, Some, None, add-one, refl, sym, ◌∙◌, ap, subst}
use Rattle.std.specs.List.{remove, slice_get}
use Rattle.std.specs.Option.{MatchOption}
use Rattle.std.proofs.lemmas.List.{length-drop, take_all}
use Rattle.std.proofs.lemmas.Option.{slice_get-get_or}
use Rattle.rec_bits.proofs.Options.{same_Some}
use Rattle.form_model.specs.declared.forms.Step.{Step}
use Rattle.form_model.specs.Effects.{Operation}
use Rattle.form_model.specs.Live.{Regs}
use Rattle.compaction.specs.Packing.{Movable}
use Rattle.compaction.specs.Inner.Turns.{IsMovedAt}
use Rattle.compaction.specs.declared.change.Pair.{Pair}

left_of : {X : Type 0} (xs : List X) (i : ℕ) → i < length xs → take i xs ++ drop (suc i) xs ≡ remove xs i
left_of [] i lt = absurd (omega (arith, lt))
left_of (x ∷ xs) zero lt = refl
left_of (x ∷ xs) (suc i) lt = ap (λ z. x ∷ z) (left_of xs i (omega (arith, lt)))

pub all_behind : {X : Type 0} (xs : List X) (n : ℕ) → take (length xs - n) (drop n xs) ≡ drop n xs
all_behind xs n = take_all (length xs - n) (drop n xs) (omega (arith, length-drop n xs))

-- what is told of the step and of those around it is told of its place
pub moved_there : (m : Step → Operation) (fits : ℕ → List Step → Regs → Type 0) (g h front back : List Step) (index : ℕ) (step d : Step) (live : Regs) (found : Option Pair) → index < length h → step ≡ get_or h index d
    → front ≡ take index h → back ≡ drop (index + 1) h
    → MatchOption found (Movable m fits g step (front ++ back) live → ⊥) (λ (pair : Pair). (pair.first.group ≡ g ++ step ∷ []) × (pair.second.group ≡ front ++ back) × Movable m fits g step (front ++ back) live)
    → MatchOption found ((x : Step) → slice_get h index ≡ Some x → Movable m fits g x (remove h index) live → ⊥) (λ (pair : Pair). IsMovedAt m fits g h live index pair.first.group pair.second.group)
moved_there m fits g h front back index step d live found lt es ef eb = by found
  where
    at : slice_get h index ≡ Some step
    at = slice_get-get_or h index d lt ∙ ap (λ z. Some z) (sym es)

    rest : front ++ back ≡ remove h index
    rest = (λ j. ef j ++ eb j) ∙ ap (λ i. take index h ++ drop i h) (add-one index) ∙ left_of h index lt

    by : (o : Option Pair) → MatchOption o (Movable m fits g step (front ++ back) live → ⊥) (λ (pair : Pair). (pair.first.group ≡ g ++ step ∷ []) × (pair.second.group ≡ front ++ back) × Movable m fits g step (front ++ back) live)
        → MatchOption o ((x : Step) → slice_get h index ≡ Some x → Movable m fits g x (remove h index) live → ⊥) (λ (pair : Pair). IsMovedAt m fits g h live index pair.first.group pair.second.group)
    by None u = λ x e w. u (subst (λ z. Movable m fits g step z live) (sym rest) (subst (λ z. Movable m fits g z (remove h index) live) (same_Some x step (sym e ∙ at)) w))
    by (Some pair) w = record { step = step; at = at; first_is = w.0; second_is = w.1 ∙ rest; movable = subst (λ z. Movable m fits g step z live) rest w.2 }
