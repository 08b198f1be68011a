-- Places that are right one by one hold the variables.
use Rattle.std.proofs.Common.{◌≡◌, ℕ, suc, ◌<◌, ◌≤◌, ◌^◌, List, [], ◌∷◌, length, Some, refl, sym, subst, ◌∙◌, arith, slice_get}
use Rattle.std.proofs.lemmas.Option.{slice_get_within}
use Rattle.rec_bits.proofs.Options.{same_Some}
use Rattle.src_model.specs.declared.program.Var.{Var as Declared}
use Rattle.code_model.specs.declared.image.Image.{Image}
use Rattle.code_model.specs.declared.image.Place.{Place}
use Rattle.src_trees.specs.Held.{AreAlone, HoldsVars, IsAlone, LieWithin, StandFor}
use Rattle.check_command.specs.Places.{AreApart, ArePlacesRight, IsAloneAt, IsPlaceOf, IsRightPlace, LiesIn}

-- the place of a number is the variable's
record StandsAt (vars : List Declared) (places : List Place) (at : ℕ) : Type 0 where
  var : Declared
  place : Place
  declared : slice_get vars at ≡ Some var
  there : slice_get places at ≡ Some place
  stands : IsPlaceOf var place

stand_for : (vars : List Declared) (places : List Place) → length places ≡ length vars → ((k : ℕ) → k < length vars → StandsAt vars places k) → StandFor places vars
stand_for [] [] same all = tt
stand_for [] (p ∷ places) same all = absurd (omega (arith, same))
stand_for (v ∷ vars) [] same all = absurd (omega (arith, same))
stand_for (v ∷ vars) (p ∷ places) same all =
    let first = all 0 (omega arith) in
    let var : v ≡ first.var = same_Some v first.var first.declared in
    let place : p ≡ first.place = same_Some p first.place first.there in
    let name = first.stands.name in
    let cells = first.stands.cells in (
      rw (var, place) name,
      rw (var, place) cells,
      stand_for vars places (omega (arith, same))
          (λ k lt. let one = all (suc k) (omega (arith, lt)) in record { var = one.var; place = one.place; declared = one.declared; there = one.there; stands = one.stands }),
    )

lie_within : (first end : ℕ) (places : List Place) → ((k : ℕ) (p : Place) → slice_get places k ≡ Some p → LiesIn first end p) → LieWithin first end places
lie_within first end [] all = tt
lie_within first end (p ∷ places) all = let one = all 0 p refl in (one.behind, one.within, lie_within first end places (λ k q e. all (suc k) q e))

is_alone : (p : Place) (places : List Place) → ((k : ℕ) (q : Place) → slice_get places k ≡ Some q → AreApart p q) → IsAlone p places
is_alone p [] all = tt
is_alone p (q ∷ places) all = (all 0 q refl, is_alone p places (λ k r e. all (suc k) r e))

are_alone : (places : List Place) → ((k : ℕ) (p : Place) → slice_get places k ≡ Some p → IsAloneAt places k p) → AreAlone places
are_alone [] all = tt
are_alone (p ∷ places) all = (
  is_alone p places (λ k q e. all 0 p refl (suc k) q e (λ same. absurd cc)),
  are_alone places (λ k q e other r f ne. all (suc k) q e (suc other) r f (λ same. ne (omega (arith, same)))),
)

module _ (vars : List Declared) (image : Image) (size : ℕ) (right : ArePlacesRight vars image size) where
  right_at : (k : ℕ) (p : Place) → slice_get image.places k ≡ Some p → IsRightPlace vars image size k
  right_at k p e = right.all k (let inside = slice_get_within image.places k p e in let same = right.no_more in omega (arith, inside, same))

  same_place : (k : ℕ) (p : Place) → (e : slice_get image.places k ≡ Some p) → (right_at k p e).place ≡ p
  same_place k p e = same_Some _ p (sym (right_at k p e).there ∙ e)

  pub places_hold : (word addr : ℕ) → 1 ≤ addr → addr ≤ word → size ≤ 2 ^ addr → HoldsVars image.temps vars (record { word = word; addr = addr; places = image.places })
  places_hold word addr some narrow reach = record {
    some = some;
    narrow = narrow;
    stand = stand_for vars image.places right.no_more
        (λ k lt. let one = right.all k lt in record { var = one.var; place = one.place; declared = one.declared; there = one.there; stands = one.stands });
    within = lie_within image.temps (2 ^ addr) image.places
        (λ k p e. let lies = subst (LiesIn image.temps size) (same_place k p e) (right_at k p e).lies in
        record { behind = lies.behind; within = let end = lies.within in omega (arith, end, reach) });
    alone = are_alone image.places (λ k p e. subst (IsAloneAt image.places k) (same_place k p e) (right_at k p e).alone);
  }

  pub places_lie : (end : ℕ) → size ≤ end → LieWithin image.temps end image.places
  places_lie end reach =
      lie_within image.temps end image.places
      (λ k p e. let lies = subst (LiesIn image.temps size) (same_place k p e) (right_at k p e).lies in
      record { behind = lies.behind; within = let last = lies.within in omega (arith, last, reach) })
