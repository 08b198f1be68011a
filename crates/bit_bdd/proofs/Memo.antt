-- Remembered results stay right, and are found and added.
use Rattle.std.proofs.Common.{◌≡◌, ℕ, ◌<◌, Bool, true, false, if◌then◌else◌, List, ◌++◌, length, replicate, refl, sym, subst, ◌∙◌, length-append, arith}
use Rattle.std.proofs.lemmas.List.Elements.{All-weaker, All-same, All-append, All-replicate}
use Rattle.std.proofs.lemmas.Option.{slice_get_within}
use Rattle.bit_bdd.specs.declared.Node.{Node}
use Rattle.bit_bdd.specs.declared.Node.TheVariants.{Never, Always}
use Rattle.bit_bdd.specs.declared.Finished.{Finished}
use Rattle.bit_bdd.specs.declared.Operation.{Operation}
use Rattle.bit_bdd.specs.declared.Operation.TheVariants.{Choose, Exists}
use Rattle.bit_bdd.specs.Diagrams.{PointSet, Diagrams, set_of}
use Rattle.bit_bdd.specs.Shape.{choice, IsProjection, IsReducedBook}
use Rattle.bit_bdd.specs.Memo.{IsChosen, IsProjected, IsResult, AllRight, unused}
use Rattle.bit_bdd.proofs.Sets.{set_of-append, set_of-never, set_of-always, level-append}

module _ (nodes more : List Node) where
  -- a remembered choice stays right while the nodes grow
  chosen_later : (test on off id : ℕ) → IsChosen nodes test on off id → IsChosen (nodes ++ more) test on off id
  chosen_later test on off id h =
      let lt = level-append nodes more test h.test_within in
      let ly = level-append nodes more on h.on_within in
      let ln = level-append nodes more off h.off_within in
      let li = level-append nodes more id h.within in
      let st = set_of-append nodes more test h.test_within in
      let sy = set_of-append nodes more on h.on_within in
      let sn = set_of-append nodes more off h.off_within in
      let si = set_of-append nodes more id h.within in
      let len = length-append nodes more in
      record {
        test_within = omega (arith, h.test_within, len);
        on_within = omega (arith, h.on_within, len);
        off_within = omega (arith, h.off_within, len);
        within = omega (arith, h.within, len);
        lower = rw (lt, ly, ln, li) h.lower;
        set = si ∙ h.set ∙ (λ j. choice (sym st j) (sym sy j) (sym sn j));
      }

  -- and so is a projection
  projected_later : (set mask id : ℕ) → IsProjected nodes set mask id → IsProjected (nodes ++ more) set mask id
  projected_later set mask id h =
      let ls = level-append nodes more set h.set_within in
      let li = level-append nodes more id h.within in
      let ss = set_of-append nodes more set h.set_within in
      let si = set_of-append nodes more id h.within in
      let len = length-append nodes more in
      record {
        set_within = omega (arith, h.set_within, len);
        within = omega (arith, h.within, len);
        lower = rw (ls, li) h.lower;
        is = subst (λ (p : PointSet × PointSet). IsProjection mask p.0 p.1) (λ j. (sym ss j, sym si j)) h.is;
      }

  -- each result stays right while the nodes grow
  result_later : (operation : Operation) (id : ℕ) → IsResult nodes operation id → IsResult (nodes ++ more) operation id
  result_later (Choose test on off) id h = chosen_later test on off id h
  result_later (Exists set mask) id h = projected_later set mask id h

  -- and so does the whole table
  pub right_later : (done : List Finished) → AllRight nodes done → AllRight (nodes ++ more) done
  right_later done h = All-weaker (λ (f : Finished). IsResult nodes f.operation f.id) (λ f. IsResult (nodes ++ more) f.operation f.id) (λ f r. result_later f.operation f.id r) done h

module _ (bits : ℕ) (nodes : List Node) (book : IsReducedBook bits nodes) where
  -- what stands where nothing was remembered is right
  pub unused_right : IsResult nodes (Choose 0 0 0) 0
  unused_right =
      let within = slice_get_within nodes 0 Never book.never in
      let set = set_of-never nodes 0 book.never in
      record {
        test_within = within;
        on_within = within;
        off_within = within;
        within = within;
        lower = omega arith;
        set = set ∙ sym (λ j. choice (set j) (set_of nodes 0) (set j));
      }

  -- so is a table that was widened
  pub widened_right : (done : List Finished) → AllRight nodes done → (new : List Finished) → ((n : ℕ) × (new ≡ done ++ replicate n unused)) → AllRight nodes new
  widened_right done h new more =
      let right = λ (f : Finished). IsResult nodes f.operation f.id in
      All-same right new (done ++ replicate more.0 unused) more.1 (All-append right done (replicate more.0 unused) h (All-replicate right more.0 unused unused_right))

itself : (b : Bool) → b ≡ (if b then true else false)
itself true = refl
itself false = refl

-- a choice between all points and none is the test
pub settled_right : (d : Diagrams) → IsReducedBook d.bits d.nodes → (test on off : ℕ) → test < length d.nodes → on ≡ 1 → off ≡ 0 → IsChosen d.nodes test on off test
settled_right d book test on off within one none =
    let full : set_of d.nodes 1 ≡ (λ _. true) = set_of-always d.nodes 1 book.always in
    let empty : set_of d.nodes 0 ≡ (λ _. false) = set_of-never d.nodes 0 book.never in
    rw (one, none)
    record {
      test_within = within;
      on_within = slice_get_within d.nodes 1 Always book.always;
      off_within = slice_get_within d.nodes 0 Never book.never;
      within = within;
      lower = omega arith;
      set = (λ j point. itself (set_of d.nodes test point) j) ∙ (λ j. choice (set_of d.nodes test) (sym full j) (sym empty j));
    }
