-- What is wrong first with marks that ascend, as it is found in the list of marks.
use Rattle.std.proofs.Common.{ℕ, zero, suc, ◌≡◌, ◌<◌, ◌+◌, List, [], ◌∷◌, length, Option, Some, None, IfNone, IfSome, MatchOption, refl, sym, ◌∙◌, ap, subst, arith, slice_get}
use Rattle.std.proofs.lemmas.List.{length-map}
use Rattle.rec_bits.proofs.Options.{same_Some}
use Rattle.src_model.specs.declared.checkpoint.Checkpoint.TheVariants.{At, End as TheEnd}
use Rattle.code_model.specs.declared.image.Image.{Image}
use Rattle.code_model.specs.declared.image.Mark.{Mark}
use Rattle.code_model.specs.declared.image.Word.{Word}
use Rattle.code_model.specs.ImageFits.{AreMarksAfter}
use Rattle.code_model.specs.Places.{checkpoint_of, label_at, words_of}
use Rattle.form_model.specs.declared.flow.Flow.{Flow}
use Rattle.form_model.specs.declared.flow.Flow.TheVariants.{Assign, Test, Jump, End}
use Rattle.follow.specs.Inner.Marked.{AreLabelled, AreLabelsTested, AreOnLast, HasLabel, IsBare, IsFirstStray, tested_tree}
use Rattle.follow.specs.MarkFaults.{AreMarksRight, AreTestsMarked, HasEnd, IsMarkFault, IsUnmarked}
use Rattle.follow.specs.RightByViews.{HasMark, HasMarksOf}
use Rattle.follow.specs.declared.mark_faults.MarkFault.{MarkFault}
use Rattle.follow.proofs.MarkLemmas.{behind, found_label, label_is_end, label_is_test, label_there}

-- of two marks that ascend the one at the lower address comes first
in_order : (last : Option Mark) (marks : List Mark) → AreMarksAfter last marks → (i j : ℕ) (m n : Mark) → slice_get marks i ≡ Some m → slice_get marks j ≡ Some n → m.address < n.address → i < j
in_order last [] h i j m n e f lt = absurd (cc e)
in_order last (p ∷ marks) h zero zero m n e f lt =
    let same : m.address ≡ n.address = ap (λ (x : Mark). x.address) (sym (same_Some p m e) ∙ same_Some p n f) in absurd (omega (arith, lt, same))
in_order last (p ∷ marks) h zero (suc j) m n e f lt = omega arith
in_order last (p ∷ marks) h (suc i) zero m n e f lt =
    let a : p.address < m.address = behind p marks h.1 i m e in
    let b : p.address ≡ n.address = ap (λ (x : Mark). x.address) (same_Some p n f) in
    absurd (omega (arith, lt, a, b))
in_order last (p ∷ marks) h (suc i) (suc j) m n e f lt = let r : i < j = in_order (Some p) marks h.1 i j m n e f lt in omega (arith, r)

record TestAt (flow : List Flow) (k tree : ℕ) : Type 0 where
  when_one : ℕ
  when_zero : ℕ
  is : slice_get flow k ≡ Some (Test tree when_one when_zero)

test_at : (flow : List Flow) (k tree : ℕ) (item : Option Flow) → slice_get flow k ≡ item → tested_tree item ≡ Some tree → TestAt flow k tree
test_at flow k tree None e f = absurd (cc f)
test_at flow k tree (Some (Assign n)) e f = absurd (cc f)
test_at flow k tree (Some (Test n one zer)) e f = record { when_one = one; when_zero = zer; is = e ∙ ap (λ (x : ℕ). Some (Test x one zer)) (same_Some n tree f) }
test_at flow k tree (Some (Jump to)) e f = absurd (cc f)
test_at flow k tree (Some End) e f = absurd (cc f)

module _ (flow : List Flow) (image : Image) (marks : List Mark) (order : AreMarksAfter None image.marks) (same : marks ≡ image.marks) where
  marked : (tree : ℕ) → HasLabel marks (Some tree) → HasMark image tree
  marked tree h =
      let g : HasLabel image.marks (Some tree) = subst (λ (ms : List Mark). HasLabel ms (Some tree)) same h in
      record { address = g.mark.address; marked = label_there None image.marks order g.at g.mark g.is ∙ ap (λ label. Some (checkpoint_of label)) g.same }

  labelled : (tree : ℕ) → HasMark image tree → HasLabel marks (Some tree)
  labelled tree h =
      let f = found_label image.marks h.address (At tree) h.marked in
      subst (λ (ms : List Mark). HasLabel ms (Some tree)) (sym same) (record { at = f.at; mark = f.mark; is = f.is; same = label_is_test f.mark.label tree f.same })

  pub bare_unmarked : (tree : ℕ) → IsBare flow marks tree → IsUnmarked flow image tree
  bare_unmarked tree b =
      let t = test_at flow b.at tree (slice_get flow b.at) refl b.is in
      record {
        at = b.at;
        when_one = t.when_one;
        when_zero = t.when_zero;
        is = t.is;
        unmarked = λ h. b.bare (labelled tree h);
        before = λ k other one zer lt e. marked other (b.before k other lt (ap tested_tree e));
      }

  pub all_marked : AreLabelled flow marks → AreTestsMarked flow image
  all_marked h tree t = marked tree (h t.at tree (ap tested_tree t.is))

  -- ---- the end

  count : length (words_of image) ≡ length image.words
  count = length-map image.words (λ (word : Word). word.word)

  pub end_of : (words : ℕ) → words ≡ length image.words → HasLabel marks None → AreOnLast words marks → HasEnd image
  end_of words long h on =
      let g : HasLabel image.marks None = subst (λ (ms : List Mark). HasLabel ms None) same h in
      let last : g.mark.address + 1 ≡ words = on g.at g.mark (ap (λ (ms : List Mark). slice_get ms g.at) same ∙ g.is) g.same in
      record {
        last = g.mark.address;
        long = count ∙ sym long ∙ sym last;
        end = label_there None image.marks order g.at g.mark g.is ∙ ap (λ label. Some (checkpoint_of label)) g.same;
        only = λ address e.
            (let f = found_label image.marks address TheEnd e in
            let there : f.mark.address + 1 ≡ words = on f.at f.mark (ap (λ (ms : List Mark). slice_get ms f.at) same ∙ f.is) (label_is_end f.mark.label f.same) in
            let here = f.here in
            omega (arith, there, last, here));
      }

  pub of_end : (words : ℕ) → words ≡ length image.words → HasEnd image → HasLabel marks None × AreOnLast words marks
  of_end words long h = (
    (let f = found_label image.marks h.last TheEnd h.end in
        subst (λ (ms : List Mark). HasLabel ms None) (sym same) (record { at = f.at; mark = f.mark; is = f.is; same = label_is_end f.mark.label f.same })),
    λ k mark e l.
        (let there = label_there None image.marks order k mark (ap (λ (ms : List Mark). slice_get ms k) (sym same) ∙ e) ∙ ap (λ label. Some (checkpoint_of label)) l in
        let here : mark.address ≡ h.last = h.only mark.address there in
        let all = h.long in
        let words_are = count in
        omega (arith, here, all, words_are, long)),
  )

  -- ---- the others

  pub stray_fault : AreTestsMarked flow image → HasEnd image → (fault : MarkFault) → IsFirstStray flow marks fault → IsMarkFault flow image fault
  stray_fault all end fault s =
      subst (IsMarkFault flow image) (sym s.told) (
        all,
        end,
        record {
          marked = label_there None image.marks order s.at s.mark s_is ∙ ap (λ label. Some (checkpoint_of label)) s.label;
          none = s.none;
          before = λ earlier other lt e.
              (let f = found_label image.marks earlier (At other) e in
              let here = f.here in
              let first : f.at < s.at = in_order None image.marks order f.at s.at f.mark s.mark f.is s_is (omega (arith, here, lt)) in
              s.before f.at f.mark other first (ap (λ (ms : List Mark). slice_get ms f.at) same ∙ f.is) (label_is_test f.mark.label other f.same));
        },
      )
    where
      s_is : slice_get image.marks s.at ≡ Some s.mark
      s_is = ap (λ (ms : List Mark). slice_get ms s.at) (sym same) ∙ s.is

  pub marks_right : AreLabelled flow marks → HasEnd image → AreLabelsTested flow marks → HasMarksOf flow image
  marks_right l e t = record {
    all = all_marked l;
    only = λ address tree f.
        (let g = found_label image.marks address (At tree) f in
        t g.at g.mark tree (ap (λ (ms : List Mark). slice_get ms g.at) same ∙ g.is) (label_is_test g.mark.label tree g.same));
    end = λ address f.
        (let long = e.long in
        let here : address ≡ e.last = omega (arith, f, long) in
        ap (label_at image.marks) here ∙ e.end);
    end_only = λ address f.
        (let here : address ≡ e.last = e.only address f in
        let long = e.long in
        omega (arith, here, long));
  }

  pub found_stray : AreTestsMarked flow image → HasEnd image → (found : Option MarkFault) → MatchOption found (AreLabelsTested flow marks) (IsFirstStray flow marks)
      → IfSome found (IsMarkFault flow image)
  found_stray all end None h = tt
  found_stray all end (Some fault) h = stray_fault all end fault h

  pub found_none : AreLabelled flow marks → HasEnd image → (found : Option MarkFault) → MatchOption found (AreLabelsTested flow marks) (IsFirstStray flow marks)
      → IfNone found (AreMarksRight flow image)
  found_none all end None h = record { marks = marks_right all end h; end = end }
  found_none all end (Some fault) h = tt
