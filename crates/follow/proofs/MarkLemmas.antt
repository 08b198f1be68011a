-- Marks that ascend, and how they are found to be those of a flow.
use Rattle.std.proofs.Common.{◌-◌, ℕ, zero, suc, ◌≡◌, ◌<◌, ◌+◌, ◌==◌, Bool, true, false, if◌then◌else◌, List, [], ◌∷◌, length, Option, Some, None, refl, sym, ◌∙◌, ap, subst, arith, eq-eqb, eqb-true, slice_get}
use Rattle.std.proofs.lemmas.List.{length-map}
use Rattle.rec_bits.proofs.Options.{same_Some}
use Rattle.src_model.specs.declared.checkpoint.Checkpoint.{Checkpoint}
use Rattle.src_model.specs.declared.checkpoint.Checkpoint.TheVariants.{At, End as TheEnd}
use Rattle.code_model.specs.declared.image.Image.{Image}
use Rattle.code_model.specs.declared.image.Mark.{Mark}
use Rattle.code_model.specs.declared.image.Word.{Word}
use Rattle.code_model.specs.ImageFits.{AreMarksAfter}
use Rattle.code_model.specs.Places.{checkpoint_of, label_at, words_of}
use Rattle.form_model.specs.declared.flow.Flow.{Flow}
use Rattle.form_model.specs.declared.flow.Flow.TheVariants.{Assign, Test, Jump, End}
use Rattle.follow.specs.Inner.Marked.{HasLabel, IsLabelOf, IsMarkOf, tested_tree}
use Rattle.follow.specs.RightByViews.{HasMark, HasMarksOf, IsTestOf}

-- ---- labels

-- marks that may follow another stand behind it
pub behind : (m : Mark) (marks : List Mark) → AreMarksAfter (Some m) marks → (k : ℕ) (mark : Mark) → slice_get marks k ≡ Some mark → m.address < mark.address
behind m [] h k mark e = absurd (cc e)
behind m (n ∷ marks) h zero mark e = let s : n ≡ mark = same_Some n mark e in subst (λ (x : Mark). m.address < x.address) s h.0.0
behind m (n ∷ marks) h (suc k) mark e =
    let a : m.address < n.address = h.0.0 in
    let b : n.address < mark.address = behind n marks h.1 k mark e in
    omega (arith, a, b)

-- the address of a mark has its label
pub label_there : (last : Option Mark) (marks : List Mark) → AreMarksAfter last marks → (k : ℕ) (mark : Mark) → slice_get marks k ≡ Some mark → label_at marks mark.address ≡ Some (checkpoint_of mark.label)
label_there last [] h k mark e = absurd (cc e)
label_there last (m ∷ marks) h zero mark e =
    let s : m ≡ mark = same_Some m mark e in
    subst (λ (x : Mark). label_at (m ∷ marks) x.address ≡ Some (checkpoint_of x.label)) s
    (ap (λ (b : Bool). if b then Some (checkpoint_of m.label) else label_at marks m.address) (eq-eqb m.address m.address refl))
label_there last (m ∷ marks) h (suc k) mark e =
    by (m.address == mark.address) refl (behind m marks h.1 k mark e) (label_there (Some m) marks h.1 k mark e)
  where
    by : (b : Bool) → (m.address == mark.address) ≡ b → m.address < mark.address → label_at marks mark.address ≡ Some (checkpoint_of mark.label)
        → (if b then Some (checkpoint_of m.label) else label_at marks mark.address) ≡ Some (checkpoint_of mark.label)
    by true f lt later = let same = eqb-true m.address mark.address f in absurd (omega (arith, lt, same))
    by false f lt later = later

pub record Found (marks : List Mark) (address : ℕ) (label : Checkpoint) : Type 0 where
  pub at : ℕ
  pub mark : Mark
  pub is : slice_get marks at ≡ Some mark
  pub here : mark.address ≡ address
  pub same : checkpoint_of mark.label ≡ label

-- and a label is that of a mark
pub found_label : (marks : List Mark) (address : ℕ) (label : Checkpoint) → label_at marks address ≡ Some label → Found marks address label
found_label [] address label e = absurd (cc e)
found_label (m ∷ marks) address label e = by (m.address == address) refl e (λ f. found_label marks address label f)
  where
    by : (b : Bool) → (m.address == address) ≡ b → (if b then Some (checkpoint_of m.label) else label_at marks address) ≡ Some label → (label_at marks address ≡ Some label → Found marks address label) → Found (m ∷ marks) address label
    by true f e more = record { at = 0; mark = m; is = refl; here = eqb-true m.address address f; same = same_Some _ label e }
    by false f e more = let h = more e in record { at = suc h.at; mark = h.mark; is = h.is; here = h.here; same = h.same }

pub label_is_test : (label : Option ℕ) (tree : ℕ) → checkpoint_of label ≡ At tree → label ≡ Some tree
label_is_test None tree e = absurd (cc e)
label_is_test (Some n) tree e = cc e

pub label_is_end : (label : Option ℕ) → checkpoint_of label ≡ TheEnd → label ≡ None
label_is_end None e = refl
label_is_end (Some n) e = absurd (cc e)

-- ---- all marks

pub marks_of_flow : (flow : List Flow) (image : Image) → AreMarksAfter None image.marks → ((k : ℕ) (mark : Mark) → slice_get image.marks k ≡ Some mark → IsMarkOf flow (length image.words) mark)
    → ((k tree : ℕ) → tested_tree (slice_get flow k) ≡ Some tree → HasLabel image.marks (Some tree)) → HasLabel image.marks None → HasMarksOf flow image
marks_of_flow flow image order each tests end = record {
  all = λ tree t. marked tree (tests t.at tree (ap tested_tree t.is));
  only = λ address tree e.
      (let f = found_label image.marks address (At tree) e in
      subst (λ label. IsLabelOf flow (length image.words) f.mark.address label) (label_is_test f.mark.label tree f.same) (each f.at f.mark f.is));
  end = λ address e.
      (let last : end.mark.address + 1 ≡ length image.words = subst (λ label. IsLabelOf flow (length image.words) end.mark.address label) end.same (each end.at end.mark end.is) in
      let same : end.mark.address ≡ address = omega (arith, e, last, long) in
      ap (label_at image.marks) (sym same) ∙ label_there None image.marks order end.at end.mark end.is ∙ ap (λ label. Some (checkpoint_of label)) end.same);
  end_only = λ address e.
      (let f = found_label image.marks address TheEnd e in
      let last : f.mark.address + 1 ≡ length image.words = subst (λ label. IsLabelOf flow (length image.words) f.mark.address label) (label_is_end f.mark.label f.same) (each f.at f.mark f.is) in
      let here = f.here in
      omega (arith, last, here, long));
}
  where
    long : length (words_of image) ≡ length image.words
    long = length-map image.words (λ (word : Word). word.word)

    marked : (tree : ℕ) → HasLabel image.marks (Some tree) → HasMark image tree
    marked tree h = record { address = h.mark.address; marked = label_there None image.marks order h.at h.mark h.is ∙ ap (λ label. Some (checkpoint_of label)) h.same }

-- as they are found in a list that is the image's
pub found_marks : (flow : List Flow) (image : Image) (marks : List Mark) (words : ℕ) → AreMarksAfter None image.marks → marks ≡ image.marks → words ≡ length image.words
    → ((k : ℕ) (mark : Mark) → slice_get marks k ≡ Some mark → IsMarkOf flow words mark)
    → ((k tree : ℕ) → tested_tree (slice_get flow k) ≡ Some tree → HasLabel marks (Some tree)) → HasLabel marks None → HasMarksOf flow image
found_marks flow image marks words order same long each tests end =
    marks_of_flow flow image order
    (λ k mark e. subst (λ (w : ℕ). IsMarkOf flow w mark) long (each k mark (ap (λ (ms : List Mark). slice_get ms k) same ∙ e)))
    (λ k tree e. subst (λ (ms : List Mark). HasLabel ms (Some tree)) same (tests k tree e))
    (subst (λ (ms : List Mark). HasLabel ms None) same end)

-- ---- the other way round

tested_is : (flow : List Flow) (k tree : ℕ) (item : Option Flow) → slice_get flow k ≡ item → tested_tree item ≡ Some tree → IsTestOf flow tree
tested_is flow k tree None e f = absurd (cc f)
tested_is flow k tree (Some (Assign n)) e f = absurd (cc f)
tested_is flow k tree (Some (Test n one zer)) e f = record { at = k; when_one = one; when_zero = zer; is = e ∙ ap (λ (x : ℕ). Some (Test x one zer)) (same_Some n tree f) }
tested_is flow k tree (Some (Jump to)) e f = absurd (cc f)
tested_is flow k tree (Some End) e f = absurd (cc f)

module _ (flow : List Flow) (image : Image) (marks : List Mark) (words : ℕ) (order : AreMarksAfter None image.marks) (same : marks ≡ image.marks) (long : words ≡ length image.words) (h : HasMarksOf flow image) where
  all_words : length (words_of image) ≡ words
  all_words = length-map image.words (λ (word : Word). word.word) ∙ sym long

  pub each_mark : (k : ℕ) (mark : Mark) → slice_get marks k ≡ Some mark → IsMarkOf flow words mark
  each_mark k mark e = by mark.label (label_there None image.marks order k mark (ap (λ (ms : List Mark). slice_get ms k) (sym same) ∙ e))
    where
      by : (label : Option ℕ) → label_at image.marks mark.address ≡ Some (checkpoint_of label) → IsLabelOf flow words mark.address label
      by None f = h.end_only mark.address f ∙ all_words
      by (Some tree) f = h.only mark.address tree f

  pub each_test : (k tree : ℕ) → tested_tree (slice_get flow k) ≡ Some tree → HasLabel marks (Some tree)
  each_test k tree e =
      let there : HasMark image tree = h.all tree (tested_is flow k tree (slice_get flow k) refl e) in
      let f = found_label image.marks there.address (At tree) there.marked in
      subst (λ (ms : List Mark). HasLabel ms (Some tree)) (sym same) (record { at = f.at; mark = f.mark; is = f.is; same = label_is_test f.mark.label tree f.same })

  pub the_end : 0 < length image.words → HasLabel marks None
  the_end some =
      let f = found_label image.marks (length image.words - 1) TheEnd (h.end (length image.words - 1) (let w = all_words in omega (arith, some, w, long))) in
      subst (λ (ms : List Mark). HasLabel ms None) (sym same) (record { at = f.at; mark = f.mark; is = f.is; same = label_is_end f.mark.label f.same })
