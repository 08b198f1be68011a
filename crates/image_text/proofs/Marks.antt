-- The order of marks.
use Rattle.std.proofs.Common.{◌≡◌, ℕ, ◌-◌, List, [], ◌∷◌, ◌++◌, length, true, Option, Some, None, refl, ap, ◌∙◌, arith}
use Rattle.std.proofs.lemmas.Bool.{ltb-true, lt-ltb}
use Rattle.std.specs.Prelude.{nat_lt, slice_get}
use Rattle.rec_bits.proofs.Booleans.{both}
use Rattle.code_model.specs.declared.image.Mark.{Mark}
use Rattle.code_model.specs.ImageFits.{MayFollow, HasNumber, AreMarksAfter}
use Rattle.image_text.specs.Inner.Fronts.{has_number, may_follow, last_mark}

last_from : (mark : Mark) (marks : List Mark) → last_mark (Some mark) marks ≡ slice_get (mark ∷ marks) (length marks)
last_from mark [] = refl
last_from mark (next ∷ marks) = last_from next marks

pub last_mark-get : (marks : List Mark) → last_mark None marks ≡ slice_get marks (length marks - 1)
last_mark-get [] = refl
last_mark-get (mark ∷ marks) = let e : length (mark ∷ marks) - 1 ≡ length marks = omega arith in last_from mark marks ∙ ap (slice_get (mark ∷ marks)) (omega arith)

number_true : (label : Option ℕ) → has_number label ≡ true → HasNumber label
number_true None e = cc
number_true (Some n) e = tt

number_again : (label : Option ℕ) → HasNumber label → has_number label ≡ true
number_again None h = absurd h
number_again (Some n) h = refl

pub follow_true : (last : Option Mark) (mark : Mark) → may_follow last mark ≡ true → MayFollow last mark
follow_true None mark e = tt
follow_true (Some last) mark e =
    let p = both (nat_lt last.address mark.address) (has_number last.label) e in
    (ltb-true last.address mark.address p.0, number_true last.label p.1)

pub follow_again : (last : Option Mark) (mark : Mark) → MayFollow last mark → may_follow last mark ≡ true
follow_again None mark h = refl
follow_again (Some last) mark h = rw (lt-ltb last.address mark.address h.0, number_again last.label h.1) refl

pub marks-snoc : (last : Option Mark) (marks : List Mark) (mark : Mark) → AreMarksAfter last marks → MayFollow (last_mark last marks) mark → AreMarksAfter last (marks ++ (mark ∷ []))
marks-snoc last [] mark h f = (f, tt)
marks-snoc last (m ∷ marks) mark h f = (h.0, marks-snoc (Some m) marks mark h.1 f)

pub last-snoc : (last : Option Mark) (marks : List Mark) (mark : Mark) → last_mark last (marks ++ (mark ∷ [])) ≡ Some mark
last-snoc last [] mark = refl
last-snoc last (m ∷ marks) mark = last-snoc (Some m) marks mark
