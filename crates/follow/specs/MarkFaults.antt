-- What is wrong first with the marks of an image: a test of a program's flow without a mark; the mark of
-- the end, which the last word has and no other; a mark whose number is that of no test.
use Rattle.std.specs.Prelude.{ℕ, ◌+◌, ◌≡◌, ◌<◌, List, length, Some, slice_get}
use Rattle.src_model.specs.declared.checkpoint.Checkpoint.TheVariants.{At, End as TheEnd}
use Rattle.code_model.specs.declared.image.Image.{Image}
use Rattle.code_model.specs.Places.{label_at, words_of}
use Rattle.form_model.specs.declared.flow.Flow.{Flow}
use Rattle.form_model.specs.declared.flow.Flow.TheVariants.{Test}
use Rattle.follow.specs.RightByViews.{HasMark, HasMarksOf, IsTestOf}
use Rattle.follow.specs.declared.mark_faults.MarkFault.{MarkFault}
use Rattle.follow.specs.declared.mark_faults.MarkFault.TheVariants.{Unmarked, End, Stray}

-- each test has a mark
abbrev pub AreTestsMarked : List Flow → Image → Type 0
AreTestsMarked flow image = (tree : ℕ) → IsTestOf flow tree → HasMark image tree

-- the first test without a mark, in the order of the flow
pub record IsUnmarked (flow : List Flow) (image : Image) (tree : ℕ) : Type 0 where
  pub at : ℕ
  pub when_one : ℕ
  pub when_zero : ℕ
  pub is : slice_get flow at ≡ Some (Test tree when_one when_zero)
  pub unmarked : HasMark image tree → ⊥
  pub before : (k other one zero : ℕ) → k < at → slice_get flow k ≡ Some (Test other one zero) → HasMark image other

-- there is a last word, which has the mark of the end, and no other word has it
pub record HasEnd (image : Image) : Type 0 where
  pub last : ℕ
  pub long : length (words_of image) ≡ last + 1
  pub end : label_at image.marks last ≡ Some TheEnd
  pub only : (address : ℕ) → label_at image.marks address ≡ Some TheEnd → address ≡ last

-- the first mark, by address, whose number is that of no test
pub record IsStray (flow : List Flow) (image : Image) (address tree : ℕ) : Type 0 where
  pub marked : label_at image.marks address ≡ Some (At tree)
  pub none : IsTestOf flow tree → ⊥
  pub before : (earlier other : ℕ) → earlier < address → label_at image.marks earlier ≡ Some (At other) → IsTestOf flow other

-- the marks are those of the flow, and there is a last word, which ends them
pub record AreMarksRight (flow : List Flow) (image : Image) : Type 0 where
  pub marks : HasMarksOf flow image
  pub end : HasEnd image

-- what is wrong first
abbrev pub IsMarkFault : List Flow → Image → MarkFault → Type 0
IsMarkFault flow image (Unmarked tree) = IsUnmarked flow image tree
IsMarkFault flow image End = AreTestsMarked flow image × (HasEnd image → ⊥)
IsMarkFault flow image (Stray address tree) = AreTestsMarked flow image × HasEnd image × IsStray flow image address tree
