-- How the marks of an image are found to be those of a flow.
use Rattle.std.specs.Prelude.{ℕ, ◌+◌, ◌≡◌, ◌<◌, List, Option, Some, None, slice_get}
use Rattle.code_model.specs.declared.image.Mark.{Mark}
use Rattle.form_model.specs.declared.flow.Flow.{Flow}
use Rattle.form_model.specs.declared.flow.Flow.TheVariants.{Assign, Test, Jump, End}
use Rattle.follow.specs.RightByViews.{IsTestOf}
use Rattle.follow.specs.declared.mark_faults.MarkFault.{MarkFault}
use Rattle.follow.specs.declared.mark_faults.MarkFault.TheVariants.{Stray}

-- the tree of a test
abbrev pub tested_tree : Option Flow → Option ℕ
tested_tree None = None
tested_tree (Some (Assign tree)) = None
tested_tree (Some (Test tree when_one when_zero)) = Some tree
tested_tree (Some (Jump to)) = None
tested_tree (Some End) = None

-- the mark of a test of the flow, or of the end at the last of so many words
abbrev pub IsLabelOf : List Flow → ℕ → ℕ → Option ℕ → Type 0
IsLabelOf flow words address None = address + 1 ≡ words
IsLabelOf flow words address (Some tree) = IsTestOf flow tree

abbrev pub IsMarkOf : List Flow → ℕ → Mark → Type 0
IsMarkOf flow words mark = IsLabelOf flow words mark.address mark.label

-- some mark has this label
pub record HasLabel (marks : List Mark) (label : Option ℕ) : Type 0 where
  pub at : ℕ
  pub mark : Mark
  pub is : slice_get marks at ≡ Some mark
  pub same : mark.label ≡ label

-- ---- what is wrong with marks

-- each test has a label
abbrev pub AreLabelled : List Flow → List Mark → Type 0
AreLabelled flow marks = (k tree : ℕ) → tested_tree (slice_get flow k) ≡ Some tree → HasLabel marks (Some tree)

-- the first test without one
pub record IsBare (flow : List Flow) (marks : List Mark) (tree : ℕ) : Type 0 where
  pub at : ℕ
  pub is : tested_tree (slice_get flow at) ≡ Some tree
  pub bare : HasLabel marks (Some tree) → ⊥
  pub before : (k other : ℕ) → k < at → tested_tree (slice_get flow k) ≡ Some other → HasLabel marks (Some other)

-- each mark of the end is that of the last of so many words
abbrev pub AreOnLast : ℕ → List Mark → Type 0
AreOnLast words marks = (k : ℕ) (mark : Mark) → slice_get marks k ≡ Some mark → mark.label ≡ None → mark.address + 1 ≡ words

-- each number of a mark is a test's
abbrev pub AreLabelsTested : List Flow → List Mark → Type 0
AreLabelsTested flow marks =
    (k : ℕ) (mark : Mark) (tree : ℕ) → slice_get marks k ≡ Some mark → mark.label ≡ Some tree → IsTestOf flow tree

-- the first mark of which it isn't
pub record IsFirstStray (flow : List Flow) (marks : List Mark) (fault : MarkFault) : Type 0 where
  pub at : ℕ
  pub mark : Mark
  pub tree : ℕ
  pub is : slice_get marks at ≡ Some mark
  pub label : mark.label ≡ Some tree
  pub told : fault ≡ Stray mark.address tree
  pub none : IsTestOf flow tree → ⊥
  pub before : (k : ℕ) (other : Mark) (number : ℕ) → k < at → slice_get marks k ≡ Some other → other.label ≡ Some number → IsTestOf flow number
