-- What the layout answers.
use Rattle.std.specs.Prelude.{ℕ, ◌≡◌, ◌≤◌, ◌<◌, List, length}
use Rattle.form_model.specs.declared.flow.Flow.{Flow}
use Rattle.form_model.specs.declared.forms.Forms.{Forms}
use Rattle.form_model.specs.Forms.{FormModel, models_of_forms}
use Rattle.branch_fix.specs.declared.laid.Laid.{Laid}
use Rattle.branch_fix.specs.declared.outline.Branch.{Branch}
use Rattle.branch_fix.specs.declared.outline.Outline.{Outline}
use Rattle.branch_fix.specs.declared.fault.LayFault.{LayFault}
use Rattle.branch_fix.specs.declared.fault.LayFault.TheVariants.{NoReach, ImageFull, Memory}
use Rattle.branch_fix.specs.declared.part.LayoutPart.{LayoutPart}
use Rattle.branch_fix.specs.Parts.{parts_of, starts, marks_from, total}
use Rattle.branch_fix.specs.Rounds.{IsFixpoint}
use Rattle.branch_fix.specs.Items.{jump_form, items_from}
use Rattle.branch_fix.specs.Marked.{AreMarked}

-- what is laid out: a flow, the words of its blocks, the branch of each test, the forms and the
-- greatest reach of the jump forms among them, how many words there are, and how many the code has
-- at most
pub record OutlineModel : Type 0 where
  pub flow : List Flow
  pub sizes : List ℕ
  pub branches : List Branch
  pub forms : List FormModel
  pub reach : ℕ
  pub words : ℕ
  pub bound : ℕ

abbrev pub outline : List Flow → List ℕ → List Branch → Forms → ℕ → ℕ → OutlineModel
outline flow sizes branches forms words bound =
    record {
      flow = flow;
      sizes = sizes;
      branches = branches;
      forms = models_of_forms forms.list.items;
      reach = forms.reach;
      words = words;
      bound = bound;
    }

abbrev pub model_of_outline : Outline → OutlineModel
model_of_outline o = outline o.flow.now o.sizes.now o.branches.now o.forms.now o.words o.bound

-- its parts when rounds have changed the branches
abbrev pub ArePartsOf : OutlineModel → List LayoutPart → Type 0
ArePartsOf o parts = IsFixpoint o.forms (parts_of o.forms o.flow o.sizes o.branches) parts

-- the words and the marks of the parts; no jump has to reach further than jumps do, and there are
-- as many words as the code has
pub record IsLaid (o : OutlineModel) (laid : Laid) : Type 0 where
  pub parts : List LayoutPart
  pub settled : ArePartsOf o parts
  pub items : laid.items ≡ items_from o.forms (jump_form o.forms o.reach) (starts parts) 0 parts
  pub long : length laid.items ≡ total parts
  pub marks : laid.marks ≡ marks_from 0 parts
  pub marked : AreMarked o.flow (length laid.items) laid.marks
  pub reached : o.bound ≤ o.reach
  pub fits : length laid.items ≤ o.words
  pub most : length laid.items ≤ o.bound

-- the code of so many words is longer than there are words
pub record IsImageFull (o : OutlineModel) (len : ℕ) : Type 0 where
  pub parts : List LayoutPart
  pub settled : ArePartsOf o parts
  pub long : len ≡ total parts
  pub above : o.words < len
  pub most : len ≤ o.bound

abbrev pub IsLayFault : OutlineModel → LayFault → Type 0
IsLayFault o (NoReach bound reach) = (o.reach < o.bound) × (bound ≡ o.bound) × (reach ≡ o.reach)
IsLayFault o (ImageFull len size bound) = (o.bound ≤ o.reach) × IsImageFull o len × (size ≡ o.words) × (bound ≡ o.bound)
IsLayFault o Memory = Unit {0}
