-- What the code finds out of a pattern, and what it adds to a list of forms.
use Rattle.std.specs.Prelude.{◌≡◌, ℕ, max, true, List, [], ◌∷◌, ◌++◌, Option, Some, None, length}
use Rattle.net_model.specs.declared.hardware.Netlist.{Netlist}
use Rattle.net_model.specs.Patterns.{Pattern}
use Rattle.sym_expr.specs.declared.pool.Node.{Node}
use Rattle.form_model.specs.Forms.{FormModel}
use Rattle.form_model.specs.Shapes.{reach_of}
use Rattle.form_set.specs.declared.branches.BranchIds.{BranchIds}
use Rattle.form_set.specs.declared.classes.Class.{Class}
use Rattle.form_set.specs.declared.classes.Class.TheVariants.{Plain, Jump, Branch, Other}
use Rattle.form_set.specs.Inner.Copies.{AreBranchIds, ids_branch}
use Rattle.net_model.specs.Occurs.{IsLinear}
use Rattle.form_set.specs.Static.{cells_shown, is_file_at, transfer_shaped}
use Rattle.form_set.specs.Tied.{counted}
use Rattle.form_set.specs.Listing.{AreFormModelsOf, IsBranch, IsJump, IsPlain}
use Rattle.form_set.specs.Targets.{Branch as Parts}
use Rattle.form_set.specs.Words.{AreClobbers}

-- the expressions of a pattern are those of a plain one
pub record IsApt (netlist : Netlist) (pattern : Pattern) : Type 0 where
  pub linear : IsLinear 0 (counted (is_file_at netlist pattern.storage) pattern.move)
  pub shapes : transfer_shaped netlist.edition pattern.move ≡ true
  pub cells : cells_shown netlist pattern ≡ true

-- a plain pattern with its clobbers, or none
abbrev pub IsPlainOr : Netlist → Pattern → Option ℕ → Type 0
IsPlainOr netlist pattern None = IsPlain netlist pattern → ⊥
IsPlainOr netlist pattern (Some clobbers) = IsPlain netlist pattern × AreClobbers netlist pattern clobbers

-- a branch with its parts, or none
abbrev pub IsBranchOr : Netlist → List Node → ℕ → Pattern → Option BranchIds → Type 0
IsBranchOr netlist pool reach pattern None = (parts : Parts) → IsBranch netlist reach pattern parts → ⊥
IsBranchOr netlist pool reach pattern (Some parts) = IsBranch netlist reach pattern (ids_branch pool parts)

-- what a pattern is
abbrev pub IsClass : Netlist → List Node → ℕ → Pattern → Class → Type 0
IsClass netlist pool reach pattern (Plain clobbers) = IsPlain netlist pattern × AreClobbers netlist pattern clobbers
IsClass netlist pool reach pattern Jump = IsJump netlist pattern
IsClass netlist pool reach pattern (Branch parts) =
    IsBranch netlist reach pattern (ids_branch pool parts) × AreBranchIds (length pool) parts
IsClass netlist pool reach pattern Other =
    (IsPlain netlist pattern → ⊥) × (IsJump netlist pattern → ⊥)
    × ((parts : Parts) → IsBranch netlist reach pattern parts → ⊥)

-- a list with the forms of a pattern after the others
pub record HasAdded (netlist : Netlist) (reach number : ℕ) (pattern : Pattern) (old new : List FormModel) : Type 0 where
  pub forms : List FormModel
  pub of : AreFormModelsOf netlist reach number pattern forms
  pub is : new ≡ old ++ forms

-- how far a jump form of a pattern reaches, and 0 where it gives none
pub data IsReachOf (netlist : Netlist) (pattern : Pattern) (reach : ℕ) : Type 0 where
  jumps_to : (h : IsJump netlist pattern) → reach ≡ reach_of h.target → IsReachOf netlist pattern reach
  jumps_not : (IsJump netlist pattern → ⊥) → reach ≡ 0 → IsReachOf netlist pattern reach

-- the greatest of these
abbrev pub IsGreatestReach : Netlist → List Pattern → ℕ → Type 0
IsGreatestReach netlist [] reach = reach ≡ 0
IsGreatestReach netlist (pattern ∷ patterns) reach =
    (first : ℕ) × (rest : ℕ) × IsReachOf netlist pattern first
    × IsGreatestReach netlist patterns rest × (reach ≡ max first rest)
