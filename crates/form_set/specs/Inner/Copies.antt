-- Addresses and values as the code holds them.
use Rattle.std.specs.Prelude.{◌≡◌, option_map, ℕ, ◌^◌, ◌<◌, ◌≤◌, length, List, Option, if◌then◌else◌}
use Rattle.net_model.specs.Exprs.{expr_width}
use Rattle.sym_expr.specs.declared.pool.Node.{Node}
use Rattle.sym_expr.specs.Pools.{expr_of_id}
use Rattle.form_set.specs.declared.branches.BranchIds.{BranchIds}
use Rattle.form_set.specs.declared.branches.TargetId.{TargetId}
use Rattle.form_model.specs.Forms.{TargetModel, absolute, relative}
use Rattle.form_model.specs.Shapes.{Sum}
use Rattle.form_set.specs.declared.shapes.SumIds.{SumIds}
use Rattle.form_set.specs.Targets.{Branch}
use Rattle.operand_swaps.specs.Swaps.{SidesModel}

-- those of a pattern by its ids
abbrev pub ids_sides : List Node → Option ℕ → ℕ → SidesModel
ids_sides pool addr value = record { addr = option_map (expr_of_id pool) addr; value = expr_of_id pool value }

-- a target by its id
abbrev pub id_target : List Node → TargetId → TargetModel
id_target pool target =
    if target.relative then relative (expr_of_id pool target.expr)
    else absolute (expr_of_id pool target.expr)

-- a branch by its ids
abbrev pub ids_branch : List Node → BranchIds → Branch
ids_branch pool parts =
    record { when_one = parts.when_one; test = expr_of_id pool parts.test; to = id_target pool parts.target }

pub record AreBranchIds (size : ℕ) (parts : BranchIds) : Type 0 where
  pub test : parts.test < size
  pub target : parts.target.expr < size

-- a constant, with its width, and what it is added to, by its id
abbrev pub ids_sum : List Node → SumIds → Sum
ids_sum pool sum = record { width = sum.width; added = sum.added; to = expr_of_id pool sum.to }

-- what is known of a sum's parts
pub record IsSumOf (pool : List Node) (sum : SumIds) : Type 0 where
  pub to : sum.to < length pool
  pub low : 1 ≤ sum.width
  pub high : sum.width ≤ 64
  pub added : sum.added < 2 ^ sum.width
  pub wide : expr_width (expr_of_id pool sum.to) ≡ sum.width
