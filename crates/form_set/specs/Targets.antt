-- What jumps and branches consist of. The step of the program counter, a target that reaches as
-- far as any jump or lies so many words on as a field says that shows 2, and what a branch
-- consists of.
use Rattle.std.specs.Prelude.{ℕ, ◌&&◌, Bool, true, false, if◌then◌else◌, nat_le, Option, Some, None}
use Rattle.net_model.specs.Exprs.{ExprModel, bin, select}
use Rattle.rec_bits.specs.declared.operator.Op2.TheVariants.{Add}
use Rattle.form_model.specs.Shapes.{is_shape_in, reach_of, shows}
use Rattle.form_model.specs.Forms.{TargetModel, absolute, relative}
use Rattle.transfer_set.specs.Stepping.{is_next, is_reg}
use Rattle.transfer_set.specs.declared.stepping.Counter.{Counter}

-- ---- targets, in texts of an edition

-- an address that the word tells, which reaches as far as jumps do
abbrev pub is_absolute : ℕ → ℕ → ExprModel → Bool
is_absolute edition reach t = is_shape_in edition t && nat_le reach (reach_of t)

abbrev pub absolute_target : ℕ → ℕ → ExprModel → Option TargetModel
absolute_target edition reach t = if is_absolute edition reach t then Some (absolute t) else None

abbrev pub distance_if : ℕ → Bool → ExprModel → Option TargetModel
distance_if edition b t = if b && (is_shape_in edition t && shows t 2) then Some (relative t) else None

abbrev pub first_of : {A : Type 0} → Option A → Option A → Option A
first_of (Some x) later = Some x
first_of None later = later

-- so many words on, where the word tells how many, among them two
abbrev pub relative_target : ℕ → Counter → ExprModel → Option TargetModel
relative_target edition pc (bin Add a b) =
    first_of (distance_if edition (is_reg pc a) b) (distance_if edition (is_reg pc b) a)
relative_target edition pc _ = None

-- the targets that are used: absolute ones that reach as far as jumps do, and distances among which
-- is two
abbrev pub allowed_target : ℕ → Counter → ℕ → ExprModel → Option TargetModel
allowed_target edition pc reach t = first_of (absolute_target edition reach t) (relative_target edition pc t)

-- ---- branches

-- a branch: its condition, its target, and whether it goes there where the condition is 1
pub record Branch : Type 0 where
  pub when_one : Bool
  pub test : ExprModel
  pub to : TargetModel

abbrev pub branch_to : Bool → ExprModel → Option TargetModel → Option Branch
branch_to when_one test None = None
branch_to when_one test (Some to) = Some (record { when_one = when_one; test = test; to = to })

abbrev pub branch_if : Bool → Bool → ExprModel → Option TargetModel → Option Branch
branch_if b when_one test to = if b then branch_to when_one test to else None

-- one of the two is the step, and the other an allowed target
abbrev pub select_branch : ℕ → Counter → ℕ → ExprModel → ExprModel → ExprModel → Option Branch
select_branch edition pc reach c a b =
    first_of (branch_if (is_next pc b) true c (allowed_target edition pc reach a))
    (branch_if (is_next pc a) false c (allowed_target edition pc reach b))

abbrev pub expr_branch : ℕ → Counter → ℕ → ExprModel → Option Branch
expr_branch edition pc reach (select c a b) = select_branch edition pc reach c a b
expr_branch edition pc reach _ = None
