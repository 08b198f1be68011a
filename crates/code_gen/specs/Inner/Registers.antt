-- The registers that the condition of a branch reads, as a set of bits.
use Rattle.std.specs.Prelude.{◌≡◌, ◌<◌, ℕ, List, Option, Some, None, slice_get}
use Rattle.net_model.specs.Patterns.{Pattern}
use Rattle.net_model.specs.Exprs.{ExprModel, select, TransferModel, write}
use Rattle.form_model.specs.Effects.{register, expr_reads}
use Rattle.form_model.specs.Live.{regs_of}

-- that by which a transfer chooses between two values
abbrev pub transfer_condition : TransferModel → Option ExprModel
transfer_condition (write (select c a b)) = Some c
transfer_condition move = None

abbrev pub pattern_condition : Option Pattern → Option ExprModel
pattern_condition None = None
pattern_condition (Some pattern) = transfer_condition pattern.move

-- the set has the registers below 16 that the condition of the pattern of this number reads, under
-- any setting
abbrev pub AreConditionReads : List Pattern → ℕ → ℕ → Type 0
AreConditionReads patterns number set =
    (condition : ExprModel) → pattern_condition (slice_get patterns number) ≡ Some condition →
    (setting r : ℕ) → r < 16 → regs_of set r ≡ expr_reads setting condition (register r)
