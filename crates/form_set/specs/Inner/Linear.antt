-- Whether a register or an instruction bit occurs twice in an expression, computed from the sets of
-- those that occur in its parts.
use Rattle.std.specs.Prelude.{ℕ, ◌==◌, ◌&&◌, Bool, true, bit_and, bit_or}
use Rattle.net_model.specs.Exprs.{ExprModel, word, reg, const, read, un, bin, slice, cat, zext, sext, select, TransferModel, keep, write, write_at}
use Rattle.net_model.specs.Fields.{fields}
use Rattle.net_model.specs.Occurs.{registers}

-- two sets have no more in common than a third
abbrev pub meet_in : ℕ → ℕ → ℕ → Bool
meet_in set a b = bit_or (bit_and a b) set == set

-- two expressions have no instruction bit in common, and no register but the free ones
abbrev pub are_apart : ℕ → ExprModel → ExprModel → Bool
are_apart free a b = meet_in free (registers a) (registers b) && meet_in 0 (fields a) (fields b)

-- no register but the free ones and no instruction bit occurs twice in an expression: no two
-- operands have one in common
abbrev pub is_linear : ℕ → ExprModel → Bool
is_linear free (word w) = true
is_linear free (reg r w) = true
is_linear free (const w v) = true
is_linear free (read space a w) = is_linear free a
is_linear free (un o a) = is_linear free a
is_linear free (bin o a b) = are_apart free a b && (is_linear free a && is_linear free b)
is_linear free (slice a hi lo) = is_linear free a
is_linear free (cat a b) = are_apart free a b && (is_linear free a && is_linear free b)
is_linear free (zext a w) = is_linear free a
is_linear free (sext a w) = is_linear free a
is_linear free (select c a b) =
    (are_apart free c a && (are_apart free c b && are_apart free a b))
    && (is_linear free c && (is_linear free a && is_linear free b))

-- so it is for a transfer, address and value together
abbrev pub transfer_linear : ℕ → TransferModel → Bool
transfer_linear free keep = true
transfer_linear free (write e) = is_linear free e
transfer_linear free (write_at a e) = are_apart free a e && (is_linear free a && is_linear free e)
