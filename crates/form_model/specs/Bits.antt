-- The bits of the instruction word that occur in an expression.
use Rattle.std.specs.Prelude.{ℕ, Bool, true, false, ◌||◌, ◌&&◌, nat_le}
use Rattle.net_model.specs.Exprs.{ExprModel, word, reg, const, read, un, bin, slice, cat, zext, sext, select}

-- the bit occurs in the expression
abbrev pub uses : ExprModel → ℕ → Bool
uses (word w) k = true
uses (reg r w) k = false
uses (const w v) k = false
uses (read space a w) k = uses a k
uses (un o a) k = uses a k
uses (bin o a b) k = uses a k || uses b k
uses (slice (word w) hi lo) k = nat_le lo k && nat_le k hi
uses (slice a hi lo) k = uses a k
uses (cat a b) k = uses a k || uses b k
uses (zext a w) k = uses a k
uses (sext a w) k = uses a k
uses (select c a b) k = uses c k || (uses a k || uses b k)
