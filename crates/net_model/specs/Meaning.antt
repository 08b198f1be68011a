-- The value of an expression in a state under an instruction word.
use Rattle.std.specs.Prelude.{ℕ, ◌==◌, if◌then◌else◌, slice_index}
use Rattle.rec_bits.specs.Operators.{apply1_of, apply2_of, slice_of, cat_of, sext_of}
use Rattle.net_model.specs.declared.states.State.{State}
use Rattle.net_model.specs.Nets.{held}
use Rattle.net_model.specs.Exprs.{ExprModel, word, reg, const, read, un, bin, slice, cat, zext, sext, select, expr_width}

abbrev pub mean : ExprModel → State → ℕ → ℕ
mean (word w) s i = i
mean (reg r w) s i = slice_index s.regs r
mean (const w v) s i = v
mean (read space a w) s i = slice_index (held s space) (mean a s i)
mean (un o a) s i = apply1_of o (expr_width a) (mean a s i)
mean (bin o a b) s i = apply2_of o (expr_width a) (mean a s i) (mean b s i)
mean (slice a hi lo) s i = slice_of (mean a s i) hi lo
mean (cat a b) s i = cat_of (mean a s i) (mean b s i) (expr_width b)
mean (zext a w) s i = mean a s i
mean (sext a w) s i = sext_of (mean a s i) (expr_width a) w
mean (select c a b) s i = if mean c s i == 1 then mean a s i else mean b s i
