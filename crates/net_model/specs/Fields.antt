-- The instruction bits that occur in an expression, as a mask, and words of the width with which it
-- names them.
use Rattle.std.specs.Prelude.{ℕ, ◌+◌, ◌-◌, ◌^◌, ◌<◌, bit_or}
use Rattle.net_model.specs.Exprs.{ExprModel, word, reg, const, read, un, bin, slice, cat, zext, sext, select, TransferModel, keep, write, write_at}

-- the bits from one down to another
abbrev pub bits_between : ℕ → ℕ → ℕ
bits_between hi lo = 2 ^ (hi + 1) - 2 ^ lo

-- the instruction word has all its bits, and a slice of it the bits that it takes
abbrev pub fields : ExprModel → ℕ
fields (word w) = 2 ^ w - 1
fields (reg r w) = 0
fields (const w v) = 0
fields (read space a w) = fields a
fields (un o a) = fields a
fields (bin o a b) = bit_or (fields a) (fields b)
fields (slice (word w) hi lo) = bits_between hi lo
fields (slice a hi lo) = fields a
fields (cat a b) = bit_or (fields a) (fields b)
fields (zext a w) = fields a
fields (sext a w) = fields a
fields (select c a b) = bit_or (bit_or (fields c) (fields a)) (fields b)

-- those of a transfer: of its address and of its value
abbrev pub transfer_fields : TransferModel → ℕ
transfer_fields keep = 0
transfer_fields (write e) = fields e
transfer_fields (write_at a e) = bit_or (fields a) (fields e)

-- ---- words of the right width

-- the word has the width with which the expression names it
abbrev pub WordFitsExpr : ExprModel → ℕ → Type 0
WordFitsExpr (word w) i = i < 2 ^ w
WordFitsExpr (reg r w) i = Unit {0}
WordFitsExpr (const w v) i = Unit {0}
WordFitsExpr (read space a w) i = WordFitsExpr a i
WordFitsExpr (un o a) i = WordFitsExpr a i
WordFitsExpr (bin o a b) i = WordFitsExpr a i × WordFitsExpr b i
WordFitsExpr (slice a hi lo) i = WordFitsExpr a i
WordFitsExpr (cat a b) i = WordFitsExpr a i × WordFitsExpr b i
WordFitsExpr (zext a w) i = WordFitsExpr a i
WordFitsExpr (sext a w) i = WordFitsExpr a i
WordFitsExpr (select c a b) i = WordFitsExpr c i × WordFitsExpr a i × WordFitsExpr b i

-- and with which a transfer names it
abbrev pub WordFitsTransfer : TransferModel → ℕ → Type 0
WordFitsTransfer keep i = Unit {0}
WordFitsTransfer (write e) i = WordFitsExpr e i
WordFitsTransfer (write_at a e) i = WordFitsExpr a i × WordFitsExpr e i
