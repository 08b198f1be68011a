-- A register that an expression reads is one that occurs in it.
use Rattle.std.proofs.Common.{◌≡◌, ℕ, ◌||◌, refl}
use Rattle.rec_bits.proofs.Equality.{number_turned}
use Rattle.net_model.specs.Exprs.{ExprModel, word, reg, const, read, un, bin, slice, cat, zext, sext, select, TransferModel, keep, write, write_at}
use Rattle.net_model.specs.Occurs.{occurs, transfer_occurs}
use Rattle.form_model.specs.Effects.{register, expr_reads, transfer_reads}

pub reads_occurs : (t : ExprModel) (i r : ℕ) → expr_reads i t (register r) ≡ occurs r t
reads_occurs (word w) i r = refl
reads_occurs (reg q w) i r = number_turned r q
reads_occurs (const w v) i r = refl
reads_occurs (read space a w) i r = reads_occurs a i r
reads_occurs (un o a) i r = reads_occurs a i r
reads_occurs (bin o a b) i r = (λ j. reads_occurs a i r j || reads_occurs b i r j)
reads_occurs (slice a hi lo) i r = reads_occurs a i r
reads_occurs (cat a b) i r = (λ j. reads_occurs a i r j || reads_occurs b i r j)
reads_occurs (zext a w) i r = reads_occurs a i r
reads_occurs (sext a w) i r = reads_occurs a i r
reads_occurs (select c a b) i r = (λ j. reads_occurs c i r j || (reads_occurs a i r j || reads_occurs b i r j))

-- so it is for a transfer
pub transfer_reads_occurs : (move : TransferModel) (i r : ℕ) → transfer_reads i move (register r) ≡ transfer_occurs r move
transfer_reads_occurs keep i r = refl
transfer_reads_occurs (write e) i r = reads_occurs e i r
transfer_reads_occurs (write_at a e) i r = (λ j. reads_occurs a i r j || reads_occurs e i r j)
