-- Field shapes of texts of an edition are field shapes.
use Rattle.std.proofs.Common.{◌≡◌, ℕ, ◌^◌, ◌==◌, ◌&&◌, nat_le, nat_lt, if◌then◌else◌, Bool, true, false, true≢false, Option, Some, None, refl, sym}
use Rattle.net_model.specs.Exprs.{ExprModel, word, reg, const, read, un, bin, slice, cat, zext, sext, select, expr_width}
use Rattle.form_model.specs.Shapes.{is_plain, is_plain_sum, is_shape, is_shape_in, sum_with}

plain_shape : (t : ExprModel) → is_plain t ≡ true → is_shape t ≡ true
plain_shape (word w) h = h
plain_shape (reg r w) h = h
plain_shape (const w v) h = h
plain_shape (read space a w) h = h
plain_shape (un o a) h = h
plain_shape (bin o a b) h = absurd (true≢false (sym h))
plain_shape (slice a hi lo) h = h
plain_shape (cat a b) h = h
plain_shape (zext a w) h = h
plain_shape (sext a w) h = h
plain_shape (select c a b) h = h

pub shape_from : (edition : ℕ) (t : ExprModel) → is_shape_in edition t ≡ true → is_shape t ≡ true
shape_from edition t = by (nat_lt edition 2)
  where
    by : (b : Bool) → (if b then is_plain t else is_shape t) ≡ true → is_shape t ≡ true
    by true h = plain_shape t h
    by false h = h

-- what a constant is added to is plain
pub no_sum_with : (w c : ℕ) (t : ExprModel) → is_plain t ≡ false → is_plain_sum (sum_with w c t) ≡ false
no_sum_with w c t p = by (nat_le w 64 && (nat_lt c (2 ^ w) && (expr_width t == w)))
  where
    by : (b : Bool) → is_plain_sum (if b then Some (record { width = w; added = c; to = t }) else None) ≡ false
    by true = p
    by false = refl
