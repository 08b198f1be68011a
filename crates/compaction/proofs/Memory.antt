-- A step that reads neither the memory nor the file reads nothing that a store writes.
use Rattle.std.proofs.Common.{◌≡◌, ℕ, ◌||◌, Bool, true, false, if◌then◌else◌, refl, sym}
use Rattle.std.proofs.lemmas.Bool.{true≢false, or_from, or_parts}
use Rattle.net_model.specs.declared.hardware.Space.{Space}
use Rattle.net_model.specs.Exprs.{ExprModel, word, reg, const, read, un, bin, slice, cat, zext, sext, select, TransferModel, keep, write, write_at}
use Rattle.net_model.specs.Symbolic.{no_state}
use Rattle.net_model.specs.Meaning.{mean}
use Rattle.net_model.specs.Occurs.{has_read, transfer_has_read}
use Rattle.form_model.specs.Shapes.{is_shape}
use Rattle.form_model.specs.Effects.{LocationModel, Operation, cell_at, some_cell, names_register, is_store, location_of, transfer_location, transfer_reads, reads, expr_reads}

-- the location is no register
abbrev IsCell : LocationModel → Type 0
IsCell p = (r : ℕ) → names_register p r ≡ false

expr_unread : (t : ExprModel) (i : ℕ) (p : LocationModel) → IsCell p → has_read t ≡ false → expr_reads i t p ≡ false
expr_unread (word w) i p h e = refl
expr_unread (reg r w) i p h e = h r
expr_unread (const w v) i p h e = refl
expr_unread (read space a w) i p h e = absurd (true≢false e)
expr_unread (un o a) i p h e = expr_unread a i p h e
expr_unread (bin o a b) i p h e =
    let q : (has_read a ≡ false) × (has_read b ≡ false) = or_parts (has_read a) (has_read b) e in
    or_from (expr_reads i a p) (expr_reads i b p) (expr_unread a i p h q.0) (expr_unread b i p h q.1)
expr_unread (slice a hi lo) i p h e = expr_unread a i p h e
expr_unread (cat a b) i p h e =
    let q : (has_read a ≡ false) × (has_read b ≡ false) = or_parts (has_read a) (has_read b) e in
    or_from (expr_reads i a p) (expr_reads i b p) (expr_unread a i p h q.0) (expr_unread b i p h q.1)
expr_unread (zext a w) i p h e = expr_unread a i p h e
expr_unread (sext a w) i p h e = expr_unread a i p h e
expr_unread (select c a b) i p h e =
    let q : (has_read c ≡ false) × ((has_read a || has_read b) ≡ false) = or_parts (has_read c) (has_read a || has_read b) e in
    let k : (has_read a ≡ false) × (has_read b ≡ false) = or_parts (has_read a) (has_read b) q.1 in
    or_from (expr_reads i c p) (expr_reads i a p || expr_reads i b p) (expr_unread c i p h q.0)
    (or_from (expr_reads i a p) (expr_reads i b p) (expr_unread a i p h k.0) (expr_unread b i p h k.1))

transfer_unread : (move : TransferModel) (i : ℕ) (p : LocationModel) → IsCell p → transfer_has_read move ≡ false → transfer_reads i move p ≡ false
transfer_unread keep i p h e = refl
transfer_unread (write t) i p h e = expr_unread t i p h e
transfer_unread (write_at a t) i p h e =
    let q : (has_read a ≡ false) × (has_read t ≡ false) = or_parts (has_read a) (has_read t) e in
    or_from (expr_reads i a p) (expr_reads i t p) (expr_unread a i p h q.0) (expr_unread t i p h q.1)

stored_cell : (storage : ℕ) (space : Space) (setting : ℕ) (move : TransferModel) → is_store move ≡ true → IsCell (transfer_location storage space setting move)
stored_cell storage space setting keep e = absurd (true≢false (sym e))
stored_cell storage space setting (write t) e = absurd (true≢false (sym e))
stored_cell storage space setting (write_at a t) e = λ r. by (is_shape a) r
  where
    by : (b : Bool) (r : ℕ) → names_register (if b then cell_at space (mean a no_state setting) else some_cell space) r ≡ false
    by true r = refl
    by false r = refl

-- what reads neither doesn't read what a store writes
pub unseen : (d q : Operation) → is_store q.move ≡ true → transfer_has_read d.move ≡ false → reads d (location_of q) ≡ false
unseen d q e h = transfer_unread d.move d.setting (location_of q) (stored_cell q.storage q.space q.setting q.move e) h
