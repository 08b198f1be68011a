-- An expression that doesn't read the destination of a step means the same after it.
use Rattle.std.proofs.Common.{◌≡◌, ℕ, ◌==◌, ◌||◌, ◌&&◌, Bool, true, false, if◌then◌else◌, List, slice_index, slice_set, refl, sym, ◌∙◌, ap, subst}
use Rattle.std.proofs.lemmas.Bool.{true≢false, eqb-false, or_parts}
use Rattle.std.proofs.lemmas.List.{get_or-set_other}
use Rattle.rec_bits.specs.Operators.{apply1_of, slice_of, sext_of}
use Rattle.net_model.specs.declared.hardware.Space.{Space}
use Rattle.net_model.specs.declared.hardware.Space.TheVariants.{Memory as InMemory, File as InFile}
use Rattle.net_model.specs.MemoryText.{with_cell}
use Rattle.net_model.specs.Nets.{held}
use Rattle.net_model.specs.declared.states.State.{State}
use Rattle.net_model.specs.Exprs.{ExprModel, word, reg, const, read, un, bin, slice, cat, zext, sext, select, expr_width, TransferModel, keep, write, write_at}
use Rattle.net_model.specs.Symbolic.{no_state}
use Rattle.net_model.specs.Meaning.{mean}
use Rattle.form_model.specs.Shapes.{is_shape}
use Rattle.form_model.specs.Effects.{register, cell_at, some_cell, may_see, location_at, transfer_location, expr_reads, apply_transfer}
use Rattle.form_model.proofs.Spaces.{space_self}
use Rattle.word_fit.proofs.Follows.{put_regs}
use Rattle.form_set.proofs.ShapeBits.{shape_blank}

-- both are settled, and they differ
parts : (space : Space) (b c : Bool) (v w : ℕ) → may_see (if b then cell_at space v else some_cell space) (if c then cell_at space w else some_cell space) ≡ false → (b ≡ true) × (c ≡ true) × (v ≡ w → ⊥)
parts space true true v w e = (refl, refl, eqb-false v w (subst (λ k. (k && (v == w)) ≡ false) (space_self space) e))
parts space true false v w e = absurd (true≢false (sym (space_self space) ∙ e))
parts space false true v w e = absurd (true≢false (sym (space_self space) ∙ e))
parts space false false v w e = absurd (true≢false (sym (space_self space) ∙ e))

-- a read and a write of one space that can't meet have different addresses, in every state
pub addresses_differ : (space : Space) (i : ℕ) (a : ExprModel) (s : State) (j : ℕ) (b : ExprModel) (o : State) → may_see (location_at space i a) (location_at space j b) ≡ false → mean a s i ≡ mean b o j → ⊥
addresses_differ space i a s j b o e same =
    let p : (is_shape a ≡ true) × (is_shape b ≡ true) × (mean a no_state i ≡ mean b no_state j → ⊥) = parts space (is_shape a) (is_shape b) (mean a no_state i) (mean b no_state j) e in
    p.2 (cc (shape_blank a p.0 s i, shape_blank b p.1 o j))

-- a cell is read past a write of another one, or of the other space
read_past : (n : State) (space at : Space) (x y k : ℕ) → (space ≡ at → k ≡ x → ⊥) → slice_index (held (with_cell n at x y) space) k ≡ slice_index (held n space) k
read_past n InMemory InMemory x y k h = get_or-set_other n.cells x k y 0 (h refl)
read_past n InMemory InFile x y k h = refl
read_past n InFile InMemory x y k h = refl
read_past n InFile InFile x y k h = get_or-set_other n.file x k y 0 (h refl)

apart_in : (space at : Space) (i : ℕ) (a : ExprModel) (s : State) (j : ℕ) (b : ExprModel) (o : State) → may_see (location_at space i a) (location_at at j b) ≡ false → space ≡ at → mean a s i ≡ mean b o j → ⊥
apart_in space at i a s j b o e same =
    addresses_differ space i a s j b o (subst (λ z. may_see (location_at space i a) (location_at z j b) ≡ false) (sym same) e)

pub mean_apart : (t : ExprModel) (i storage : ℕ) (at : Space) (setting : ℕ) (move : TransferModel) (o n : State) → expr_reads i t (transfer_location storage at setting move) ≡ false → mean t (apply_transfer storage at move setting o n) i ≡ mean t n i
mean_apart t i storage at setting keep o n e = refl
mean_apart (word w) i storage at setting move o n e = refl
mean_apart (reg r w) i storage at setting (write v) o n e = get_or-set_other n.regs storage r (mean v o setting) 0 (λ k. eqb-false storage r e (sym k))
mean_apart (reg r w) i storage at setting (write_at b v) o n e = ap (λ (z : List ℕ). slice_index z r) (put_regs n at (mean b o setting) (mean v o setting))
mean_apart (const w v) i storage at setting move o n e = refl
mean_apart (read InMemory a w) i storage at setting (write v) o n e =
    let p : (may_see (location_at InMemory i a) (register storage) ≡ false) × (expr_reads i a (register storage) ≡ false) = or_parts (may_see (location_at InMemory i a) (register storage)) (expr_reads i a (register storage)) e in
    ap (λ k. slice_index n.cells k) (mean_apart a i storage at setting (write v) o n p.1)
mean_apart (read InFile a w) i storage at setting (write v) o n e =
    let p : (may_see (location_at InFile i a) (register storage) ≡ false) × (expr_reads i a (register storage) ≡ false) = or_parts (may_see (location_at InFile i a) (register storage)) (expr_reads i a (register storage)) e in
    ap (λ k. slice_index n.file k) (mean_apart a i storage at setting (write v) o n p.1)
mean_apart (read space a w) i storage at setting (write_at b v) o n e =
    let p : (may_see (location_at space i a) (location_at at setting b) ≡ false) × (expr_reads i a (location_at at setting b) ≡ false) = or_parts (may_see (location_at space i a) (location_at at setting b)) (expr_reads i a (location_at at setting b)) e in
    ap (λ k. slice_index (held (with_cell n at (mean b o setting) (mean v o setting)) space) k) (mean_apart a i storage at setting (write_at b v) o n p.1)
    ∙ read_past n space at (mean b o setting) (mean v o setting) (mean a n i) (apart_in space at i a n setting b o p.0)
mean_apart (un op a) i storage at setting move o n e = ap (λ x. apply1_of op (expr_width a) x) (mean_apart a i storage at setting move o n e)
mean_apart (bin op a b) i storage at setting move o n e =
    let p : (expr_reads i a (transfer_location storage at setting move) ≡ false) × (expr_reads i b (transfer_location storage at setting move) ≡ false) = or_parts _ _ e in
    cc (mean_apart a i storage at setting move o n p.0, mean_apart b i storage at setting move o n p.1)
mean_apart (slice a hi lo) i storage at setting move o n e = ap (λ x. slice_of x hi lo) (mean_apart a i storage at setting move o n e)
mean_apart (cat a b) i storage at setting move o n e =
    let p : (expr_reads i a (transfer_location storage at setting move) ≡ false) × (expr_reads i b (transfer_location storage at setting move) ≡ false) = or_parts _ _ e in
    cc (mean_apart a i storage at setting move o n p.0, mean_apart b i storage at setting move o n p.1)
mean_apart (zext a w) i storage at setting move o n e = mean_apart a i storage at setting move o n e
mean_apart (sext a w) i storage at setting move o n e = ap (λ x. sext_of x (expr_width a) w) (mean_apart a i storage at setting move o n e)
mean_apart (select c a b) i storage at setting move o n e =
    let p : (expr_reads i c (transfer_location storage at setting move) ≡ false) × ((expr_reads i a (transfer_location storage at setting move) || expr_reads i b (transfer_location storage at setting move)) ≡ false) = or_parts _ _ e in
    let q : (expr_reads i a (transfer_location storage at setting move) ≡ false) × (expr_reads i b (transfer_location storage at setting move) ≡ false) = or_parts _ _ p.1 in
    cc (mean_apart c i storage at setting move o n p.0, mean_apart a i storage at setting move o n q.0, mean_apart b i storage at setting move o n q.1)
