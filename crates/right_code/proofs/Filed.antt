-- What swaps leave of reads of the register file, and where the tied read is.
use Rattle.std.proofs.Common.{◌≡◌, ℕ, zero, suc, ◌+◌, ◌&&◌, ◌||◌, not, if◌then◌else◌, Bool, true, false, true≢false, List, [], ◌∷◌, ◌++◌, length, length-append, Option, Some, None, slice_get, refl, sym, ap, subst, ◌∙◌, arith}
use Rattle.std.specs.Prelude.{is_some}
use Rattle.std.proofs.lemmas.Bool.{and_parts}
use Rattle.rec_bits.specs.declared.operator.Op2.{Op2}
use Rattle.rec_bits.proofs.Booleans.{or_comm}
use Rattle.net_model.specs.declared.hardware.Space.TheVariants.{Memory as InMemory, File as InFile}
use Rattle.net_model.specs.Exprs.{ExprModel, word, reg, const, read, un, bin, slice, cat, zext, sext, select}
use Rattle.form_model.specs.Matches.{HomeModel, in_file}
use Rattle.form_model.specs.Shapes.{is_plain, is_shape, shows_below}
use Rattle.form_set.specs.Static.{reads_shown}
use Rattle.operand_swaps.specs.Swaps.{Path, can_swap, ordered, swap_at, swaps_here}
use Rattle.form_set.specs.Targets.{first_of}
use Rattle.form_set.specs.Tied.{behind, operand_count, same_expr, tied_place}
use Rattle.form_set.proofs.ShapeBits.{both_plain}
use Rattle.operand_swaps.proofs.SumSwaps.{plain_same}
use Rattle.form_set.proofs.TiedLaws.{either_tied, expr_is}
use Rattle.emit_seq.specs.Formed.{CellsShown, homes_in}

-- ---- addresses

-- each read of the file shows every cell
pub shown_of : (size : ℕ) (t : ExprModel) → reads_shown size t ≡ true → CellsShown size t
shown_of size (word w) h = tt
shown_of size (reg r w) h = tt
shown_of size (const w v) h = tt
shown_of size (read InMemory a w) h = shown_of size a h
shown_of size (read InFile a w) h = and_parts (is_shape a) (shows_below a size) h
shown_of size (un o a) h = shown_of size a h
shown_of size (bin o a b) h = (let p = and_parts (reads_shown size a) (reads_shown size b) h in (shown_of size a p.0, shown_of size b p.1))
shown_of size (slice a hi lo) h = shown_of size a h
shown_of size (cat a b) h = (let p = and_parts (reads_shown size a) (reads_shown size b) h in (shown_of size a p.0, shown_of size b p.1))
shown_of size (zext a w) h = shown_of size a h
shown_of size (sext a w) h = shown_of size a h
shown_of size (select c a b) h =
    let p = and_parts (reads_shown size c) (reads_shown size a && reads_shown size b) h in
    let q = and_parts (reads_shown size a) (reads_shown size b) p.1 in
    (shown_of size c p.0, shown_of size a q.0, shown_of size b q.1)

-- no operator of a field shape is swapped
pub shape_same : (f : Path → Bool) (t : ExprModel) → is_shape t ≡ true → swap_at f t ≡ t
shape_same f (bin o a b) h =
    let p = both_plain o a b h in
    let stays : (swaps_here o a b && f []) ≡ false = ap (λ s. (can_swap o && not s) && f []) h ∙ none (can_swap o) in
    (λ j. ordered (stays j) o (plain_same (λ q. f (0 ∷ q)) a p.0 j) (plain_same (λ q. f (1 ∷ q)) b p.1 j))
  where
    none : (c : Bool) → ((c && false) && f []) ≡ false
    none true = refl
    none false = refl
shape_same f (word w) h = plain_same f (word w) h
shape_same f (reg r w) h = refl
shape_same f (const w v) h = plain_same f (const w v) h
shape_same f (read space a w) h = absurd (true≢false (sym h))
shape_same f (un o a) h = absurd (true≢false (sym h))
shape_same f (slice a hi lo) h = plain_same f (slice a hi lo) h
shape_same f (cat a b) h = absurd (true≢false (sym h))
shape_same f (zext a w) h = plain_same f (zext a w) h
shape_same f (sext a w) h = plain_same f (sext a w) h
shape_same f (select c a b) h = absurd (true≢false (sym h))

turned_shown : (size : ℕ) (s : Bool) (o : Op2) (a b : ExprModel) → CellsShown size a → CellsShown size b → CellsShown size (ordered s o a b)
turned_shown size true o a b h k = (k, h)
turned_shown size false o a b h k = (h, k)

pub swapped_shown : (size : ℕ) (f : Path → Bool) (t : ExprModel) → CellsShown size t → CellsShown size (swap_at f t)
swapped_shown size f (word w) h = tt
swapped_shown size f (reg r w) h = tt
swapped_shown size f (const w v) h = tt
swapped_shown size f (read InMemory a w) h = swapped_shown size (λ p. f (0 ∷ p)) a h
swapped_shown size f (read InFile a w) h = subst (λ x. (is_shape x ≡ true) × (shows_below x size ≡ true)) (sym (shape_same (λ p. f (0 ∷ p)) a h.0)) h
swapped_shown size f (un o a) h = swapped_shown size (λ p. f (0 ∷ p)) a h
swapped_shown size f (bin o a b) h =
    turned_shown size (swaps_here o a b && f []) o _ _ (swapped_shown size (λ p. f (0 ∷ p)) a h.0) (swapped_shown size (λ p. f (1 ∷ p)) b h.1)
swapped_shown size f (slice a hi lo) h = swapped_shown size (λ p. f (0 ∷ p)) a h
swapped_shown size f (cat a b) h = (swapped_shown size (λ p. f (0 ∷ p)) a h.0, swapped_shown size (λ p. f (1 ∷ p)) b h.1)
swapped_shown size f (zext a w) h = swapped_shown size (λ p. f (0 ∷ p)) a h
swapped_shown size f (sext a w) h = swapped_shown size (λ p. f (0 ∷ p)) a h
swapped_shown size f (select c a b) h =
    (swapped_shown size (λ p. f (0 ∷ p)) c h.0, swapped_shown size (λ p. f (1 ∷ p)) a h.1, swapped_shown size (λ p. f (2 ∷ p)) b h.2)

-- ---- the tied read

-- whether the file is read at an address
abbrev pub reads_at : ExprModel → ExprModel → Bool
reads_at at t = is_some (tied_place at t)

turned_reads : (at : ExprModel) (s : Bool) (o : Op2) (a b : ExprModel) → reads_at at (ordered s o a b) ≡ (reads_at at a || reads_at at b)
turned_reads at true o a b = either_tied b (tied_place at b) (tied_place at a) ∙ or_comm (reads_at at b) (reads_at at a)
turned_reads at false o a b = either_tied a (tied_place at a) (tied_place at b)

-- swaps leave it
pub swapped_reads : (size : ℕ) (at : ExprModel) (f : Path → Bool) (t : ExprModel) → CellsShown size t → reads_at at (swap_at f t) ≡ reads_at at t
swapped_reads size at f (word w) h = refl
swapped_reads size at f (reg r w) h = refl
swapped_reads size at f (const w v) h = refl
swapped_reads size at f (read InMemory a w) h = swapped_reads size at (λ p. f (0 ∷ p)) a h
swapped_reads size at f (read InFile a w) h = ap (λ x. is_some {T = ℕ} (if same_expr x at then Some 0 else None)) (shape_same (λ p. f (0 ∷ p)) a h.0)
swapped_reads size at f (un o a) h = swapped_reads size at (λ p. f (0 ∷ p)) a h
swapped_reads size at f (bin o a b) h =
    turned_reads at (swaps_here o a b && f []) o (swap_at (λ p. f (0 ∷ p)) a) (swap_at (λ p. f (1 ∷ p)) b)
    ∙ (λ j. swapped_reads size at (λ p. f (0 ∷ p)) a h.0 j || swapped_reads size at (λ p. f (1 ∷ p)) b h.1 j) ∙ sym (either_tied a (tied_place at a) (tied_place at b))
swapped_reads size at f (slice a hi lo) h = swapped_reads size at (λ p. f (0 ∷ p)) a h
swapped_reads size at f (cat a b) h =
    either_tied (swap_at (λ p. f (0 ∷ p)) a) (tied_place at (swap_at (λ p. f (0 ∷ p)) a)) (tied_place at (swap_at (λ p. f (1 ∷ p)) b))
    ∙ (λ j. swapped_reads size at (λ p. f (0 ∷ p)) a h.0 j || swapped_reads size at (λ p. f (1 ∷ p)) b h.1 j) ∙ sym (either_tied a (tied_place at a) (tied_place at b))
swapped_reads size at f (zext a w) h = swapped_reads size at (λ p. f (0 ∷ p)) a h
swapped_reads size at f (sext a w) h = swapped_reads size at (λ p. f (0 ∷ p)) a h
swapped_reads size at f (select c a b) h =
    either_tied (swap_at (λ p. f (0 ∷ p)) c) (tied_place at (swap_at (λ p. f (0 ∷ p)) c))
    (first_of (tied_place at (swap_at (λ p. f (1 ∷ p)) a)) (behind (swap_at (λ p. f (1 ∷ p)) a) (tied_place at (swap_at (λ p. f (2 ∷ p)) b))))
    ∙ (λ j. swapped_reads size at (λ p. f (0 ∷ p)) c h.0 j
    || (either_tied (swap_at (λ p. f (1 ∷ p)) a) (tied_place at (swap_at (λ p. f (1 ∷ p)) a)) (tied_place at (swap_at (λ p. f (2 ∷ p)) b))
    ∙ (λ i. swapped_reads size at (λ p. f (1 ∷ p)) a h.1 i || swapped_reads size at (λ p. f (2 ∷ p)) b h.2 i) ∙ sym (either_tied a (tied_place at a) (tied_place at b))) j)
    ∙ sym (either_tied c (tied_place at c) (first_of (tied_place at a) (behind a (tied_place at b))))

-- ---- its place among the homes

choose_none : (b : Bool) (homes : List HomeModel) (n : ℕ) → (b ≡ true → n ≡ 0) → (b ≡ false → length homes ≡ n) → length (if b then [] else homes) ≡ n
choose_none true homes n h k = sym (h refl)
choose_none false homes n h k = k refl

-- a field shape has no operand
plain_count : (t : ExprModel) → is_plain t ≡ true → operand_count t ≡ 0
plain_count (word w) h = refl
plain_count (const w v) h = refl
plain_count (slice (word w) hi lo) h = refl
plain_count (zext (word v) w) h = refl
plain_count (zext (slice (word v) hi lo) w) h = refl
plain_count (sext (word v) w) h = refl
plain_count (sext (slice (word v) hi lo) w) h = refl
plain_count t h = absurd (true≢false (sym h))

shape_count : (t : ExprModel) → is_shape t ≡ true → operand_count t ≡ 0
shape_count (bin o a b) h = (let p = both_plain o a b h in let x = plain_count a p.0 in let y = plain_count b p.1 in omega (arith, x, y))
shape_count (word w) h = plain_count (word w) h
shape_count (const w v) h = plain_count (const w v) h
shape_count (slice a hi lo) h = plain_count (slice a hi lo) h
shape_count (zext a w) h = plain_count (zext a w) h
shape_count (sext a w) h = plain_count (sext a w) h
shape_count (reg r w) h = absurd (true≢false (sym h))
shape_count (read space a w) h = absurd (true≢false (sym h))
shape_count (un o a) h = absurd (true≢false (sym h))
shape_count (cat a b) h = absurd (true≢false (sym h))
shape_count (select c a b) h = absurd (true≢false (sym h))

pub homes_count : (t : ExprModel) → length (homes_in t) ≡ operand_count t
homes_count (word w) = refl
homes_count (reg r w) = refl
homes_count (const w v) = refl
homes_count (read InMemory a w) = choose_none (is_shape a) (homes_in a) (operand_count a) (shape_count a) (λ e. homes_count a)
homes_count (read InFile a w) = refl
homes_count (un o a) = homes_count a
homes_count (bin o a b) = (let l = length-append (homes_in a) (homes_in b) in let x = homes_count a in let y = homes_count b in omega (arith, l, x, y))
homes_count (slice a hi lo) = choose_none (is_shape (slice a hi lo)) (homes_in a) (operand_count a) (shape_count (slice a hi lo)) (λ e. homes_count a)
homes_count (cat a b) = (let l = length-append (homes_in a) (homes_in b) in let x = homes_count a in let y = homes_count b in omega (arith, l, x, y))
homes_count (zext a w) = choose_none (is_shape (zext a w)) (homes_in a) (operand_count a) (shape_count (zext a w)) (λ e. homes_count a)
homes_count (sext a w) = choose_none (is_shape (sext a w)) (homes_in a) (operand_count a) (shape_count (sext a w)) (λ e. homes_count a)
homes_count (select c a b) =
    (let l = length-append (homes_in c) (homes_in a ++ homes_in b) in let m = length-append (homes_in a) (homes_in b) in
    let x = homes_count c in let y = homes_count a in let z = homes_count b in omega (arith, l, m, x, y, z))

front_at : (xs ys : List HomeModel) (k : ℕ) (h : HomeModel) → slice_get xs k ≡ Some h → slice_get (xs ++ ys) k ≡ Some h
front_at [] ys k h e = absurd (cc)
front_at (x ∷ xs) ys zero h e = e
front_at (x ∷ xs) ys (suc k) h e = front_at xs ys k h e

back_at : (xs ys : List HomeModel) (k : ℕ) (h : HomeModel) → slice_get ys k ≡ Some h → slice_get (xs ++ ys) (length xs + k) ≡ Some h
back_at [] ys k h e = subst (λ n. slice_get ys n ≡ Some h) (let z : k ≡ 0 + k = omega arith in z) e
back_at (x ∷ xs) ys k h e = subst (λ n. slice_get (x ∷ (xs ++ ys)) n ≡ Some h) (let z : suc (length xs + k) ≡ suc (length xs) + k = omega arith in z) (back_at xs ys k h e)

-- the place of the tied read among those of two expressions
both_home : (at a : ExprModel) (p q : Option ℕ) (xs ys : List HomeModel) → length xs ≡ operand_count a → ((k : ℕ) → p ≡ Some k → slice_get xs k ≡ Some (in_file at)) → ((k : ℕ) → q ≡ Some k → slice_get ys k ≡ Some (in_file at))
    → (k : ℕ) → first_of p (behind a q) ≡ Some k → slice_get (xs ++ ys) k ≡ Some (in_file at)
both_home at a (Some j) q xs ys long f g k e = front_at xs ys k (in_file at) (f k e)
both_home at a None None xs ys long f g k e = absurd (cc)
both_home at a None (Some j) xs ys long f g k e =
    let same : operand_count a + j ≡ k = cc in
    subst (λ n. slice_get (xs ++ ys) n ≡ Some (in_file at)) (ap (λ n. n + j) long ∙ same) (back_at xs ys j (in_file at) (g j refl))

-- no read of the file is in a field shape
not_in_shape : (b : Bool) (at : ExprModel) (homes : List HomeModel) (p : Option ℕ) (k : ℕ) → p ≡ Some k → (b ≡ true → p ≡ None) → (b ≡ false → slice_get homes k ≡ Some (in_file at)) → slice_get (if b then [] else homes) k ≡ Some (in_file at)
not_in_shape true at homes p k e none f = (let n = none refl in absurd (cc))
not_in_shape false at homes p k e none f = f refl

plain_untied : (at t : ExprModel) → is_plain t ≡ true → tied_place at t ≡ None
plain_untied at (word w) h = refl
plain_untied at (const w v) h = refl
plain_untied at (slice (word w) hi lo) h = refl
plain_untied at (zext (word v) w) h = refl
plain_untied at (zext (slice (word v) hi lo) w) h = refl
plain_untied at (sext (word v) w) h = refl
plain_untied at (sext (slice (word v) hi lo) w) h = refl
plain_untied at t h = absurd (true≢false (sym h))

shape_untied : (at t : ExprModel) → is_shape t ≡ true → tied_place at t ≡ None
shape_untied at (bin o a b) h = (let p = both_plain o a b h in (λ j. first_of (plain_untied at a p.0 j) (behind a (plain_untied at b p.1 j))))
shape_untied at (word w) h = plain_untied at (word w) h
shape_untied at (const w v) h = plain_untied at (const w v) h
shape_untied at (slice a hi lo) h = plain_untied at (slice a hi lo) h
shape_untied at (zext a w) h = plain_untied at (zext a w) h
shape_untied at (sext a w) h = plain_untied at (sext a w) h
shape_untied at (reg r w) h = absurd (true≢false (sym h))
shape_untied at (read space a w) h = absurd (true≢false (sym h))
shape_untied at (un o a) h = absurd (true≢false (sym h))
shape_untied at (cat a b) h = absurd (true≢false (sym h))
shape_untied at (select c a b) h = absurd (true≢false (sym h))

pub tied_home : (at t : ExprModel) (k : ℕ) → tied_place at t ≡ Some k → slice_get (homes_in t) k ≡ Some (in_file at)
tied_home at (word w) k e = absurd (cc)
tied_home at (reg r w) k e = absurd (cc)
tied_home at (const w v) k e = absurd (cc)
tied_home at (read InMemory a w) k e = not_in_shape (is_shape a) at (homes_in a) (tied_place at a) k e (shape_untied at a) (λ f. tied_home at a k e)
tied_home at (read InFile a w) k e = here (same_expr a at) refl e
  where
    here : (b : Bool) → same_expr a at ≡ b → (if b then Some 0 else None) ≡ Some k → slice_get (in_file a ∷ []) k ≡ Some (in_file at)
    here true s f = (let z : 0 ≡ k = cc in subst (λ n. slice_get (in_file a ∷ []) n ≡ Some (in_file at)) z (ap (λ x. Some (in_file x)) (expr_is a at s)))
    here false s f = absurd (cc)
tied_home at (un o a) k e = tied_home at a k e
tied_home at (bin o a b) k e = both_home at a (tied_place at a) (tied_place at b) (homes_in a) (homes_in b) (homes_count a) (tied_home at a) (tied_home at b) k e
tied_home at (slice a hi lo) k e = not_in_shape (is_shape (slice a hi lo)) at (homes_in a) (tied_place at a) k e (shape_untied at (slice a hi lo)) (λ f. tied_home at a k e)
tied_home at (cat a b) k e = both_home at a (tied_place at a) (tied_place at b) (homes_in a) (homes_in b) (homes_count a) (tied_home at a) (tied_home at b) k e
tied_home at (zext a w) k e = not_in_shape (is_shape (zext a w)) at (homes_in a) (tied_place at a) k e (shape_untied at (zext a w)) (λ f. tied_home at a k e)
tied_home at (sext a w) k e = not_in_shape (is_shape (sext a w)) at (homes_in a) (tied_place at a) k e (shape_untied at (sext a w)) (λ f. tied_home at a k e)
tied_home at (select c a b) k e =
    both_home at c (tied_place at c) (first_of (tied_place at a) (behind a (tied_place at b))) (homes_in c) (homes_in a ++ homes_in b) (homes_count c) (tied_home at c)
    (both_home at a (tied_place at a) (tied_place at b) (homes_in a) (homes_in b) (homes_count a) (tied_home at a) (tied_home at b)) k e
