-- Trees mean the same in a state and over its cells.
use Rattle.std.proofs.Common.{ℕ, zero, suc, ◌≡◌, ◌≤◌, true, List, [], ◌∷◌, length, drop, refl, ap, arith, slice_index}
use Rattle.rec_bits.proofs.Booleans.{both}
use Rattle.rec_bits.specs.Operators.{apply1_of, apply2_of, slice_of, sext_of as extended_of}
use Rattle.net_model.specs.declared.hardware.Space.TheVariants.{Memory as InMemory, File as InFile}
use Rattle.net_model.specs.declared.states.State.{State}
use Rattle.net_model.specs.Exprs.{ExprModel, word, reg, const, read, un, bin, slice, cat, zext, sext, select, expr_width}
use Rattle.net_model.specs.Meaning.{mean}
use Rattle.form_model.specs.Trees.{is_tree}
use Rattle.src_trees.specs.Seen.{tree_value, ReadsCells}
use Rattle.emit_seq.specs.Leaves.{ReadsFrom as StateReads}

pub tree_mean : (t : ExprModel) (s : State) → is_tree t ≡ true → mean t s 0 ≡ tree_value s.cells t
tree_mean (word w) s h = absurd (cc h)
tree_mean (reg r w) s h = absurd (cc h)
tree_mean (const w v) s h = refl
tree_mean (read InMemory a w) s h = ap (slice_index s.cells) (tree_mean a s h)
tree_mean (read InFile a w) s h = absurd (cc h)
tree_mean (un o a) s h = ap (apply1_of o (expr_width a)) (tree_mean a s h)
tree_mean (bin o a b) s h =
    let k = both (is_tree a) (is_tree b) h in
    let p = tree_mean a s k.0 in
    let q = tree_mean b s k.1 in
    (λ j. apply2_of o (expr_width a) (p j) (q j))
tree_mean (slice a hi lo) s h = ap (λ n. slice_of n hi lo) (tree_mean a s h)
tree_mean (cat a b) s h = absurd (cc h)
tree_mean (zext a w) s h = tree_mean a s h
tree_mean (sext a w) s h = ap (λ n. extended_of n (expr_width a) w) (tree_mean a s h)
tree_mean (select c a b) s h = absurd (cc h)

pub tree_reads : (at : ℕ) (t : ExprModel) (s : State) → is_tree t ≡ true → ReadsCells at s.cells t → StateReads at s t
tree_reads at (word w) s h r = tt
tree_reads at (reg n w) s h r = tt
tree_reads at (const w v) s h r = tt
tree_reads at (read InFile a w) s h r = absurd (cc h)
tree_reads at (read InMemory a w) s h r = let e = tree_mean a s h in let l = r.1 in (omega (arith, e, l), tree_reads at a s h r.0)
tree_reads at (un o a) s h r = tree_reads at a s h r
tree_reads at (bin o a b) s h r = let k = both (is_tree a) (is_tree b) h in (tree_reads at a s k.0 r.0, tree_reads at b s k.1 r.1)
tree_reads at (slice a hi lo) s h r = tree_reads at a s h r
tree_reads at (cat a b) s h r = absurd (cc h)
tree_reads at (zext a w) s h r = tree_reads at a s h r
tree_reads at (sext a w) s h r = tree_reads at a s h r
tree_reads at (select c a b) s h r = absurd (cc h)

-- lists of one length that have the same entries from a place on, are the same from there on
pub same_behind : (at : ℕ) (xs ys : List ℕ) → length xs ≡ length ys → ((c : ℕ) → at ≤ c → slice_index xs c ≡ slice_index ys c) → drop at xs ≡ drop at ys
same_behind zero [] [] l f = refl
same_behind (suc at) [] [] l f = refl
same_behind at [] (y ∷ ys) l f = absurd (omega (arith, l))
same_behind at (x ∷ xs) [] l f = absurd (omega (arith, l))
same_behind zero (x ∷ xs) (y ∷ ys) l f =
    let e : x ≡ y = f 0 (omega arith) in
    let g : xs ≡ ys = same_behind zero xs ys (omega (arith, l)) (λ c h. f (suc c) (omega arith)) in
    (λ j. e j ∷ g j)
same_behind (suc at) (x ∷ xs) (y ∷ ys) l f = same_behind at xs ys (omega (arith, l)) (λ c h. f (suc c) (omega (arith, h)))
