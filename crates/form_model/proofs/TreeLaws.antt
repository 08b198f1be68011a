-- A tree is an expression in which no register and no instruction bit occurs.
use Rattle.std.proofs.Common.{◌≡◌, ℕ, true, false, true≢false, refl, sym}
use Rattle.std.specs.Prelude.{bit_or}
use Rattle.std.proofs.lemmas.Bool.{and_from}
use Rattle.rec_bits.proofs.Booleans.{both, or_from}
use Rattle.net_model.specs.declared.hardware.Space.TheVariants.{Memory as InMemory, File as InFile}
use Rattle.net_model.specs.Exprs.{ExprModel, word, reg, const, read, un, bin, slice, cat, zext, sext, select}
use Rattle.net_model.specs.Fields.{fields}
use Rattle.net_model.specs.Occurs.{occurs}
use Rattle.form_model.specs.declared.trees.Tree.{Tree}
use Rattle.form_model.specs.declared.trees.Tree.TheVariants.{Lit, Read', Un', Bin', Slice', Zext', Sext'}
use Rattle.form_model.specs.Trees.{HasNoState, is_tree, model_of_tree}

pub tree_is : (tree : Tree) → is_tree (model_of_tree tree) ≡ true
tree_is (Lit w v) = refl
tree_is (Read' p a w) = tree_is a
tree_is (Un' o p a) = tree_is a
tree_is (Bin' o p a q b) = and_from (is_tree (model_of_tree a)) (is_tree (model_of_tree b)) (tree_is a) (tree_is b)
tree_is (Slice' p a hi lo) = tree_is a
tree_is (Zext' p a w) = tree_is a
tree_is (Sext' p a w) = tree_is a

no_bits : (a b : ℕ) → a ≡ 0 → b ≡ 0 → bit_or a b ≡ 0
no_bits a b p q = rw (p, q) refl

no_register : (r : ℕ) (t : ExprModel) → is_tree t ≡ true → occurs r t ≡ false
no_register r (const w v) h = refl
no_register r (read InMemory a w) h = no_register r a h
no_register r (read InFile a w) h = absurd (true≢false (sym h))
no_register r (un o a) h = no_register r a h
no_register r (bin o a b) h =
    (let p = both (is_tree a) (is_tree b) h in or_from (occurs r a) (occurs r b) (no_register r a p.0) (no_register r b p.1))
no_register r (slice a hi lo) h = no_register r a h
no_register r (zext a w) h = no_register r a h
no_register r (sext a w) h = no_register r a h
no_register r (word w) h = absurd (true≢false (sym h))
no_register r (reg q w) h = absurd (true≢false (sym h))
no_register r (cat a b) h = absurd (true≢false (sym h))
no_register r (select c a b) h = absurd (true≢false (sym h))

no_bit : (t : ExprModel) → is_tree t ≡ true → fields t ≡ 0
no_bit (const w v) h = refl
no_bit (read InMemory a w) h = no_bit a h
no_bit (read InFile a w) h = absurd (true≢false (sym h))
no_bit (un o a) h = no_bit a h
no_bit (bin o a b) h = (let p = both (is_tree a) (is_tree b) h in no_bits (fields a) (fields b) (no_bit a p.0) (no_bit b p.1))
no_bit (slice (const w v) hi lo) h = refl
no_bit (slice (read InMemory a w) hi lo) h = no_bit (read InMemory a w) h
no_bit (slice (read InFile a w) hi lo) h = absurd (true≢false (sym h))
no_bit (slice (un o a) hi lo) h = no_bit (un o a) h
no_bit (slice (bin o a b) hi lo) h = no_bit (bin o a b) h
no_bit (slice (slice a i l) hi lo) h = no_bit (slice a i l) h
no_bit (slice (zext a w) hi lo) h = no_bit (zext a w) h
no_bit (slice (sext a w) hi lo) h = no_bit (sext a w) h
no_bit (slice (word w) hi lo) h = absurd (true≢false (sym h))
no_bit (slice (reg q w) hi lo) h = absurd (true≢false (sym h))
no_bit (slice (cat a b) hi lo) h = absurd (true≢false (sym h))
no_bit (slice (select c a b) hi lo) h = absurd (true≢false (sym h))
no_bit (zext a w) h = no_bit a h
no_bit (sext a w) h = no_bit a h
no_bit (word w) h = absurd (true≢false (sym h))
no_bit (reg q w) h = absurd (true≢false (sym h))
no_bit (cat a b) h = absurd (true≢false (sym h))
no_bit (select c a b) h = absurd (true≢false (sym h))

pub has_no_state : (t : ExprModel) → is_tree t ≡ true → HasNoState t
has_no_state t h = record { no_register = λ r. no_register r t h; no_bit = no_bit t h }
