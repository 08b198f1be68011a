-- Each numbered tree of a job has its own subtrees behind it.
use Rattle.std.proofs.Common.{◌≡◌, ℕ, zero, suc, ◌+◌, List, [], ◌∷◌, ◌++◌, length, Some, arith, refl, sym, ap, ◌∙◌, inl, inr, ◌⊎◌}
use Rattle.std.specs.Prelude.{slice_get}
use Rattle.rec_bits.proofs.Lists.{get_left_some, get_right}
use Rattle.net_model.specs.Exprs.{ExprModel, word, reg, const, read, un, bin, slice, cat, zext, sext, select, size_of}
use Rattle.form_model.specs.Forms.{DestinationModel, into, filed, cell, stored, temporary, tested}
use Rattle.tree_grammar.specs.Numbers.{subtrees, HoldsSubtrees}
use Rattle.tree_grammar.specs.Leaves.{Stands}
use Rattle.tree_grammar.proofs.NumberLemmas.{size_length}
use Rattle.tree_sharing.specs.Sharing.{job_nodes}

-- behind each tree of the list stand its subtrees
abbrev pub Whole : List ExprModel → Type 0
Whole xs = (n : ℕ) (t : ExprModel) (k : ℕ) (s : ExprModel) → slice_get xs n ≡ Some t → slice_get (subtrees t) k ≡ Some s → slice_get xs (n + k) ≡ Some s

pub get_split : (xs ys : List ExprModel) (n : ℕ) (t : ExprModel) → slice_get (xs ++ ys) n ≡ Some t → (slice_get xs n ≡ Some t) ⊎ ((m : ℕ) × (n ≡ length xs + m) × (slice_get ys m ≡ Some t))
get_split [] ys n t h = inr (n, omega arith, h)
get_split (x ∷ xs) ys zero t h = inl h
get_split (x ∷ xs) ys (suc n) t h = elim (get_split xs ys n t h) [
  | inl a ↦ inl a
  | inr b ↦ inr (b.0, (let e = b.1 in omega (arith, e)), b.2)
]

whole_none : Whole []
whole_none n t k s h = absurd (cc)

whole_append : (xs ys : List ExprModel) → Whole xs → Whole ys → Whole (xs ++ ys)
whole_append xs ys wx wy n t k s h get = elim (get_split xs ys n t h) [
  | inl a ↦ get_left_some xs ys (n + k) s (wx n t k s a get)
  | inr b ↦ (let e : n + k ≡ length xs + (b.0 + k) = (let f = b.1 in omega (arith, f)) in
      ap (slice_get (xs ++ ys)) e ∙ get_right xs ys (b.0 + k) ∙ wy b.0 t k s b.2 get)
]

whole_root : (x : ExprModel) (xs : List ExprModel) → subtrees x ≡ x ∷ xs → Whole xs → Whole (x ∷ xs)
whole_root x xs e w zero t k s h get =
    let same : x ≡ t = cc in
    let f : 0 + k ≡ k = omega arith in
    ap (slice_get (x ∷ xs)) f ∙ sym (ap (λ l. slice_get l k) e) ∙ ap (λ u. slice_get (subtrees u) k) same ∙ get
whole_root x xs e w (suc n) t k s h get = let f : suc n + k ≡ suc (n + k) = omega arith in ap (slice_get (x ∷ xs)) f ∙ w n t k s h get

pub whole_tree : (t : ExprModel) → Whole (subtrees t)
whole_tree (word w) = whole_root (word w) [] refl whole_none
whole_tree (reg r w) = whole_root (reg r w) [] refl whole_none
whole_tree (const w v) = whole_root (const w v) [] refl whole_none
whole_tree (read space a w) = whole_root (read space a w) (subtrees a) refl (whole_tree a)
whole_tree (un o a) = whole_root (un o a) (subtrees a) refl (whole_tree a)
whole_tree (bin o a b) = whole_root (bin o a b) (subtrees a ++ subtrees b) refl (whole_append (subtrees a) (subtrees b) (whole_tree a) (whole_tree b))
whole_tree (slice a x y) = whole_root (slice a x y) (subtrees a) refl (whole_tree a)
whole_tree (cat a b) = whole_root (cat a b) (subtrees a ++ subtrees b) refl (whole_append (subtrees a) (subtrees b) (whole_tree a) (whole_tree b))
whole_tree (zext a w) = whole_root (zext a w) (subtrees a) refl (whole_tree a)
whole_tree (sext a w) = whole_root (sext a w) (subtrees a) refl (whole_tree a)
whole_tree (select c a b) = whole_root (select c a b) (subtrees c ++ (subtrees a ++ subtrees b)) refl (whole_append (subtrees c) (subtrees a ++ subtrees b) (whole_tree c) (whole_append (subtrees a) (subtrees b) (whole_tree a) (whole_tree b)))

whole_job : (destination : DestinationModel) (t : ExprModel) → Whole (job_nodes destination t)
whole_job (stored a) t = whole_append (subtrees a) (subtrees t) (whole_tree a) (whole_tree t)
whole_job (into id) t = whole_tree t
whole_job filed t = whole_tree t
whole_job (cell a) t = whole_tree t
whole_job temporary t = whole_tree t
whole_job tested t = whole_tree t

pub nodes_hold : (destination : DestinationModel) (u : ExprModel) (n : ℕ) (t : ExprModel) → slice_get (job_nodes destination u) n ≡ Some t → HoldsSubtrees (job_nodes destination u) n t
nodes_hold destination u n t h k s get = whole_job destination u n t k s h get

pub from_start : (xs : List ExprModel) (k : ℕ) (s : ExprModel) → slice_get xs k ≡ Some s → slice_get xs (0 + k) ≡ Some s
from_start xs k s h = let e : 0 + k ≡ k = omega arith in ap (slice_get xs) e ∙ h

-- the trees of the instance begin at 0
pub root_stands : (destination : DestinationModel) (t : ExprModel) → Stands (job_nodes destination t) 0 destination t
root_stands (stored a) t = record {
  address = λ k s get. from_start (subtrees a ++ subtrees t) k s (get_left_some (subtrees a) (subtrees t) k s get);
  value = λ k s get. (let e : 0 + size_of a + k ≡ length (subtrees a) + k = (let l = size_length a in omega (arith, l)) in ap (slice_get (subtrees a ++ subtrees t)) e ∙ get_right (subtrees a) (subtrees t) k ∙ get);
}
root_stands filed t = record { address = tt; value = from_start (subtrees t) }
root_stands (into id) t = record { address = tt; value = from_start (subtrees t) }
root_stands (cell a) t = record { address = tt; value = from_start (subtrees t) }
root_stands temporary t = record { address = tt; value = from_start (subtrees t) }
root_stands tested t = record { address = tt; value = from_start (subtrees t) }
