-- Numbers of subtrees, from a tree to its operands.
use Rattle.std.proofs.Common.{◌≡◌, ℕ, suc, ◌+◌, List, [], ◌∷◌, ◌++◌, length, Some, arith, subst, sym, ◌∙◌, refl, length-append}
use Rattle.std.specs.Prelude.{slice_get, Result, OnOk}
use Rattle.std.proofs.lemmas.Result.{on_ok_weaker}
use Rattle.rec_bits.proofs.Lists.{get_left_some, get_right}
use Rattle.net_model.specs.declared.hardware.Space.{Space}
use Rattle.net_model.specs.Exprs.{ExprModel, word, reg, const, read, un, bin, slice, cat, zext, sext, select, size_of}
use Rattle.tree_grammar.specs.Numbers.{subtrees, HoldsSubtrees}
use Rattle.tree_grammar.specs.declared.parts.Leaf.{Leaf}
use Rattle.tree_grammar.specs.Leaves.{IsPartAt, AreAt, Stands, value_at}
use Rattle.form_model.specs.Forms.{DestinationModel}

pub size_length : (t : ExprModel) → length (subtrees t) ≡ size_of t
size_length (word w) = refl
size_length (reg r w) = refl
size_length (const w v) = refl
size_length (read space a w) = let h = size_length a in omega (arith, h)
size_length (un o a) = let h = size_length a in omega (arith, h)
size_length (bin o a b) = let h = size_length a in let k = size_length b in omega (arith, h, k, length-append (subtrees a) (subtrees b))
size_length (slice a x y) = let h = size_length a in omega (arith, h)
size_length (cat a b) = let h = size_length a in let k = size_length b in omega (arith, h, k, length-append (subtrees a) (subtrees b))
size_length (zext a w) = let h = size_length a in omega (arith, h)
size_length (sext a w) = let h = size_length a in omega (arith, h)
size_length (select c a b) =
    let h = size_length a in let k = size_length b in let l = size_length c in omega (arith, h, k, l, length-append (subtrees a) (subtrees b), length-append (subtrees c) (subtrees a ++ subtrees b))

-- the items of xs stand in nodes from `at` on
abbrev pub Lists : List ExprModel → ℕ → List ExprModel → Type 0
Lists nodes at xs = (k : ℕ) (s : ExprModel) → slice_get xs k ≡ Some s → slice_get nodes (at + k) ≡ Some s

pub lists_tail : (nodes : List ExprModel) (at : ℕ) (x : ExprModel) (xs : List ExprModel) → Lists nodes at (x ∷ xs) → Lists nodes (at + 1) xs
lists_tail nodes at x xs h k s get = let e : at + 1 + k ≡ at + suc k = omega arith in subst (λ i. slice_get nodes i ≡ Some s) (sym e) (h (suc k) s get)

pub lists_left : (nodes : List ExprModel) (at : ℕ) (xs ys : List ExprModel) → Lists nodes at (xs ++ ys) → Lists nodes at xs
lists_left nodes at xs ys h k s get = h k s (get_left_some xs ys k s get)

pub lists_right : (nodes : List ExprModel) (at n : ℕ) (xs ys : List ExprModel) → length xs ≡ n → Lists nodes at (xs ++ ys) → Lists nodes (at + n) ys
lists_right nodes at n xs ys len h k s get =
    let e : at + n + k ≡ at + (length xs + k) = omega (arith, len) in
    subst (λ i. slice_get nodes i ≡ Some s) (sym e) (h (length xs + k) s (get_right xs ys k ∙ get))

first_is : (t : ExprModel) → slice_get (subtrees t) 0 ≡ Some t
first_is (word w) = refl
first_is (reg r w) = refl
first_is (const w v) = refl
first_is (read space a w) = refl
first_is (un o a) = refl
first_is (bin o a b) = refl
first_is (slice a x y) = refl
first_is (cat a b) = refl
first_is (zext a w) = refl
first_is (sext a w) = refl
first_is (select c a b) = refl

pub holds_here : (nodes : List ExprModel) (at : ℕ) (t : ExprModel) → HoldsSubtrees nodes at t → slice_get nodes at ≡ Some t
holds_here nodes at t h = let e : at + 0 ≡ at = omega arith in subst (λ i. slice_get nodes i ≡ Some t) e (h 0 t (first_is t))

pub holds_read : (nodes : List ExprModel) (at : ℕ) (space : Space) (a : ExprModel) (w : ℕ) → HoldsSubtrees nodes at (read space a w) → HoldsSubtrees nodes (at + 1) a
holds_read nodes at space a w h = lists_tail nodes at (read space a w) (subtrees a) h

pub holds_left : (nodes : List ExprModel) (at : ℕ) (x : ExprModel) (a b : ExprModel) → Lists nodes at (x ∷ (subtrees a ++ subtrees b)) → HoldsSubtrees nodes (at + 1) a
holds_left nodes at x a b h = lists_left nodes (at + 1) (subtrees a) (subtrees b) (lists_tail nodes at x (subtrees a ++ subtrees b) h)

pub holds_right : (nodes : List ExprModel) (at : ℕ) (x : ExprModel) (a b : ExprModel) → Lists nodes at (x ∷ (subtrees a ++ subtrees b)) → HoldsSubtrees nodes (at + 1 + size_of a) b
holds_right nodes at x a b h = lists_right nodes (at + 1) (size_of a) (subtrees a) (subtrees b) (size_length a) (lists_tail nodes at x (subtrees a ++ subtrees b) h)

pub are_push : (nodes : List ExprModel) (ps : List Leaf) (p : Leaf) → AreAt nodes ps → IsPartAt nodes p → AreAt nodes (ps ++ p ∷ [])
are_push nodes [] p h k = (k, tt)
are_push nodes (q ∷ ps) p h k = (h.0, are_push nodes ps p h.1 k)

-- what follows of numbers from what a call on the one operand says
pub lift_inner : (t x a b : ExprModel) (at next : ℕ) (old new : List Leaf) → subtrees t ≡ x ∷ subtrees a → b ≡ a → next ≡ at + 1 → ((nodes : List ExprModel) → HoldsSubtrees nodes next b → AreAt nodes old → AreAt nodes new) → (nodes : List ExprModel) → HoldsSubtrees nodes at t → AreAt nodes old → AreAt nodes new
lift_inner t x a b at next old new e same is h nodes holds are =
    let inner : HoldsSubtrees nodes (at + 1) a = lists_tail nodes at x (subtrees a) (subst (λ l. Lists nodes at l) e holds) in
    h nodes (subst (λ n. HoldsSubtrees nodes n b) (sym is) (subst (λ y. HoldsSubtrees nodes (at + 1) y) (sym same) inner)) are

pub lift_left : (t x a b c : ExprModel) (at next : ℕ) (old new : List Leaf) → subtrees t ≡ x ∷ (subtrees a ++ subtrees b) → c ≡ a → next ≡ at + 1 → ((nodes : List ExprModel) → HoldsSubtrees nodes next c → AreAt nodes old → AreAt nodes new) → (nodes : List ExprModel) → HoldsSubtrees nodes at t → AreAt nodes old → AreAt nodes new
lift_left t x a b c at next old new e same is h nodes holds are =
    let inner : HoldsSubtrees nodes (at + 1) a = holds_left nodes at x a b (subst (λ l. Lists nodes at l) e holds) in
    h nodes (subst (λ n. HoldsSubtrees nodes n c) (sym is) (subst (λ y. HoldsSubtrees nodes (at + 1) y) (sym same) inner)) are

pub lift_right : (t x a b c : ExprModel) (at next after : ℕ) (old new : List Leaf) → subtrees t ≡ x ∷ (subtrees a ++ subtrees b) → c ≡ b → next ≡ at + 1 → after ≡ next + size_of a → ((nodes : List ExprModel) → HoldsSubtrees nodes after c → AreAt nodes old → AreAt nodes new) → (nodes : List ExprModel) → HoldsSubtrees nodes at t → AreAt nodes old → AreAt nodes new
lift_right t x a b c at next after old new e same is past h nodes holds are =
    let inner : HoldsSubtrees nodes (at + 1 + size_of a) b = holds_right nodes at x a b (subst (λ l. Lists nodes at l) e holds) in
    let f : after ≡ at + 1 + size_of a = omega (arith, is, past) in
    h nodes (subst (λ n. HoldsSubtrees nodes n c) (sym f) (subst (λ y. HoldsSubtrees nodes (at + 1 + size_of a) y) (sym same) inner)) are

pub inner_ok : {T E : Type 0} (r : Result T E) (t x a b : ExprModel) (at next : ℕ) (old new : List Leaf) → subtrees t ≡ x ∷ subtrees a → b ≡ a → next ≡ at + 1 → OnOk r ((nodes : List ExprModel) → HoldsSubtrees nodes next b → AreAt nodes old → AreAt nodes new) → OnOk r ((nodes : List ExprModel) → HoldsSubtrees nodes at t → AreAt nodes old → AreAt nodes new)
inner_ok r t x a b at next old new e same is = on_ok_weaker {P = (nodes : List ExprModel) → HoldsSubtrees nodes next b → AreAt nodes old → AreAt nodes new} {Q = (nodes : List ExprModel) → HoldsSubtrees nodes at t → AreAt nodes old → AreAt nodes new} r (lift_inner t x a b at next old new e same is)

pub here_ok : {T E : Type 0} (r : Result T E) (t : ExprModel) (at : ℕ) (old new : List Leaf) → OnOk r ((nodes : List ExprModel) → AreAt nodes old → slice_get nodes at ≡ Some t → AreAt nodes new) → OnOk r ((nodes : List ExprModel) → HoldsSubtrees nodes at t → AreAt nodes old → AreAt nodes new)
here_ok r t at old new = on_ok_weaker {P = (nodes : List ExprModel) → AreAt nodes old → slice_get nodes at ≡ Some t → AreAt nodes new} {Q = (nodes : List ExprModel) → HoldsSubtrees nodes at t → AreAt nodes old → AreAt nodes new} r (λ h nodes holds are. h nodes are (holds_here nodes at t holds))

pub stands_ok : {T E : Type 0} (r : Result T E) (t : ExprModel) (at : ℕ) (destination : DestinationModel) (old new : List Leaf) → value_at destination at ≡ at → OnOk r ((nodes : List ExprModel) → HoldsSubtrees nodes at t → AreAt nodes old → AreAt nodes new) → OnOk r ((nodes : List ExprModel) → Stands nodes at destination t → AreAt nodes old → AreAt nodes new)
stands_ok r t at destination old new e = on_ok_weaker {P = (nodes : List ExprModel) → HoldsSubtrees nodes at t → AreAt nodes old → AreAt nodes new} {Q = (nodes : List ExprModel) → Stands nodes at destination t → AreAt nodes old → AreAt nodes new} r (λ h nodes s are. h nodes (subst (λ n. HoldsSubtrees nodes n t) e s.value) are)
