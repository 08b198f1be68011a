-- The subtrees of a tree in order: the tree, then those of its operands.
use Rattle.std.proofs.Common.{◌≡◌, List, [], ◌∷◌, ◌++◌, append_assoc, refl, sym, ap, ◌∙◌}
use Rattle.std.proofs.lemmas.List.{append-nil}
use Rattle.net_model.specs.declared.hardware.Space.TheVariants.{Memory as InMemory}
use Rattle.net_model.specs.Exprs.{ExprModel, read, un, slice, zext, sext}
use Rattle.form_model.specs.Trees.{model_of_tree}
use Rattle.form_model.specs.Forms.{DestinationModel, into, filed, cell, stored, temporary, tested}
use Rattle.form_model.specs.declared.trees.Tree.{Tree}
use Rattle.form_model.specs.declared.trees.Tree.TheVariants.{Lit, Read', Un', Bin', Slice', Zext', Sext'}
use Rattle.tree_grammar.specs.Numbers.{subtrees}
use Rattle.tree_sharing.specs.Sharing.{job_nodes}
use Rattle.tree_sharing.specs.Inner.Sharing.{address_nodes, first_of, second_of, operand_subtrees}

one : (x : ExprModel) (xs : List ExprModel) → x ∷ xs ≡ x ∷ (xs ++ [])
one x xs = ap (λ l. x ∷ l) (sym (append-nil xs))

subtrees_are : (t : Tree) → subtrees (model_of_tree t) ≡ model_of_tree t ∷ (operand_subtrees (first_of (model_of_tree t)) ++ operand_subtrees (second_of (model_of_tree t)))
subtrees_are (Lit w v) = refl
subtrees_are (Read' p a w) = one (read InMemory (model_of_tree a) w) (subtrees (model_of_tree a))
subtrees_are (Un' o p a) = one (un o (model_of_tree a)) (subtrees (model_of_tree a))
subtrees_are (Bin' o p a q b) = refl
subtrees_are (Slice' p a hi lo) = one (slice (model_of_tree a) hi lo) (subtrees (model_of_tree a))
subtrees_are (Zext' p a w) = one (zext (model_of_tree a) w) (subtrees (model_of_tree a))
subtrees_are (Sext' p a w) = one (sext (model_of_tree a) w) (subtrees (model_of_tree a))

regroup : (xs fs ss : List ExprModel) (x : ExprModel) → ((xs ++ x ∷ []) ++ fs) ++ ss ≡ xs ++ (x ∷ (fs ++ ss))
regroup xs fs ss x = simp append_assoc

-- a list with the tree, its first operand's subtrees and its second's has the tree's
pub listed : (t : Tree) (xs ys zs us : List ExprModel) → ys ≡ xs ++ model_of_tree t ∷ [] → zs ≡ ys ++ operand_subtrees (first_of (model_of_tree t)) → us ≡ zs ++ operand_subtrees (second_of (model_of_tree t)) → us ≡ xs ++ subtrees (model_of_tree t)
listed t xs ys zs us root first second =
    let fs = operand_subtrees (first_of (model_of_tree t)) in
    let ss = operand_subtrees (second_of (model_of_tree t)) in
    second ∙ ap (λ l. l ++ ss) (first ∙ ap (λ l. l ++ fs) root) ∙ regroup xs fs ss (model_of_tree t)
    ∙ ap (λ l. xs ++ l) (sym (subtrees_are t))

pub job_listed : (destination : DestinationModel) (t : ExprModel) → address_nodes destination ++ subtrees t ≡ job_nodes destination t
job_listed (stored a) t = refl
job_listed (into id) t = refl
job_listed filed t = refl
job_listed (cell a) t = refl
job_listed temporary t = refl
job_listed tested t = refl
