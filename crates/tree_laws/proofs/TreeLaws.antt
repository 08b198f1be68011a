-- Trees of one class are equal.
use Rattle.std.proofs.Common.{◌≡◌, ℕ, ◌-◌, ◌^◌, List, [], slice_index, refl, sym, ◌∙◌, ap}
use Rattle.std.proofs.Math.Logic.{∥∥₁_elim}
use Rattle.std.proofs.Math.Nat.{ℕ_set}
use Rattle.std.proofs.lemmas.Nat.{pow_pos}
use Rattle.rec_bits.specs.Operators.{apply1_of, slice_of, sext_of}
use Rattle.net_model.specs.Exprs.{expr_width}
use Rattle.net_model.specs.Meaning.{mean}
use Rattle.form_model.specs.Trees.{model_of_tree}
use Rattle.form_model.specs.declared.trees.Tree.{Tree}
use Rattle.form_model.specs.declared.trees.Tree.TheVariants.{Lit, Read', Un', Bin', Slice', Zext', Sext'}
use Rattle.tree_laws.specs.declared.classes.Classes.{Classes}
use Rattle.tree_laws.specs.Equal.{AreEqual, AreOpposite, CellsFit}
use Rattle.tree_laws.specs.Meanings.{HaveMeanings, state_of}
use Rattle.tree_laws.specs.Classes.{IsOpposite, Stands}

-- a tree has no variables
alike : (cells r s : List ℕ) (t : Tree) → mean (model_of_tree t) (state_of cells r) 0 ≡ mean (model_of_tree t) (state_of cells s) 0
alike cells r s (Lit w v) = refl
alike cells r s (Read' p a w) = ap (slice_index cells) (alike cells r s a)
alike cells r s (Un' o p a) = ap (apply1_of o (expr_width (model_of_tree a))) (alike cells r s a)
alike cells r s (Bin' o p a q b) = cc (alike cells r s a, alike cells r s b)
alike cells r s (Slice' p a hi lo) = ap (λ n. slice_of n hi lo) (alike cells r s a)
alike cells r s (Zext' p a w) = alike cells r s a
alike cells r s (Sext' p a w) = ap (λ n. sext_of n (expr_width (model_of_tree a)) w) (alike cells r s a)

-- a memory without cells
pub no_cells : (cell : ℕ) → CellsFit cell []
no_cells cell k = pow_pos cell

module _ (table : Classes) (a b : Tree) (c : ℕ) where
  -- trees of one class
  pub stand_equal : ∥ HaveMeanings table.cell table.classes.items table.nodes.entries ∥₁ → Stands table (model_of_tree a) c → Stands table (model_of_tree b) c → AreEqual table.cell (model_of_tree a) (model_of_tree b)
  stand_equal meanings p q = record {
    width = ∥∥₁_elim meanings (ℕ_set _ _) (λ m. let x = m [] (no_cells table.cell) in (p [] x.0 x.1).width ∙ sym (q [] x.0 x.1).width);
    same = λ cells fit. ∥∥₁_elim meanings (ℕ_set _ _)
        (λ m. let x = m cells fit in
        alike cells [] x.0 a ∙ (p cells x.0 x.1).value ∙ sym (q cells x.0 x.1).value ∙ alike cells x.0 [] b);
  }

  -- a tree of the class of a test's negation is the test's opposite
  pub stand_opposite : ∥ HaveMeanings table.cell table.classes.items table.nodes.entries ∥₁ → Stands table (model_of_tree a) c → IsOpposite table (model_of_tree b) c → AreOpposite table.cell (model_of_tree a) (model_of_tree b)
  stand_opposite meanings p q = record {
    width = ∥∥₁_elim meanings (ℕ_set _ _) (λ m. let x = m [] (no_cells table.cell) in (p [] x.0 x.1).width ∙ sym (q.0 [] x.0 x.1).width);
    other = λ cells fit. ∥∥₁_elim meanings (ℕ_set _ _)
        (λ m. let x = m cells fit in
        let one : expr_width (model_of_tree b) ≡ 1 = q.1 cells x.0 x.1 in
        alike cells [] x.0 a ∙ (p cells x.0 x.1).value ∙ sym (q.0 cells x.0 x.1).value
        ∙ ap (λ w. 2 ^ w - 1 - mean (model_of_tree b) (state_of cells x.0) 0) one ∙ ap (λ v. 1 - v) (alike cells x.0 [] b));
  }
