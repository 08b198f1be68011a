-- What is counted of a value is what its tree has, wherever its operands stand.
use Rattle.std.proofs.Common.{◌≡◌, ℕ, ◌+◌, Bool, true, false, cond, List, [], ◌∷◌, max, refl, ap, ◌∙◌}
use Rattle.rec_bits.specs.Operators.{result_width}
use Rattle.net_model.specs.Exprs.{ExprModel, word, reg, const, read, un, bin, slice, cat, zext, sext, select, expr_width}
use Rattle.form_model.specs.Shapes.{is_field}
use Rattle.form_model.specs.Trees.{is_cell}
use Rattle.form_model.proofs.WideLaws.{wide_split}
use Rattle.src_model.specs.Sizes.{is_word}
use Rattle.form_model.specs.WideNodes.{wide_below, wide_nodes}
use Rattle.self_test.specs.declared.trees.Widths.{Widths}
use Rattle.self_test.specs.Trees.{literal, operands, temps_of, tree_from}
use Rattle.self_test.specs.Inner.Values.{greatest_inner, inner, is_operand, node}

module _ (m : Widths) where
  cell_is : (at : ℕ) (t : ExprModel) → is_cell (tree_from m at t) ≡ is_operand t
  cell_is at (word w) = refl
  cell_is at (reg r w) = refl
  cell_is at (const w v) = refl
  cell_is at (read space a w) = refl
  cell_is at (un o a) = refl
  cell_is at (bin o a b) = refl
  cell_is at (slice a hi lo) = by (is_field (slice a hi lo))
    where
      by : (b : Bool) → is_cell (cond b (literal m.code (slice a hi lo)) (slice (tree_from m at a) hi lo)) ≡ false
      by true = refl
      by false = refl
  cell_is at (cat a b) = refl
  cell_is at (zext a w) = by (is_field a)
    where
      by : (b : Bool) → is_cell (cond b (literal m.code (zext a w)) (zext (tree_from m at a) w)) ≡ false
      by true = refl
      by false = refl
  cell_is at (sext a w) = by (is_field a)
    where
      by : (b : Bool) → is_cell (cond b (literal m.code (sext a w)) (sext (tree_from m at a) w)) ≡ false
      by true = refl
      by false = refl
  cell_is at (select c a b) = refl

  -- a tree has the width of its value
  pub width_is : (at : ℕ) (t : ExprModel) → expr_width (tree_from m at t) ≡ expr_width t
  width_is at (word w) = refl
  width_is at (reg r w) = refl
  width_is at (const w v) = refl
  width_is at (read space a w) = refl
  width_is at (un o a) = width_is at a
  width_is at (bin o a b) = ap (result_width o) (width_is at a)
  width_is at (slice a hi lo) = by (is_field (slice a hi lo))
    where
      by : (b : Bool) → expr_width (cond b (literal m.code (slice a hi lo)) (slice (tree_from m at a) hi lo)) ≡ expr_width (slice a hi lo)
      by true = refl
      by false = refl
  width_is at (cat a b) = refl
  width_is at (zext a w) = by (is_field a)
    where
      by : (b : Bool) → expr_width (cond b (literal m.code (zext a w)) (zext (tree_from m at a) w)) ≡ w
      by true = refl
      by false = refl
  width_is at (sext a w) = by (is_field a)
    where
      by : (b : Bool) → expr_width (cond b (literal m.code (sext a w)) (sext (tree_from m at a) w)) ≡ w
      by true = refl
      by false = refl
  width_is at (select c a b) = refl

  -- the same nodes, counted on the tree and on the value
  nodes_are : (w at : ℕ) (t : ExprModel) → wide_nodes w (tree_from m at t) ≡ node w t (wide_below w (tree_from m at t))
  nodes_are w at t =
      wide_split w (tree_from m at t)
      ∙ ap (λ b. cond b 0 (is_word w (expr_width (tree_from m at t)) + wide_below w (tree_from m at t))) (cell_is at t)
      ∙ ap (λ v. cond (is_operand t) 0 (is_word w v + wide_below w (tree_from m at t))) (width_is at t)

  pub inner_is : (w at : ℕ) (t : ExprModel) → wide_below w (tree_from m at t) ≡ inner w t
  inner_is w at (word v) = refl
  inner_is w at (reg r v) = refl
  inner_is w at (const v n) = refl
  inner_is w at (read space a v) = refl
  inner_is w at (un o a) = nodes_are w at a ∙ ap (node w a) (inner_is w at a)
  inner_is w at (bin o a b) =
      ap (λ n. n + wide_nodes w (tree_from m (at + operands a) b)) (nodes_are w at a ∙ ap (node w a) (inner_is w at a))
      ∙ ap (λ n. node w a (inner w a) + n) (nodes_are w (at + operands a) b ∙ ap (node w b) (inner_is w (at + operands a) b))
  inner_is w at (slice a hi lo) = by (is_field (slice a hi lo)) (nodes_are w at a ∙ ap (node w a) (inner_is w at a))
    where
      by : (b : Bool) → wide_nodes w (tree_from m at a) ≡ node w a (inner w a) → wide_below w (cond b (literal m.code (slice a hi lo)) (slice (tree_from m at a) hi lo)) ≡ cond b 0 (node w a (inner w a))
      by true h = refl
      by false h = h
  inner_is w at (cat a b) = refl
  inner_is w at (zext a v) = by (is_field a) (nodes_are w at a ∙ ap (node w a) (inner_is w at a))
    where
      by : (b : Bool) → wide_nodes w (tree_from m at a) ≡ node w a (inner w a) → wide_below w (cond b (literal m.code (zext a v)) (zext (tree_from m at a) v)) ≡ cond b 0 (node w a (inner w a))
      by true h = refl
      by false h = h
  inner_is w at (sext a v) = by (is_field a) (nodes_are w at a ∙ ap (node w a) (inner_is w at a))
    where
      by : (b : Bool) → wide_nodes w (tree_from m at a) ≡ node w a (inner w a) → wide_below w (cond b (literal m.code (sext a v)) (sext (tree_from m at a) v)) ≡ cond b 0 (node w a (inner w a))
      by true h = refl
      by false h = h
  inner_is w at (select c a b) = refl

  pub temps_are : (values : List ExprModel) → temps_of m values ≡ greatest_inner m.cell values
  temps_are [] = refl
  temps_are (t ∷ ts) =
      ap (λ n. max n (temps_of m ts)) (inner_is m.cell 0 t) ∙ ap (max (inner m.cell t)) (temps_are ts)
