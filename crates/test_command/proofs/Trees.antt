-- The trees of candidates: what they read, and that the cells of the others leave it as it is.
use Rattle.std.proofs.Common.{◌≡◌, ℕ, ◌+◌, ◌<◌, ◌≤◌, Bool, true, false, cond, List, refl, ap, arith, slice_index}
use Rattle.rec_bits.specs.Operators.{apply1_of, apply2_of, slice_of, sext_of as extended_of}
use Rattle.net_model.specs.declared.hardware.Netlist.{Netlist}
use Rattle.net_model.specs.Nets.{word_width}
use Rattle.net_model.specs.Exprs.{ExprModel, word, reg, const, read, un, bin, slice, cat, zext, sext, select, expr_width}
use Rattle.form_model.specs.Shapes.{is_field}
use Rattle.src_trees.specs.Seen.{ReadsCells, tree_value}
use Rattle.self_test.specs.Trees.{literal, operands, tree_from, widths_of}

-- two memories agree below an address
abbrev pub AgreeBelow : ℕ → List ℕ → List ℕ → Type 0
AgreeBelow below cells others = (a : ℕ) → a < below → slice_index cells a ≡ slice_index others a

module _ (netlist : Netlist) where
  -- a tree reads its operands' cells, from the first of them on
  pub tree_reads : (temps : ℕ) (cells : List ℕ) (at : ℕ) (t : ExprModel) → temps ≤ at → ReadsCells temps cells (tree_from (widths_of netlist) at t)
  tree_reads temps cells at (word w) h = tt
  tree_reads temps cells at (reg r w) h = (tt, h)
  tree_reads temps cells at (const w v) h = tt
  tree_reads temps cells at (read space a w) h = (tt, h)
  tree_reads temps cells at (un o a) h = tree_reads temps cells at a h
  tree_reads temps cells at (bin o a b) h = (tree_reads temps cells at a h, tree_reads temps cells (at + operands a) b (omega (arith, h)))
  tree_reads temps cells at (slice a hi lo) h = by (is_field (slice a hi lo)) (tree_reads temps cells at a h)
    where
      by : (b : Bool) → ReadsCells temps cells (tree_from (widths_of netlist) at a) → ReadsCells temps cells (cond b (literal (word_width netlist) (slice a hi lo)) (slice (tree_from (widths_of netlist) at a) hi lo))
      by true r = tt
      by false r = r
  tree_reads temps cells at (cat a b) h = tt
  tree_reads temps cells at (zext a w) h = by (is_field a) (tree_reads temps cells at a h)
    where
      by : (b : Bool) → ReadsCells temps cells (tree_from (widths_of netlist) at a) → ReadsCells temps cells (cond b (literal (word_width netlist) (zext a w)) (zext (tree_from (widths_of netlist) at a) w))
      by true r = tt
      by false r = r
  tree_reads temps cells at (sext a w) h = by (is_field a) (tree_reads temps cells at a h)
    where
      by : (b : Bool) → ReadsCells temps cells (tree_from (widths_of netlist) at a) → ReadsCells temps cells (cond b (literal (word_width netlist) (sext a w)) (sext (tree_from (widths_of netlist) at a) w))
      by true r = tt
      by false r = r
  tree_reads temps cells at (select c a b) h = tt

  -- and no other cell, so it has one value where these agree
  module _ (below : ℕ) (cells others : List ℕ) (same : AgreeBelow below cells others) where
    pub value_same : (at : ℕ) (t : ExprModel) → at + operands t ≤ below → tree_value cells (tree_from (widths_of netlist) at t) ≡ tree_value others (tree_from (widths_of netlist) at t)
    value_same at (word w) h = refl
    value_same at (reg r w) h = same at (omega (arith, h))
    value_same at (const w v) h = refl
    value_same at (read space a w) h = same at (omega (arith, h))
    value_same at (un o a) h = ap (apply1_of o (expr_width (tree_from (widths_of netlist) at a))) (value_same at a h)
    value_same at (bin o a b) h =
        let p = value_same at a (omega (arith, h)) in
        let q = value_same (at + operands a) b (omega (arith, h)) in
        (λ j. apply2_of o (expr_width (tree_from (widths_of netlist) at a)) (p j) (q j))
    value_same at (slice a hi lo) h = by (is_field (slice a hi lo)) (value_same at a h)
      where
        by : (b : Bool) → tree_value cells (tree_from (widths_of netlist) at a) ≡ tree_value others (tree_from (widths_of netlist) at a)
            → tree_value cells (cond b (literal (word_width netlist) (slice a hi lo)) (slice (tree_from (widths_of netlist) at a) hi lo)) ≡ tree_value others (cond b (literal (word_width netlist) (slice a hi lo)) (slice (tree_from (widths_of netlist) at a) hi lo))
        by true e = refl
        by false e = ap (λ n. slice_of n hi lo) e
    value_same at (cat a b) h = refl
    value_same at (zext a w) h = by (is_field a) (value_same at a h)
      where
        by : (b : Bool) → tree_value cells (tree_from (widths_of netlist) at a) ≡ tree_value others (tree_from (widths_of netlist) at a)
            → tree_value cells (cond b (literal (word_width netlist) (zext a w)) (zext (tree_from (widths_of netlist) at a) w)) ≡ tree_value others (cond b (literal (word_width netlist) (zext a w)) (zext (tree_from (widths_of netlist) at a) w))
        by true e = refl
        by false e = e
    value_same at (sext a w) h = by (is_field a) (value_same at a h)
      where
        by : (b : Bool) → tree_value cells (tree_from (widths_of netlist) at a) ≡ tree_value others (tree_from (widths_of netlist) at a)
            → tree_value cells (cond b (literal (word_width netlist) (sext a w)) (sext (tree_from (widths_of netlist) at a) w)) ≡ tree_value others (cond b (literal (word_width netlist) (sext a w)) (sext (tree_from (widths_of netlist) at a) w))
        by true e = refl
        by false e = ap (λ n. extended_of n (expr_width (tree_from (widths_of netlist) at a)) w) e
    value_same at (select c a b) h = refl
