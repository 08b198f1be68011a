-- The jobs of a self-test have one tree each, to a cell, and cells for what it may need.
use Rattle.std.proofs.Common.{◌≡◌, ℕ, ◌+◌, ◌≤◌, Bool, true, false, cond, List, [], ◌∷◌, refl, sym, ◌∙◌, arith}
use Rattle.std.specs.List.{AllByRecursion}
use Rattle.rec_bits.proofs.Booleans.{and_from}
use Rattle.net_model.specs.declared.hardware.Netlist.{Netlist}
use Rattle.net_model.specs.Nets.{memory_width, word_width}
use Rattle.net_model.specs.Patterns.{Pattern}
use Rattle.net_model.specs.Exprs.{ExprModel, word, reg, const, read, un, bin, slice, cat, zext, sext, select}
use Rattle.form_model.specs.Forms.{FormModel}
use Rattle.form_model.specs.Shapes.{is_field}
use Rattle.form_model.specs.Trees.{is_tree}
use Rattle.form_model.specs.WideNodes.{wide_below}
use Rattle.self_test.specs.Cells.{test_temps, test_values, test_jobs, jobs_from}
use Rattle.self_test.specs.Trees.{literal, operands, temps_of, tree_from, widths_of}
use Rattle.self_test.proofs.Inner.{inner_is}
use Rattle.test_code.specs.Inner.Jobs.{IsCellJob}

module _ (netlist : Netlist) where
  -- what a candidate's value becomes is a tree
  pub is_plain : (at : ℕ) (t : ExprModel) → is_tree (tree_from (widths_of netlist) at t) ≡ true
  is_plain at (word w) = refl
  is_plain at (reg r w) = refl
  is_plain at (const w v) = refl
  is_plain at (read space a w) = refl
  is_plain at (un o a) = is_plain at a
  is_plain at (bin o a b) = and_from (is_tree (tree_from (widths_of netlist) at a)) (is_tree (tree_from (widths_of netlist) (at + operands a) b)) (is_plain at a) (is_plain (at + operands a) b)
  is_plain at (slice a hi lo) = by (is_field (slice a hi lo)) (is_plain at a)
    where
      by : (b : Bool) → is_tree (tree_from (widths_of netlist) at a) ≡ true → is_tree (cond b (literal (word_width netlist) (slice a hi lo)) (slice (tree_from (widths_of netlist) at a) hi lo)) ≡ true
      by true h = refl
      by false h = h
  is_plain at (cat a b) = refl
  is_plain at (zext a w) = by (is_field a) (is_plain at a)
    where
      by : (b : Bool) → is_tree (tree_from (widths_of netlist) at a) ≡ true → is_tree (cond b (literal (word_width netlist) (zext a w)) (zext (tree_from (widths_of netlist) at a) w)) ≡ true
      by true h = refl
      by false h = h
  is_plain at (sext a w) = by (is_field a) (is_plain at a)
    where
      by : (b : Bool) → is_tree (tree_from (widths_of netlist) at a) ≡ true → is_tree (cond b (literal (word_width netlist) (sext a w)) (sext (tree_from (widths_of netlist) at a) w)) ≡ true
      by true h = refl
      by false h = h
  is_plain at (select c a b) = refl

  -- wherever its operands stand, it may need as many cells
  same_need : (at : ℕ) (t : ExprModel) → wide_below (memory_width netlist.storages) (tree_from (widths_of netlist) at t) ≡ wide_below (memory_width netlist.storages) (tree_from (widths_of netlist) 0 t)
  same_need at t = inner_is (widths_of netlist) (memory_width netlist.storages) at t ∙ sym (inner_is (widths_of netlist) (memory_width netlist.storages) 0 t)

  jobs_plain : (temps at out : ℕ) (values : List ExprModel) → temps_of (widths_of netlist) values ≤ temps → AllByRecursion (IsCellJob (memory_width netlist.storages) temps) (jobs_from (widths_of netlist) at out values)
  jobs_plain temps at out [] le = tt
  jobs_plain temps at out (value ∷ values) le = (
    record {
      address = out;
      tree = tree_from (widths_of netlist) at value;
      is = refl;
      plain = is_plain at value;
      few = let e = same_need at value in omega (arith, e, le);
    },
    jobs_plain temps (at + operands value) (out + 1) values (omega (arith, le)),
  )

-- the jobs of a netlist's self-test
pub test_plain : (netlist : Netlist) (forms : List FormModel) (patterns : List Pattern) → AllByRecursion (IsCellJob (memory_width netlist.storages) (test_temps netlist forms patterns)) (test_jobs netlist forms patterns)
test_plain netlist forms patterns = jobs_plain netlist (test_temps netlist forms patterns) _ _ (test_values netlist forms patterns) (omega arith)
