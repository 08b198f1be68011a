-- The jobs of candidates, one after the other, leave the value of each tree in the candidate's cell.
use Rattle.std.proofs.Common.{◌≡◌, ℕ, ◌+◌, ◌<◌, ◌≤◌, List, [], ◌∷◌, Option, Some, None, length, refl, sym, ◌∙◌, ap, arith, slice_index, slice_set, subst, true}
use Rattle.std.proofs.lemmas.List.{get_or-set_other, get_or-set_same, length-set}
use Rattle.std.specs.List.{AllByRecursion}
use Rattle.net_model.specs.declared.hardware.Netlist.{Netlist}
use Rattle.net_model.specs.declared.states.State.{State}
use Rattle.net_model.specs.Exprs.{ExprModel}
use Rattle.form_model.specs.Covers.{JobCoverModel}
use Rattle.form_model.specs.Forms.{cell}
use Rattle.form_model.specs.Trees.{is_tree}
use Rattle.src_trees.specs.Doing.{AllLie, all_done}
use Rattle.src_trees.specs.Lowered.{JobModel}
use Rattle.src_trees.specs.Seen.{tree_value}
use Rattle.right_code.proofs.Meant.{tree_mean}
use Rattle.self_test.specs.Cells.{all_operands, jobs_from}
use Rattle.self_test.specs.Trees.{operands, tree_from, widths_of}
use Rattle.test_command.specs.Tested.{HoldValues}
use Rattle.test_command.proofs.Leaving.{tested_jobs}
use Rattle.test_code.specs.Inner.Jobs.{IsCellJob}
use Rattle.test_command.proofs.Trees.{AgreeBelow, tree_reads, value_same}

-- the tree of a job to a cell
plain_tree : (bits temps out : ℕ) (tree : ExprModel) → IsCellJob bits temps (record { destination = cell out; trees = tree ∷ [] }) → is_tree tree ≡ true
plain_tree bits temps out tree j =
    let e : tree ∷ [] ≡ j.tree ∷ [] = ap (λ (job : JobModel). job.trees) j.is in
    let f : j.tree ≡ tree = cc e in
    subst (λ t. is_tree t ≡ true) f j.plain

module _ (netlist : Netlist) where
  -- ---- where they lie

  pub lie : (temps : ℕ) (values : List ExprModel) (tried : List (Option JobCoverModel)) (at out : ℕ) (cells : List ℕ) → temps ≤ at → temps ≤ out → out + length values ≤ length cells → AllLie temps cells (tested_jobs (jobs_from (widths_of netlist) at out values) tried)
  lie temps [] tried at out cells a b c = tt
  lie temps (t ∷ values) [] at out cells a b c = tt
  lie temps (t ∷ values) (None ∷ tried) at out cells a b c = lie temps values tried (at + operands t) (out + 1) cells (omega (arith, a)) (omega (arith, b)) (omega (arith, c))
  lie temps (t ∷ values) (Some choice ∷ tried) at out cells a b c =
      let v : ℕ = tree_value cells (tree_from (widths_of netlist) at t) in (
        record { reads = (tree_reads netlist temps cells at t a, tt); destination = (b, omega (arith, c)); below = omega (arith, b, c) },
        lie temps values tried (at + operands t) (out + 1) (slice_set cells out v) (omega (arith, a)) (omega (arith, b)) (omega (arith, c, length-set cells out v)),
      )

  -- ---- what they leave

  -- jobs keep the cells before their own
  kept : (values : List ExprModel) (tried : List (Option JobCoverModel)) (at out : ℕ) (cells : List ℕ) (c : ℕ) → c < out → slice_index (all_done (tested_jobs (jobs_from (widths_of netlist) at out values) tried) cells) c ≡ slice_index cells c
  kept [] tried at out cells c h = refl
  kept (t ∷ values) [] at out cells c h = refl
  kept (t ∷ values) (None ∷ tried) at out cells c h = kept values tried (at + operands t) (out + 1) cells c (omega (arith, h))
  kept (t ∷ values) (Some choice ∷ tried) at out cells c h =
      let v : ℕ = tree_value cells (tree_from (widths_of netlist) at t) in
      kept values tried (at + operands t) (out + 1) (slice_set cells out v) c (omega (arith, h)) ∙ get_or-set_other cells out c v 0 (omega (arith, h))

  module _ (bits temps below : ℕ) (s : State) (good : List ℕ) where
    -- so each leaves its tree's value in the state before all of them
    pub hold : (values : List ExprModel) (tried : List (Option JobCoverModel)) (at out : ℕ) (cells : List ℕ) → AllByRecursion (IsCellJob bits temps) (jobs_from (widths_of netlist) at out values) → length tried ≡ length values → at + all_operands values ≤ below → below ≤ out → temps ≤ out → out + length values ≤ length cells → AgreeBelow below s.cells cells
        → ((c : ℕ) → temps ≤ c → slice_index good c ≡ slice_index (all_done (tested_jobs (jobs_from (widths_of netlist) at out values) tried) cells) c) → HoldValues s good (jobs_from (widths_of netlist) at out values) tried
    hold [] [] at out cells p k a b d l same g = tt
    hold [] (choice ∷ tried) at out cells p k a b d l same g = absurd (omega (arith, k))
    hold (t ∷ values) [] at out cells p k a b d l same g = absurd (omega (arith, k))
    hold (t ∷ values) (None ∷ tried) at out cells p k a b d l same g =
        hold values tried (at + operands t) (out + 1) cells p.1 (omega (arith, k)) (omega (arith, a)) (omega (arith, b)) (omega (arith, d)) (omega (arith, l)) same g
    hold (t ∷ values) (Some choice ∷ tried) at out cells p k a b d l same g =
        let tree : ExprModel = tree_from (widths_of netlist) at t in
        let v : ℕ = tree_value cells tree in
        let after : List ℕ = slice_set cells out v in (
          g out d ∙ kept values tried (at + operands t) (out + 1) after out (omega arith) ∙ get_or-set_same cells out v 0 (omega (arith, l))
              ∙ sym (value_same netlist below s.cells cells same at t (omega (arith, a))) ∙ sym (tree_mean tree s (plain_tree bits temps out tree p.0)),
          hold values tried (at + operands t) (out + 1) after p.1 (omega (arith, k)) (omega (arith, a)) (omega (arith, b)) (omega (arith, d)) (omega (arith, l, length-set cells out v))
              (λ c h. same c h ∙ sym (get_or-set_other cells out c v 0 (omega (arith, h, b)))) g,
        )
