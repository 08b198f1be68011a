use Rattle.std.proofs.Common.{◌≡◌, ℕ, ◌≤◌, true, [], ◌∷◌, ◌∙◌, Ok, ap, refl}
use Rattle.form_model.specs.declared.trees.Aim.{Aim}
use Rattle.form_model.specs.declared.trees.Aim.TheVariants.{Cell, Store, Test, Temp}
use Rattle.form_model.specs.declared.trees.Tree.{Tree}
use Rattle.form_model.specs.Forms.{aim_destination}
use Rattle.form_model.specs.Trees.{model_of_tree}
use Rattle.form_model.specs.WideNodes.{tree_temps}
use Rattle.src_trees.specs.Measures.{IsSmall, IsTreeGoal, tree_size}
use Rattle.form_model.proofs.TreeLaws.{tree_is}
use Rattle.respell.proofs.needs.check_small.Goals as goal

-- what isn't a job of a program was refused before
goal_is : (aim : Aim) → (aim ≡ Temp → ⊥) → IsTreeGoal (aim_destination aim)
goal_is (Cell address) not = tt
goal_is (Store tree) not = tree_is tree
goal_is Test not = tt
goal_is Temp not = absurd (not refl)

pub returns-in-Ok-true : goal.returns-in-Ok-true
returns-in-Ok-true c = let is = c.in-Ok-true.is ∙ ap Ok c.in-Ok-true.field-0-test in record {
  destination = goal_is c.args.aim.now c.in_default.not-Temp;
  trees = (tree_is c.args.tree.now, c.is_within.ensures.cells is, c.is_within.ensures.nodes is, tt);
}
