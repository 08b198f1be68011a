use Rattle.form_model.specs.Trees.{model_of_tree}
use Rattle.class_values.proofs.Made.{if_found}
use Rattle.mark_start.proofs.Reading.{tree_of}
use Rattle.mark_start.proofs.run.Start.tree.Goals as goal

pub returns-clause-is : goal.returns-clause-is
returns-clause-is c =
    if_found c.tree.result _ _ (λ k is. tree_of c.args.table.now c.tree.new.table c.args.run.now c.as_slice.result.now (model_of_tree c.args.tree.now) k c.as_slice.ensures is) c.tree.ensures.is
