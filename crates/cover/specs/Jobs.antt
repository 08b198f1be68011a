-- What the code's values stand for, and the numbers of a job's trees.
use Rattle.std.specs.Prelude.{List, map}
use Rattle.net_model.specs.Exprs.{ExprModel}
use Rattle.form_model.specs.Trees.{model_of_tree}
use Rattle.form_model.specs.declared.trees.Tree.{Tree}

abbrev pub trees_of : List Tree → List ExprModel
trees_of trees = map model_of_tree trees
