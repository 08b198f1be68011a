use Rattle.std.proofs.Common.{◌+◌, ◌*◌}
use Rattle.net_model.specs.Exprs.{size_of}
use Rattle.form_model.specs.Trees.{model_of_tree}
use Rattle.explain_command.proofs.tree_text.+tree.Given as goal

-- parts have fewer nodes than their wholes

abbrev pub decreases-add_tree : goal.decreases-add_tree
decreases-add_tree l = 3 * size_of (model_of_tree l.tree.now)

abbrev pub decreases-add_first : goal.decreases-add_first
decreases-add_first l = 3 * size_of (model_of_tree l.a.now) + 1

abbrev pub decreases-add_next : goal.decreases-add_next
decreases-add_next l = 3 * size_of (model_of_tree l.b.now) + 1

abbrev pub decreases-add_read : goal.decreases-add_read
decreases-add_read l = 3 * size_of (model_of_tree l.addr.now) + 2

abbrev pub decreases-add_one : goal.decreases-add_one
decreases-add_one l = 3 * size_of (model_of_tree l.a.now) + 2

abbrev pub decreases-add_two : goal.decreases-add_two
decreases-add_two l = 3 * (size_of (model_of_tree l.a.now) + size_of (model_of_tree l.b.now)) + 2

abbrev pub decreases-add_slice : goal.decreases-add_slice
decreases-add_slice l = 3 * size_of (model_of_tree l.a.now) + 2

abbrev pub decreases-add_extension : goal.decreases-add_extension
decreases-add_extension l = 3 * size_of (model_of_tree l.a.now) + 2
