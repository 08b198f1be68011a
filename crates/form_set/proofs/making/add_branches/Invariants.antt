use Rattle.std.proofs.Common.{◌≡◌, ◌++◌}
use Rattle.form_model.specs.Forms.{models_of_forms}
use Rattle.form_set.specs.Inner.Copies.{ids_branch}
use Rattle.form_set.specs.Listing.{branch_form_model}
use Rattle.form_set.specs.Inner.PatternIds.{ids_pattern}
use Rattle.form_set.specs.Listing.{map_below}
use Rattle.form_set.proofs.making.add_branches.Given as goal

abbrev pub invariant-loop-choice : goal.invariant-loop-choice
invariant-loop-choice l =
    models_of_forms l.list.items ≡ models_of_forms l.initial.list.items ++ map_below (branch_form_model l.machine.checked.now.netlist l.known.number (ids_pattern l.machine.pool.now l.known.ids) (ids_branch l.machine.pool.now l.parts)) l.choice
