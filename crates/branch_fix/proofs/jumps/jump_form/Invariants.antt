use Rattle.std.proofs.Common.{◌≡◌, drop}
use Rattle.form_model.specs.Forms.{models_of_forms}
use Rattle.branch_fix.specs.Items.{jump_form}
use Rattle.branch_fix.proofs.jumps.jump_form.Given as goal

abbrev pub invariant-loop-form : goal.invariant-loop-form
invariant-loop-form l = jump_form (models_of_forms (drop l.form-index l.forms)) l.reach ≡ jump_form (models_of_forms l.forms) l.reach
