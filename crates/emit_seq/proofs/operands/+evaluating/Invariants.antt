use Rattle.std.proofs.Common.{◌+◌, ◌*◌}
use Rattle.form_model.specs.CoverModels.{cost, operands_cost, model_of_cover_operands, model_of_cover}
use Rattle.emit_seq.proofs.operands.+evaluating.Given as goal

abbrev pub decreases-put_own_steps : goal.decreases-put_own_steps
decreases-put_own_steps l = 2 * cost (model_of_cover l.cover.now) + 1

abbrev pub decreases-put_operands : goal.decreases-put_operands
decreases-put_operands l = 2 * operands_cost (model_of_cover_operands l.operands.now) + 2
