use Rattle.std.proofs.Common.{◌+◌, ◌*◌}
use Rattle.form_model.specs.CoverModels.{cost, cuts_cost, model_of_cover_cuts, operands_cost, model_of_cover_operands, model_of_cover}
use Rattle.emit_seq.proofs.cuts.+cutting.Given as goal

abbrev pub decreases-cut_steps : goal.decreases-cut_steps
decreases-cut_steps l = 3 * cost (model_of_cover l.cover.now)

abbrev pub decreases-all_steps : goal.decreases-all_steps
decreases-all_steps l = 3 * cost (model_of_cover l.cover.now) + 1

abbrev pub decreases-inside_operands : goal.decreases-inside_operands
decreases-inside_operands l = 3 * operands_cost (model_of_cover_operands l.operands.now) + 2

abbrev pub decreases-into_cells : goal.decreases-into_cells
decreases-into_cells l = 3 * cuts_cost (model_of_cover_cuts l.covers.now) + 2
