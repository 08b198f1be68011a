use Rattle.std.proofs.Common.{◌+◌, ◌*◌}
use Rattle.src_model.specs.Written.{model_of_src_node, spot_node}
use Rattle.src_check.proofs.Weights.{weight}
use Rattle.src_check.proofs.widths.+wide.Given as goal

abbrev pub decreases-wide : goal.decreases-wide
decreases-wide l = 2 * weight (model_of_src_node l.e.now.node) + 1

abbrev pub decreases-spot_wide : goal.decreases-spot_wide
decreases-spot_wide l = 2 * weight (spot_node l.spot.now)

abbrev pub decreases-sides : goal.decreases-sides
decreases-sides l = 2 * (weight (model_of_src_node l.x.now.node) + weight (model_of_src_node l.y.now.node)) + 2
