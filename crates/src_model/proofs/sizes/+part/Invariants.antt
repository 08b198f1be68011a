use Rattle.std.proofs.Common.{◌+◌, ◌*◌}
use Rattle.src_model.specs.Written.{model_of_src_node, spot_node}
use Rattle.src_model.specs.Sizes.{nodes}
use Rattle.src_model.proofs.sizes.+part.Given as goal

abbrev pub decreases-part : goal.decreases-part
decreases-part l = 2 * nodes (model_of_src_node l.e.now.node) + 1

abbrev pub decreases-spot_part : goal.decreases-spot_part
decreases-spot_part l = 2 * nodes (spot_node l.spot.now)

abbrev pub decreases-sides : goal.decreases-sides
decreases-sides l = 2 * (nodes (model_of_src_node l.x.now.node) + nodes (model_of_src_node l.y.now.node)) + 2
