use Rattle.std.proofs.Common.{◌∙◌, ap}
use Rattle.net_model.specs.Exprs.{model_of_expr}
use Rattle.operand_swaps.specs.Sides.{model_of_sides}
use Rattle.operand_swaps.specs.Swaps.{operator_paths, picks, swap_at}
use Rattle.operand_swaps.proofs.Swapping.{sides_swap}
use Rattle.operand_swaps.proofs.swaps.swap_sides.Goals as goal

pub returns : goal.returns
returns c =
    sides_swap c.args.choice (model_of_sides c.args.sides.now) _ c.swap_addr-rest.ensures.swapped
    (c.swap_expr.ensures.swapped
    ∙ ap (λ k. swap_at (picks k (operator_paths (model_of_expr c.args.sides.now.value))) (model_of_expr c.args.sides.now.value)) c.swap_addr-rest.ensures.left)
