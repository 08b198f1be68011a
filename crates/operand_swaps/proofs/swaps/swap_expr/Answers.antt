use Rattle.std.proofs.Common.{◌∙◌, ap}
use Rattle.net_model.specs.Exprs.{ExprModel, model_of_expr}
use Rattle.operand_swaps.specs.Swaps.{levels}
use Rattle.operand_swaps.specs.Inner.LevelSwaps.{left_levels, swap_levels}
use Rattle.operand_swaps.proofs.Swapping.{all_left, all_swap}
use Rattle.operand_swaps.proofs.swaps.swap_expr.Goals as goal

pub returns-clause-left : goal.returns-clause-left
returns-clause-left c =
    let t : ExprModel = model_of_expr c.args.expr.now in
    c.swap_levels.ensures.left ∙ ap (λ n. left_levels n 0 c.args.choice t) c.levels-levels.ensures ∙ all_left (levels t) 0 c.args.choice t

pub returns-clause-swapped : goal.returns-clause-swapped
returns-clause-swapped c =
    let t : ExprModel = model_of_expr c.args.expr.now in
    c.swap_levels.ensures.swapped ∙ ap (λ n. swap_levels n 0 c.args.choice t) c.levels-levels.ensures ∙ all_swap (levels t) 0 c.args.choice t
