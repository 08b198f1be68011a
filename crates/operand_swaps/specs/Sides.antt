-- An address and a value as the code holds them.
use Rattle.std.specs.Prelude.{option_map}
use Rattle.net_model.specs.Exprs.{model_of_expr}
use Rattle.operand_swaps.specs.declared.swaps.Sides.{Sides}
use Rattle.operand_swaps.specs.Swaps.{SidesModel}

abbrev pub model_of_sides : Sides → SidesModel
model_of_sides sides = record { addr = option_map model_of_expr sides.addr; value = model_of_expr sides.value }
