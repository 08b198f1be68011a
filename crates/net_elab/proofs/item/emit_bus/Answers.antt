use Rattle.std.proofs.Common.{map, arith}
use Rattle.std.proofs.lemmas.Grind.{common_steps}
use Rattle.net_model.specs.TextNames.{in_text}
use Rattle.net_model.specs.Written.{driver_of, model_of_unit}
use Rattle.net_elab.proofs.Drivers.{drivers_wide}
use Rattle.net_elab.proofs.item.emit_bus.Goals as goal

pub emit_drivers-requires-clause-widths : goal.emit_drivers-requires-clause-widths
emit_drivers-requires-clause-widths c = drivers_wide (in_text (map model_of_unit c.args.text.now)) c.args.width (map driver_of c.args.drivers.now) c.requires.keeps.1

pub returns : goal.returns
returns c = grind (arith, common_steps)
