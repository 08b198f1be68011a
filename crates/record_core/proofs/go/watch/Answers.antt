use Rattle.src_model.specs.Written.{model_of_program}
use Rattle.right_code.proofs.Rows.{row_laid}
use Rattle.record_core.proofs.go.watch.Goals as goal

pub new-requires-clause-layout : goal.new-requires-clause-layout
new-requires-clause-layout g c =
    let program = c.args.program.now in
    row_laid program.modes.netlist program.typed.width (model_of_program program.typed.program) program.image c.requires.image.right.made.layout
