use Rattle.net_model.proofs.ModeFaults.{modes_keep}
use Rattle.compile_command.specs.Code.{IsCode}
use Rattle.compile_command.proofs.TaskLemmas.{holds_of_read}
use Rattle.compile_command.proofs.compiler.compile.Goals as goal

pub text-requires-clause-rules : goal.text-requires-clause-rules
text-requires-clause-rules c =
    let modes = c.in_ok-compiled.compiled.modes in
    modes_keep modes.netlist modes.bases c.in_ok-compiled.ensures.compiled.read.net_file.routed.netlist.rules

pub text-requires-clause-fits : goal.text-requires-clause-fits
text-requires-clause-fits c = c.in_ok-compiled.ensures.compiled.image.fits

pub returns-clause-right : goal.returns-clause-right
returns-clause-right c =
    let made = c.in_ok-compiled.ensures.compiled in
    let program = c.in_ok-compiled.compiled in
    holds_of_read c.args.net.now c.args.src.now program.modes program.typed made.read.net_file made.read.width made.read.src_file (IsCode c.in_ok-text.text.items)
    (record { image = program.image; right = made.image; read = c.in_ok-text.ensures })
