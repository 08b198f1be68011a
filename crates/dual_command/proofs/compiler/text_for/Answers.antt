use Rattle.std.proofs.Common.{refl}
use Rattle.net_model.proofs.ModeFaults.{modes_keep}
use Rattle.dual_command.specs.Inner.Viewed.{task_of}
use Rattle.dual_command.proofs.Imaged.{text_read}
use Rattle.dual_command.proofs.compiler.text_for.Goals as goal

pub text-requires-clause-rules : goal.text-requires-clause-rules
text-requires-clause-rules c = modes_keep c.args.modes.now.netlist c.args.modes.now.bases c.requires.seen.is.is.rules

pub returns-clause-text : goal.returns-clause-text
returns-clause-text c = λ n is.
    text_read c.args.modes.now n is c.in_ok-image.image c.in_ok-text.text.items (task_of n c.args.typed.now c.args.in_bank.now.items) refl (c.in_ok-image.ensures.image n is) c.in_ok-text.ensures
