use Rattle.std.proofs.lemmas.Result.{IfOk-weaker}
use Rattle.compile_command.proofs.FittingLemmas.{few_code_bits}
use Rattle.compile_command.proofs.compiler.text.Goals as goal

pub write-requires : goal.write-requires
write-requires c = rw c.requires.fits.bits (few_code_bits c.args.modes.now.netlist c.requires.rules)

pub returns : goal.returns
returns c = IfOk-weaker c.write.result _ _ (λ text is. record { text = is; fits = c.requires.fits }) c.write.ensures
