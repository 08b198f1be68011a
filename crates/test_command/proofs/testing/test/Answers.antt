use Rattle.std.proofs.lemmas.Result.{IfErr-weaker, IfOk-weaker}
use Rattle.isa_extract.proofs.RoutedTaken.{taken_plain}
use Rattle.test_command.proofs.Answering.{lacking, tested}
use Rattle.test_command.proofs.testing.test.Goals as goal

-- an edition that is taken has no modes
pub text_of-requires-clause-plain : goal.text_of-requires-clause-plain
text_of-requires-clause-plain c = taken_plain 1 c.args.net.now c.in_ok-checked.checked c.in_ok-checked.ensures.netlist

pub returns-clause-tested : goal.returns-clause-tested
returns-clause-tested c =
    IfOk-weaker c.text_of.result _ _ (tested c.args.net.now c.in_ok-checked.checked c.in_ok-checked.ensures.netlist) c.text_of.ensures.text

pub returns-clause-refused : goal.returns-clause-refused
returns-clause-refused c =
    IfErr-weaker c.text_of.result _ _ (lacking c.args.net.now c.in_ok-checked.checked c.in_ok-checked.ensures.netlist) c.text_of.ensures.refused
