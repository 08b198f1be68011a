use Rattle.std.proofs.lemmas.Result.{IfErr-weaker, IfOk-weaker}
use Rattle.asm_command.specs.Inner.Tables.{machine_of}
use Rattle.asm_command.proofs.Read.{assembled_of, fault_of_source, is_machine, texts_ready}
use Rattle.asm_command.proofs.assembling.assemble.Goals as goal

pub out_of-requires-clause-texts : goal.out_of-requires-clause-texts
out_of-requires-clause-texts c = texts_ready c.args.net.now c.in_ok-checked.checked c.in_ok-checked.extracted c.in_ok-checked.ensures.netlist c.in_ok-checked.ensures.extracted c.in_ok-checked.ensures.patterns

pub returns-clause-assembled : goal.returns-clause-assembled
returns-clause-assembled c =
    let netlist = c.in_ok-checked.checked.netlist in
    IfOk-weaker c.out_of.result _ _
    (λ out of. assembled_of c.args.net.now c.args.text.now (machine_of netlist c.in_ok-checked.extracted) (is_machine c.args.net.now c.in_ok-checked.checked c.in_ok-checked.extracted c.in_ok-checked.ensures.netlist c.in_ok-checked.ensures.extracted c.in_ok-checked.ensures.patterns) out.items of)
    c.out_of.ensures.out

pub returns-clause-refused : goal.returns-clause-refused
returns-clause-refused c =
    let netlist = c.in_ok-checked.checked.netlist in
    IfErr-weaker c.out_of.result _ _
    (fault_of_source c.args.net.now c.args.text.now (machine_of netlist c.in_ok-checked.extracted) (is_machine c.args.net.now c.in_ok-checked.checked c.in_ok-checked.extracted c.in_ok-checked.ensures.netlist c.in_ok-checked.ensures.extracted c.in_ok-checked.ensures.patterns))
    c.out_of.ensures.refused
