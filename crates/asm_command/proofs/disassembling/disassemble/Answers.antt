use Rattle.std.proofs.lemmas.Result.{IfErr-weaker, IfOk-weaker}
use Rattle.asm_command.specs.Inner.Tables.{machine_of}
use Rattle.asm_command.proofs.Read.{disassembled_of, fault_of_image, is_machine}
use Rattle.asm_command.proofs.disassembling.disassemble.Goals as goal

pub returns-clause-disassembled : goal.returns-clause-disassembled
returns-clause-disassembled c =
    let netlist = c.in_ok-checked.checked.netlist in
    IfOk-weaker c.out_of.result _ _
    (λ text of. disassembled_of c.args.net.now c.args.image.now (machine_of netlist c.in_ok-checked.extracted) (is_machine c.args.net.now c.in_ok-checked.checked c.in_ok-checked.extracted c.in_ok-checked.ensures.netlist c.in_ok-checked.ensures.extracted c.in_ok-checked.ensures.patterns) text.items of)
    c.out_of.ensures.out

pub returns-clause-refused : goal.returns-clause-refused
returns-clause-refused c =
    let netlist = c.in_ok-checked.checked.netlist in
    IfErr-weaker c.out_of.result _ _
    (fault_of_image c.args.net.now c.args.image.now (machine_of netlist c.in_ok-checked.extracted) (is_machine c.args.net.now c.in_ok-checked.checked c.in_ok-checked.extracted c.in_ok-checked.ensures.netlist c.in_ok-checked.ensures.extracted c.in_ok-checked.ensures.patterns))
    c.out_of.ensures.refused
