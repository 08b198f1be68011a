use Rattle.std.proofs.Common.{◌≡◌, ◌∙◌, arith, subst}
use Rattle.net_model.specs.ModeRules.{modes_in}
use Rattle.net_model.proofs.ModeFaults.{some_modes}
use Rattle.code_gen.proofs.ByMode.{TellsPassages, passages_whole}
use Rattle.code_gen.proofs.modes.passages.Goals as goal

pub returns-clause-words : goal.returns-clause-words
returns-clause-words c =
    let some = some_modes c.args.netlist.now in
    let long = c.requires.machines.long in
    let all : c.loop-mode.mode ≡ modes_in c.args.netlist.now = omega (arith, some, long, c.loop-mode-test.false, c.loop-mode.auto.mode-end) in
    passages_whole c.args.netlist.now c.args.machines.now c.args.list.now c.loop-mode.passages.items (c.loop-mode.invariant.long ∙ all)
    (subst (TellsPassages c.args.netlist.now c.args.machines.now c.args.list.now c.loop-mode.passages.items) all c.loop-mode.invariant.told)
