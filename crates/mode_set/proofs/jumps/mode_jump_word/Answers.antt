use Rattle.std.proofs.Common.{◌<◌, arith}
use Rattle.std.proofs.lemmas.Nat.{one_shl}
use Rattle.net_model.proofs.KeptRules.{few_storages}
use Rattle.net_model.proofs.Storages.{register_within}
use Rattle.word_fit.specs.Steps.{step_operation}
use Rattle.mode_set.proofs.Turning.{turn_result}
use Rattle.mode_set.proofs.jumps.mode_jump_word.Goals as goal

pub overflow_cast-mode : goal.overflow_cast-mode
overflow_cast-mode c =
    let netlist = c.args.machine.now.checked.now.netlist in
    omega (arith, register_within netlist.storages c.args.mode c.requires.mode, few_storages netlist c.args.machine.now.checked.now.order c.netlist-netlist.ensures.kept)

pub overflow_shl-mode : goal.overflow_shl-mode
overflow_shl-mode c =
    let netlist = c.args.machine.now.checked.now.netlist in
    omega (arith, register_within netlist.storages c.args.mode c.requires.mode, few_storages netlist c.args.machine.now.checked.now.order c.netlist-netlist.ensures.kept)

pub returns-clause-word : goal.returns-clause-word
returns-clause-word c =
    let netlist = c.args.machine.now.checked.now.netlist in
    let within : c.args.mode < 16 = omega (arith, register_within netlist.storages c.args.mode c.requires.mode, few_storages netlist c.args.machine.now.checked.now.order c.netlist-netlist.ensures.kept) in
    turn_result netlist c.args.mode c.requires.mode (step_operation c.args.machine.now.pool.now c.args.machine.now.patterns.now c.args.step) _ (one_shl c.args.mode 16 within) c.jump_word.result c.jump_word.ensures.word
