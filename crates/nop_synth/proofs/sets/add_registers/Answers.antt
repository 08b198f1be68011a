use Rattle.std.proofs.Common.{sym}
use Rattle.std.proofs.lemmas.List.{append-nil}
use Rattle.form_model.specs.Live.{group_writes, regs_of}
use Rattle.word_fit.specs.Steps.{step_operation}
use Rattle.nop_synth.specs.Wanted.{register_sets}
use Rattle.nop_synth.proofs.Narrowing.{registers_more}
use Rattle.nop_synth.proofs.sets.add_registers.Goals as goal

pub loop-register-init : goal.loop-register-init
unfolding register_sets
loop-register-init c = sym (append-nil c.args.sets.now)

pub loop-register-preserved : goal.loop-register-preserved
loop-register-preserved c =
    registers_more c.args.machine.now.patterns.now (regs_of c.args.live) (group_writes (step_operation c.args.machine.now.pool.now c.args.machine.now.patterns.now) c.args.group.now) c.loop-register.register
    c.args.sets.now c.loop-register.sets c.add_register.new.sets c.is_kept-kept.result c.in_ok-add_register.ensures c.loop-register.invariant c.is_kept-kept.ensures
