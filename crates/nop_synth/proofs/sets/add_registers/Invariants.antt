use Rattle.std.proofs.Common.{◌≡◌, ◌++◌}
use Rattle.form_model.specs.Live.{group_writes, regs_of}
use Rattle.word_fit.specs.Steps.{step_operation}
use Rattle.nop_synth.specs.Wanted.{register_sets}
use Rattle.nop_synth.proofs.sets.add_registers.Given as goal

abbrev pub invariant-loop-register : goal.invariant-loop-register
invariant-loop-register l = l.sets ≡ l.initial.sets ++ register_sets l.machine.patterns.now (regs_of l.live) (group_writes (step_operation l.machine.pool.now l.machine.patterns.now) l.group) l.register
