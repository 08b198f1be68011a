use Rattle.form_model.specs.Live.{regs_of}
use Rattle.transfer_set.specs.Rows.{row_patterns}
use Rattle.compaction.specs.Machines.{known_fits, known_operation}
use Rattle.compaction.proofs.Meaning.{means_steps}
use Rattle.compaction.proofs.Packed.{start, steps_kept}
use Rattle.compaction.proofs.Patterns.{each_once}
use Rattle.compaction.proofs.packer.pack_with.Goals as goal

pub packed-requires-clause-start : goal.packed-requires-clause-start
packed-requires-clause-start c =
    let m = known_operation c.args.known.now in
    start m (known_fits c.args.known.now) (regs_of c.args.after) c.args.steps.now c.requires.words

pub returns-clause-steps : goal.returns-clause-steps
returns-clause-steps c = steps_kept (known_operation c.args.known.now) c.args.steps.now c.in_ok-block.block.groups c.in_ok-block.ensures.packing.same

pub returns-clause-once : goal.returns-clause-once
returns-clause-once c =
    each_once c.args.known.now.machine.checked.now.netlist c.args.known.now.machine.patterns.now.file (row_patterns c.args.known.now.machine.pool.now c.args.known.now.machine.patterns.now.rows) c.in_ok-block.block.groups (regs_of c.args.after) c.in_ok-block.ensures.packing.words c.in_ok-block.ensures.packing.differ

pub returns-clause-meaning : goal.returns-clause-meaning
returns-clause-meaning c =
    means_steps c.args.known.now.machine.checked.now.netlist c.args.known.now.machine.checked.now.order c.netlist-netlist.ensures.kept (known_operation c.args.known.now) (regs_of c.args.after) c.args.steps.now
    c.in_ok-block.block.groups c.in_ok-block.ensures.packing.same
