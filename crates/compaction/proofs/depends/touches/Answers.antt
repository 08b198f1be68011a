use Rattle.std.proofs.Common.{sym, ◌∙◌}
use Rattle.compaction.specs.Machines.{known_operation}
use Rattle.compaction.proofs.Memory.{unseen}
use Rattle.compaction.proofs.depends.touches.Goals as goal

pub returns-then-not-reads_memory : goal.returns-then-not-reads_memory
returns-then-not-reads_memory c =
    sym (unseen (known_operation c.args.known.now c.args.reader) (known_operation c.args.known.now c.args.writer)
    (sym (c.stores_cells.ensures c.args.known.now.machine.pool.now) ∙ c.if-stores_cells.true) (sym c.reads_memory.ensures ∙ c.if-not-reads_memory.true))
