-- What the expressions of a pool read, told once for all blocks.
use Rattle.std.specs.Prelude.{◌≡◌, ℕ, ◌<◌, Bool, false, List, length}
use Rattle.std.specs.List.{slice_index_or}
use Rattle.net_model.specs.Occurs.{has_read}
use Rattle.sym_expr.specs.declared.pool.Node.{Node}
use Rattle.sym_expr.specs.Pools.{expr_of_id}
use Rattle.live_sets.specs.Reading.{AreReads}
use Rattle.compaction.specs.declared.machine.KnownMachine.{KnownMachine}

-- for each of the first ids of a pool whether its expression reads the memory or the file
abbrev pub AreReaders : List Node → List Bool → Type 0
AreReaders pool flags = (id : ℕ) → id < length flags → slice_index_or flags id false ≡ has_read (expr_of_id pool id)

-- for each expression of the pool the registers below 16 that it reads, and whether it reads the
-- memory or the file
pub record AreTables (pool : List Node) (registers : List ℕ) (memory : List Bool) : Type 0 where
  pub long : length registers ≡ length pool
  pub reads : AreReads pool registers
  pub all : length memory ≡ length pool
  pub readers : AreReaders pool memory

-- those of a machine are of its pool
abbrev pub KnowsReads : KnownMachine → Type 0
KnowsReads known = AreTables known.machine.pool.now known.registers.now known.memory.now
