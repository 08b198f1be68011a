use Rattle.std.proofs.Common.{ℕ, Bool, List, subst, sym}
use Rattle.compaction.specs.Tables.{AreTables}
use Rattle.compaction.proofs.packer.pack.Goals as goal

pub pack_with-requires-clause-tables : goal.pack_with-requires-clause-tables
pack_with-requires-clause-tables c =
    let pool = c.args.machine.now.pool.now in
    subst (λ (sets : List ℕ). AreTables pool sets c.as_slice-2.result.now) (sym c.as_slice.ensures)
    (subst (λ (flags : List Bool). AreTables pool c.in_ok-tables.tables.registers flags) (sym c.as_slice-2.ensures) c.in_ok-tables.ensures)
