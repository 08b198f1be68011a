use Rattle.std.proofs.Common.{ℕ, Bool, List, subst, sym}
use Rattle.compaction.specs.Tables.{AreTables}
use Rattle.test_command.proofs.testing.text_of.Goals as goal

pub code-requires-clause-tables : goal.code-requires-clause-tables
code-requires-clause-tables c =
    let pool = c.args.extracted.now.pool in
    subst (λ (sets : List ℕ). AreTables pool sets c.as_slice-2.result.now) (sym c.as_slice.ensures)
    (subst (λ (flags : List Bool). AreTables pool c.in_ok-tables.tables.registers flags) (sym c.as_slice-2.ensures) c.in_ok-tables.ensures)
