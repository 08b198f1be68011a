-- What a step does by a table of patterns. What a step does by a table of patterns, and what it
-- writes. `Worked` has live registers and one clock edge, computed; `proofs/WorkedWords` a word
-- that fits a group, and words that don't: they lose a live flag, take another cell, or do another
-- transfer.
use Rattle.std.specs.Prelude.{List}
use Rattle.sym_expr.specs.declared.pool.Node.{Node}
use Rattle.transfer_set.specs.Rows.{row_patterns}
use Rattle.transfer_set.specs.Tables.{PatternTable}
use Rattle.form_model.specs.declared.forms.Step.{Step}
use Rattle.form_model.specs.Effects.{Operation, operation_of}

-- the transfer of the pattern of this number, under the step's setting; a number past the last
-- pattern's does nothing
abbrev pub step_operation : List Node → PatternTable → Step → Operation
step_operation pool table step = operation_of table.file (row_patterns pool table.rows) step
