use Rattle.std.proofs.Common.{Some, take}
use Rattle.bit_bdd.specs.Diagrams.{Extends}
use Rattle.form_model.specs.Forms.{models_of_forms}
use Rattle.mode_set.specs.ModeWords.{IsLeastModeWord}
use Rattle.transfer_set.specs.Machines.{IsReadyFor}
use Rattle.transfer_set.specs.Rows.{row_patterns}
use Rattle.mode_set.proofs.puts.mode_word.Given as goal

-- the least word of the forms before the one that comes next
abbrev pub invariant-loop-form : goal.invariant-loop-form
invariant-loop-form l = record {
  grows : Extends l.initial.book l.book;
  ready : IsReadyFor l.machine l.book;
  least : IsLeastModeWord l.machine.checked.now.netlist (Some l.mode) (row_patterns l.machine.pool.now l.machine.patterns.now.rows) (models_of_forms (take l.form-index l.forms.list.items)) l.value l.least;
}
