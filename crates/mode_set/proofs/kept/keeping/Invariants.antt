use Rattle.std.proofs.Common.{◌≡◌, Some, take}
use Rattle.bit_bdd.specs.Diagrams.{Extends}
use Rattle.form_model.specs.Registers.{AreLow}
use Rattle.form_model.specs.Forms.{models_of_forms}
use Rattle.form_set.specs.Listing.{greatest_reach}
use Rattle.mode_set.specs.Keeping.{AreKeeping}
use Rattle.transfer_set.specs.Machines.{IsReadyFor}
use Rattle.transfer_set.specs.Rows.{row_patterns}
use Rattle.mode_set.proofs.kept.keeping.Given as goal

-- those of the forms before the one that comes next
abbrev pub invariant-loop-form : goal.invariant-loop-form
invariant-loop-form l = record {
  grows : Extends l.initial.book l.book;
  ready : IsReadyFor l.machine l.book;
  low : AreLow (models_of_forms l.list.items);
  kept : AreKeeping l.machine.checked.now.netlist (row_patterns l.machine.pool.now l.machine.patterns.now.rows) (Some l.mode) (models_of_forms (take l.form-index l.forms.list.items)) (models_of_forms l.list.items);
  far : l.reach ≡ greatest_reach (models_of_forms l.list.items);
}
