use Rattle.std.proofs.Common.{◌≡◌, ◌+◌, ◌++◌, drop}
use Rattle.form_model.specs.Forms.{models_of_forms}
use Rattle.branch_fix.specs.Parts.{total}
use Rattle.branch_fix.specs.Rounds.{widened_from}
use Rattle.branch_fix.proofs.widen.widened.Given as goal

abbrev pub invariant-loop-part : goal.invariant-loop-part
invariant-loop-part l = record {
  made : l.new ++ widened_from (models_of_forms l.forms) l.addresses l.address (drop l.part-index l.parts) ≡ widened_from (models_of_forms l.forms) l.addresses 0 l.parts;
  sum : l.address + total (drop l.part-index l.parts) ≡ total l.parts;
}
