use Rattle.std.proofs.Common.{◌≡◌, ◌≤◌, ◌++◌, drop}
use Rattle.form_model.specs.Forms.{models_of_forms}
use Rattle.branch_fix.specs.Parts.{blocks_before, tests_before, parts_from, parts_of}
use Rattle.branch_fix.proofs.cut.parts.Given as goal

abbrev pub invariant-loop-at : goal.invariant-loop-at
invariant-loop-at l = record {
  made : l.parts ++ parts_from (models_of_forms l.outline.forms.now.list.items) l.outline.flow.now l.outline.sizes.now l.outline.branches.now (drop l.at l.outline.flow.now) l.at
      ≡ parts_of (models_of_forms l.outline.forms.now.list.items) l.outline.flow.now l.outline.sizes.now l.outline.branches.now;
  blocks : l.before.blocks ≡ blocks_before l.outline.flow.now l.at;
  tests : l.before.tests ≡ tests_before l.outline.flow.now l.at;
  few : l.before.tests ≤ l.at;
}
