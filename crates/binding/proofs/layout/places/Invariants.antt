use Rattle.std.proofs.Common.{◌≡◌, ◌+◌, ◌++◌, drop}
use Rattle.src_model.specs.Meaning.{cell_count}
use Rattle.code_model.specs.Places.{places_from}
use Rattle.code_model.specs.Layout.{variables_of}
use Rattle.binding.proofs.layout.places.Given as goal

-- the places so far, with those of the variables left, are those of all
abbrev pub invariant-loop-var : goal.invariant-loop-var
invariant-loop-var l = record {
  places : l.places ++ places_from l.address (variables_of (drop l.var-index l.vars)) ≡ places_from l.first (variables_of l.vars);
  address : l.address + cell_count (drop l.var-index l.vars) ≡ l.first + cell_count l.vars;
}
