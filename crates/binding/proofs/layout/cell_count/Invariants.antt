use Rattle.std.proofs.Common.{◌≡◌, ◌+◌, drop}
use Rattle.src_model.specs.Meaning.{cell_count}
use Rattle.binding.proofs.layout.cell_count.Given as goal

-- the cells so far, with those of the variables left, are those of all
abbrev pub invariant-loop-var : goal.invariant-loop-var
invariant-loop-var l = l.count + cell_count (drop l.var-index l.vars) ≡ cell_count l.vars
