use Rattle.std.proofs.Common.{◌++◌, length}
use Rattle.grammar.specs.Reading.{Leads}
use Rattle.src_model.specs.Grammar.{IsLines}
use Rattle.src_parser.specs.Inner.Steps.{after_lines}
use Rattle.src_parser.proofs.declaration.lines.Given as goal

-- what completes the variables so far completes those of all lines
abbrev pub invariant-lines : goal.invariant-lines
invariant-lines l = Leads (λ vs. l.vars.items ++ vs) IsLines after_lines l.rest IsLines after_lines l.fn.ts

abbrev pub decreases-lines : goal.decreases-lines
decreases-lines l = length l.rest
