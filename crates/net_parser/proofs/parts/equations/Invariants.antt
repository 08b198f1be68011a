use Rattle.std.proofs.Common.{◌++◌, length, map}
use Rattle.grammar.specs.Reading.{Leads, ListOf}
use Rattle.net_model.specs.Grammar.{IsEquation}
use Rattle.net_model.specs.Written.{binding_of}
use Rattle.net_parser.specs.Inner.Steps.{after_equations}
use Rattle.net_parser.proofs.parts.equations.Given as goal

-- what completes the list so far completes the whole
abbrev pub invariant-others : goal.invariant-others
invariant-others l = Leads (λ vs. map binding_of l.equations ++ vs) (ListOf IsEquation) after_equations l.rest (ListOf IsEquation) after_equations l.fn.ts

abbrev pub decreases-others : goal.decreases-others
decreases-others l = length l.rest
