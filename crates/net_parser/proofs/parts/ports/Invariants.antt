use Rattle.std.proofs.Common.{◌++◌, length, map}
use Rattle.grammar.specs.Reading.{Leads, ListOf}
use Rattle.net_model.specs.declared.words.Symbol.TheVariants.{Comma}
use Rattle.grammar.specs.Tokens.{Behind}
use Rattle.net_model.specs.Grammar.{IsPort, IsPorts}
use Rattle.net_parser.specs.Inner.Steps.{after_list}
use Rattle.net_parser.proofs.parts.ports.Given as goal

-- what completes the list so far completes the whole
abbrev pub invariant-others : goal.invariant-others
invariant-others l = Leads (λ vs. map (λ p. p) l.ports ++ vs) (ListOf (Behind Comma IsPort)) after_list l.rest IsPorts after_list l.fn.ts

abbrev pub decreases-others : goal.decreases-others
decreases-others l = length l.rest
