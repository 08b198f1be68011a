use Rattle.std.proofs.Common.{◌++◌, length, map}
use Rattle.grammar.specs.Reading.{Leads, ListOf}
use Rattle.net_model.specs.declared.words.Symbol.TheVariants.{Comma}
use Rattle.grammar.specs.Tokens.{Behind}
use Rattle.net_model.specs.Grammar.{IsBinding, IsBindings}
use Rattle.net_model.specs.Written.{binding_of}
use Rattle.net_parser.specs.Inner.Steps.{after_links}
use Rattle.net_parser.proofs.parts.bindings.Given as goal

-- what completes the list so far completes the whole
abbrev pub invariant-others : goal.invariant-others
invariant-others l = Leads (λ vs. map binding_of l.links ++ vs) (ListOf (Behind Comma IsBinding)) after_links l.rest IsBindings after_links l.fn.ts

abbrev pub decreases-others : goal.decreases-others
decreases-others l = length l.rest
