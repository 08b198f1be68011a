use Rattle.std.proofs.Common.{◌++◌, length, map}
use Rattle.grammar.specs.Reading.{Leads, ListOf}
use Rattle.net_model.specs.Grammar.{IsItem, IsItems}
use Rattle.net_model.specs.Written.{model_of_unit}
use Rattle.net_parser.specs.Inner.Steps.{after_items}
use Rattle.net_parser.proofs.item.items.Given as goal

-- what completes the list so far completes the whole
abbrev pub invariant-others : goal.invariant-others
invariant-others l = Leads (λ vs. map model_of_unit l.items ++ vs) (ListOf IsItem) after_items l.rest IsItems after_items l.fn.ts

abbrev pub decreases-others : goal.decreases-others
decreases-others l = length l.rest
