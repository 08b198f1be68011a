use Rattle.std.proofs.Common.{◌++◌, length, map}
use Rattle.grammar.specs.Reading.{Leads, ListOf}
use Rattle.net_model.specs.declared.words.Symbol.TheVariants.{Comma}
use Rattle.grammar.specs.Tokens.{Behind, IsNumber}
use Rattle.net_model.specs.Grammar.{NumbersBehind}
use Rattle.net_parser.specs.Inner.Steps.{after_list}
use Rattle.net_parser.proofs.expression.numbers.Given as goal

-- what completes the numbers so far completes the numbers behind the first one
abbrev pub invariant-others : goal.invariant-others
invariant-others l = Leads (λ ns. map (λ n. n) l.numbers.items ++ ns) (ListOf (Behind Comma IsNumber)) after_list l.rest (NumbersBehind l.fn.first) after_list l.fn.ts

abbrev pub decreases-others : goal.decreases-others
decreases-others l = length l.rest
