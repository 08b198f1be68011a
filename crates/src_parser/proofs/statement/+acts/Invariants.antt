use Rattle.std.proofs.Common.{◌+◌, ◌*◌, ◌++◌, length, map}
use Rattle.grammar.specs.Reading.{Leads}
use Rattle.src_model.specs.Grammar.{IsBody}
use Rattle.src_model.specs.Written.{model_of_stmt}
use Rattle.src_parser.specs.Inner.Steps.{after_acts}
use Rattle.src_parser.proofs.statement.+acts.Given as goal

abbrev pub decreases-block : goal.decreases-block
decreases-block l = 10 * l.levels + 1

abbrev pub decreases-otherwise : goal.decreases-otherwise
decreases-otherwise l = 10 * l.levels + 2

abbrev pub decreases-choice : goal.decreases-choice
decreases-choice l = 10 * l.levels + 3

abbrev pub decreases-repetition : goal.decreases-repetition
decreases-repetition l = 10 * l.levels + 3

abbrev pub decreases-counting : goal.decreases-counting
decreases-counting l = 10 * l.levels + 3

abbrev pub decreases-composed : goal.decreases-composed
decreases-composed l = 10 * l.levels + 4

abbrev pub decreases-act : goal.decreases-act
decreases-act l = 10 * l.levels + 5

abbrev pub decreases-body : goal.decreases-body
decreases-body l = 10 * l.levels + 6

-- what completes the statements so far completes the whole
abbrev pub invariant-body-acts : goal.invariant-body-acts
invariant-body-acts l = Leads (λ vs. map model_of_stmt l.acts.items ++ vs) (IsBody l.levels) after_acts l.rest (IsBody l.levels) after_acts l.fn.ts

abbrev pub decreases-body-acts : goal.decreases-body-acts
decreases-body-acts l = length l.rest
