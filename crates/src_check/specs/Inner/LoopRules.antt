-- The rule that a question asks for.
use Rattle.std.specs.Prelude.{ℕ, List}
use Rattle.src_model.specs.Loops.{LoopRuleModel, Round, changes_rule, counters}
use Rattle.src_model.specs.Rules.{names, widths, indexes}
use Rattle.src_check.specs.declared.walk.LoopRule.{LoopRule}
use Rattle.src_check.specs.declared.walk.LoopRule.TheVariants.{Names, Widths, Indexes, Counters, Changes}

abbrev pub model_of_loop_rule : LoopRule → LoopRuleModel
model_of_loop_rule (Names table) = names table.now
model_of_loop_rule (Widths word) = widths word
model_of_loop_rule (Indexes table) = indexes table.now
model_of_loop_rule (Counters word) = counters word
model_of_loop_rule (Changes name) = changes_rule name.now

abbrev pub round : List ℕ → ℕ → ℕ → Round
round counter from to = record { counter = counter; from = from; to = to }
