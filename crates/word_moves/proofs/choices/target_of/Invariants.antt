use Rattle.std.proofs.Common.{◌≡◌, drop}
use Rattle.word_moves.specs.Inner.Choices.{case_target}
use Rattle.word_moves.proofs.choices.target_of.Given as goal

abbrev pub invariant-loop-row : goal.invariant-loop-row
invariant-loop-row l = case_target l.key l.rows l.rest ≡ case_target l.key (drop l.row-index l.rows) l.rest
