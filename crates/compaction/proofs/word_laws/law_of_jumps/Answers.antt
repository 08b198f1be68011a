use Rattle.compaction.proofs.Worded.{jump_has_word}
use Rattle.compaction.proofs.word_laws.law_of_jumps.Goals as goal

pub returns : goal.returns
returns c = λ netlist patterns step h. jump_has_word netlist patterns step h
