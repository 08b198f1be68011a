use Rattle.compaction.proofs.Worded.{have_words}
use Rattle.compaction.proofs.word_laws.law_of_forms.Goals as goal

pub returns : goal.returns
returns c = λ netlist patterns clobbers steps after f s. have_words netlist patterns clobbers steps after f s
