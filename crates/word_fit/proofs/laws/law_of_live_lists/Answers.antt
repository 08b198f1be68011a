use Rattle.word_fit.proofs.Needed.{lives_at}
use Rattle.word_fit.proofs.laws.law_of_live_lists.Goals as goal

pub returns : goal.returns
returns c = λ m groups after k lt. lives_at m groups after k lt
