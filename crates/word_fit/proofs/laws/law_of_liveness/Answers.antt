use Rattle.word_fit.proofs.Needed.{live-needed}
use Rattle.word_fit.proofs.laws.law_of_liveness.Goals as goal

pub returns : goal.returns
returns c = λ m later after r. live-needed m later after r
