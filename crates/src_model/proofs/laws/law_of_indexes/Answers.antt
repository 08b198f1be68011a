use Rattle.src_model.proofs.InsideLemmas.{indexes_inside}
use Rattle.src_model.proofs.laws.law_of_indexes.Goals as goal

pub returns : goal.returns
returns c = λ word program cells m h fits. indexes_inside word program h cells fits m
