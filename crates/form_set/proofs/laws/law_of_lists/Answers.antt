use Rattle.form_set.proofs.OneList.{forms_one}
use Rattle.form_set.proofs.laws.law_of_lists.Goals as goal

pub returns : goal.returns
returns c = λ netlist patterns forms others reach other h k. forms_one netlist patterns forms others reach other h k
