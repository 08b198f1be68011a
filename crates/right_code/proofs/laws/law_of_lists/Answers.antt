use Rattle.right_code.proofs.OneForms.{forms_of_one}
use Rattle.right_code.proofs.laws.law_of_lists.Goals as goal

pub returns : goal.returns
returns c = forms_of_one
