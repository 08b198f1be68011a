use Rattle.form_set.proofs.FormLaws.{form_at}
use Rattle.form_set.proofs.laws.law_of_forms.Goals as goal

pub returns : goal.returns
returns c = λ netlist patterns forms reach h k form at. form_at netlist reach 0 patterns forms h.list k form at
