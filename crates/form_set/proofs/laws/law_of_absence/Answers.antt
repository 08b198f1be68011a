use Rattle.form_set.proofs.NoForms.{no_jump, no_step}
use Rattle.form_set.proofs.laws.law_of_absence.Goals as goal

pub returns-clause-plain : goal.returns-clause-plain
returns-clause-plain c = λ netlist patterns forms reach h. no_step netlist reach 0 patterns forms h.list

pub returns-clause-jumps : goal.returns-clause-jumps
returns-clause-jumps c = λ netlist patterns forms reach h. no_jump netlist reach 0 patterns forms h.list
