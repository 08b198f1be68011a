use Rattle.right_code.proofs.OneForms.{all_alike, keeping_alike}
use Rattle.mode_set.specs.Keeping.{held}
use Rattle.right_code.proofs.laws.law_of_isas.Goals as goal

pub returns : goal.returns
returns c = λ netlist isas others v. (all_alike netlist (held netlist v) (isas v) (others v), keeping_alike netlist (held netlist v) (isas v) (others v))
