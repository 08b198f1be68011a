use Rattle.std.proofs.Common.{◌≡◌, IfOk, map, subst}
use Rattle.net_model.specs.TextRules.{first_fault}
use Rattle.net_model.specs.Written.{model_of_unit}
use Rattle.net_rules.proofs.fault.first_fault.Goals as goal

pub returns : goal.returns
returns c = subst (λ us. IfOk c.fault_behind_names.result (λ fault. fault ≡ first_fault c.args.units.now.edition (map model_of_unit us))) c.as_slice.ensures c.fault_behind_names.ensures
