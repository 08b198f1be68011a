use Rattle.std.proofs.lemmas.Result.{IfOk-from_err}
use Rattle.std.proofs.Common.{◌≡◌, ◌∙◌, ap}
use Rattle.std.specs.Prelude.{filter}
use Rattle.net_model.specs.Flags.{flag_at}
use Rattle.net_model.specs.Control.{control_places}
use Rattle.ctl_bdd.proofs.control.static_places.Goals as goal

pub returns : goal.returns
returns c =
    let found : c.in_ok-places.places ≡ filter (flag_at c.in_ok-statics.statics) (control_places c.args.checked.now.netlist) = rw (c.as_slice.ensures, c.netlist.ensures.value) at c.in_ok-places.ensures in
    found ∙ ap (λ f. filter f (control_places c.args.checked.now.netlist)) c.in_ok-statics.ensures.flags

pub returns-in_err-places : goal.returns-in_err-places
returns-in_err-places c = IfOk-from_err c.from_residual-in_err-places.result _ c.from_residual-in_err-places.ensures.0

pub returns-in_err-statics : goal.returns-in_err-statics
returns-in_err-statics c = IfOk-from_err c.from_residual.result _ c.from_residual.ensures.0
