use Rattle.std.proofs.Common.{◌∙◌, ap, subst, sym}
use Rattle.std.proofs.lemmas.Result.{err_from_is_err_and}
use Rattle.net_front.proofs.FrontLaws.{formed_view, has_banks, plain_view, viewed_by}
use Rattle.bank_view.specs.Keeping.{HasBanks}
use Rattle.bank_view.specs.Views.{view_of}
use Rattle.net_front.proofs.front.viewed.Goals as goal

pub view-requires : goal.view-requires
view-requires c =
    subst HasBanks (sym c.netlist.ensures.value) (has_banks c.args.netlist c.in_ok-checked.checked c.requires.banked c.in_ok-checked.ensures.found)

pub check_modes-requires-clause-formed : goal.check_modes-requires-clause-formed
check_modes-requires-clause-formed c =
    formed_view c.args.netlist c.in_ok-checked.checked c.requires.banked c.in_ok-checked.ensures.found c.in_ok-view.view (c.in_ok-view.ensures ∙ ap view_of c.netlist.ensures.value)

pub check_modes-requires-clause-plain : goal.check_modes-requires-clause-plain
check_modes-requires-clause-plain c =
    plain_view c.args.netlist c.in_ok-checked.checked c.requires.banked c.in_ok-checked.ensures.found c.in_ok-view.view (c.in_ok-view.ensures ∙ ap view_of c.netlist.ensures.value)

pub returns : goal.returns
returns c =
    viewed_by c.args.netlist c.in_ok-checked.checked c.requires.banked c.in_ok-checked.ensures.found c.in_ok-view.view (c.in_ok-view.ensures ∙ ap view_of c.netlist.ensures.value)
    c.check_modes.result c.check_modes.ensures.found c.check_modes.ensures.accepted

pub returns-in_err-checked : goal.returns-in_err-checked
returns-in_err-checked c =
    let p = err_from_is_err_and c.from_residual.result c.from_residual.ensures.1 in
    rw (p.1, p.2) c.in_err-checked.ensures.found
