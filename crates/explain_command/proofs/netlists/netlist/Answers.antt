use Rattle.std.proofs.lemmas.Result.{err_from_is_err_and}
use Rattle.std.proofs.Common.{subst, sym}
use Rattle.net_model.specs.declared.hardware.Netlist.{Netlist}
use Rattle.isa_extract.specs.Extraction.{IsIsaOf}
use Rattle.explain_command.proofs.Alone.{alone_net, plain_net, taken_rules, untaken}
use Rattle.explain_command.proofs.netlists.netlist.Goals as goal

pub alone-requires : goal.alone-requires
alone-requires c = taken_rules c.args.net.now c.in_ok-checked.checked c.in_ok-checked.ensures.netlist

pub returns-clause-found : goal.returns-clause-found
returns-clause-found c =
    plain_net c.args.net.now c.in_ok-checked.checked c.in_ok-checked.ensures.netlist c.in_ok-modes.modes c.in_ok-modes.ensures.netlist c.in_ok-modes.ensures.bases

pub returns-clause-alone : goal.returns-clause-alone
returns-clause-alone c =
    alone_net c.args.net.now c.in_ok-checked.checked c.in_ok-checked.ensures.netlist c.in_ok-modes.modes c.in_ok-modes.ensures.netlist c.in_ok-modes.ensures.bases

pub returns-clause-isa : goal.returns-clause-isa
returns-clause-isa c =
    subst (λ (n : Netlist). IsIsaOf n c.in_ok-checked.isa) (sym c.in_ok-modes.ensures.netlist)
    (record { extracted = c.in_ok-checked.ensures.extracted; patterns = c.in_ok-checked.ensures.patterns })

pub returns-in_err-checked-clause-refused : goal.returns-in_err-checked-clause-refused
returns-in_err-checked-clause-refused c =
    let p = err_from_is_err_and c.from_residual.result c.from_residual.ensures.1 in
    rw (p.1, p.2) (untaken c.args.net.now _ c.in_err-checked.ensures.refused)
