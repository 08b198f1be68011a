use Rattle.std.proofs.Common.{◌∙◌, arith}
use Rattle.bank_view.proofs.Beside.{beside_of, few_nets, storages_few}
use Rattle.bank_view.proofs.Numbers.{view_is}
use Rattle.bank_view.proofs.views.view.Goals as goal

pub slots-requires : goal.slots-requires
slots-requires c = omega (arith, few_nets c.args.netlist.now c.requires)

pub numbered-requires-clause-few : goal.numbered-requires-clause-few
numbered-requires-clause-few c = few_nets c.args.netlist.now c.requires

pub numbered-requires-clause-storages : goal.numbered-requires-clause-storages
numbered-requires-clause-storages c = omega (arith, storages_few c.args.netlist.now c.requires)

pub all_nets-requires-clause-bits : goal.all_nets-requires-clause-bits
all_nets-requires-clause-bits c = (beside_of c.args.netlist.now c.requires).few

pub storages-requires-clause-bits : goal.storages-requires-clause-bits
storages-requires-clause-bits c = (beside_of c.args.netlist.now c.requires).few

pub storages-requires-clause-size : goal.storages-requires-clause-size
storages-requires-clause-size c = (beside_of c.args.netlist.now c.requires).size.1

pub codes-requires : goal.codes-requires
codes-requires c = omega (arith, storages_few c.args.netlist.now c.requires)

pub returns : goal.returns
returns c =
    view_is c.args.netlist.now c.as_slice-2.result.now c.in_ok-nets.nets c.in_ok-storages.storages c.in_ok-codes.codes
    (c.as_slice-2.ensures ∙ c.in_ok-slots.ensures) c.in_ok-nets.ensures c.in_ok-storages.ensures c.in_ok-codes.ensures
