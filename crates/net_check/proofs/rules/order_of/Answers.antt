use Rattle.std.proofs.Common.{arith}
use Rattle.std.proofs.lemmas.Grind.{common_steps}
use Rattle.net_check.specs.Inner.Walk.{IsOrdering}
use Rattle.net_check.proofs.Netlists.{in_range, order_is, least_is}
use Rattle.net_check.proofs.rules.order_of.Goals as goal

pub sort-requires-clause-range : goal.sort-requires-clause-range
sort-requires-clause-range c = in_range c.args.netlist.now c.requires.formed c.args.graph.now c.requires.graph

pub least_on_cycle-requires-clause-range : goal.least_on_cycle-requires-clause-range
least_on_cycle-requires-clause-range c = in_range c.args.netlist.now c.requires.formed c.args.graph.now c.requires.graph

pub returns-in-Order : goal.returns-in-Order
returns-in-Order c =
    let o : IsOrdering c.args.graph.now c.in-Order.order = rw c.in-Order.is at c.in_ok-order.ensures in
    order_is c.args.netlist.now c.requires.formed c.args.graph.now c.requires.graph _ o

pub returns-in_ok-net-in-Cycle : goal.returns-in_ok-net-in-Cycle
returns-in_ok-net-in-Cycle c = (c.in_ok-net-in-Cycle.net, least_is c.args.netlist.now c.requires.formed c.args.graph.now c.requires.graph _ c.in_ok-net-in-Cycle.ensures, c.name_at.ensures)

pub sort-requires-clause-short : goal.sort-requires-clause-short
sort-requires-clause-short c = grind (arith, common_steps)

pub least_on_cycle-requires-clause-short : goal.least_on_cycle-requires-clause-short
least_on_cycle-requires-clause-short c = grind (arith, common_steps)
