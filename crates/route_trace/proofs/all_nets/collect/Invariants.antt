use Rattle.std.proofs.Common.{◌≡◌, ℕ, ◌^◌, ◌<◌, length, true}
use Rattle.bit_bdd.specs.Diagrams.{Extends}
use Rattle.net_model.specs.Order.{position_of}
use Rattle.net_model.specs.Symbolic.{sym_of}
use Rattle.sym_expr.specs.Pools.{Grows}
use Rattle.transfer_set.specs.Routes.{models_under, only, routes_at}
use Rattle.route_trace.specs.Inner.Gates.{HaveWidths}
use Rattle.route_trace.specs.Inner.Routing.{AreTables}
use Rattle.route_trace.specs.Inner.Verdicts.{IsFound, kept_at, verdict_at}
use Rattle.route_trace.proofs.all_nets.collect.Given as goal

abbrev pub invariant-loop-id : goal.invariant-loop-id
invariant-loop-id l = record {
  book : Extends l.initial.book l.book;
  pool : Grows l.initial.pool l.pool;
  long : length l.routes ≡ length l.checked.netlist.nets;
  judged : length l.verdicts ≡ length l.checked.netlist.nets;
  tables : AreTables l.book l.pool l.routes;
  widths : HaveWidths l.checked.netlist l.pool l.routes;
  found : (m : ℕ) → position_of l.order m < l.id-index → IsFound l.checked.netlist m (verdict_at l.verdicts m);
  done : (m word : ℕ) → position_of l.order m < l.id-index → kept_at l.verdicts m ≡ true → word < 2 ^ l.book.bits → models_under l.book l.pool (routes_at l.routes m) word ≡ only l.book l.controls.legal word (sym_of l.checked.netlist word m);
}
