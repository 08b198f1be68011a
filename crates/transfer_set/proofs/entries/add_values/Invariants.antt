use Rattle.std.proofs.Common.{◌≡◌, ℕ, ◌<◌, ◌==◌, ◌&&◌, ◌++◌, List, take}
use Rattle.bit_bdd.specs.Diagrams.{Extends, has_word}
use Rattle.net_model.specs.declared.hardware.Netlist.{Netlist}
use Rattle.sym_expr.specs.declared.pool.Node.{Node}
use Rattle.sym_expr.specs.Pools.{expr_of_id}
use Rattle.transfer_set.specs.Routes.{AllExprs, models_under}
use Rattle.transfer_set.specs.Inner.Entries.{HaveWords, AreKnown, AreValues, AreWhole, each, list_if, memory_transfers, transfers_under}
use Rattle.transfer_set.proofs.entries.add_values.Given as goal

abbrev pub invariant-loop-route : goal.invariant-loop-route
invariant-loop-route l = record {
  grows : Extends l.initial.book l.book;
  words : HaveWords l.book l.out;
  moves : (pool : List Node) (id word : ℕ) → transfers_under l.book pool l.out id word ≡ transfers_under l.initial.book pool l.initial.out id word ++ list_if ((l.sink.storage == id) && has_word l.initial.book l.sink.on word) (each (memory_transfers (expr_of_id pool l.addr)) (models_under l.initial.book pool (take l.route-index l.values) word));
  whole : (netlist : Netlist) (pool : List Node) → AreWhole netlist pool l.initial.book l.initial.out → AreValues netlist pool l.initial.book l.sink.storage l.addr l.sink.on l.values → AreWhole netlist pool l.book l.out;
  known : (size : ℕ) → AreKnown size l.initial.out → l.addr < size → AllExprs size l.values → AreKnown size l.out;
}
