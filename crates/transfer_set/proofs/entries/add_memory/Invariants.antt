use Rattle.std.proofs.Common.{◌≡◌, ℕ, ◌==◌, ◌&&◌, ◌++◌, List, take}
use Rattle.bit_bdd.specs.Diagrams.{Extends, has_word}
use Rattle.net_model.specs.declared.hardware.Netlist.{Netlist}
use Rattle.net_model.specs.Exprs.{ExprModel}
use Rattle.sym_expr.specs.declared.pool.Node.{Node}
use Rattle.transfer_set.specs.Routes.{AllExprs, models_under}
use Rattle.transfer_set.specs.Inner.Entries.{HaveWords, AreKnown, ArePairs, AreWhole, each, list_if, memory_transfers, transfers_under}
use Rattle.transfer_set.proofs.entries.add_memory.Given as goal

abbrev pub invariant-loop-route : goal.invariant-loop-route
invariant-loop-route l = record {
  grows : Extends l.initial.book l.book;
  words : HaveWords l.book l.out;
  moves : (pool : List Node) (id word : ℕ) → transfers_under l.book pool l.out id word ≡ transfers_under l.initial.book pool l.initial.out id word ++ list_if ((l.sink.storage == id) && has_word l.initial.book l.sink.on word) (each (λ (a : ExprModel). each (memory_transfers a) (models_under l.initial.book pool l.values word)) (models_under l.initial.book pool (take l.route-index l.addrs) word));
  whole : (netlist : Netlist) (pool : List Node) → AreWhole netlist pool l.initial.book l.initial.out → ArePairs netlist pool l.initial.book l.sink.storage l.sink.on l.addrs l.values → AreWhole netlist pool l.book l.out;
  known : (size : ℕ) → AreKnown size l.initial.out → AllExprs size l.addrs → AllExprs size l.values → AreKnown size l.out;
}
