use Rattle.std.proofs.Common.{◌≡◌, ℕ, ◌==◌, ◌&&◌, ◌++◌, length, take}
use Rattle.bit_bdd.specs.Diagrams.{Extends, has_word}
use Rattle.net_model.specs.declared.hardware.Netlist.{Netlist}
use Rattle.transfer_set.specs.Routes.{models_under}
use Rattle.transfer_set.specs.Inner.Entries.{HaveWords, AreKnown, AreWhole, AreWrites, each, list_if, transfers_under, register_transfers}
use Rattle.transfer_set.proofs.entries.add_register.Given as goal

abbrev pub invariant-loop-route : goal.invariant-loop-route
invariant-loop-route l = record {
  grows : Extends l.initial.book l.book;
  words : HaveWords l.book l.out;
  moves : (id word : ℕ) → transfers_under l.book l.pool l.out id word ≡ transfers_under l.initial.book l.pool l.initial.out id word ++ list_if ((l.sink.storage == id) && has_word l.initial.book l.sink.on word) (each (register_transfers l.sink.storage) (models_under l.initial.book l.pool (take l.route-index l.routes) word));
  whole : (netlist : Netlist) → AreWhole netlist l.pool l.initial.book l.initial.out → AreWrites netlist l.pool l.initial.book l.sink.storage l.sink.on l.routes → AreWhole netlist l.pool l.book l.out;
  known : AreKnown (length l.pool) l.initial.out → AreKnown (length l.pool) l.out;
}
