use Rattle.std.proofs.Common.{◌≡◌, ℕ, ◌<◌, ◌&&◌, not, length, drop}
use Rattle.std.specs.List.{list_any}
use Rattle.net_model.specs.declared.hardware.Net.{Net}
use Rattle.net_model.specs.Clock.{gate_clashes}
use Rattle.bit_bdd.specs.Diagrams.{Extends, has_word}
use Rattle.ctl_bdd.specs.Tables.{numbers_at}
use Rattle.ctl_bdd.proofs.legal.legal_set.Given as goal

abbrev pub invariant-loop-net : goal.invariant-loop-net
invariant-loop-net l = record {
  grows : Extends l.initial.book l.book;
  within : l.legal < length l.book.nodes;
  words : (word : ℕ) →
      (has_word l.book l.legal word && not (list_any (λ (net : Net). gate_clashes (numbers_at l.initial.book l.table word) net.gate) (drop l.net-index l.nets)))
      ≡ not (list_any (λ (net : Net). gate_clashes (numbers_at l.initial.book l.table word) net.gate) l.nets);
}
