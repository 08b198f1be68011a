use Rattle.std.proofs.Common.{◌≡◌, ℕ, ◌<◌, slice_get, remove, Some}
use Rattle.bit_bdd.specs.Diagrams.{Extends}
use Rattle.form_model.specs.declared.forms.Step.{Step}
use Rattle.form_model.specs.Live.{regs_of}
use Rattle.transfer_set.specs.Machines.{IsReadyFor}
use Rattle.compaction.specs.Inner.Machines.{CanMove}
use Rattle.compaction.proofs.change.moved.Given as goal

abbrev pub invariant-loop-index : goal.invariant-loop-index
invariant-loop-index l = record {
  grows : Extends l.initial.book l.book;
  ready : IsReadyFor l.known.machine l.book;
  none : (k : ℕ) → k < l.index → (x : Step) → slice_get l.second k ≡ Some x → CanMove l.known l.first x (remove l.second k) (regs_of l.live) → ⊥;
}
