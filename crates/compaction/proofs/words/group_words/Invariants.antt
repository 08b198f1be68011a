use Rattle.std.proofs.Common.{◌≡◌, ℕ, ◌<◌, length, get_or, slice_get, slice_index, Some, List}
use Rattle.bit_bdd.specs.Diagrams.{Extends}
use Rattle.form_model.specs.declared.forms.Step.{Step}
use Rattle.form_model.specs.Live.{regs_of}
use Rattle.word_fit.specs.Fits.{IsLeastFit}
use Rattle.transfer_set.specs.Machines.{IsReadyFor}
use Rattle.compaction.specs.Machines.{known_fits}
use Rattle.compaction.proofs.words.group_words.Given as goal

abbrev pub invariant-loop-index : goal.invariant-loop-index
invariant-loop-index l = record {
  grows : Extends l.fn.book l.book;
  ready : IsReadyFor l.known.machine l.book;
  long : length l.words ≡ l.index;
  least : (k : ℕ) (g : List Step) → k < l.index → slice_get l.groups k ≡ Some g →
      IsLeastFit (λ word. known_fits l.known word g (regs_of (get_or l.lives k 0))) (slice_index l.words k);
}
