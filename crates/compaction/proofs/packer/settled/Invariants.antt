use Rattle.std.proofs.Common.{List}
use Rattle.bit_bdd.specs.Diagrams.{Extends}
use Rattle.form_model.specs.declared.forms.Step.{Step}
use Rattle.form_model.specs.Live.{regs_of}
use Rattle.compaction.specs.Chosen.{Packs}
use Rattle.transfer_set.specs.Machines.{IsReadyFor}
use Rattle.compaction.specs.Machines.{known_fits, known_operation}
use Rattle.compaction.specs.Inner.Machines.{IsDraft}
use Rattle.compaction.specs.Inner.Turns.{IsSame, work}
use Rattle.compaction.proofs.packer.settled.Given as goal

abbrev pub invariant-loop-pair : goal.invariant-loop-pair
invariant-loop-pair l = record {
  grows : Extends l.fn.book l.book;
  ready : IsReadyFor l.known.machine l.book;
  same : IsSame (known_operation l.known) l.initial.draft.groups.items l.draft.groups.items;
  chosen : (result : List (List Step)) → Packs (known_operation l.known) (known_fits l.known) (regs_of l.after) l.pair l.draft.groups.items result →
      Packs (known_operation l.known) (known_fits l.known) (regs_of l.after) 0 l.initial.draft.groups.items result;
  draft : IsDraft l.known (regs_of l.after) l.pair l.draft;
}

abbrev pub decreases-loop-pair : goal.decreases-loop-pair
decreases-loop-pair l = work l.draft.groups.items l.pair
