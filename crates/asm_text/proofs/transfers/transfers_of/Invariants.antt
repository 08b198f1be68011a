use Rattle.std.proofs.Common.{length}
use Rattle.asm_text.proofs.TransferLists.{Transfers}
use Rattle.asm_text.proofs.transfers.transfers_of.Given as goal

abbrev pub invariant-loop-next : goal.invariant-loop-next
invariant-loop-next l = Transfers l.transfers l.text l.rest l.patterns

abbrev pub decreases-loop-next : goal.decreases-loop-next
decreases-loop-next l = length l.rest
