use Rattle.std.proofs.Common.{◌≡◌, drop}
use Rattle.rec_bits.specs.Faults.{lesser_offset, least, gather}
use Rattle.src_check.proofs.Walks.{stmt_breaks}
use Rattle.src_check.specs.Inner.Rounds.{rounds_of}
use Rattle.src_check.specs.Inner.LoopRules.{model_of_loop_rule}
use Rattle.src_check.proofs.walk.+walk.Given as goal

abbrev pub invariant-of_block-loop-statement : goal.invariant-of_block-loop-statement
invariant-of_block-loop-statement l =
    lesser_offset l.found (least (gather (stmt_breaks (model_of_loop_rule l.question) (rounds_of l.rounds)) (drop l.statement-index l.block)))
    ≡ least (gather (stmt_breaks (model_of_loop_rule l.question) (rounds_of l.rounds)) l.block)
