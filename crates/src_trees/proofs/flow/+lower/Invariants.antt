use Rattle.std.proofs.Common.{◌≡◌, ◌≤◌, ◌+◌, ◌*◌, ◌++◌, drop, map, length}
use Rattle.src_model.specs.Written.{model_of_stmt, stmts_of}
use Rattle.src_model.specs.Sizes.{statements, statements_in}
use Rattle.src_trees.specs.Lowered.{jobs_in}
use Rattle.src_trees.specs.Flows.{flow_in}
use Rattle.src_trees.specs.Jobs.{models_of_jobs}
use Rattle.src_trees.specs.Inner.Lowering.{ArePlain, IsReady}
use Rattle.src_trees.proofs.flow.+lower.Given as goal

abbrev pub decreases-lower_statement : goal.decreases-lower_statement
decreases-lower_statement l = 3 * statements (model_of_stmt l.statement.now) + 1

abbrev pub decreases-lower_block : goal.decreases-lower_block
decreases-lower_block l = 3 * statements_in (stmts_of (map model_of_stmt l.block.now)) + 2

abbrev pub decreases-lower_if : goal.decreases-lower_if
decreases-lower_if l = 3 * (1 + statements_in (stmts_of (map model_of_stmt l.taken.now)))

abbrev pub decreases-lower_else : goal.decreases-lower_else
decreases-lower_else l = 3 * (1 + statements_in (stmts_of (map model_of_stmt l.branches.now.taken.now)) + statements_in (stmts_of (map model_of_stmt l.branches.now.other.now)))

abbrev pub decreases-lower_while : goal.decreases-lower_while
decreases-lower_while l = 3 * (1 + statements_in (stmts_of (map model_of_stmt l.body.now)))

abbrev pub decreases-lower_for : goal.decreases-lower_for
decreases-lower_for l = 3 * (3 + statements_in (stmts_of (map model_of_stmt l.body.now)))

abbrev pub invariant-lower_block-loop-statement : goal.invariant-lower_block-loop-statement
invariant-lower_block-loop-statement l = record {
  flow : l.flow.items ++ flow_in (stmts_of (map model_of_stmt (drop l.statement-index l.block))) (length l.jobs) l.place ≡ flow_in (stmts_of (map model_of_stmt l.block)) (length l.initial.jobs) l.at;
  jobs : models_of_jobs l.jobs ++ jobs_in l.memory (stmts_of (map model_of_stmt (drop l.statement-index l.block))) ≡ models_of_jobs l.initial.jobs ++ jobs_in l.memory (stmts_of (map model_of_stmt l.block));
  ready : IsReady l.place l.jobs (statements_in (stmts_of (map model_of_stmt (drop l.statement-index l.block))));
  plain : ArePlain l.memory.word l.memory.places (stmts_of (map model_of_stmt (drop l.statement-index l.block)));
  less : statements_in (stmts_of (map model_of_stmt (drop l.statement-index l.block))) ≤ statements_in (stmts_of (map model_of_stmt l.block));
}
