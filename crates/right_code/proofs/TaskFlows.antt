-- The flow of a task has one end, its tests go on behind themselves, all its targets are places in it,
-- and it has the bound of the program's flow.
use Rattle.std.proofs.Common.{ℕ, ◌≡◌, ◌≤◌, ◌+◌, List, length, sym, ◌∙◌, ap, subst}
use Rattle.src_model.specs.Sizes.{statements_in}
use Rattle.src_model.specs.Written.{stmts_of}
use Rattle.form_model.specs.declared.flow.Flow.{Flow}
use Rattle.src_trees.specs.Flows.{places_in, program_flow}
use Rattle.branch_fix.specs.Bounds.{bound_of, control_words, program_bound, sum_of}
use Rattle.branch_fix.specs.Costs.{SizesWithin, block_costs}
use Rattle.branch_fix.specs.Inner.Flowing.{IsFlow}
use Rattle.branch_fix.proofs.Costs.{turned_bound, turned_words}
use Rattle.branch_fix.proofs.Shapes.{program_is_flow}
use Rattle.branch_fix.proofs.TurnedFlows.{turned_is_flow}
use Rattle.right_code.specs.Tasks.{HasJobs, Task}
use Rattle.right_code.proofs.Inside.{Upto, program_upto, turned_upto}

pub task_is_flow : (task : Task) → HasJobs task → IsFlow task.flow (places_in (stmts_of task.program.body))
task_is_flow task jobs =
    let end = places_in (stmts_of task.program.body) in
    subst (λ (flow : List Flow). IsFlow flow end) (sym jobs.flow) (turned_is_flow jobs.turned (program_flow task.program) end (program_is_flow task.program))

pub task_upto : (task : Task) → HasJobs task → Upto (places_in (stmts_of task.program.body)) task.flow
task_upto task jobs =
    let end = places_in (stmts_of task.program.body) in
    subst (Upto end) (sym jobs.flow) (turned_upto jobs.turned end (program_flow task.program) (program_upto task.program))

-- the bound of the flow is the program's, and blocks that have no more words than they cost keep to it
pub task_words : (task : Task) → HasJobs task → (costs : List ℕ) → bound_of task.flow costs ≡ program_bound task.program costs
task_words task jobs costs = ap (λ (flow : List Flow). bound_of flow costs) jobs.flow ∙ turned_words task.program jobs.turned costs

pub task_bound : (task : Task) → HasJobs task → (costs sizes : List ℕ) → length costs ≡ statements_in (stmts_of task.program.body) → SizesWithin sizes (block_costs task.flow costs task.flow 0)
    → sum_of sizes + control_words task.flow ≤ bound_of task.flow costs
task_bound task jobs costs sizes long within =
    subst (λ (flow : List Flow). sum_of sizes + control_words flow ≤ bound_of flow costs) (sym jobs.flow)
    (turned_bound task.program jobs.turned costs sizes long
    (subst (λ (flow : List Flow). SizesWithin sizes (block_costs flow costs flow 0)) jobs.flow within))
