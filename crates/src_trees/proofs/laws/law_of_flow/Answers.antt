use Rattle.src_trees.specs.Flows.{places_in, program_flow}
use Rattle.src_trees.specs.Turned.{jobs_of_told}
use Rattle.src_model.specs.Written.{stmts_of}
use Rattle.src_trees.proofs.Standing.{placed_right}
use Rattle.src_trees.proofs.TurnedTests.{turned_placed}
use Rattle.src_trees.proofs.laws.law_of_flow.Goals as goal

pub returns-clause-own : goal.returns-clause-own
returns-clause-own c = placed_right

pub returns-clause-turned : goal.returns-clause-turned
returns-clause-turned c = λ netlist image m temps l turned jobs starts kept wide held room places tests does placed.
    placed_right netlist image m temps l (jobs_of_told turned jobs) starts kept wide held room places does
    (turned_placed netlist image temps turned (program_flow l) jobs starts (places_in (stmts_of l.body)) tests placed)
