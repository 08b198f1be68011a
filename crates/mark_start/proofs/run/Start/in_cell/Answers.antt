use Rattle.class_values.specs.Values.{IsNumber}
use Rattle.class_values.proofs.Made.{if_found}
use Rattle.sym_run.proofs.Walking.{answer_of}
use Rattle.mark_start.proofs.Reading.{in_cell}
use Rattle.mark_start.proofs.run.Start.in_cell.Goals as goal

pub returns-clause-is : goal.returns-clause-is
returns-clause-is c =
    let number : IsNumber c.number.new.table c.args.self.now.addr c.args.address c.in-Some.at =
    answer_of (λ n. IsNumber c.number.new.table c.args.self.now.addr c.args.address n) c.in_ok-found.found c.in-Some.at c.in-Some.is c.in_ok-found.ensures.is in
    if_found c.cell.result _ _
    (λ k is. in_cell c.args.table.now c.number.new.table c.cell.new.table c.number.ensures.grows c.args.facts.now c.args.known.now c.args.self.now.addr c.args.address c.in-Some.at k c.args.self.now.word number is)
    c.cell.ensures.is
