use Rattle.std.proofs.Common.{subst}
use Rattle.class_values.specs.Values.{IsNumber}
use Rattle.class_values.proofs.Made.{if_found}
use Rattle.sym_run.proofs.Walking.{answer_of}
use Rattle.mark_start.proofs.Reading.{kept_class}
use Rattle.mark_start.proofs.run.Start.kept.Goals as goal

pub returns-clause-is : goal.returns-clause-is
returns-clause-is c =
    let number : IsNumber c.number.new.table c.args.self.now.addr c.args.address c.in-Some.at =
    subst (λ a. IsNumber c.number.new.table c.args.self.now.addr a c.in-Some.at) c.from.ensures
    (answer_of (λ n. IsNumber c.number.new.table c.args.self.now.addr c.from.result n) c.in_ok-found.found c.in-Some.at c.in-Some.is c.in_ok-found.ensures.is) in
    if_found c.class_of.result _ _
    (λ k is. kept_class c.number.new.table c.class_of.new.table c.class_of.ensures.grows c.args.self.now.addr c.args.address c.in-Some.at c.args.self.now.word k number is) c.class_of.ensures.stands
