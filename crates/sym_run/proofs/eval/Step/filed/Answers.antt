use Rattle.std.proofs.Common.{List, Option, ℕ, subst, sym}
use Rattle.net_model.specs.Exprs.{write_at}
use Rattle.sym_expr.specs.Pools.{expr_of_id}
use Rattle.sym_run.specs.Known.{Evaluates}
use Rattle.sym_run.specs.Moves.{IsNextFile}
use Rattle.class_values.proofs.Made.{some_of}
use Rattle.sym_run.proofs.Moving.{reg_written}
use Rattle.sym_run.proofs.Writing.{file_set, if_ok}
use Rattle.sym_run.proofs.eval.Step.filed.Goals as goal

pub returns-clause-is : goal.returns-clause-is
returns-clause-is c =
    let t0 = c.args.table.now in
    let t1 = c.eval.new.table in
    let t2 = c.eval-2.new.table in
    let facts = c.args.self.now.facts.now in
    let known = c.args.self.now.known.now in
    let i = c.args.self.now.word in
    let pool = c.args.self.now.pool.now in
    let a = expr_of_id pool c.args.addr in
    let v = expr_of_id pool c.args.value in
    let at = c.in-Some.at in
    let value = c.in_ok-value.value in
    let first : Evaluates t0 t1 facts known i a at = some_of (Evaluates t0 t1 facts known i a) c.in_ok-at.at at c.in-Some.is c.in_ok-at.ensures.is in
    if_ok c.file_written.result _ _
    (λ (next : List (Option ℕ)) w. subst (λ (xs : List (Option ℕ)). IsNextFile t0 t2 facts known i (write_at a v) xs) (sym w)
    (file_set facts known i t0 t1 t2 c.eval.ensures.grows c.eval-2.ensures.grows a v at c.in-Some-number_of.address value first c.in-Some-number_of.ensures
    (reg_written facts known i t1 t2 v 0 value c.in_ok-value.ensures.is))) c.file_written.ensures
