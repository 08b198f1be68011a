use Rattle.std.proofs.Common.{ap, arith}
use Rattle.src_model.specs.Sizes.{statements_else}
use Rattle.src_model.proofs.Views.{else_stmts}
use Rattle.src_eval.proofs.BuildLemmas.{trees_of, trees_If, trees_While, trees_For}
use Rattle.src_eval.proofs.build.trees.Goals as goal

pub trees_in-taken-requires : goal.trees_in-taken-requires
trees_in-taken-requires c =
    let all = trees_If c.args.statement.now _ c.in-If.yes c.in-If.no c.in-If.is in
    let here = ap trees_of c.deref.ensures.value in
    omega (arith, all, here, c.requires)

pub overflow_add-result : goal.overflow_add-result
overflow_add-result c =
    let all = trees_If c.args.statement.now _ c.in-If.yes c.in-If.no c.in-If.is in
    let here = ap trees_of c.deref.ensures.value in
    omega (arith, all, here, c.requires, c.trees_in-taken.ensures)

pub overflow_add-result-in-Some : goal.overflow_add-result-in-Some
overflow_add-result-in-Some c =
    let all = trees_If c.args.statement.now _ c.in-If.yes c.in-If.no c.in-If.is in
    let here = ap trees_of c.deref.ensures.value in
    omega (arith, all, here, c.requires, c.trees_in-taken.ensures)

pub trees_in-requires : goal.trees_in-requires
trees_in-requires c =
    let all = trees_If c.args.statement.now _ c.in-If.yes c.in-If.no c.in-If.is in
    let other = ap (λ o. statements_else (else_stmts o)) c.in-Some.is in
    let there = ap trees_of c.deref-in-Some.ensures.value in
    omega (arith, all, other, there, c.requires)

pub overflow_add-result-in-Some-2 : goal.overflow_add-result-in-Some-2
overflow_add-result-in-Some-2 c =
    let all = trees_If c.args.statement.now _ c.in-If.yes c.in-If.no c.in-If.is in
    let here = ap trees_of c.deref.ensures.value in
    let other = ap (λ o. statements_else (else_stmts o)) c.in-Some.is in
    let there = ap trees_of c.deref-in-Some.ensures.value in
    omega (arith, all, here, other, there, c.requires, c.trees_in-taken.ensures, c.trees_in.ensures)

pub trees_in-requires-in-While : goal.trees_in-requires-in-While
trees_in-requires-in-While c =
    let all = trees_While c.args.statement.now _ c.in-While.body c.in-While.is in
    let here = ap trees_of c.deref-in-While.ensures.value in
    omega (arith, all, here, c.requires)

pub overflow_add-result-in-While : goal.overflow_add-result-in-While
overflow_add-result-in-While c =
    let all = trees_While c.args.statement.now _ c.in-While.body c.in-While.is in
    let here = ap trees_of c.deref-in-While.ensures.value in
    omega (arith, all, here, c.requires, c.trees_in-in-While.ensures)

pub trees_in-requires-in-For : goal.trees_in-requires-in-For
trees_in-requires-in-For c =
    let all = trees_For c.args.statement.now _ _ _ _ c.in-For.body c.in-For.is in
    let here = ap trees_of c.deref-in-For.ensures.value in
    omega (arith, all, here, c.requires)

pub overflow_add-result-in-For : goal.overflow_add-result-in-For
overflow_add-result-in-For c =
    let all = trees_For c.args.statement.now _ _ _ _ c.in-For.body c.in-For.is in
    let here = ap trees_of c.deref-in-For.ensures.value in
    omega (arith, all, here, c.requires, c.trees_in-in-For.ensures)

pub returns-in-None : goal.returns-in-None
returns-in-None c =
    let all = trees_If c.args.statement.now _ c.in-If.yes c.in-If.no c.in-If.is in
    let here = ap trees_of c.deref.ensures.value in
    let other = ap (λ o. statements_else (else_stmts o)) c.in-None.is in
    omega (arith, all, here, other, c.trees_in-taken.ensures)

pub returns-in-Some : goal.returns-in-Some
returns-in-Some c =
    let all = trees_If c.args.statement.now _ c.in-If.yes c.in-If.no c.in-If.is in
    let here = ap trees_of c.deref.ensures.value in
    let other = ap (λ o. statements_else (else_stmts o)) c.in-Some.is in
    let there = ap trees_of c.deref-in-Some.ensures.value in
    omega (arith, all, here, other, there, c.trees_in-taken.ensures, c.trees_in.ensures)

pub returns-in-While : goal.returns-in-While
returns-in-While c =
    let all = trees_While c.args.statement.now _ c.in-While.body c.in-While.is in
    let here = ap trees_of c.deref-in-While.ensures.value in
    omega (arith, all, here, c.trees_in-in-While.ensures)

pub returns-in-For : goal.returns-in-For
returns-in-For c =
    let all = trees_For c.args.statement.now _ _ _ _ c.in-For.body c.in-For.is in
    let here = ap trees_of c.deref-in-For.ensures.value in
    omega (arith, all, here, c.trees_in-in-For.ensures)
