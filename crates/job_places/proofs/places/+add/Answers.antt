use Rattle.std.proofs.Common.{◌≡◌, ◌+◌, ◌∷◌, ◌++◌, drop, map, OnOk, sym, subst, arith}
use Rattle.std.proofs.lemmas.Result.{IfOk-weaker}
use Rattle.rec_bits.proofs.Faults.{drop_item}
use Rattle.src_model.specs.Written.{model_of_src_test}
use Rattle.src_trees.proofs.LowerCases.{if_none, if_some, while_is, for_is}
use Rattle.job_places.specs.Places.{model_of_job_place, places_of_jobs}
use Rattle.job_places.proofs.Growing.{block_stmts, spots_next, spots_with_else}
use Rattle.job_places.proofs.places.+add.Goals as goal

pub add_statement-returns-in-None : goal.add_statement-returns-in-None
add_statement-returns-in-None t c =
    let is = if_none c.args.statement.now c.in-If.test c.in-If.yes c.in-If.no c.deref.result.now c.in-If.is c.deref.ensures.value c.in-None.is in
    subst (λ a. OnOk c.add_if.result (map model_of_job_place c.add_if.new.places.items ≡ map model_of_job_place c.args.places.now.items ++ places_of_jobs a)) (sym is) c.add_if.ensures

pub add_statement-returns-in_ok-add_if-in-Some : goal.add_statement-returns-in_ok-add_if-in-Some
add_statement-returns-in_ok-add_if-in-Some t c =
    let is = if_some c.args.statement.now c.in-If.test c.in-If.yes c.in-Some.other c.in-If.no c.deref-in-Some.result.now c.deref-in-Some-2.result.now c.in-If.is c.deref-in-Some.ensures.value c.in-Some.is c.deref-in-Some-2.ensures.value in
    IfOk-weaker c.add_block.result _ _
    (λ _ added. subst (λ a. map model_of_job_place c.add_block.new.places.items ≡ map model_of_job_place c.args.places.now.items ++ places_of_jobs a) (sym is)
    (spots_with_else (model_of_src_test c.in-If.test) (block_stmts c.deref-in-Some.result.now) (block_stmts c.deref-in-Some-2.result.now) (map model_of_job_place c.args.places.now.items)
    (map model_of_job_place c.add_if-in-Some.new.places.items) (map model_of_job_place c.add_block.new.places.items) c.in_ok-add_if-in-Some.ensures added))
    c.add_block.ensures

pub add_statement-returns-in-While : goal.add_statement-returns-in-While
add_statement-returns-in-While t c =
    let is = while_is c.args.statement.now c.in-While.test c.in-While.body c.deref-in-While.result.now c.in-While.is c.deref-in-While.ensures.value in
    subst (λ a. OnOk c.add_while.result (map model_of_job_place c.add_while.new.places.items ≡ map model_of_job_place c.args.places.now.items ++ places_of_jobs a)) (sym is) c.add_while.ensures

pub add_statement-returns-in-For : goal.add_statement-returns-in-For
add_statement-returns-in-For t c =
    let is = for_is c.args.statement.now c.in-For.counter c.in-For.at c.in-For.from c.in-For.to c.in-For.body c.deref-in-For.result.now c.in-For.is c.deref-in-For.ensures.value in
    subst (λ a. OnOk c.add_for.result (map model_of_job_place c.add_for.new.places.items ≡ map model_of_job_place c.args.places.now.items ++ places_of_jobs a)) (sym is) c.add_for.ensures

pub add_block-loop-statement-preserved : goal.add_block-loop-statement-preserved
add_block-loop-statement-preserved t c =
    let block = c.args.block.now in
    let i = c.loop-statement.statement-index in
    let is : drop i block ≡ c.statement-item.result ∷ drop (i + 1) block = drop_item block i c.statement-item.result (omega arith) c.statement-item.is in
    spots_next (drop i block) (drop (i + 1) block) c.statement-item.result (map model_of_job_place c.loop-statement.places.items) (map model_of_job_place c.add_statement.new.places.items) _ is
    c.in_ok-add_statement.ensures c.loop-statement.invariant
