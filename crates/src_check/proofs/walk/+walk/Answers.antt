use Rattle.std.proofs.Common.{◌∷◌, map, Some, None, sym, ap, ◌∙◌}
use Rattle.rec_bits.specs.Faults.{lesser_offset, least}
use Rattle.rec_bits.proofs.Faults.{sooner_none, gather_next, gather_end}
use Rattle.src_model.specs.declared.program.Stmt.{If}
use Rattle.src_model.specs.Loops.{Round}
use Rattle.src_model.specs.Written.{model_of_stmt, stmts_of}
use Rattle.src_check.specs.Inner.Rounds.{rounds_of}
use Rattle.src_check.specs.Inner.LoopRules.{model_of_loop_rule, round}
use Rattle.src_check.proofs.Walks.{stmt_breaks, block_gathered, list_breaks, while_least, if_least, for_least}
use Rattle.src_check.proofs.walk.+walk.Goals as goal

pub of_block-loop-statement-preserved : goal.of_block-loop-statement-preserved
of_block-loop-statement-preserved t c =
    rw (c.lesser_offset-found.ensures, c.of_statement.ensures)
    (gather_next (stmt_breaks (model_of_loop_rule c.args.question.now) (rounds_of c.args.rounds.now)) _ _ c.statement-item.result _ _ c.loop-statement-test.true c.statement-item.is c.loop-statement.invariant)

pub of_block-returns : goal.of_block-returns
of_block-returns t c =
    gather_end (stmt_breaks (model_of_loop_rule c.args.question.now) (rounds_of c.args.rounds.now)) _ _ _ _ c.loop-statement-test.false c.loop-statement.invariant
    ∙ ap least (block_gathered (model_of_loop_rule c.args.question.now) (rounds_of c.args.rounds.now) c.args.block.now)

pub of_statement-returns-in-While : goal.of_statement-returns-in-While
of_statement-returns-in-While t c =
    let rule = model_of_loop_rule c.args.question.now in
    let rounds = rounds_of c.args.rounds.now in
    let body = c.of_block-in-While.ensures ∙ ap (λ l. least (list_breaks rule rounds l)) c.deref-in-While.ensures.value in
    c.lesser_offset-in-While.ensures ∙ (λ j. lesser_offset (c.tested-in-While.ensures j) (body j))
    ∙ sym (while_least rule rounds _ c.in-While.test c.in-While.body c.in-While.is)

pub of_statement-returns-in-For : goal.of_statement-returns-in-For
of_statement-returns-in-For t c =
    let rule = model_of_loop_rule c.args.question.now in
    let here : Round = round c.in-For.counter c.in-For.from c.in-For.to in
    let itself = c.counted-found.ensures ∙ ap (λ l. least (rule.counted here c.in-For.at (stmts_of (map model_of_stmt l)))) c.deref-in-For.ensures.value in
    let body = c.of_block-in-For.ensures ∙ ap (λ l. least (list_breaks rule (here ∷ rounds_of c.args.rounds.now) l)) c.deref-in-For-2.ensures.value in
    c.lesser_offset-in-For.ensures ∙ (λ j. lesser_offset (itself j) (body j))
    ∙ sym (for_least rule (rounds_of c.args.rounds.now) _ c.in-For.counter c.in-For.at c.in-For.from c.in-For.to c.in-For.body c.in-For.is)

pub of_statement-returns-in-Some : goal.of_statement-returns-in-Some
of_statement-returns-in-Some t c =
    let rule = model_of_loop_rule c.args.question.now in
    let rounds = rounds_of c.args.rounds.now in
    let taken = c.of_block.ensures ∙ ap (λ l. least (list_breaks rule rounds l)) c.deref.ensures.value in
    let other = c.of_block-in-Some.ensures ∙ ap (λ l. least (list_breaks rule rounds l)) c.deref-in-Some.ensures.value in
    let both = c.lesser_offset-found.ensures ∙ (λ j. lesser_offset (c.tested.ensures j) (taken j)) in
    c.lesser_offset.ensures ∙ (λ j. lesser_offset (both j) (other j))
    ∙ sym (if_least rule rounds _ c.in-If.test c.in-If.yes (Some c.in-Some.other) (c.in-If.is ∙ ap (λ o. If c.in-If.test c.in-If.yes o) c.in-Some.is))

pub of_statement-returns-in-None : goal.of_statement-returns-in-None
of_statement-returns-in-None t c =
    let rule = model_of_loop_rule c.args.question.now in
    let rounds = rounds_of c.args.rounds.now in
    let taken = c.of_block.ensures ∙ ap (λ l. least (list_breaks rule rounds l)) c.deref.ensures.value in
    let both = c.lesser_offset-found.ensures ∙ (λ j. lesser_offset (c.tested.ensures j) (taken j)) in
    both ∙ sym (sooner_none _)
    ∙ sym (if_least rule rounds _ c.in-If.test c.in-If.yes None (c.in-If.is ∙ ap (λ o. If c.in-If.test c.in-If.yes o) c.in-None.is))
