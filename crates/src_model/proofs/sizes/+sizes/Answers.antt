use Rattle.std.proofs.Common.{ap, sym, ◌∙◌, Some, None}
use Rattle.src_model.specs.declared.program.Stmt.{If}
use Rattle.src_model.specs.Sizes.{together}
use Rattle.src_model.proofs.Measures.{list_measured, while_measured, for_sizes, for_measured, if_measured, without_more}
use Rattle.src_model.proofs.sizes.+sizes.Goals as goal

pub statement_sizes-returns-in-While : goal.statement_sizes-returns-in-While
statement_sizes-returns-in-While t c =
    let body = c.block_sizes-in-While.ensures ∙ ap (list_measured c.args.word) c.deref-in-While.ensures.value in
    c.together-in-While.ensures ∙ (λ j. together (c.tested-in-While.ensures j) (body j))
    ∙ sym (while_measured c.args.word _ c.in-While.test c.in-While.body c.in-While.is)

pub statement_sizes-returns-in-For : goal.statement_sizes-returns-in-For
statement_sizes-returns-in-For t c =
    let body = c.block_sizes-in-For.ensures ∙ ap (list_measured c.args.word) c.deref-in-For.ensures.value in
    c.together-in-For.ensures ∙ ap (together (for_sizes c.args.word)) body
    ∙ sym (for_measured c.args.word _ c.in-For.counter c.in-For.at c.in-For.from c.in-For.to c.in-For.body c.in-For.is)

pub statement_sizes-returns-in-Some : goal.statement_sizes-returns-in-Some
statement_sizes-returns-in-Some t c =
    let taken = c.block_sizes.ensures ∙ ap (list_measured c.args.word) c.deref.ensures.value in
    let other = c.block_sizes-in-Some.ensures ∙ ap (list_measured c.args.word) c.deref-in-Some.ensures.value in
    let both = c.together-sizes.ensures ∙ (λ j. together (c.tested.ensures j) (taken j)) in
    c.together.ensures ∙ (λ j. together (both j) (other j))
    ∙ sym (if_measured c.args.word _ c.in-If.test c.in-If.yes (Some c.in-Some.other) (c.in-If.is ∙ ap (λ o. If c.in-If.test c.in-If.yes o) c.in-Some.is))

pub statement_sizes-returns-in-None : goal.statement_sizes-returns-in-None
statement_sizes-returns-in-None t c =
    let taken = c.block_sizes.ensures ∙ ap (list_measured c.args.word) c.deref.ensures.value in
    let both = c.together-sizes.ensures ∙ (λ j. together (c.tested.ensures j) (taken j)) in
    both ∙ without_more c.args.word _ _
    ∙ sym (if_measured c.args.word _ c.in-If.test c.in-If.yes None (c.in-If.is ∙ ap (λ o. If c.in-If.test c.in-If.yes o) c.in-None.is))
