use Rattle.std.proofs.Common.{List, [], ◌∷◌, ◌++◌, ℕ, ◌∙◌, ap, subst, sym}
use Rattle.asm_text.proofs.TransferLists.{Transfers, begins_none, begins_one, ends, goes_on, stops}
use Rattle.asm_text.proofs.transfers.transfers_of.Goals as goal

pub returns-in_default-clause-only : goal.returns-in_default-clause-only
returns-in_default-clause-only c = λ patterns rest some b t.
    begins_none c.args.transfers.now c.args.text.now (λ p r h. c.in_default.ensures.only p r h) patterns rest some b t

pub loop-next-init : goal.loop-next-init
loop-next-init c =
    subst (λ (ps : List ℕ). Transfers c.args.transfers.now c.args.text.now c.in-Some.rest.now ps)
    (sym (c.in_ok-push.ensures.pushed ∙ ap (λ (ps : List ℕ). ps ++ (c.in-Some.first ∷ [])) c.new-patterns.ensures))
    (begins_one c.args.transfers.now c.args.text.now c.in-Some.rest.now c.in-Some.first c.in-Some.ensures.some (λ p r h. c.in-Some.ensures.only p r h))

pub returns-in_default-transfer_of-clause-only : goal.returns-in_default-transfer_of-clause-only
returns-in_default-transfer_of-clause-only c = λ patterns rest some b t.
    stops c.args.transfers.now c.args.text.now c.loop-next.rest.now c.loop-next.patterns c.loop-next.invariant c.in-Some-after.next.now c.in-Some-after.ensures.some
    (λ p r h. c.in_default-transfer_of.ensures.only p r h) patterns rest some b t

pub loop-next-preserved : goal.loop-next-preserved
loop-next-preserved c =
    subst (λ (ps : List ℕ). Transfers c.args.transfers.now c.args.text.now c.in-Some-transfer_of.more.now ps) (sym c.in_ok-push-2.ensures.pushed)
    (goes_on c.args.transfers.now c.args.text.now c.loop-next.rest.now c.loop-next.patterns c.loop-next.invariant c.in-Some-after.next.now c.in-Some-transfer_of.pattern c.in-Some-transfer_of.more.now
    c.in-Some-after.ensures.some c.in-Some-transfer_of.ensures.some (λ p r h. c.in-Some-transfer_of.ensures.only p r h))

pub returns-clause-only : goal.returns-clause-only
returns-clause-only c = λ patterns rest some b t.
    ends c.args.transfers.now c.args.text.now c.loop-next.rest.now c.loop-next.patterns c.loop-next.invariant
    (λ next e. c.in_default-after.ensures.only next e) patterns rest some b t
