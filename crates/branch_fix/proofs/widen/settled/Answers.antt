use Rattle.std.proofs.Common.{ap, ◌∙◌}
use Rattle.form_model.specs.Forms.{models_of_forms}
use Rattle.branch_fix.specs.Rounds.{round, long_tests}
use Rattle.branch_fix.proofs.Rounds.{last_round, next_round, falls}
use Rattle.branch_fix.proofs.widen.settled.Goals as goal

pub returns-then-long_tests : goal.returns-then-long_tests
returns-then-long_tests c =
    last_round (models_of_forms c.args.forms.now) c.args.first c.rounds.parts c.in_ok-next.next c.long_tests.result c.long_tests-in-rounds.result c.rounds.invariant
    (c.in_ok-next.ensures ∙ ap (round (models_of_forms c.args.forms.now)) c.as_slice.ensures)
    (c.long_tests.ensures.value ∙ ap long_tests c.as_slice-in-rounds.ensures) (c.long_tests-in-rounds.ensures.value ∙ ap long_tests c.as_slice-in-rounds-2.ensures) c.if-long_tests.true

pub rounds-smaller : goal.rounds-smaller
rounds-smaller c =
    falls (models_of_forms c.args.forms.now) c.rounds.parts c.in_ok-next.next c.long_tests.result c.long_tests-in-rounds.result
    (c.in_ok-next.ensures ∙ ap (round (models_of_forms c.args.forms.now)) c.as_slice.ensures)
    (c.long_tests.ensures.value ∙ ap long_tests c.as_slice-in-rounds.ensures) (c.long_tests-in-rounds.ensures.value ∙ ap long_tests c.as_slice-in-rounds-2.ensures) c.if-long_tests.false

pub rounds-preserved : goal.rounds-preserved
rounds-preserved c =
    next_round (models_of_forms c.args.forms.now) c.args.first c.rounds.parts c.in_ok-next.next c.rounds.invariant
    (c.in_ok-next.ensures ∙ ap (round (models_of_forms c.args.forms.now)) c.as_slice.ensures)
