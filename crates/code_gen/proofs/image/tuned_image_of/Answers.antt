use Rattle.std.proofs.Common.{◌≡◌}
use Rattle.std.proofs.lemmas.Result.{IfOk-weaker}
use Rattle.code_gen.proofs.image.tuned_image_of.Goals as goal

pub returns-clause-reached : goal.returns-clause-reached
returns-clause-reached c = IfOk-weaker c.coded_image.result _ _ (λ image h. record { spelled = h.spelled; is = h.is; said = h.said }) c.coded_image.ensures.reached
