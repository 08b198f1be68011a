use Rattle.std.proofs.Common.{ap, inl, inr}
use Rattle.std.proofs.lemmas.Result.{IfOk-weaker}
use Rattle.cover.specs.Best.{model_of_job_cover}
use Rattle.explain_command.specs.Lines.{cost_line}
use Rattle.explain_command.proofs.covering.add_cover.Goals as goal

pub returns-in-Ok : goal.returns-in-Ok
returns-in-Ok c =
    IfOk-weaker c.add_cost.result _ _
    (λ _ is. record {
      more = cost_line c.in-Ok.found.cost;
      is = inl (record { choice = model_of_job_cover c.in-Ok.found; chosen = c.in-Ok.ensures.chosen; line = ap cost_line c.in-Ok.ensures.cost });
      text = is;
    })
    c.add_cost.ensures

pub returns-in-Err-NoCover : goal.returns-in-Err-NoCover
returns-in-Err-NoCover c =
    IfOk-weaker c.add_lacks.result _ _ (λ _ told. record { more = told.more; is = inr told.is; text = told.text }) c.add_lacks.ensures
