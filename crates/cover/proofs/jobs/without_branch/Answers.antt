use Rattle.form_model.specs.CoverModels.{model_of_cover}
use Rattle.std.proofs.Common.{sym, ap, ◌∙◌, ◌-◌}
use Rattle.form_model.specs.Forms.{aim_destination}
use Rattle.form_model.specs.Covers.{job_cost}
use Rattle.cover.proofs.BestLemmas.{parts_is}
use Rattle.cover.proofs.jobs.without_branch.Goals as goal

pub returns-in-Test-clause-cost : goal.returns-in-Test-clause-cost
returns-in-Test-clause-cost c =
    ap (λ n. n - 1) c.requires ∙ parts_is (model_of_cover c.args.c.cover) ∙ sym (ap (λ a. job_cost (aim_destination a) (model_of_cover c.args.c.cover)) c.in-Test.is)
