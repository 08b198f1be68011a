use Rattle.std.proofs.Common.{◌∙◌, ap, sym}
use Rattle.std.specs.Prelude.{option_copied}
use Rattle.std.proofs.lemmas.Result.{IfOk-weaker}
use Rattle.segment.proofs.Bridge.{way_is}
use Rattle.segment.proofs.run.Segment.way.Goals as goal

pub way_of-requires-clause-job : goal.way_of-requires-clause-job
way_of-requires-clause-job c = sym c.job_at.ensures ∙ ap option_copied c.in-Some.is

pub returns : goal.returns
returns c = IfOk-weaker c.way_of.result _ _ (λ way h. way_is c.args.self.now way h) c.way_of.ensures
