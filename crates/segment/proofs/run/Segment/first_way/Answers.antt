use Rattle.std.proofs.lemmas.Result.{IfOk-weaker}
use Rattle.segment.proofs.Bridge.{first_way_is}
use Rattle.segment.proofs.run.Segment.first_way.Goals as goal

pub returns : goal.returns
returns c = IfOk-weaker c.first_way_in.result _ _ (λ way h. first_way_is c.args.self.now way h (c.is_first.ensures c.if-not-is_first.false)) c.first_way_in.ensures
