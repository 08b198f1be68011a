use Rattle.std.proofs.lemmas.Result.{on_ok_weaker}
use Rattle.followed.proofs.Leads.{added_none, added_one}
use Rattle.followed.proofs.front.Front.+add_turns.Goals as goal

pub returns-in_default-label : goal.returns-in_default-label
returns-in_default-label t c =
    on_ok_weaker c.add_turns.result
    (λ h. added_none c.args.self.now c.in-Some.mark.now c.in-Some.rest.now c.args.marks.now c.in-Some.ensures.cases.0 c.in_default-label.is c.args.turns.now c.add_turns.new.turns h) c.add_turns.ensures

pub returns : goal.returns
returns t c =
    on_ok_weaker c.add_turns-2.result
    (λ h. added_one c.args.self.now c.in-Some.mark.now c.in-Some.rest.now c.args.marks.now c.in-Some.ensures.cases.0 c.in-Some-label.tree c.in-Some-label.is c.in_ok-turn.turn c.in_ok-turn.ensures
    c.args.turns.now c.push.new.self c.add_turns-2.new.turns c.in_ok-push.ensures.pushed h) c.add_turns-2.ensures
