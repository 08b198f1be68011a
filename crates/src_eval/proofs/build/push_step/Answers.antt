use Rattle.src_eval.proofs.ResolveLemmas.{step_pushed}
use Rattle.src_eval.proofs.build.push_step.Goals as goal

pub returns : goal.returns
returns c =
    step_pushed c.args.scope.now.word c.args.scope.now.table c.args.counter.now c.args.next c.first_cell-first.result c.args.steps.now c.push.new.self c.in_ok-count.count c.in_ok-one.one
    c.in_ok-push.ensures.pushed c.first_cell-first.ensures c.in_ok-count.ensures.ok c.in_ok-one.ensures.ok c.requires.word
