use Rattle.std.proofs.Common.{sym, ◌∙◌}
use Rattle.std.specs.Prelude.{codes}
use Rattle.viewed_text.proofs.FirstDone.{at_done, cut_shorter, more_short, no_done_left, passed_more}
use Rattle.viewed_text.proofs.Lines.{is_text, no_text_so}
use Rattle.viewed_text.proofs.parting.parted.Goals as goal

pub overflow_sub-bytes : goal.overflow_sub-bytes
overflow_sub-bytes c = more_short c.args.bytes.now c.loop-line.rest.now c.in-Some.line.now c.in-Some.more.now c.loop-line.invariant c.in-Some.ensures

pub returns-then-done : goal.returns-then-done
returns-then-done c =
    at_done c.args.bytes.now c.loop-line.rest.now c.in-Some.line.now c.in-Some.more.now c.split_at.result.0.now c.split_at.result.1.now c.loop-line.invariant c.in-Some.ensures
    (is_text c.in-Some.line.now (codes "done") (sym c.is_done-done.ensures ∙ c.if-done.true)) c.split_at.ensures.front c.split_at.ensures.back

pub loop-line-smaller : goal.loop-line-smaller
loop-line-smaller c = cut_shorter c.loop-line.rest.now c.in-Some.line.now c.in-Some.more.now c.in-Some.ensures

pub loop-line-preserved : goal.loop-line-preserved
loop-line-preserved c =
    passed_more c.args.bytes.now c.loop-line.rest.now c.in-Some.line.now c.in-Some.more.now c.loop-line.invariant c.in-Some.ensures
    (no_text_so c.in-Some.line.now (codes "done") (sym c.is_done-done.ensures ∙ c.if-done.false))

pub returns : goal.returns
returns c =
    no_done_left c.args.bytes.now c.loop-line.rest.now c.split_at-2.result.0.now c.split_at-2.result.1.now c.loop-line.invariant c.in_default.ensures c.split_at-2.ensures.front c.split_at-2.ensures.back
