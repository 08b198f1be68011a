use Rattle.std.proofs.Common.{sym, ◌∙◌}
use Rattle.image_text.proofs.Progress.{begins, goes_on, ends}
use Rattle.image_text.proofs.reading.read_lines.Goals as goal

pub loop-line-init : goal.loop-line-init
loop-line-init c = begins c.args.limits c.args.bytes.now

pub loop-line-preserved : goal.loop-line-preserved
loop-line-preserved c = goes_on c.args.limits c.args.bytes.now c.loop-line.rest.now c.in-Some.line.now c.in-Some.more.now c.loop-line.front c.in-Some-2.next c.loop-line.invariant c.in-Some.ensures.some (sym c.in_ok-next.ensures ∙ c.in-Some-2.is)

pub returns-clause-read : goal.returns-clause-read
returns-clause-read c = ends c.args.limits c.args.bytes.now c.loop-line.rest.now c.loop-line.front c.loop-line.invariant c.in_default.ensures.none
