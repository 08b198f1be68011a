use Rattle.std.proofs.Common.{List, arith, subst, sym}
use Rattle.asm_text.specs.declared.line.Line.{Line}
use Rattle.asm_text.proofs.Progress.{Progress, ends, goes_on, stops}
use Rattle.asm_text.proofs.texts.read_lines.Goals as goal

pub returns-in_default-2-clause-refused : goal.returns-in_default-2-clause-refused
returns-in_default-2-clause-refused c =
    stops c.args.transfers.now c.args.bits c.args.size c.args.bytes.now c.loop-line.rest.now c.loop-line.lines.items c.loop-line.invariant c.in-Some.line.now c.in-Some.more.now c.in-Some.ensures.some
    (λ room formed. (let none = rw c.in_default-2.is at c.in_ok-said.ensures.none in
    none (omega (arith, room, c.len.ensures)) formed))

pub loop-line-preserved : goal.loop-line-preserved
loop-line-preserved c =
    let says = rw c.in-Some-2.is at c.in_ok-said.ensures.read in
    let room = rw c.in-Some-2.is at c.in_ok-said.ensures.room in
    subst (λ (all : List Line). Progress c.args.transfers.now c.args.bits c.args.size c.args.bytes.now c.in-Some.more.now all) (sym c.in_ok-push.ensures.items)
    (goes_on c.args.transfers.now c.args.bits c.args.size c.args.bytes.now c.loop-line.rest.now c.loop-line.lines.items c.loop-line.invariant c.in-Some.line.now c.in-Some.more.now c.in-Some-2.said c.in-Some.ensures.some
    says
    (omega (arith, room, c.len.ensures)))

pub returns-clause-read : goal.returns-clause-read
returns-clause-read c =
    ends c.args.transfers.now c.args.bits c.args.size c.args.bytes.now c.loop-line.rest.now c.loop-line.lines.items c.loop-line.invariant c.in_default.ensures.none
