use Rattle.std.proofs.Common.{◌<◌, ◌∙◌, length, true, false, sym, arith}
use Rattle.asm_words.proofs.Numbered.{numbers_end, numbers_more}
use Rattle.asm_words.proofs.showing.numbers_of.Goals as goal
use Rattle.asm_words.proofs.showing.numbers_of.Goals.{then-gives+in_ok-push, else-gives}

pub loop-number-preserved : goal.loop-number-preserved
loop-number-preserved c =
    let there : c.loop-number.number < length c.args.patterns.now.rows = omega (arith, c.loop-number-test.true, c.len-number-end.ensures) in
    elim c.if-gives.branch [
      | then-gives+in_ok-push w ↦
          numbers_more c.args.book.now c.args.patterns.now.rows c.args.word c.loop-number.number c.loop-number.numbers c.if-gives.numbers there c.loop-number.invariant
          true (sym w.if-gives.true ∙ c.gives.ensures) (w.numbers-is ∙ w.in_ok-push.ensures.pushed)
      | else-gives w ↦
          numbers_more c.args.book.now c.args.patterns.now.rows c.args.word c.loop-number.number c.loop-number.numbers c.if-gives.numbers there c.loop-number.invariant
          false (sym w.if-gives.false ∙ c.gives.ensures) w.numbers-is
    ]

pub returns : goal.returns
returns c =
    numbers_end c.args.book.now c.args.patterns.now.rows c.args.word c.loop-number.number c.loop-number.numbers
    (omega (arith, c.loop-number-test.false, c.len-number-end.ensures)) c.loop-number.invariant
