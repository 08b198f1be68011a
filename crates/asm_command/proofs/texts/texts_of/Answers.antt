use Rattle.std.proofs.Common.{arith}
use Rattle.transfer_set.specs.declared.row.Row.{Row}
use Rattle.asm_command.proofs.Tables.{map_next}
use Rattle.asm_command.proofs.texts.texts_of.Goals as goal

pub loop-number-preserved : goal.loop-number-preserved
loop-number-preserved c = record {
  within = omega (arith, c.loop-number-test.true, c.len-number-end.ensures);
  texts =
      (let more = map_next (λ (row : Row). row.text.items) c.args.patterns.now.rows c.loop-number.number _ c.in_ok-text.ensures.kept in
      let so_far = c.loop-number.invariant.texts in
      let pushed = c.in_ok-push.ensures.items in
      cc);
}
