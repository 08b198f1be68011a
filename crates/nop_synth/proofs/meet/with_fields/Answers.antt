use Rattle.std.proofs.Common.{arith}
use Rattle.std.proofs.lemmas.Grind.{common_steps}
use Rattle.std.proofs.Common.{refl}
use Rattle.bit_bdd.proofs.CallerLemmas.{extends_trans}
use Rattle.nop_synth.proofs.Narrowing.{and_step, fields_more}
use Rattle.nop_synth.proofs.meet.with_fields.Goals as goal

pub loop-field-preserved : goal.loop-field-preserved
loop-field-preserved c = record {
  grows = extends_trans c.args.book.now c.loop-field.book c.with_bits.new.book c.loop-field.invariant.grows c.in_ok-left.ensures.grows;
  within = c.in_ok-left.ensures.within;
  words = λ word lt.
      and_step _ _ _ _ _ _ _ (c.in_ok-left.ensures.words word lt) (c.loop-field.invariant.words word lt) refl
      (fields_more c.args.fields.now c.loop-field.field-index word _ c.loop-field-test.true);
}

pub returns-in_err-left-clause-grows : goal.returns-in_err-left-clause-grows
returns-in_err-left-clause-grows c = grind (arith, common_steps)

pub returns-clause-words : goal.returns-clause-words
returns-clause-words c = grind (arith, common_steps)
