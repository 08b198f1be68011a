use Rattle.std.proofs.Common.{◌≡◌, ◌+◌, ◌++◌, [], ◌∷◌, take, sym, refl, subst, ap, ◌∙◌, arith}
use Rattle.std.proofs.lemmas.List.{take_all}
use Rattle.std.proofs.lemmas.Option.{slice_get_read}
use Rattle.rec_bits.proofs.Lists.{take_get}
use Rattle.tree_grammar.specs.Leaves.{models_of_leaves, AreAt}
use Rattle.form_model.specs.Covers.{operands_of}
use Rattle.least_costs.proofs.PartLemmas.{input_step, input_at, low_at}
use Rattle.least_costs.proofs.parts.operands_in.Goals as goal

pub loop-part-preserved : goal.loop-part-preserved
loop-part-preserved c =
    let e : take (c.loop-part.part-index + 1) c.args.parts.now ≡ take c.loop-part.part-index c.args.parts.now ++ (c.part-item.result ∷ []) = take_get c.args.parts.now c.loop-part.part-index c.part-item.result (slice_get_read _ _ _ _ refl c.loop-part-test.true c.part-item.is) in
    record {
      is = input_step c.part-item.result c.loop-part.out.items c.put_operand.new.out.items (take c.loop-part.part-index c.args.parts.now) c.in_ok-put_operand.ensures c.loop-part.invariant.is ∙ ap (λ l. operands_of (models_of_leaves l)) (sym e);
      at = λ nodes are. input_at c.part-item.result c.loop-part.out.items c.put_operand.new.out.items (take c.loop-part.part-index c.args.parts.now) c.in_ok-put_operand.ensures c.loop-part.invariant.at nodes (subst (AreAt nodes) e are);
    }

pub put_operand-requires : goal.put_operand-requires
put_operand-requires c = low_at c.args.parts.now c.loop-part.part-index c.part-item.result c.requires.low (slice_get_read _ _ _ _ refl c.loop-part-test.true c.part-item.is)

pub returns-clause-at : goal.returns-clause-at
returns-clause-at c = λ nodes are. c.loop-part.invariant.at nodes (subst (AreAt nodes) (sym (take_all c.loop-part.part-index c.args.parts.now (omega (arith, c.loop-part-test.false)))) are)
