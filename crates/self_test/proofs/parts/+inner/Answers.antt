use Rattle.std.proofs.Common.{ap, sym, ◌∙◌}
use Rattle.net_model.specs.Exprs.{ExprModel}
use Rattle.rec_bits.specs.Counts.{capped}
use Rattle.self_test.specs.Inner.Values.{inner}
use Rattle.self_test.proofs.Counting.{both_capped}
use Rattle.self_test.proofs.parts.+inner.Goals as goal

pub returns-in-Bin : goal.returns-in-Bin
returns-in-Bin t c =
    both_capped _ _ _ _ _ _ _ _ c.inner-in-Bin.ensures c.node-left.ensures c.inner-in-Bin-2.ensures c.node-in-Bin.ensures c.saturating_add.ensures
    ∙ ap (λ (e : ExprModel). capped (inner c.args.width e)) (sym c.in-Bin.ensures.expr)
