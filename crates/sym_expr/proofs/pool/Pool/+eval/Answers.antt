use Rattle.std.proofs.Common.{◌∙◌, sym, subst}
use Rattle.net_model.specs.Exprs.{ExprModel}
use Rattle.sym_expr.specs.Pools.{Suits, expr_of_id}
use Rattle.sym_expr.proofs.Fits.{value_below, slice_high, cat_room}
use Rattle.sym_expr.proofs.pool.Pool.+eval.Goals as goal

pub apply1-requires-clause-operand : goal.apply1-requires-clause-operand
apply1-requires-clause-operand t c =
    let at = subst (λ (t : ExprModel). Suits t c.args.state.now c.args.word) c.in-Un.ensures.expr c.requires.suits in
    value_below (expr_of_id c.args.self.now c.in-Un.a) c.args.state.now c.args.word _ _ c.eval-in-Un.ensures c.width.ensures.width c.in-Un.ensures.fits at

pub apply2-requires-clause-left : goal.apply2-requires-clause-left
apply2-requires-clause-left t c =
    let at = subst (λ (t : ExprModel). Suits t c.args.state.now c.args.word) c.in-Bin.ensures.expr c.requires.suits in
    value_below (expr_of_id c.args.self.now c.in-Bin.a) c.args.state.now c.args.word _ _ c.eval-in-Bin.ensures c.width-in-Bin.ensures.width c.in-Bin.ensures.fits.0 at.0

pub apply2-requires-clause-right : goal.apply2-requires-clause-right
apply2-requires-clause-right t c =
    let at = subst (λ (t : ExprModel). Suits t c.args.state.now c.args.word) c.in-Bin.ensures.expr c.requires.suits in
    value_below (expr_of_id c.args.self.now c.in-Bin.b) c.args.state.now c.args.word _ _ c.eval-in-Bin-2.ensures (c.width-in-Bin.ensures.width ∙ sym c.in-Bin.ensures.fits.2) c.in-Bin.ensures.fits.1 at.1

pub slice-requires-clause-high : goal.slice-requires-clause-high
slice-requires-clause-high t c = slice_high (expr_of_id c.args.self.now c.in-Slice.a) c.in-Slice.hi c.in-Slice.lo c.in-Slice.ensures.fits

pub cat-requires-clause-left : goal.cat-requires-clause-left
cat-requires-clause-left t c =
    let at = subst (λ (t : ExprModel). Suits t c.args.state.now c.args.word) c.in-Cat.ensures.expr c.requires.suits in
    cat_room (expr_of_id c.args.self.now c.in-Cat.a) (expr_of_id c.args.self.now c.in-Cat.b) c.args.state.now c.args.word _ _ c.eval-in-Cat.ensures c.width-in-Cat.ensures.width c.in-Cat.ensures.fits at

pub cat-requires-clause-right : goal.cat-requires-clause-right
cat-requires-clause-right t c =
    let at = subst (λ (t : ExprModel). Suits t c.args.state.now c.args.word) c.in-Cat.ensures.expr c.requires.suits in
    value_below (expr_of_id c.args.self.now c.in-Cat.b) c.args.state.now c.args.word _ _ c.eval-in-Cat-2.ensures c.width-in-Cat.ensures.width c.in-Cat.ensures.fits.1 at.1

pub sext-requires-clause-operand : goal.sext-requires-clause-operand
sext-requires-clause-operand t c =
    let at = subst (λ (t : ExprModel). Suits t c.args.state.now c.args.word) c.in-Sext.ensures.expr c.requires.suits in
    value_below (expr_of_id c.args.self.now c.in-Sext.a) c.args.state.now c.args.word _ _ c.eval-in-Sext.ensures c.width-in-Sext.ensures.width c.in-Sext.ensures.fits.0 at
