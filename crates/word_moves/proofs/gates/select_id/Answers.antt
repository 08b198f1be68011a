use Rattle.std.proofs.Common.{◌≡◌, IfOk, subst}
use Rattle.net_model.specs.Exprs.{ExprModel}
use Rattle.sym_expr.specs.Pools.{expr_of_id}
use Rattle.word_moves.proofs.Wide.{some_wide_later, choice_fits, choice_is}
use Rattle.word_moves.proofs.gates.select_id.Goals as goal

pub id_there-requires-2-clause-known : goal.id_there-requires-2-clause-known
id_there-requires-2-clause-known c = some_wide_later _ _ c.in_ok-on.ensures.grows _ _ c.args.choice.zero c.requires.zero

pub intern-requires-clause-fits : goal.intern-requires-clause-fits
intern-requires-clause-fits c =
    choice_fits _ _ _ c.in_ok-on.ensures.grows c.in_ok-off.ensures.grows _ _ c.args.choice.one c.args.choice.zero c.args.choice.sel _ _ _ c.value_at-test.ensures
    c.requires.sel c.requires.one c.requires.zero c.in_ok-on.ensures.within c.in_ok-on.ensures.expr c.in_ok-off.ensures.expr

pub returns-clause-expr : goal.returns-clause-expr
returns-clause-expr c =
    subst (λ (e : ExprModel). IfOk c.intern.result (λ id. expr_of_id c.intern.new.self id ≡ e))
    (choice_is _ _ _ c.in_ok-on.ensures.grows c.in_ok-off.ensures.grows _ _ c.args.choice.one c.args.choice.zero c.args.choice.sel _ _ _ c.value_at-test.ensures
    c.requires.sel c.requires.one c.requires.zero c.in_ok-on.ensures.within c.in_ok-on.ensures.expr c.in_ok-off.ensures.expr)
    c.intern.ensures.expr
