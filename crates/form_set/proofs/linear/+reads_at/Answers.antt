use Rattle.std.proofs.Common.{◌∙◌, sym, ap, arith}
use Rattle.std.specs.Prelude.{is_some}
use Rattle.sym_expr.specs.Pools.{expr_of_id}
use Rattle.form_set.specs.Tied.{tied_place}
use Rattle.form_set.proofs.TiedLaws.{cell_tied}
use Rattle.form_set.proofs.linear.+reads_at.Goals as goal

pub returns-in-Cell : goal.returns-in-Cell
returns-in-Cell t c =
    let pool = c.args.pool.now in
    let one = c.len-len.ensures.one_each c.in-Cell.a c.args.addr (let b = c.in-Cell.ensures.below in omega (arith, b.0, c.requires.expr)) c.requires.addr in
    cell_tied (expr_of_id pool c.args.addr) (expr_of_id pool c.in-Cell.a) c.in-Cell.a c.args.addr one
    ∙ sym (ap (λ t. is_some (tied_place (expr_of_id pool c.args.addr) t)) c.in-Cell.ensures.expr)
