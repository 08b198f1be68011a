use Rattle.std.proofs.Common.{◌≡◌, ◌∙◌, ◌++◌, inl, inr, ap, refl}
use Rattle.std.proofs.lemmas.Result.{on_ok_weaker}
use Rattle.sym_expr.specs.Pools.{node_expr, expr_of_id}
use Rattle.sym_expr.specs.declared.pool.Node.{Node}
use Rattle.asm_words.specs.Slices.{slices}
use Rattle.asm_words.proofs.Found.{found_two}
use Rattle.asm_words.proofs.showing.+add_slices.Goals as goal

pub returns-in_ok-add_slices-in-Bin : goal.returns-in_ok-add_slices-in-Bin
returns-in_ok-add_slices-in-Bin t c =
    let term_of = expr_of_id c.args.pool.now in
    let whole : slices (term_of c.args.expr) ≡ slices (term_of c.in-Bin.a) ++ slices (term_of c.in-Bin.b) = (elim c.in-Bin.is as (λ _. slices (term_of c.args.expr) ≡ slices (term_of c.in-Bin.a) ++ slices (term_of c.in-Bin.b)) [
      | inl w ↦ ap slices (c.node.ensures.expr ∙ ap (λ (node : Node). node_expr node term_of) w.1)
      | inr w ↦ ap slices (c.node.ensures.expr ∙ ap (λ (node : Node). node_expr node term_of) w)
    ]) in
    on_ok_weaker c.add_slices-in-Bin-2.result
    (λ e.
    found_two c.args.found.now c.add_slices-in-Bin.new.found c.add_slices-in-Bin-2.new.found (slices (term_of c.in-Bin.a)) (slices (term_of c.in-Bin.b)) (slices (term_of c.args.expr)) c.in_ok-add_slices-in-Bin.ensures e whole)
    c.add_slices-in-Bin-2.ensures

pub returns-in_ok-add_slices-in-Select-2 : goal.returns-in_ok-add_slices-in-Select-2
returns-in_ok-add_slices-in-Select-2 t c =
    let found = c.args.found.now in
    let first = slices (expr_of_id c.args.pool.now c.in-Select.c) in
    let second = slices (expr_of_id c.args.pool.now c.in-Select.a) in
    let third = slices (expr_of_id c.args.pool.now c.in-Select.b) in
    let whole : slices (expr_of_id c.args.pool.now c.args.expr) ≡ first ++ (second ++ third) = ap slices c.in-Select.ensures.expr in
    on_ok_weaker c.add_slices-in-Select-3.result
    (λ e.
    found_two found c.add_slices-in-Select.new.found c.add_slices-in-Select-3.new.found first (second ++ third) (slices (expr_of_id c.args.pool.now c.args.expr)) c.in_ok-add_slices-in-Select.ensures
    (found_two c.add_slices-in-Select.new.found c.add_slices-in-Select-2.new.found c.add_slices-in-Select-3.new.found second third (second ++ third) c.in_ok-add_slices-in-Select-2.ensures e refl) whole)
    c.add_slices-in-Select-3.ensures
