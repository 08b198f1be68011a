use Rattle.std.proofs.Common.{◌≡◌, ◌∙◌, IfOk, ap, subst, slice_index, sym}
use Rattle.net_model.specs.Exprs.{ExprModel}
use Rattle.sym_expr.specs.Pools.{expr_of_id}
use Rattle.word_moves.specs.Inner.Choices.{case_target, driver_target}
use Rattle.word_moves.specs.Inner.Gates.{net_exprs}
use Rattle.net_model.specs.Flags.{flag_at}
use Rattle.word_moves.proofs.Wide.{case_wide, bus_wide, selector_wide, case_static, case_open, bus_is}
use Rattle.word_moves.proofs.gates.gate_id.Goals as goal

pub id_there-requires-clause-known : goal.id_there-requires-clause-known
id_there-requires-clause-known c =
    case_wide c.args.netlist.now _ _ _ _ c.requires.gate c.requires.known c.in-Case.sel _ _ _ _ c.in-Case.is (c.target_of-net.ensures ∙ ap (λ rows. case_target c.value_at-then-is_set.result rows c.in-Case.rest) c.as_slice-rows.ensures)

pub select_id-requires-clause-sel : goal.select_id-requires-clause-sel
select_id-requires-clause-sel c =
    selector_wide c.args.netlist.now _ _ _ _ c.requires.gate c.requires.known c.in-Case.sel _ _ c.in-Case.is c.requires.control
    (sym (ap (λ f. f c.in-Case.sel) c.requires.statics) ∙ sym c.is_set.ensures ∙ c.if-is_set.false)

pub select_id-requires-clause-one : goal.select_id-requires-clause-one
select_id-requires-clause-one c =
    case_wide c.args.netlist.now _ _ _ _ c.requires.gate c.requires.known c.in-Case.sel _ _ _ _ c.in-Case.is (c.target_of-one.ensures ∙ ap (λ rows. case_target 1 rows c.in-Case.rest) c.as_slice-rows.ensures)

pub select_id-requires-clause-zero : goal.select_id-requires-clause-zero
select_id-requires-clause-zero c =
    case_wide c.args.netlist.now _ _ _ _ c.requires.gate c.requires.known c.in-Case.sel _ _ _ _ c.in-Case.is (c.target_of-zero.ensures ∙ ap (λ rows. case_target 0 rows c.in-Case.rest) c.as_slice-rows.ensures)

pub id_there-requires-in-Bus-clause-known : goal.id_there-requires-in-Bus-clause-known
id_there-requires-in-Bus-clause-known c =
    bus_wide c.args.netlist.now _ _ _ _ c.requires.gate c.requires.known (slice_index c.args.at.now.values.now) _ _ c.in-Bus.is (c.driver_of-net.ensures ∙ ap (driver_target (slice_index c.args.at.now.values.now)) c.as_slice.ensures)

pub returns-then-is_set-clause-expr : goal.returns-then-is_set-clause-expr
returns-then-is_set-clause-expr c =
    subst (λ (e : ExprModel). IfOk c.id_there.result (λ id. expr_of_id c.id_there.new.pool id ≡ e))
    (case_static (net_exprs c.args.pool.now c.args.ids.now) (slice_index c.args.at.now.values.now) (flag_at c.args.at.now.statics.now) c.args.netlist.now _ _ c.in-Case.sel _ _ _ _ c.in-Case.is
    (sym c.is_set.ensures ∙ c.if-is_set.true) c.value_at-then-is_set.ensures (c.target_of-net.ensures ∙ ap (λ rows. case_target c.value_at-then-is_set.result rows c.in-Case.rest) c.as_slice-rows.ensures))
    c.id_there.ensures.expr

pub returns-else-is_set-clause-expr : goal.returns-else-is_set-clause-expr
returns-else-is_set-clause-expr c =
    subst (λ (e : ExprModel). IfOk c.select_id.result (λ id. expr_of_id c.select_id.new.pool id ≡ e))
    (case_open (net_exprs c.args.pool.now c.args.ids.now) (slice_index c.args.at.now.values.now) (flag_at c.args.at.now.statics.now) c.args.netlist.now _ _ c.in-Case.sel _ _ _ _ c.in-Case.is
    (sym c.is_set.ensures ∙ c.if-is_set.false)
    (c.target_of-one.ensures ∙ ap (λ rows. case_target 1 rows c.in-Case.rest) c.as_slice-rows.ensures)
    (c.target_of-zero.ensures ∙ ap (λ rows. case_target 0 rows c.in-Case.rest) c.as_slice-rows.ensures))
    c.select_id.ensures.expr

pub returns-in-Bus-clause-expr : goal.returns-in-Bus-clause-expr
returns-in-Bus-clause-expr c =
    subst (λ (e : ExprModel). IfOk c.id_there-in-Bus.result (λ id. expr_of_id c.id_there-in-Bus.new.pool id ≡ e))
    (bus_is (net_exprs c.args.pool.now c.args.ids.now) (slice_index c.args.at.now.values.now) (flag_at c.args.at.now.statics.now) c.args.netlist.now _ _ _ _ c.in-Bus.is
    (c.driver_of-net.ensures ∙ ap (driver_target (slice_index c.args.at.now.values.now)) c.as_slice.ensures))
    c.id_there-in-Bus.ensures.expr
