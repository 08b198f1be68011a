use Rattle.std.proofs.Common.{◌≡◌, ◌∙◌, Some, true, ap, sym, arith}
use Rattle.code_model.specs.Views.{is_of_registers, place_named}
use Rattle.net_model.specs.Exprs.{model_of_expr}
use Rattle.check_command.specs.Inner.Marked.{is_test}
use Rattle.check_command.proofs.ViewLemmas.{plain_view}
use Rattle.check_command.proofs.views.is_plain_view.Goals as goal

pub returns : goal.returns
returns c =
    let image = c.args.image.now in
    let view = c.args.view.now in
    let named : place_named image.places view.name ≡ Some c.in-Some.place.now = cc (c.in-Some.ensures, c.as_slice.ensures) in
    let registers : is_of_registers (model_of_expr view.value) ≡ true = sym c.is_of_registers.ensures ∙ c.if-not-is_of_registers.false in
    plain_view c.args.checked.now.netlist image view c.in-Some.place.now c.is_test_at.result named (omega arith) (omega arith) registers
    (c.is_cell_wide.ensures.0 c.if-not-is_cell_wide.false)
    (c.is_test_at.ensures ∙ ap is_test c.requires)
