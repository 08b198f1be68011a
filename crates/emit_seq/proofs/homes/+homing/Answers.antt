use Rattle.std.proofs.Common.{ap, arith, length, subst}
use Rattle.form_model.specs.declared.covers.CoverOperands.{CoverOperands}
use Rattle.form_model.specs.CoverModels.{model_of_cover_operands}
use Rattle.form_model.specs.Steps.{operand_counts}
use Rattle.emit_seq.specs.Inner.CellLists.{AreListed}
use Rattle.emit_seq.specs.Models.{model_of_stock}
use Rattle.emit_seq.proofs.Opened.{homes_places}
use Rattle.emit_seq.proofs.homes.+homing.Goals as goal

pub homes_of-inserted-requires : goal.homes_of-inserted-requires
homes_of-inserted-requires t c =
    let stock = model_of_stock c.args.stock in
    let listed = subst (λ (o : CoverOperands). AreListed stock (model_of_cover_operands o)) c.in-Then.is c.requires in
    let counts = ap (λ (o : CoverOperands). length (operand_counts (model_of_cover_operands o))) c.deref-in-Then.ensures in
    let places = homes_places stock (model_of_cover_operands c.deref-in-Then.result.now) c.in_ok-holding-in-Then.field-0 in
    let long = ap length c.in_ok-later-in-Then.ensures.cells in
    omega (arith, listed.0, counts, places, long)
