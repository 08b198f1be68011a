use Rattle.std.proofs.Common.{◌≡◌, Some, sym, slice_get, ◌∙◌, ap}
use Rattle.std.specs.Prelude.{option_copied}
use Rattle.sym_run.specs.declared.known.Cell.TheVariants.{Kept, Array, Is}
use Rattle.class_values.proofs.Made.{if_found, if_known}
use Rattle.sym_run.proofs.Passing.{cell_array, cell_inside}
use Rattle.sym_run.proofs.Cells.{cell_kept_there, cell_known}
use Rattle.sym_run.proofs.eval.cell.Goals as goal

pub returns-in-Some-clause-is : goal.returns-in-Some-clause-is
returns-in-Some-clause-is c =
    if_found c.element.result _ _ (λ k is. cell_inside c.args.facts.now c.args.known.now c.in-Some.like c.args.width c.args.table.now c.element.new.table c.args.addr k is c.in-Some.ensures) c.element.ensures.is

pub returns-in-Some-Is-clause-is : goal.returns-in-Some-Is-clause-is
returns-in-Some-Is-clause-is c =
    let there : slice_get c.args.known.now.cells c.in-Some-number_of.at ≡ Some (Is c.in-Some-Is.class) = sym c.get.ensures ∙ ap option_copied c.in-Some-Is.is ∙ ap Some c.in-Some-Is.field-0-is in
    if_known c.of_width.result _ _ (λ k is. cell_known c.args.table.now c.args.facts.now c.args.known.now c.args.addr c.in-Some-number_of.at c.args.width c.in-Some-number_of.ensures c.in-Some-Is.class k there is) c.of_width.ensures

pub returns-in-Some-Kept-clause-is : goal.returns-in-Some-Kept-clause-is
returns-in-Some-Kept-clause-is c =
    let there : slice_get c.args.known.now.cells c.in-Some-number_of.at ≡ Some Kept = sym c.get.ensures ∙ ap option_copied c.in-Some-Kept.is ∙ ap Some c.in-Some-Kept.field-0-is in
    if_found c.class_of.result _ _ (λ k s. cell_kept_there c.args.table.now c.class_of.new.table c.class_of.ensures.grows c.args.facts.now c.args.known.now c.args.addr c.args.width k s c.in-Some-number_of.at c.in-Some-number_of.ensures there) c.class_of.ensures.stands

pub returns-in-Some-Array-clause-is : goal.returns-in-Some-Array-clause-is
returns-in-Some-Array-clause-is c =
    let there : slice_get c.args.known.now.cells c.in-Some-number_of.at ≡ Some Array = sym c.get.ensures ∙ ap option_copied c.in-Some-Array.is ∙ ap Some c.in-Some-Array.field-0-is in
    if_found c.element-in-Some-Array.result _ _ (λ k is. cell_array c.args.facts.now c.args.known.now c.args.addr c.args.width c.args.table.now c.element-in-Some-Array.new.table c.in-Some-number_of.at k is c.in-Some-number_of.ensures there) c.element-in-Some-Array.ensures.is
