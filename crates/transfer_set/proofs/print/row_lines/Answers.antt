use Rattle.std.proofs.lemmas.Result.{IfOk-from_err}
use Rattle.std.proofs.Common.{◌≡◌, ◌∙◌, ◌++◌, ap, slice_index_or, subst, sym}
use Rattle.transfer_set.specs.PatternsText.{IsLine}
use Rattle.transfer_set.specs.Rows.{row_pattern}
use Rattle.transfer_set.specs.Tables.{IsRow}
use Rattle.transfer_set.specs.declared.row.Row.{Row}
use Rattle.transfer_set.proofs.Printing.{lines_on, lines_end}
use Rattle.transfer_set.proofs.print.row_lines.Goals as goal

pub loop-number-preserved : goal.loop-number-preserved
loop-number-preserved c pool are =
    let none : Row = c.index-rows-number.result in
    let is : none ≡ slice_index_or c.args.rows.now c.loop-number.number none = c.index-rows-number.is in
    let row = subst (IsRow c.args.checked.now.netlist c.args.book.now pool) (sym is) (are c.loop-number.number none c.loop-number-test.true) in
    let line = subst (λ row. IsLine c.args.checked.now.netlist c.loop-number.number (row_pattern pool row) c.in_ok-row_line.field-0.items) is (c.in_ok-row_line.ensures pool row) in
    lines_on c.args.checked.now.netlist pool c.args.rows.now c.loop-number.number none c.loop-number-test.true
    c.loop-number.lines.items c.in_ok-row_line.field-0.items c.extend_from_slice.new.self.items
    line (c.loop-number.invariant pool are)
    (c.in_ok-extend_from_slice.ensures.items ∙ ap (λ line. c.loop-number.lines.items ++ line) c.deref.ensures.value)

pub returns : goal.returns
returns c pool are =
    lines_end c.args.checked.now.netlist pool c.args.rows.now c.loop-number.number c.loop-number-test.false
    c.loop-number.lines.items (c.loop-number.invariant pool are)

pub returns-in_err-extend_from_slice : goal.returns-in_err-extend_from_slice
returns-in_err-extend_from_slice c = IfOk-from_err c.from_residual-in_err-extend_from_slice.result _ c.from_residual-in_err-extend_from_slice.ensures.0

pub returns-in_err-row_line : goal.returns-in_err-row_line
returns-in_err-row_line c = IfOk-from_err c.from_residual.result _ c.from_residual.ensures.0
