use Rattle.std.proofs.Common.{map}
use Rattle.std.proofs.lemmas.Result.{err_from_is_err_and}
use Rattle.view_lines.specs.Remarks.{model_of_remark}
use Rattle.viewed_text.proofs.Telling.{behind_only, behind_refused, front_only, front_refused, text_only, text_read}
use Rattle.viewed_text.proofs.FirstDone.{rest_short}
use Rattle.viewed_text.proofs.reading.read.Goals as goal

pub remarks_of-requires : goal.remarks_of-requires
remarks_of-requires c = rest_short c.args.bytes.now c.parted.result.0.now c.parted.result.1.now c.parted.ensures

pub returns-in_err-image-clause-only : goal.returns-in_err-image-clause-only
returns-in_err-image-clause-only c =
    let p = err_from_is_err_and c.from_residual.result c.from_residual.ensures.1 in
    rw (p.1, p.2) (front_only c.args.checked.now.netlist c.of.result (record { same = c.of.ensures.value; some = c.of.ensures.some; narrow = c.of.ensures.narrow; words = c.of.ensures.few }) c.args.bytes.now c.parted.result.0.now c.parted.result.1.now c.parted.ensures
    _ c.in_err-image.ensures.refused)

pub returns-in_err-image-clause-refused : goal.returns-in_err-image-clause-refused
returns-in_err-image-clause-refused c =
    let p = err_from_is_err_and c.from_residual.result c.from_residual.ensures.1 in
    rw (p.1, p.2) (front_refused c.args.checked.now.netlist c.of.result (record { same = c.of.ensures.value; some = c.of.ensures.some; narrow = c.of.ensures.narrow; words = c.of.ensures.few }) c.args.bytes.now c.parted.result.0.now c.parted.result.1.now c.parted.ensures
    _ c.in_err-image.ensures.refused)

pub returns-in_err-remarks-clause-only : goal.returns-in_err-remarks-clause-only
returns-in_err-remarks-clause-only c =
    let p = err_from_is_err_and c.from_residual-in_err-remarks.result c.from_residual-in_err-remarks.ensures.1 in
    rw (p.1, p.2) (behind_only c.args.checked.now.netlist c.of.result (record { same = c.of.ensures.value; some = c.of.ensures.some; narrow = c.of.ensures.narrow; words = c.of.ensures.few }) c.args.bytes.now c.parted.result.0.now c.parted.result.1.now c.parted.ensures
    c.in_ok-image.image c.in_ok-image.ensures.found c.in_ok-image.ensures.only _ c.in_err-remarks.ensures.stops)

pub returns-in_err-remarks-clause-refused : goal.returns-in_err-remarks-clause-refused
returns-in_err-remarks-clause-refused c =
    let p = err_from_is_err_and c.from_residual-in_err-remarks.result c.from_residual-in_err-remarks.ensures.1 in
    rw (p.1, p.2) (behind_refused c.args.checked.now.netlist c.of.result (record { same = c.of.ensures.value; some = c.of.ensures.some; narrow = c.of.ensures.narrow; words = c.of.ensures.few }) c.args.bytes.now c.parted.result.0.now c.parted.result.1.now c.parted.ensures
    c.in_ok-image.image c.in_ok-image.ensures.found c.in_ok-image.ensures.only _ c.in_err-remarks.ensures.stops)

pub returns-clause-found : goal.returns-clause-found
returns-clause-found c =
    text_read c.args.checked.now.netlist c.of.result (record { same = c.of.ensures.value; some = c.of.ensures.some; narrow = c.of.ensures.narrow; words = c.of.ensures.few }) c.args.bytes.now c.parted.result.0.now c.parted.result.1.now c.parted.ensures
    c.in_ok-image.image c.in_ok-image.ensures.found c.in_ok-image.ensures.only (map model_of_remark c.in_ok-remarks.remarks.items) c.in_ok-remarks.ensures.read

pub returns-clause-only : goal.returns-clause-only
returns-clause-only c =
    text_only c.args.checked.now.netlist c.of.result (record { same = c.of.ensures.value; some = c.of.ensures.some; narrow = c.of.ensures.narrow; words = c.of.ensures.few }) c.args.bytes.now c.parted.result.0.now c.parted.result.1.now c.parted.ensures
    c.in_ok-image.image c.in_ok-image.ensures.found c.in_ok-image.ensures.only (map model_of_remark c.in_ok-remarks.remarks.items) c.in_ok-remarks.ensures.read
