use Rattle.std.proofs.Common.{◌≡◌, ◌∙◌, ◌++◌}
use Rattle.std.proofs.lemmas.Result.{IfOk-from_err}
use Rattle.text_lines.specs.Digits.{bytes_of}
use Rattle.net_model.specs.Nets.{word_width}
use Rattle.transfer_set.specs.PatternsText.{line_text}
use Rattle.transfer_set.proofs.Printing.{line_is}
use Rattle.transfer_set.proofs.print.row_line.Goals as goal

pub returns : goal.returns
returns c pool is =
    let netlist = c.args.checked.now.netlist in
    let word = c.least_word-word.result in
    let line : c.add_line.new.line.items ≡ line_text c.args.number c.args.row.now.text.items (bytes_of (word_width netlist)) word =
    c.in_ok-add_line.ensures ∙ (λ i. c.new-line.ensures.items i ++ line_text c.args.number (c.deref.ensures.value i) (c.word_bytes.ensures.bytes i) word) in
    line_is netlist c.args.checked.now.order c.netlist.ensures.kept c.args.book.now c.requires.word pool c.args.number c.args.row.now word
    c.add_line.new.line.items c.least_word-word.ensures line is

pub returns-in_err-add_line : goal.returns-in_err-add_line
returns-in_err-add_line c = IfOk-from_err c.from_residual.result _ c.from_residual.ensures.0
