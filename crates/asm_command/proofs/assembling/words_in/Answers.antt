use Rattle.std.proofs.lemmas.Result.{err_from_is_err_and}
use Rattle.asm_command.specs.Inner.Tables.{row_texts}
use Rattle.asm_command.proofs.Read.{fault_in_text, fault_in_words, lines_fit, says_own}
use Rattle.asm_command.proofs.assembling.words_in.Goals as goal

pub least_words-requires-clause-lines : goal.least_words-requires-clause-lines
least_words-requires-clause-lines c =
    rw c.as_slice.ensures.value (lines_fit (row_texts c.args.extracted.now.patterns.rows) c.args.checked.now.netlist c.args.text.now c.in_ok-lines.lines.items c.in_ok-lines.ensures.said)

pub returns-in_err-lines-clause-refused : goal.returns-in_err-lines-clause-refused
returns-in_err-lines-clause-refused c =
    let p = err_from_is_err_and c.from_residual.result c.from_residual.ensures.1 in
    rw (p.1, p.2) (fault_in_text c.args.checked.now.netlist c.args.extracted.now c.requires.extracted c.args.text.now _ c.in_err-lines.ensures.refused)

pub returns-in_err-words-clause-refused : goal.returns-in_err-words-clause-refused
returns-in_err-words-clause-refused c =
    let p = err_from_is_err_and c.from_residual-in_err-words.result c.from_residual-in_err-words.ensures.1 in
    rw (p.1, p.2) (fault_in_words c.args.checked.now.netlist c.args.extracted.now c.requires.extracted c.args.text.now c.in_ok-lines.lines.items c.in_ok-lines.ensures.said _ (rw c.as_slice.ensures.value at c.in_err-words.ensures.refused))

pub returns-clause-words : goal.returns-clause-words
returns-clause-words c = record {
  lines = c.in_ok-lines.lines.items;
  says = says_own c.args.checked.now.netlist c.args.extracted.now c.requires.extracted c.args.text.now c.in_ok-lines.lines.items c.in_ok-lines.ensures.said;
  least = rw c.as_slice.ensures.value at c.in_ok-words.ensures.least;
}
