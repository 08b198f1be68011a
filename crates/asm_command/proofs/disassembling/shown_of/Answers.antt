use Rattle.std.proofs.lemmas.Result.{IfOk-weaker}
use Rattle.asm_command.proofs.Read.{image_words, text_own}
use Rattle.asm_command.proofs.disassembling.shown_of.Goals as goal

pub lines_of-requires-clause-words : goal.lines_of-requires-clause-words
lines_of-requires-clause-words c = rw c.as_slice.ensures (image_words c.args.checked.now.netlist c.args.image.now.words c.requires.image.words)

pub returns : goal.returns
returns c =
    IfOk-weaker c.text_of.result _ _
    (λ text e. record {
      lines = c.in_ok-lines.lines.items;
      shown = rw c.as_slice.ensures at c.in_ok-lines.ensures;
      written = text_own c.args.checked.now.netlist c.args.extracted.now c.requires.extracted c.in_ok-lines.lines.items text.items e;
    })
    c.text_of.ensures
