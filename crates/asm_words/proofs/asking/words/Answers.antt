use Rattle.std.proofs.Common.{◌≡◌, ◌∙◌, ◌↔◌, true, subst, sym}
use Rattle.std.proofs.lemmas.Result.{IfOk-weaker}
use Rattle.bit_bdd.specs.Diagrams.{has_word}
use Rattle.transfer_set.specs.Rows.{row_patterns}
use Rattle.asm_text.specs.declared.line.Line.{Line}
use Rattle.asm_text.specs.declared.line.Line.TheVariants.{Do}
use Rattle.asm_words.specs.Asked.{IsWordOfLine}
use Rattle.asm_words.proofs.asking.words.Goals as goal

pub returns-in-Do-clause-words : goal.returns-in-Do-clause-words
returns-in-Do-clause-words c =
    let line = c.in-Do.is ∙ (λ j. Do (sym c.as_slice.ensures j) (sym c.as_slice-in-Do.ensures j)) in
    IfOk-weaker c.doing.result _ _
    (λ id held. λ netlist pool ready word lt.
    subst (λ (l : Line). (has_word c.doing.new.book id word ≡ true) ↔ IsWordOfLine netlist (row_patterns pool c.args.patterns.now.rows) l word) (sym line)
    (held netlist pool ready word lt))
    c.doing.ensures.words
