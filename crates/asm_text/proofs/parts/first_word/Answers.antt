use Rattle.std.proofs.Common.{◌∙◌, subst, sym}
use Rattle.std.proofs.lemmas.List.Folds.{length-prefix_len}
use Rattle.asm_text.specs.Inner.Reading.{Breaks}
use Rattle.asm_text.specs.Lines.{Lacks}
use Rattle.asm_text.proofs.Words.{other, rest_breaks, word_lacks, word_split}
use Rattle.asm_text.proofs.parts.first_word.Goals as goal

pub returns-clause-breaks : goal.returns-clause-breaks
returns-clause-breaks c = subst Breaks (sym c.split_at.ensures.back) (rest_breaks c.word_len.result c.args.text.now (c.word_len.ensures ∙ length-prefix_len other c.args.text.now))

pub returns-clause-only : goal.returns-clause-only
returns-clause-only c = λ word rest w b e.
    word_split c.split_at.result.0.now word c.split_at.result.1.now rest
    (subst (Lacks 32) (sym c.split_at.ensures.front) (word_lacks c.word_len.result c.args.text.now (c.word_len.ensures ∙ length-prefix_len other c.args.text.now))) w
    (subst Breaks (sym c.split_at.ensures.back) (rest_breaks c.word_len.result c.args.text.now (c.word_len.ensures ∙ length-prefix_len other c.args.text.now))) b
    (sym c.split_at.ensures.by_index.0 ∙ e)
