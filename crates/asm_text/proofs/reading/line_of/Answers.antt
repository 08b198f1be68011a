use Rattle.std.proofs.Common.{◌≡◌, ◌∙◌, List, ℕ, Option, None, Some, sym}
use Rattle.std.proofs.lemmas.Result.{IfOk-weaker}
use Rattle.asm_text.specs.declared.line.Line.TheVariants.{Raw}
use Rattle.asm_text.proofs.Whole.{body, do_only, do_read, line_again, line_is, raw_only}
use Rattle.asm_text.proofs.reading.line_of.Goals as goal

pub returns-in_default-clause-only : goal.returns-in_default-clause-only
returns-in_default-clause-only c = λ said says.
    (let e : ◌≡◌ {A = Option (List ℕ)} None (Some (body c.args.transfers.now c.args.bits said)) = c.in_default.ensures ∙ line_again c.args.transfers.now c.args.bits c.args.line.now said c.requires.transfers c.requires.most says in
    absurd cc)

pub returns-in-Some-raw_word-clause-read : goal.returns-in-Some-raw_word-clause-read
returns-in-Some-raw_word-clause-read c = record {
  text = line_is c.args.transfers.now c.args.bits c.args.line.now c.in-Some.text.now (Raw c.in-Some-raw_word.word) (sym c.in-Some.ensures) c.in-Some-raw_word.ensures.some.is;
  fits = c.in-Some-raw_word.ensures.some.fits;
}

pub returns-in-Some-raw_word-clause-only : goal.returns-in-Some-raw_word-clause-only
returns-in-Some-raw_word-clause-only c = λ said says.
    raw_only c.args.transfers.now c.args.bits c.args.line.now c.in-Some.text.now c.requires.transfers c.requires.most (sym c.in-Some.ensures) c.in-Some-raw_word.word c.in-Some-raw_word.ensures.some
    (λ w is. c.in-Some-raw_word.ensures.only w is) said says

pub returns-clause-read : goal.returns-clause-read
returns-clause-read c =
    IfOk-weaker c.do_line.result _ _
    (λ found says. do_read c.args.transfers.now c.args.bits c.args.line.now c.in-Some.text.now c.requires.transfers c.requires.most (sym c.in-Some.ensures) found says) c.do_line.ensures.read

pub returns-clause-only : goal.returns-clause-only
returns-clause-only c =
    IfOk-weaker c.do_line.result _ _
    (λ found only. λ said says. do_only c.args.transfers.now c.args.bits c.args.line.now c.in-Some.text.now c.requires.transfers c.requires.most (sym c.in-Some.ensures) found
    (λ w is. c.in_default-raw_word.ensures.only w is) (λ line h. only line h) said says)
    c.do_line.ensures.only
