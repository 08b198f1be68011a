use Rattle.std.proofs.Common.{◌∙◌, ◌++◌, List, ℕ, ap, refl, sym}
use Rattle.asm_text.specs.Lines.{text_of}
use Rattle.asm_text.proofs.Split.{same_number, transfer_at}
use Rattle.asm_text.proofs.transfers.transfer_of.Goals as goal

pub returns-in_err-transfer-clause-only : goal.returns-in_err-transfer-clause-only
returns-in_err-transfer-clause-only c = λ pattern rest b.
    absurd (c.in_err-transfer.ensures.only (text_of c.args.transfers.now pattern) rest (transfer_at c.args.transfers.now c.requires pattern b.within) b.breaks b.is)

pub returns-in_err-number-clause-only : goal.returns-in_err-number-clause-only
returns-in_err-number-clause-only c = λ pattern rest b.
    (let same = c.in_ok-transfer.ensures.only (text_of c.args.transfers.now pattern) rest (transfer_at c.args.transfers.now c.requires pattern b.within) b.breaks b.is in
    absurd (c.in_err-number.ensures.only pattern b.within (sym same.0) refl))

pub returns-clause-some : goal.returns-clause-some
returns-clause-some c = record {
  within = c.in_ok-number.ensures.some.0;
  is = c.in_ok-transfer.ensures.some.0 ∙ ap (λ (t : List ℕ). t ++ c.in_ok-transfer.rest.now) (sym c.in_ok-number.ensures.some.1);
  breaks = c.in_ok-transfer.ensures.some.1;
}

pub returns-clause-only : goal.returns-clause-only
returns-clause-only c = λ pattern rest b.
    (let same = c.in_ok-transfer.ensures.only (text_of c.args.transfers.now pattern) rest (transfer_at c.args.transfers.now c.requires pattern b.within) b.breaks b.is in
    (same_number c.args.transfers.now c.requires.once c.in_ok-number.field-0 pattern c.in_ok-number.ensures.some.0 b.within (c.in_ok-number.ensures.some.1 ∙ same.0), same.1))
