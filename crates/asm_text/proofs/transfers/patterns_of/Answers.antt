use Rattle.asm_text.proofs.Whole.{asked_told}
use Rattle.asm_text.proofs.transfers.patterns_of.Goals as goal

pub returns-in-Some-clause-only : goal.returns-in-Some-clause-only
returns-in-Some-clause-only c = λ patterns rest b t.
    (let some = rw c.in-Some.is at c.in_ok-found.ensures.some in
    let read = rw c.in-Some.is at c.in_ok-found.ensures.read in
    asked_told c.args.transfers.now c.requires c.args.text.now c.in-Some.found.0 c.in-Some.found.1.now some read patterns rest b t
    (λ more. (let told = rw c.in-Some.is at (c.in_ok-found.ensures.only patterns rest more b t) in told)))
