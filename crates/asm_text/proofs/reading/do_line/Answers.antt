use Rattle.std.proofs.Common.{◌∙◌, ◌++◌, List, ℕ, ap, subst, sym}
use Rattle.std.specs.List.{AllPairs}
use Rattle.asm_text.specs.Lines.{NameApart, transfers_text}
use Rattle.asm_text.proofs.Whole.{apart_told}
use Rattle.asm_text.proofs.reading.do_line.Goals as goal

pub returns-then-not-branch-clause-only : goal.returns-then-not-branch-clause-only
returns-then-not-branch-clause-only c = λ line says.
    absurd (apart_told c.args.transfers.now c.args.bits c.args.text.now c.in-Some.patterns c.in-Some.rest.now line says
    (λ all tail b t. (let told = rw c.in-Some.is at (c.in_ok-patterns.ensures.only all tail b t) in told))
    (λ pairs.
    (let slices = subst (AllPairs (NameApart c.args.transfers.now)) (sym c.as_slice.ensures) pairs in
    let t = c.in_ok-are_apart.ensures.1 (subst (λ (texts : List (List ℕ)). AllPairs (NameApart texts) c.as_slice.result.now) (sym c.transfers.view_is) slices) in
    absurd cc)))

pub returns-clause-read : goal.returns-clause-read
returns-clause-read c =
    let begun = rw c.in-Some.is at c.in_ok-patterns.ensures.read in
    let tail = rw c.in-Some-2.is at c.in_ok-items.ensures.read in
    let apart = subst (λ (texts : List (List ℕ)). AllPairs (NameApart texts) c.as_slice.result.now) c.transfers.view_is (c.in_ok-are_apart.ensures.0 c.if-not-branch.false) in
    record {
      is = begun.is ∙ ap (λ (rest : List ℕ). transfers_text c.args.transfers.now c.in-Some.patterns ++ rest) tail.is;
      fits = (begun.within, subst (AllPairs (NameApart c.args.transfers.now)) c.as_slice.ensures apart, tail.fits);
    }
