use Rattle.std.proofs.Common.{◌∙◌, ap, slice_get, slice_index, subst, sym, List, ℕ}
use Rattle.followed.specs.Inner.Coded.{IsWordOf}
use Rattle.followed.proofs.checks.ways.Goals as goal

pub ways_of-requires-clause-code : goal.ways_of-requires-clause-code
ways_of-requires-clause-code c a coded e =
    subst (λ (ws : List ℕ). IsWordOf c.args.claim.now.checked.now.netlist c.code_of.new.pool (slice_index ws a) coded) (c.as_slice.ensures ∙ c.in_ok-words.ensures)
    (c.in_ok-code.ensures.is a coded (ap (λ xs. slice_get xs a) (sym c.as_slice-2.ensures) ∙ e))
