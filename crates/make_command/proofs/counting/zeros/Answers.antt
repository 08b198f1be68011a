use Rattle.std.proofs.Common.{ℕ, ◌+◌, ◌++◌, List, drop, ap, sym, ◌∙◌, append_assoc}
use Rattle.std.proofs.lemmas.List.{replicate-append-replicate}
use Rattle.rec_bits.proofs.Faults.{drop_item}
use Rattle.std.specs.Prelude.{replicate}
use Rattle.src_model.specs.Meaning.{cell_count, cells_in}
use Rattle.src_model.specs.Meaning.{zeros}
use Rattle.make_command.proofs.counting.zeros.Goals as goal

pub loop-var-preserved : goal.loop-var-preserved
loop-var-preserved c =
    let rest = drop (c.loop-var.var-index + 1) c.args.vars.now in
    let here = ap zeros (drop_item c.args.vars.now c.loop-var.var-index c.var-item.result c.loop-var-test.true c.var-item.is) in
    ap (λ (xs : List ℕ). xs ++ zeros rest) (c.in_ok-push_zeros.ensures ∙ ap (λ (n : ℕ). c.loop-var.cells ++ replicate n 0) c.unwrap_or.ensures)
    ∙ append_assoc c.loop-var.cells (replicate (cells_in c.var-item.result) 0) (zeros rest)
    ∙ ap (λ (xs : List ℕ). c.loop-var.cells ++ xs) (replicate-append-replicate (cells_in c.var-item.result) (cell_count rest) 0 ∙ sym here)
    ∙ c.loop-var.invariant
