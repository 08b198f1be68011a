use Rattle.form_model.specs.Trees.{model_of_tree}
use Rattle.tree_sharing.specs.Sharing.{exprs_at}
use Rattle.cover_lacks.specs.Inner.Listed.{FlaggedBefore}
use Rattle.cover_lacks.proofs.listed.is_flagged.Given as goal

abbrev pub invariant-loop-n : goal.invariant-loop-n
invariant-loop-n l = FlaggedBefore (exprs_at l.nodes) l.flags l.n (model_of_tree l.tree) → ⊥
