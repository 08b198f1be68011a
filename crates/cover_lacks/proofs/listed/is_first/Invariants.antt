use Rattle.std.proofs.Common.{◌≡◌, ℕ, ◌<◌, Some}
use Rattle.std.specs.Prelude.{slice_get}
use Rattle.net_model.specs.Exprs.{ExprModel}
use Rattle.tree_sharing.specs.Sharing.{exprs_at}
use Rattle.cover_lacks.proofs.listed.is_first.Given as goal

abbrev pub invariant-loop-m : goal.invariant-loop-m
invariant-loop-m l = (k : ℕ) (t : ExprModel) → k < l.m → slice_get (exprs_at l.nodes) k ≡ Some t → slice_get (exprs_at l.nodes) l.n ≡ Some t → ⊥
