use Rattle.std.proofs.Common.{◌≡◌, ℕ, inl, inr, sym, ◌∙◌, subst, arith}
use Rattle.std.proofs.lemmas.Bool.{cases_eq}
use Rattle.net_model.specs.Depends.{Depends}
use Rattle.net_check.specs.Inner.Graphs.{named_in}
use Rattle.net_check.specs.Inner.Components.{mark_at, on_cycle}
use Rattle.net_check.proofs.SearchEnds.{lies_off}
use Rattle.net_check.proofs.cycle.least_on_cycle.Goals as goal

pub loop-net-preserved : goal.loop-net-preserved
loop-net-preserved c =
    let told : c.is_on_cycle.result ≡ on_cycle (mark_at c.in_ok-marks.marks c.loop-net.net) = rw c.as_slice.ensures at c.is_on_cycle.ensures in
    λ m h d. elim (cases_eq m c.loop-net.net) [
      | inl e ↦ lies_off c.args.graph.now c.in_ok-marks.marks c.in_ok-marks.ensures c.loop-net.net (sym told ∙ c.if-is_on_cycle.false) (subst (λ (n : ℕ). Depends (named_in c.args.graph.now) n n) e d)
      | inr ne ↦ c.loop-net.invariant m (omega (arith, h, ne)) d
    ]
