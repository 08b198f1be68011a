use Rattle.std.proofs.Common.{ℕ, length, refl, subst, arith, inl, inr}
use Rattle.std.proofs.lemmas.Bool.{cases_lt}
use Rattle.std.proofs.lemmas.Option.{slice_get_read}
use Rattle.check_command.specs.Views.{IsRightView}
use Rattle.check_command.proofs.ViewLemmas.{say_more, say_on}
use Rattle.check_command.proofs.views.view_fault.Goals as goal

pub is_right_view-requires-clause-marks : goal.is_right_view-requires-clause-marks
is_right_view-requires-clause-marks c =
    let views = c.args.views.now in
    let at = c.loop-at.at in
    let view = c.index-views-at.result in
    let there = slice_get_read views (length views) at view refl c.loop-at-test.true c.index-views-at.is in
    say_on views c.requires at view there _ _ _ c.loop-at.invariant.1 c.marks_from-marks.ensures.same

pub loop-at-preserved : goal.loop-at-preserved
loop-at-preserved c =
    let views = c.args.views.now in
    let at = c.loop-at.at in
    let view = c.index-views-at.result in
    let there = slice_get_read views (length views) at view refl c.loop-at-test.true c.index-views-at.is in
    let right = c.is_right_view.ensures.0 c.if-not-is_right_view.false in
    let says = say_on views c.requires at view there _ _ _ c.loop-at.invariant.1 c.marks_from-marks.ensures.same in (
      λ k lt. elim (cases_lt k at) [
        | inl under ↦ c.loop-at.invariant.0 k under
        | inr over ↦
            subst (λ (n : ℕ). IsRightView c.args.checked.now.netlist c.args.image.now views n) (omega (arith, lt, over)) right
      ],
      say_more views _ _ at says,
    )
