use Rattle.std.proofs.Common.{◌≤◌, ◌+◌, refl, ap, arith}
use Rattle.form_model.specs.Forms.{models_of_forms}
use Rattle.branch_fix.specs.Parts.{total}
use Rattle.branch_fix.specs.Bounds.{sum_of, control_words}
use Rattle.branch_fix.specs.Laid.{model_of_outline}
use Rattle.branch_fix.proofs.Layouts.{settled_le, full, laid_by}
use Rattle.branch_fix.proofs.layout.lay_out.Goals as goal

pub total-len-requires : goal.total-len-requires
total-len-requires c =
    let o = c.args.outline.now in
    let m = settled_le (models_of_forms o.forms.now.list.items) o.flow.now o.sizes.now o.branches.now c.in_ok-parts.parts c.in_ok-parts.ensures in
    let e = ap total c.as_slice.ensures in
    let b : sum_of o.sizes.now + control_words o.flow.now ≤ o.bound = c.requires.bound in
    omega (arith, m, e, b)

pub returns-then-len-outline-clause-refused : goal.returns-then-len-outline-clause-refused
returns-then-len-outline-clause-refused c = (
  c.if-bound-reach.false,
  full (model_of_outline c.args.outline.now) c.in_ok-parts.parts c.as_slice.result.now c.total-len.result c.in_ok-parts.ensures c.as_slice.ensures c.total-len.ensures c.requires.bound c.if-len-outline.true,
  refl,
  refl,
)

pub returns-clause-laid : goal.returns-clause-laid
returns-clause-laid c =
    laid_by (model_of_outline c.args.outline.now) c.in_ok-laid.laid c.in_ok-parts.parts c.as_slice.result.now c.as_slice-2.result.now c.total-len.result c.in_ok-parts.ensures c.as_slice.ensures c.total-len.ensures
    c.as_slice-2.ensures c.requires.bound c.if-bound-reach.false c.if-len-outline.false c.in_ok-laid.ensures.items c.in_ok-laid.ensures.marks
