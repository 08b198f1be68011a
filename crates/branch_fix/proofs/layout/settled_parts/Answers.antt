use Rattle.std.proofs.Common.{◌<◌, ◌^◌, ◌+◌, ◌≤◌, List, arith, sym, subst}
use Rattle.form_model.specs.declared.forms.Form.{Form}
use Rattle.form_model.specs.Forms.{models_of_forms}
use Rattle.branch_fix.specs.Parts.{total}
use Rattle.branch_fix.specs.Rounds.{rounds}
use Rattle.branch_fix.specs.Bounds.{control_words, sum_of}
use Rattle.branch_fix.proofs.Laying.{laid_le}
use Rattle.branch_fix.proofs.layout.settled_parts.Goals as goal

pub settled-requires : goal.settled-requires
settled-requires c = λ n.
    let o = c.args.outline.now in
    let first = c.in_ok-first.first in
    let bound : sum_of o.sizes.now + control_words o.flow.now < 2 ^ 64 = c.requires in
    let least = laid_le (models_of_forms o.forms.now.list.items) o.flow.now o.sizes.now o.branches.now n in
    let made = subst (λ p. total (rounds (models_of_forms o.forms.now.list.items) n p) ≤ sum_of o.sizes.now + control_words o.flow.now) (sym c.in_ok-first.ensures) least in
    let h : total (rounds (models_of_forms c.as_slice.result.now) n first) ≤ sum_of o.sizes.now + control_words o.flow.now =
    subst (λ (list : List Form). total (rounds (models_of_forms list) n first) ≤ sum_of o.sizes.now + control_words o.flow.now) (sym c.as_slice.ensures.value) made in
    omega arith
