use Rattle.std.proofs.Common.{◌∙◌, sym}
use Rattle.form_model.specs.Forms.{model_of_form}
use Rattle.mode_set.proofs.Putting.{can_put_none, none_puts_more, none_told}
use Rattle.mode_set.proofs.puts.can_put.Goals as goal

pub loop-form-preserved : goal.loop-form-preserved
loop-form-preserved c =
    let forms = c.args.forms.now in
    none_puts_more c.args.mode c.args.value forms c.loop-form.form-index c.form-item.result c.loop-form-test.true c.form-item.is c.loop-form.invariant
    (none_told c.args.mode c.args.value (model_of_form c.form-item.result) c.in_ok-setting.setting c.in_ok-setting.ensures (sym c.is_some.ensures ∙ c.if-is_some.false))

pub returns : goal.returns
returns c = (
  λ e. absurd (cc),
  λ p. absurd (can_put_none c.args.mode c.args.value c.args.forms.now c.loop-form.form-index c.loop-form-test.false c.loop-form.invariant p),
)
