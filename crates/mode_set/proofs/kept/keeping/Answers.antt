use Rattle.std.proofs.Common.{◌≡◌, ◌<◌, ◌∙◌, sym, ap, subst, true≢false, List, length, max, get_or, arith, rules}
use Rattle.bit_bdd.proofs.CallerLemmas.{extends_trans}
use Rattle.form_model.specs.declared.forms.Form.{Form}
use Rattle.form_model.specs.Forms.{model_of_form}
use Rattle.transfer_set.specs.Rows.{row_patterns}
use Rattle.mode_set.proofs.KeptForms.{kept_next, left_next, listed, low_next, reach_next}
use Rattle.mode_set.proofs.kept.keeping.Goals as goal
use Rattle.mode_set.proofs.kept.keeping.Goals.{then-kept+in_ok-copy_form+in_ok-push, else-kept}

pub loop-form-preserved : goal.loop-form-preserved
loop-form-preserved c =
    let netlist = c.args.machine.now.checked.now.netlist in
    let patterns = row_patterns c.args.machine.now.pool.now c.args.machine.now.patterns.now.rows in
    let forms = c.args.forms.now.list.items in
    let i = c.loop-form.form-index in
    let form = c.form-item.result in
    let before = c.loop-form.invariant in
    let lt : i < length forms = omega arith in
    let is = subst (λ (list : List Form). form ≡ get_or list i form) c.deref-form-items.ensures.value c.form-item.is in
    let told = c.in_ok-kept.ensures.keeps in
    record {
      grows = extends_trans c.args.book.now c.loop-form.book c.keeps.new.book before.grows c.keeps.ensures.grows;
      ready = c.keeps.ensures.ready;
      low = elim c.if-kept.branch [
        | then-kept+in_ok-copy_form+in_ok-push w ↦ rw w.list-is (low_next netlist patterns c.args.mode forms i form lt is c.loop-form.list.items w.push.new.self.items _ w.in_ok-push.ensures.items w.in_ok-copy_form.ensures before.low (c.args.forms.now.low i (model_of_form form) (listed forms i form lt is)))
        | else-kept w ↦ rw w.list-is before.low
      ];
      kept = elim c.if-kept.branch [
        | then-kept+in_ok-copy_form+in_ok-push w ↦ rw w.list-is (kept_next netlist patterns c.args.mode forms i form lt is c.loop-form.list.items w.push.new.self.items _ w.in_ok-push.ensures.items w.in_ok-copy_form.ensures before.kept (told.0 w.if-kept.true))
        | else-kept w ↦ rw w.list-is (left_next netlist patterns c.args.mode forms i form lt is c.loop-form.list.items before.kept (λ keeps. true≢false (sym (told.1 keeps) ∙ w.if-kept.false)))
      ];
      far = elim c.if-kept.branch [
        | then-kept+in_ok-copy_form+in_ok-push w ↦ (let most : w.max-reach.result ≡ max c.loop-form.reach w.reach_of.result = search rules in
            rw (w.list-is, w.reach-is) (reach_next netlist patterns c.args.mode forms i form lt is c.loop-form.list.items w.push.new.self.items _ w.in_ok-push.ensures.items w.in_ok-copy_form.ensures c.loop-form.reach w.max-reach.result before.far (most ∙ ap (max c.loop-form.reach) w.reach_of.ensures)))
        | else-kept w ↦ rw (w.list-is, w.reach-is) before.far
      ];
    }
