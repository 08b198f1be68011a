use Rattle.std.proofs.Common.{◌≡◌, ◌<◌, ◌≤◌, subst, length, get_or, arith, List, Some}
use Rattle.std.proofs.lemmas.List.{take_all}
use Rattle.bit_bdd.proofs.CallerLemmas.{extends_trans}
use Rattle.form_model.specs.declared.forms.Form.{Form}
use Rattle.form_model.specs.Forms.{model_of_form, models_of_forms}
use Rattle.transfer_set.specs.Rows.{row_patterns}
use Rattle.mode_set.specs.ModeWords.{IsLeastModeWord}
use Rattle.mode_set.proofs.Putting.{IsPutSetting, word_more, word_other}
use Rattle.mode_set.proofs.puts.mode_word.Goals as goal
use Rattle.mode_set.proofs.puts.mode_word.Goals.{in-Some+in_ok-next, in_default}

pub loop-form-preserved : goal.loop-form-preserved
loop-form-preserved c =
    let netlist = c.args.machine.now.checked.now.netlist in
    let order = c.args.machine.now.checked.now.order in
    let kept = c.netlist-netlist.ensures.kept in
    let pool = c.args.machine.now.pool.now in
    let table = c.args.machine.now.patterns.now in
    let each = c.requires.ready.patterns.each in
    let told_file = c.requires.ready.patterns.file in
    let forms = c.args.forms.now.list.items in
    let i = c.loop-form.form-index in
    let form = c.form-item.result in
    let before = c.loop-form.invariant in
    let lt : i < length forms = omega arith in
    let is = subst (λ (list : List Form). form ≡ get_or list i form) c.deref-form-items.ensures.value c.form-item.is in
    record {
      grows = elim c.match-setting.branch [
        | in-Some+in_ok-next w ↦ rw w.book-is (extends_trans c.args.book.now c.loop-form.book w.word_with.new.book before.grows w.in_ok-next.ensures.grows)
        | in_default w ↦ rw w.book-is before.grows
      ];
      ready = elim c.match-setting.branch [
        | in-Some+in_ok-next w ↦ rw w.book-is w.in_ok-next.ensures.ready
        | in_default w ↦ rw w.book-is before.ready
      ];
      least = elim c.match-setting.branch [
        | in-Some+in_ok-next w ↦ rw (w.least-is, w.lesser-least.ensures) (word_more netlist order kept pool table each told_file c.args.mode c.requires.mode c.requires.edition forms c.requires.forms.0 c.requires.forms.1.list c.args.value
            i form lt is c.loop-form.least w.in_ok-next.next w.in-Some.bits (subst (IsPutSetting c.args.mode c.args.value (model_of_form form)) w.in-Some.is c.in_ok-setting.ensures) before.least w.in_ok-next.ensures.word)
        | in_default w ↦ rw w.least-is (word_other netlist order kept pool table each told_file c.args.mode c.requires.mode c.requires.edition forms c.requires.forms.0 c.requires.forms.1.list c.args.value
            i form lt is c.loop-form.least (subst (IsPutSetting c.args.mode c.args.value (model_of_form form)) w.in_default.is c.in_ok-setting.ensures) before.least)
      ];
    }

pub returns-clause-word : goal.returns-clause-word
returns-clause-word c =
    let forms = c.args.forms.now.list.items in
    let all : length forms ≤ c.loop-form.form-index = omega arith in
    subst (λ (list : List Form). IsLeastModeWord c.args.machine.now.checked.now.netlist (Some c.args.mode) (row_patterns c.args.machine.now.pool.now c.args.machine.now.patterns.now.rows) (models_of_forms list) c.args.value c.loop-form.least)
    (take_all c.loop-form.form-index forms all) c.loop-form.invariant.least
