use Rattle.std.proofs.Common.{◌≡◌, ◌+◌, ◌-◌, List, length, arith, get_or, subst}
use Rattle.std.proofs.lemmas.Result.{IfOk-weaker}
use Rattle.code_model.specs.declared.image.Word.{Word}
use Rattle.check_command.proofs.RuleLemmas.{ends_last, last_there, plainly_ends, word_fits}
use Rattle.check_command.proofs.rules.ends_plainly.Goals as goal

pub is_end_word-requires : goal.is_end_word-requires
is_end_word-requires c =
    let image = c.args.image.now in
    let words = c.as_slice-words.result.now in
    let some = c.if-count-eq0.false in
    word_fits c.args.checked.now.netlist c.args.checked.now.order c.netlist-netlist.ensures.kept image c.requires (length words - 1)
    (get_or words (length words - 1) c.index-words-last.result)
    (last_there words image.words c.index-words-last.result (omega (arith, some)) c.as_slice-words.ensures)

pub returns : goal.returns
returns c =
    let netlist = c.args.checked.now.netlist in
    let image = c.args.image.now in
    let words = c.as_slice-words.result.now in
    let last = length words - 1 in
    let word = get_or words last c.index-words-last.result in
    let some = c.if-count-eq0.false in
    let there = last_there words image.words c.index-words-last.result (omega (arith, some)) c.as_slice-words.ensures in
    let long : length image.words ≡ last + 1 = subst (λ (ws : List Word). length ws ≡ last + 1) c.as_slice-words.ensures (omega (arith, some)) in
    IfOk-weaker c.is_end_word.result _ _
    (λ said h. (λ t. plainly_ends netlist image last word there long (h.0 t), λ e. h.1 (ends_last netlist image last word there long e)))
    c.is_end_word.ensures
