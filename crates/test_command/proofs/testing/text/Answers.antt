use Rattle.std.proofs.Common.{◌≡◌, ◌≤◌, ◌∙◌, length, sym}
use Rattle.net_model.specs.CheckedRules.{code_size}
use Rattle.net_model.specs.Clock.{run}
use Rattle.test_run.specs.Starts.{test_start}
use Rattle.test_run.specs.Texts.{text_of}
use Rattle.test_command.proofs.Answering.{no_clash, shown}
use Rattle.test_command.proofs.testing.text.Goals as goal

pub unreachable-requires : goal.unreachable-requires
unreachable-requires c =
    let nt = c.args.checked.now.netlist in
    let code = c.args.code.now in
    let words = code.words.items in
    let room : length words ≤ code_size nt.codes = c.in_ok-check_words.ensures.room in
    let told : c.in_ok-text.field-0 ≡ text_of nt code.tested code.skipped words (run nt words (test_start nt) (length words)) = rw c.deref.ensures.value at c.in_ok-text.ensures in
    no_clash nt code c.requires.code _ c.requires.rules room (sym c.in-None.is ∙ told)

pub returns-clause-text : goal.returns-clause-text
returns-clause-text c =
    let nt = c.args.checked.now.netlist in
    let code = c.args.code.now in
    let words = code.words.items in
    let room : length words ≤ code_size nt.codes = c.in_ok-check_words.ensures.room in
    let told : c.in_ok-text.field-0 ≡ text_of nt code.tested code.skipped words (run nt words (test_start nt) (length words)) = rw c.deref.ensures.value at c.in_ok-text.ensures in
    shown nt code c.requires.code _ c.requires.rules room _ (sym c.in-Some.is ∙ told) c.in_ok-check_words.ensures.few
