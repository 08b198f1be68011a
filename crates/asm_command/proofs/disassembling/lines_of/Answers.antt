use Rattle.std.proofs.Common.{◌+◌, ◌^◌, ◌<◌, ℕ, List, map, take, sym, subst}
use Rattle.std.specs.List.{AllZip}
use Rattle.code_model.specs.declared.image.Word.{Word}
use Rattle.net_model.specs.Nets.{word_width}
use Rattle.asm_text.specs.declared.line.Line.{Line}
use Rattle.asm_command.specs.Disassembled.{ShowsWord}
use Rattle.asm_command.specs.Inner.Tables.{machine_of}
use Rattle.asm_command.proofs.Read.{shown_next}
use Rattle.asm_command.proofs.Tables.{has_exprs, has_sets}
use Rattle.asm_command.proofs.disassembling.lines_of.Goals as goal

pub line_of-requires-clause-sets : goal.line_of-requires-clause-sets
line_of-requires-clause-sets c = has_sets c.args.checked.now.netlist c.args.extracted.now.book c.args.extracted.now.pool c.args.extracted.now.patterns c.requires.extracted.ready

pub line_of-requires-clause-exprs : goal.line_of-requires-clause-exprs
line_of-requires-clause-exprs c = has_exprs c.args.checked.now.netlist c.args.extracted.now.book c.args.extracted.now.pool c.args.extracted.now.patterns c.requires.extracted.ready

pub loop-word-preserved : goal.loop-word-preserved
loop-word-preserved c =
    let netlist = c.args.checked.now.netlist in
    let machine = machine_of netlist c.args.extracted.now in
    let word : Word = c.word-item.result in
    let small : word.word < 2 ^ word_width netlist = subst (λ (w : Word). w.word < 2 ^ word_width netlist) (sym c.word-item.is) (c.requires.words c.loop-word.word-index word c.loop-word-test.true) in
    let fits : word.word < 2 ^ c.args.extracted.now.book.bits = subst (λ (n : ℕ). word.word < 2 ^ n) (sym c.requires.extracted.ready.bits) small in
    let here : ShowsWord machine word.word c.in_ok-line_of.field-0 = c.in_ok-line_of.ensures netlist c.requires.extracted.ready fits (c.requires.extracted.legal.words word.word fits) in
    subst (AllZip (ShowsWord machine) (map (λ (w : Word). w.word) (take (c.loop-word.word-index + 1) c.args.words.now))) (sym {A = List Line} c.in_ok-push.ensures.items)
    (shown_next machine c.args.words.now c.loop-word.word-index word c.loop-word.lines.items c.in_ok-line_of.field-0 c.loop-word-test.true c.word-item.is c.loop-word.invariant here)
