use Rattle.std.proofs.Common.{◌+◌, None, take, sym, subst}
use Rattle.std.specs.List.{AllZip}
use Rattle.net_model.specs.Nets.{word_width}
use Rattle.transfer_set.specs.Tables.{PatternTable}
use Rattle.asm_text.specs.Lines.{LineFits}
use Rattle.asm_command.specs.Assembled.{HasLeastWord}
use Rattle.asm_command.specs.Inner.Tables.{IsLeastOf, machine_of, row_texts}
use Rattle.asm_command.specs.Machines.{Machine}
use Rattle.asm_command.proofs.Tables.{kept_machine, kept_on, lacks_at, least_next}
use Rattle.asm_command.proofs.assembling.least_words.Goals as goal

pub least_word-requires-clause-line : goal.least_word-requires-clause-line
least_word-requires-clause-line c =
    subst (λ (table : PatternTable). LineFits (row_texts table.rows) (word_width c.args.checked.now.netlist) c.index-lines-number.result) (sym c.loop-number.invariant.kept.patterns)
    (subst (LineFits (row_texts c.args.extracted.now.patterns.rows) (word_width c.args.checked.now.netlist)) (sym c.index-lines-number.is)
    (c.requires.lines c.loop-number.number c.index-lines-number.result c.loop-number-test.true))

pub returns-in_default-clause-refused : goal.returns-in_default-clause-refused
returns-in_default-clause-refused c =
    let netlist = c.args.checked.now.netlist in
    let least : IsLeastOf (machine_of netlist c.loop-number.extracted) c.index-lines-number.result c.in_ok-word.field-0 = c.in_ok-word.ensures.least in
    lacks_at (machine_of netlist c.args.extracted.now) c.args.lines.now c.loop-number.number c.index-lines-number.result c.loop-number.words c.loop-number-test.true c.index-lines-number.is c.loop-number.invariant.least
    (subst (λ (m : Machine). IsLeastOf m c.index-lines-number.result None) (kept_machine netlist c.args.extracted.now c.loop-number.extracted c.loop-number.invariant.kept) (rw c.in_default.is at least))

pub loop-number-preserved : goal.loop-number-preserved
loop-number-preserved c =
    let netlist = c.args.checked.now.netlist in
    let least : IsLeastOf (machine_of netlist c.loop-number.extracted) c.index-lines-number.result c.in_ok-word.field-0 = c.in_ok-word.ensures.least in
    let here : HasLeastWord (machine_of netlist c.args.extracted.now) c.index-lines-number.result c.in-Some.word = subst (λ (m : Machine). HasLeastWord m c.index-lines-number.result c.in-Some.word) (kept_machine netlist c.args.extracted.now c.loop-number.extracted c.loop-number.invariant.kept) (rw c.in-Some.is at least) in
    record {
      extracted = c.in_ok-word.ensures.extracted;
      kept = kept_on c.args.extracted.now c.loop-number.extracted c.least_word.new.extracted c.loop-number.invariant.kept c.in_ok-word.ensures.kept;
      least =
          subst (AllZip (HasLeastWord (machine_of netlist c.args.extracted.now)) (take (c.loop-number.number + 1) c.args.lines.now)) (sym c.in_ok-push.ensures.pushed)
          (least_next (machine_of netlist c.args.extracted.now) c.args.lines.now c.loop-number.number c.index-lines-number.result c.loop-number.words c.in-Some.word c.loop-number-test.true c.index-lines-number.is c.loop-number.invariant.least here);
    }
