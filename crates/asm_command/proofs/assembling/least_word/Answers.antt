use Rattle.std.proofs.Common.{◌≡◌, ◌≤◌, ℕ, length, refl, sym, subst, arith}
use Rattle.net_model.proofs.KeptRules.{few_storages}
use Rattle.net_model.specs.Nets.{word_width}
use Rattle.asm_words.specs.Tables.{HasLine}
use Rattle.isa_extract.proofs.Cleans.{extracted_later}
use Rattle.asm_command.proofs.Tables.{has_line, has_sets, least_of_line}
use Rattle.asm_command.proofs.assembling.least_word.Goals as goal

pub overflow_cast-storages : goal.overflow_cast-storages
overflow_cast-storages c =
    let few : length c.args.checked.now.netlist.storages ≤ 15 = few_storages c.args.checked.now.netlist c.args.checked.now.order c.requires.rules in
    let e : c.len-storages.result ≡ length c.args.checked.now.netlist.storages = rw c.netlist.ensures.value at c.len-storages.ensures in
    omega (arith, few, e)

pub words-requires-clause-line : goal.words-requires-clause-line
words-requires-clause-line c =
    subst (λ (n : ℕ). HasLine n c.args.extracted.now.patterns c.args.line.now) (sym c.requires.extracted.ready.bits)
    (has_line c.args.extracted.now.patterns (word_width c.args.checked.now.netlist) c.args.line.now c.requires.line)

pub returns-in_err-set-clause-extracted : goal.returns-in_err-set-clause-extracted
returns-in_err-set-clause-extracted c = extracted_later c.args.checked.now.netlist c.args.extracted.now _ c.requires.extracted c.in_err-set.ensures.grows refl refl refl

pub returns-clause-extracted : goal.returns-clause-extracted
returns-clause-extracted c = extracted_later c.args.checked.now.netlist c.args.extracted.now _ c.requires.extracted c.in_ok-set.ensures.grows refl refl refl

pub returns-clause-least : goal.returns-clause-least
returns-clause-least c =
    least_of_line c.args.checked.now.netlist c.args.checked.now.order c.requires.rules c.args.extracted.now c.requires.extracted c.args.line.now c.requires.line
    c.words.new.book c.in_ok-set.set c.least.result c.in_ok-set.ensures.grows c.in_ok-set.ensures.words
    (record { within = c.least.ensures.within; some = c.least.ensures.some; least = c.least.ensures.least; none = c.least.ensures.none })

pub words-requires-clause-sets : goal.words-requires-clause-sets
words-requires-clause-sets c = has_sets c.args.checked.now.netlist c.args.extracted.now.book c.args.extracted.now.pool c.args.extracted.now.patterns c.requires.extracted.ready
