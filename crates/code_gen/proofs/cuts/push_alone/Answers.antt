use Rattle.std.proofs.Common.{◌≡◌, List, None, Option, Some, ap, subst, sym, ◌∙◌}
use Rattle.std.proofs.lemmas.Option.{slice_get-get_or, slice_get_within}
use Rattle.std.proofs.lemmas.Result.{on_ok_weaker}
use Rattle.rec_bits.proofs.Options.{same_Some}
use Rattle.form_model.specs.declared.forms.Step.{Step}
use Rattle.code_gen.specs.declared.views.Passage.{Passage}
use Rattle.code_gen.specs.Inner.Coded.{AddsPacked, HaveWordsIn}
use Rattle.code_gen.specs.Inner.Views.{HasModeBit}
use Rattle.code_gen.proofs.ModeRegs.{mode_bit, mode_offset}
use Rattle.code_gen.proofs.Running.{alone_mode, alone_passage, alone_run, alone_steps, alone_within, place_steps}
use Rattle.code_gen.proofs.cuts.push_alone.Goals as goal

-- the mode has a passage
pub bounds-modes-mode : goal.bounds-modes-mode
bounds-modes-mode c =
    let q = c.requires.planned in
    let known = alone_passage c.args.program.now.modes c.args.program.now q.task q.isas q.planning c.args.mode c.args.at c.requires.some (sym c.requires.mode) in
    slice_get_within c.args.program.now.modes.passages.now c.args.mode (Some known.0) known.1

pub bounds : goal.bounds
bounds c =
    let q = c.requires.planned in
    let known = alone_passage c.args.program.now.modes c.args.program.now q.task q.isas q.planning c.args.mode c.args.at c.requires.some (sym c.requires.mode) in
    slice_get_within c.args.program.now.modes.passages.now c.args.mode (Some known.0) known.1

pub offset_bounds-modes-mode : goal.offset_bounds-modes-mode
offset_bounds-modes-mode c =
    let q = c.requires.planned in
    mode_offset q.task.netlist q.planning.checked.netlist c.args.mode
    (alone_mode c.args.program.now.modes c.args.program.now q.task q.isas q.planning c.args.mode c.args.at c.requires.some (sym c.requires.mode))

pub push_packed-requires-clause-special : goal.push_packed-requires-clause-special
push_packed-requires-clause-special c =
    let q = c.requires.planned in
    subst HasModeBit (sym q.planning.modes.special) (mode_bit q.task.netlist q.planning.checked.netlist)

pub push_packed-requires-clause-mode : goal.push_packed-requires-clause-mode
push_packed-requires-clause-mode c =
    let q = c.requires.planned in
    alone_within c.args.program.now.modes c.args.program.now q.task q.isas q.planning c.args.mode c.args.at c.requires.some (sym c.requires.mode)

pub push_packed-requires-clause-words : goal.push_packed-requires-clause-words
push_packed-requires-clause-words c =
    let steps : c.in_ok-steps.steps ≡ place_steps c.args.program.now.modes c.args.program.now c.args.at 1 = c.in_ok-steps.ensures in
    let q = c.requires.planned in
    subst (λ (list : List Step). HaveWordsIn c.args.program.now.modes c.args.mode list) (sym c.as_slice.ensures)
    (subst (λ (list : List Step). HaveWordsIn c.args.program.now.modes c.args.mode list) (sym steps)
    (alone_steps c.args.program.now.modes c.args.program.now q.task q.isas q.planning c.args.mode c.args.at c.requires.some (sym c.requires.mode)))

-- so it stands there
pub unreachable-requires : goal.unreachable-requires
unreachable-requires c =
    let q = c.requires.planned in
    let known = alone_passage c.args.program.now.modes c.args.program.now q.task q.isas q.planning c.args.mode c.args.at c.requires.some (sym c.requires.mode) in
    c.in_default.not-Some known.0
    (same_Some _ (Some known.0) (sym (slice_get-get_or c.args.program.now.modes.passages.now c.args.mode None (slice_get_within c.args.program.now.modes.passages.now c.args.mode (Some known.0) known.1)) ∙ known.1))

pub returns-clause-run : goal.returns-clause-run
returns-clause-run c =
    let steps : c.in_ok-steps.steps ≡ place_steps c.args.program.now.modes c.args.program.now c.args.at 1 = c.in_ok-steps.ensures in
    let q = c.requires.planned in
    let known = alone_passage c.args.program.now.modes c.args.program.now q.task q.isas q.planning c.args.mode c.args.at c.requires.some (sym c.requires.mode) in
    on_ok_weaker c.push_mode_word-2.result
    (λ a. alone_run c.args.program.now.modes c.args.program.now c.args.mode c.args.at c.args.block.now c.push_mode_word.new.block c.push_packed.new.block c.push_mode_word-2.new.block c.in-Some.passage c.requires.some (sym c.requires.mode)
    (slice_get-get_or c.args.program.now.modes.passages.now c.args.mode _ (slice_get_within c.args.program.now.modes.passages.now c.args.mode (Some known.0) known.1) ∙ ap (λ (o : Option Passage). Some o) c.in-Some.is)
    c.in_ok-push_mode_word.ensures
    (subst (λ (list : List Step). AddsPacked c.args.program.now.modes c.args.mode list c.push_mode_word.new.block c.push_packed.new.block) steps
    (subst (λ (list : List Step). AddsPacked c.args.program.now.modes c.args.mode list c.push_mode_word.new.block c.push_packed.new.block) c.as_slice.ensures c.in_ok-push_packed.ensures.packed))
    a)
    c.push_mode_word-2.ensures
