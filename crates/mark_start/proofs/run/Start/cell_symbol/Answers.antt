use Rattle.std.proofs.Common.{◌+◌, ◌*◌, ◌∙◌, ap, length, refl, subst, sym}
use Rattle.class_values.specs.Symbols.{IsSymbol}
use Rattle.sym_run.proofs.Walking.{answer_of}
use Rattle.mark_start.specs.Runs.{ArraysIn, room_of}
use Rattle.mark_start.proofs.Learning.{learnt_none, machine_learnt}
use Rattle.mark_start.proofs.Stores.{symbol_holds}
use Rattle.mark_start.proofs.run.Start.cell_symbol.Goals as goal

pub returns-in-Some-found : goal.returns-in-Some-found
returns-in-Some-found c =
    let start = c.args.self.now in
    let t = c.symbol.new.table in
    let k = c.args.cell in
    let width = start.file_word in
    let address = c.in-Some.address in
    let class = c.in-Some-found.class in
    let is = answer_of (IsSymbol t start.word address width) c.in_ok-found.found class c.in-Some-found.is c.in_ok-found.ensures.is in
    let first = length start.storages.now in
    let e = c.in-Some.ensures.is ∙ ap (λ n. n + 2 * (first + k)) (c.room.ensures.is ∙ ap (room_of start.temps) c.as_slice-2.ensures) in
    machine_learnt start (λ s cells. Unit {0}) c.args.table.now t c.in_ok-found.ensures.grows c.args.run.now c.tell_file.new.known
    (λ a. subst (ArraysIn start.from.now.spots) (sym c.tell_file.ensures.cells) a)
    (λ s cells memory m h a n. c.tell_file.ensures.told t memory s n
    (symbol_holds start memory (first + k) width width _ (m.file k) t address class refl e is))

pub returns-in_default-found : goal.returns-in_default-found
returns-in_default-found c = learnt_none c.args.self.now _ c.args.table.now c.symbol.new.table c.args.run.now c.in_ok-found.ensures.grows
