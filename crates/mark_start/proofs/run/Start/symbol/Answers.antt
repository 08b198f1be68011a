use Rattle.std.proofs.Common.{◌≡◌, ◌+◌, ◌*◌, ◌∙◌, Some, ap, arith, subst, sym}
use Rattle.std.specs.Prelude.{option_copied}
use Rattle.net_model.specs.Nets.{storage_bits}
use Rattle.class_values.specs.Symbols.{IsSymbol}
use Rattle.sym_run.proofs.Walking.{answer_of}
use Rattle.mark_start.specs.Runs.{ArraysIn, room_of}
use Rattle.mark_start.proofs.Learning.{learnt_none, machine_learnt}
use Rattle.mark_start.proofs.Stores.{symbol_holds}
use Rattle.mark_start.proofs.run.Start.symbol.Goals as goal

pub returns-in-Some-found : goal.returns-in-Some-found
returns-in-Some-found c =
    let start = c.args.self.now in
    let t = c.symbol.new.table in
    let r = c.args.register in
    let storage = c.in-Some.storage.now in
    let width = c.in-Some-register_bits.width in
    let address = c.in-Some-pair_at.address in
    let class = c.in-Some-found.class in
    let is = answer_of (IsSymbol t start.word address width) c.in_ok-found.found class c.in-Some-found.is c.in_ok-found.ensures.is in
    let none : 0 + r ≡ r = omega arith in
    let e = c.in-Some-pair_at.ensures.is ∙ ap (λ n. n + 2 * (0 + r)) (c.room.ensures.is ∙ ap (room_of start.temps) c.as_slice-2.ensures)
    ∙ ap (λ n. room_of start.temps start.from.now.spots + 2 * n) none in
    let there = sym c.storage_at.ensures ∙ ap option_copied c.in-Some.is in
    machine_learnt start (λ s cells. Unit {0}) c.args.table.now t c.in_ok-found.ensures.grows c.args.run.now c.tell_reg.new.known
    (λ k. subst (ArraysIn start.from.now.spots) (sym c.tell_reg.ensures.cells) k)
    (λ s cells memory m h k n. c.tell_reg.ensures.told t memory s n
    (symbol_holds start memory r (storage_bits (Some storage)) width _ (m.regs r storage there) t address class c.in-Some-register_bits.ensures e is))

pub returns-in_default-found : goal.returns-in_default-found
returns-in_default-found c = learnt_none c.args.self.now _ c.args.table.now c.symbol.new.table c.args.run.now c.in_ok-found.ensures.grows
