use Rattle.std.proofs.Common.{List, slice_get, ◌∙◌}
use Rattle.sym_run.specs.declared.known.Known.{Known}
use Rattle.sym_run.specs.declared.known.Put.{Put}
use Rattle.sym_run.specs.Moves.{IsNextPut, transfer_of}
use Rattle.sym_run.proofs.Walking.{answer_of, if_answer}
use Rattle.sym_run.proofs.Writing.{leads_later, leads_put}
use Rattle.sym_run.proofs.eval.Step.next_fileless.Goals as goal

pub returns-in_default-clause-is : goal.returns-in_default-clause-is
returns-in_default-clause-is c =
    let facts = c.args.self.now.facts.now in
    let known = c.args.self.now.known.now in
    let i = c.args.self.now.word in
    let pool = c.args.self.now.pool.now in
    let moves = c.args.moves.now in
    if_answer c.next_plain.result _ _ (λ (next : Known) h file. leads_later facts known i pool moves c.args.memory file c.args.table.now c.next_put.new.table c.next_plain.new.table c.next_put.ensures.grows next (h file)) c.next_plain.ensures.is

pub returns-clause-is : goal.returns-clause-is
returns-clause-is c file =
    let t1 = c.next_put.new.table in
    let t2 = c.next_regs.new.table in
    let facts = c.args.self.now.facts.now in
    let known = c.args.self.now.known.now in
    let i = c.args.self.now.word in
    let pool = c.args.self.now.pool.now in
    let moves = c.args.moves.now in
    let is = answer_of (λ (puts : List Put). IsNextPut c.args.table.now t1 facts known i (transfer_of pool (slice_get moves c.args.memory)) puts) c.in_ok-puts.field-0 c.in-Some.puts c.in-Some.is c.in_ok-puts.ensures.is in
    leads_put facts known i pool moves c.args.memory file c.args.table.now t1 t2 c.next_put.ensures.grows c.next_regs.ensures.grows c.in_ok-regs.regs c.in_ok-cells.cells c.in_ok-inside.inside c.in-Some.puts c.new.result is c.in_ok-regs.ensures.is
    (c.in_ok-cells.ensures ∙ c.as_slice.ensures) (c.in_ok-inside.ensures ∙ c.as_slice-2.ensures) c.new.ensures
