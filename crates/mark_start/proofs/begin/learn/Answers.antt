use Rattle.std.proofs.Common.{◌∙◌, ap, subst}
use Rattle.net_model.specs.declared.hardware.Space.TheVariants.{Memory as InMemory}
use Rattle.net_model.specs.Exprs.{ExprModel, cell, read}
use Rattle.mark_start.specs.Runs.{IsToldReg}
use Rattle.mark_start.proofs.Places.{cell_place, file_place, reg_place}
use Rattle.mark_start.proofs.begin.learn.Goals as goal

pub returns-in-Reg-clause-told : goal.returns-in-Reg-clause-told
returns-in-Reg-clause-told c =
    reg_place c.args.pool.now c.args.place c.in-Reg.register c.in-Reg._width c.args.class c.args.known.now c.tell_reg.new.known c.in-Reg.ensures.expr
    (subst (λ n. IsToldReg n c.args.class c.args.known.now c.tell_reg.new.known) c.from.ensures c.tell_reg.ensures.told)

pub returns-in-Const-clause-told : goal.returns-in-Const-clause-told
returns-in-Const-clause-told c =
    cell_place c.args.pool.now c.args.place c.in-Const.value c.in-Const._bits c.in-Read._width c.args.class c.args.known.now c.tell_cell.new.known
    (c.in-Read.ensures.expr ∙ ap (λ (x : ExprModel). read InMemory x c.in-Read._width) c.in-Const.ensures.expr) c.tell_cell.ensures.told

pub returns-in-Const-node-clause-told : goal.returns-in-Const-node-clause-told
returns-in-Const-node-clause-told c =
    file_place c.args.pool.now c.args.place c.in-Const-node.value c.in-Const-node._bits c.in-Cell._width c.args.class c.args.known.now c.tell_file.new.known
    (c.in-Cell.ensures.expr ∙ ap (λ (x : ExprModel). cell x c.in-Cell._width) c.in-Const-node.ensures.expr) c.tell_file.ensures.told
