use Rattle.std.proofs.Common.{◌≡◌, ◌<◌, ◌∙◌, ◌+◌, List, [], ◌∷◌, Bool, ap, arith, length, length-append, subst, sym}
use Rattle.net_model.specs.ModeRules.{modes_in}
use Rattle.net_model.proofs.ModeFaults.{some_modes}
use Rattle.code_gen.proofs.ByMode.{TellsUsable, alls_long, usable_more, usable_whole}
use Rattle.code_gen.proofs.modes.usable_modes.Goals as goal

pub loop-mode-preserved : goal.loop-mode-preserved
loop-mode-preserved c =
    let alls = alls_long c.args.netlist.now c.requires.0 (modes_in c.args.netlist.now) c.args.list.now c.in-Some.register c.in-Some.is c.requires.1 in
    let end = c.len-mode-end.ensures in
    let within : c.loop-mode.mode < modes_in c.args.netlist.now = omega (arith, alls, end, c.loop-mode-test.true) in
    let pushed = c.in_ok-push-2.ensures.items in
    let many = ap (λ (list : List Bool). length list) pushed in
    let sum = length-append c.loop-mode.usable.items (c.in_ok-is_usable.field-0 ∷ []) in
    record {
      long = omega (arith, many, sum, c.loop-mode.invariant.long);
      told =
          subst (λ (list : List Bool). TellsUsable c.args.netlist.now c.args.list.now list (c.loop-mode.mode + 1)) (sym pushed)
          (usable_more c.args.netlist.now c.args.list.now c.in-Some.register c.loop-mode.mode c.loop-mode.usable.items c.in_ok-is_usable.field-0 c.in-Some.is c.loop-mode.auto.mode c.loop-mode.invariant.long within c.loop-mode.invariant.told
          c.in_ok-is_usable.ensures);
    }

pub returns-clause-usable : goal.returns-clause-usable
returns-clause-usable c =
    let alls = alls_long c.args.netlist.now c.requires.0 (modes_in c.args.netlist.now) c.args.list.now c.in-Some.register c.in-Some.is c.requires.1 in
    let end = c.len-mode-end.ensures in
    let some = some_modes c.args.netlist.now in
    let all : c.loop-mode.mode ≡ modes_in c.args.netlist.now = omega (arith, alls, end, some, c.loop-mode-test.false, c.loop-mode.auto.mode-end) in
    usable_whole c.args.netlist.now c.args.list.now c.loop-mode.usable.items (c.loop-mode.invariant.long ∙ all) (subst (TellsUsable c.args.netlist.now c.args.list.now c.loop-mode.usable.items) all c.loop-mode.invariant.told)
