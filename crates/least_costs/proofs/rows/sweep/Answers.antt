use Rattle.std.proofs.Common.{◌≡◌, ◌-◌, ◌^◌, subst, Some, length, rules, get_or}
use Rattle.std.specs.Prelude.{slice_get}
use Rattle.std.proofs.lemmas.Option.{slice_get-get_or}
use Rattle.least_costs.specs.declared.slots.Slot.TheVariants.{Register}
use Rattle.least_costs.specs.declared.rows.ChainRule.{ChainRule}
use Rattle.least_costs.specs.Rows.{Chained}
use Rattle.least_costs.proofs.RowLemmas.{swept_moved, swept_kept, chained_room}
use Rattle.least_costs.proofs.rows.sweep.Goals as goal
use Rattle.least_costs.proofs.rows.sweep.Goals.{then-try_chain, else-try_chain}

pub try_chain-requires-clause-start : goal.try_chain-requires-clause-start
try_chain-requires-clause-start c = (c.requires.within c.loop-m.m-index _ (slice_get-get_or c.args.chains.now c.loop-m.m-index _ c.loop-m-test.true)).0

pub try_chain-requires-clause-goal : goal.try_chain-requires-clause-goal
try_chain-requires-clause-goal c = (c.requires.within c.loop-m.m-index _ (slice_get-get_or c.args.chains.now c.loop-m.m-index _ c.loop-m-test.true)).1

pub loop-m-preserved : goal.loop-m-preserved
loop-m-preserved c =
    let d : ChainRule = record { start = Register 0; goal = Register 0 } in
    let m : ChainRule = get_or c.args.chains.now c.loop-m.m-index d in
    let at : slice_get c.args.chains.now c.loop-m.m-index ≡ Some m = slice_get-get_or c.args.chains.now c.loop-m.m-index d c.loop-m-test.true in
    record {
      len = c.try_chain.ensures.len;
      swept = elim c.if-try_chain.branch [
        | then-try_chain w ↦ rw w.changed-is (swept_moved _ _ _ _ _ _ m c.loop-m.invariant.swept at (let n : length c.loop-m.row.items ≡ 18 = search rules in n) (c.requires.within _ _ at).1
            (subst (λ b. Chained m b c.loop-m.row.items c.try_chain.new.row.items) w.if-try_chain.true c.try_chain.ensures.chained))
        | else-try_chain w ↦ rw w.changed-is (swept_kept _ _ _ _ _ _ m c.loop-m.invariant.swept at
            (subst (λ b. Chained m b c.loop-m.row.items c.try_chain.new.row.items) w.if-try_chain.false c.try_chain.ensures.chained))
      ];
      room = chained_room m c.try_chain.result (2 ^ 64 - 2) c.loop-m.row.items c.try_chain.new.row.items (let n : length c.loop-m.row.items ≡ 18 = search rules in n) (c.requires.within _ _ at).1 c.try_chain.ensures.chained c.loop-m.invariant.room;
    }
