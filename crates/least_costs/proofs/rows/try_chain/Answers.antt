use Rattle.std.proofs.Common.{◌≡◌, ◌+◌, ◌<◌, ◌^◌, ◌∙◌, Some, None, length, get_or, arith, rules, subst}
use Rattle.least_costs.specs.Slots.{place}
use Rattle.least_costs.specs.Rows.{entry}
use Rattle.least_costs.proofs.SlotLemmas.{place_within}
use Rattle.least_costs.proofs.TableLemmas.{same_default}
use Rattle.least_costs.proofs.RowLemmas.{chained}
use Rattle.least_costs.proofs.rows.try_chain.Goals as goal

pub overflow_add-n : goal.overflow_add-n
overflow_add-n c =
    let n : length c.args.row.now.items ≡ 18 = search rules in
    let p = place_within c.args.m.start c.requires.start in
    let at : entry c.args.row.now.items c.args.m.start ≡ Some c.in-Some.c =
    same_default c.args.row.now.items (place c.args.m.start) c.index-2.result.now None (omega (arith, n, p)) (subst (λ j. c.index-2.result.now ≡ get_or c.args.row.now.items j c.index-2.result.now) c.index.ensures.is c.index-2.ensures) ∙ c.in-Some.is in
    let room = c.requires.room c.args.m.start c.in-Some.c at in
    omega (arith, room)

pub returns-clause-chained : goal.returns-clause-chained
returns-clause-chained c =
    let n : length c.args.row.now.items ≡ 18 = search rules in
    let p = place_within c.args.m.start c.requires.start in
    let at : entry c.args.row.now.items c.args.m.start ≡ Some c.in-Some.c =
    same_default c.args.row.now.items (place c.args.m.start) c.index-2.result.now None (omega (arith, n, p)) (subst (λ j. c.index-2.result.now ≡ get_or c.args.row.now.items j c.index-2.result.now) c.index.ensures.is c.index-2.ensures) ∙ c.in-Some.is in
    let room = c.requires.room c.args.m.start c.in-Some.c at in
    let small : c.in-Some.c + 1 < 2 ^ 64 = omega (arith, room) in
    chained c.args.m c.enter.result c.in-Some.c c.args.row.now.items c.enter.new.row.items at small c.enter.ensures.value c.enter.ensures.changed c.enter.ensures.kept
