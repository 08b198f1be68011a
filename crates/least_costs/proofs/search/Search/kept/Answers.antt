use Rattle.std.proofs.Common.{◌≡◌, Some, refl, subst, get_or}
use Rattle.std.specs.Prelude.{slice_get}
use Rattle.std.proofs.lemmas.Option.{slice_get_read}
use Rattle.least_costs.specs.Tables.{IsAmong}
use Rattle.least_costs.proofs.TableLemmas.{entry_right}
use Rattle.least_costs.proofs.search.Search.kept.Goals as goal

pub returns : goal.returns
returns c =
    let (among, whole, limits) = c.in_ok-row.ensures in
    let got = slice_get_read _ _ _ _ refl c.in_ok-rows.ensures.lookup.3.0 c.in_ok-rows.ensures.lookup.1 in
    let there : slice_get c.args.table.now.rows.items c.args.subtree.at ≡ Some c.in_ok-rows.rows.now = subst (λ l. slice_get l c.args.subtree.at ≡ Some c.in_ok-rows.rows.now) c.deref.ensures.value got in
    let here : IsAmong c.in_ok-rows.rows.now.items c.in_ok-row.row.now = subst (λ l. IsAmong l c.in_ok-row.row.now) c.deref-2.ensures.value among in
    entry_right c.args.self.now c.args.subtree.at c.in_ok-row.row.now c.args.subtree.whole c.args.limits c.args.slot c.index-cost.result.now (c.requires.right.rows c.args.subtree.at c.in_ok-rows.rows.now c.in_ok-row.row.now there here) whole limits c.requires.slot (subst (λ j. c.index-cost.result.now ≡ get_or c.in_ok-row.row.now.costs.items j c.index-cost.result.now) c.index.ensures.is c.index-cost.ensures)
