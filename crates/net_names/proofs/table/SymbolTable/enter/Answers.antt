use Rattle.std.proofs.Common.{cond, Some, is_some, sym, ap, ◌∙◌}
use Rattle.std.specs.Map.{lookup}
use Rattle.rec_bits.specs.Faults.{same_name}
use Rattle.net_names.specs.Places.{name_pairs}
use Rattle.net_names.proofs.Tables.{pairs_lookup, enters_new, none_there}
use Rattle.net_names.proofs.table.SymbolTable.enter.Goals as goal

pub returns-in_ok-insert-clause-entered : goal.returns-in_ok-insert-clause-entered
returns-in_ok-insert-clause-entered c =
    let old = c.self.inside.first.entries in
    let new = c.insert.new.self.entries in
    let own = c.args.name.now in
    let absent = none_there _ _ c.is_none.ensures c.if-is_none.true in
    let updates = c.in_ok-insert.ensures.updates.0 in
    enters_new c.args.self.now (name_pairs new) own c.args.place (sym (ap is_some c.place.ensures) ∙ absent)
    (λ name.
    sym (pairs_lookup name new) ∙ updates (record c.as_slice.result { now = name })
    ∙ ap (λ k. cond (same_name k name) (Some c.args.place) (lookup (λ (b : _). same_name name b.now) old)) c.as_slice.ensures
    ∙ ap (λ found. cond (same_name own name) (Some c.args.place) found) (pairs_lookup name old ∙ ap (lookup (same_name name)) c.self.view_is))
