use Rattle.std.proofs.Common.{refl}
use Rattle.std.proofs.lemmas.Option.{slice_get_read}
use Rattle.least_costs.specs.Tables.{IsKept}
use Rattle.least_costs.proofs.TableLemmas.{kept_push}
use Rattle.least_costs.proofs.search.Search.keep.Goals as goal

pub returns-in_ok-push : goal.returns-in_ok-push
returns-in_ok-push c = record {
  few = c.requires.right.few;
  firsts = c.requires.right.firsts;
  matches = c.requires.right.matches;
  rows = kept_push (IsKept c.args.self.now) c.args.table.now.rows.items c.args.number c.in-Some.rows.now c.push.new.self c.args.row c.requires.right.rows
      (slice_get_read _ _ _ _ refl c.in-Some.ensures.item.3.0 c.in-Some.ensures.item.1) c.in_ok-push.ensures.items c.requires.row;
}
