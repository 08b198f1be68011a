use Rattle.std.proofs.Common.{refl}
use Rattle.std.proofs.lemmas.Option.{slice_get_read}
use Rattle.least_costs.specs.Tables.{HasMatches}
use Rattle.least_costs.proofs.TableLemmas.{kept_push}
use Rattle.least_costs.proofs.search.Search.put_matches.Goals as goal

pub returns-in_ok-push : goal.returns-in_ok-push
returns-in_ok-push c = record {
  few = c.requires.right.few;
  firsts = c.requires.right.firsts;
  matches = kept_push (HasMatches c.args.self.now) c.args.table.now.matches.items c.args.number c.in-Some.list.now c.push.new.self c.args.matches c.requires.right.matches
      (slice_get_read _ _ _ _ refl c.in-Some.ensures.item.3.0 c.in-Some.ensures.item.1) c.in_ok-push.ensures.items c.requires.matches;
  rows = c.requires.right.rows;
}
