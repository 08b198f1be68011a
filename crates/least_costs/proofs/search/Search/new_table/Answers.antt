use Rattle.std.proofs.Common.{◌≡◌, ◌∙◌, length, subst, rules}
use Rattle.std.proofs.lemmas.Bool.{OnTrue_at}
use Rattle.least_costs.specs.Subgoals.{AreFew}
use Rattle.least_costs.specs.Tables.{IsKept, HasMatches}
use Rattle.least_costs.proofs.TableLemmas.{empty_kept}
use Rattle.least_costs.proofs.search.Search.new_table.Goals as goal

pub returns : goal.returns
returns c = record {
  few = (let n : c.len-count.result ≡ length c.in_ok-firsts.firsts.items = search rules in
      subst AreFew (n ∙ c.in_ok-firsts.ensures.len) (OnTrue_at c.if-not-may_be_kept.false c.may_be_kept.ensures.few));
  firsts = c.in_ok-firsts.ensures;
  matches = empty_kept (HasMatches c.args.self.now) c.in_ok-empty_lists.field-0.items c.in_ok-empty_lists.ensures;
  rows = empty_kept (IsKept c.args.self.now) c.in_ok-empty_lists-2.field-0.items c.in_ok-empty_lists-2.ensures;
}
