use Rattle.std.proofs.Common.{sym, ◌∙◌}
use Rattle.std.specs.List.{slice_index_or}
use Rattle.std.proofs.lemmas.Option.{slice_get-get_or}
use Rattle.transfer_set.proofs.Collecting.{set_at}
use Rattle.route_trace.proofs.Lookups.{still_none}
use Rattle.route_trace.proofs.lookup.place_from.Goals as goal

pub holds-requires : goal.holds-requires
holds-requires c = (set_at c.args.book.now c.args.routes.now c.loop-place.place _ (slice_get-get_or c.args.routes.now c.loop-place.place (record { expr = 0; set = 0 }) c.loop-place-test.true) c.requires.sets).within

pub returns-then-holds-clause-some : goal.returns-then-holds-clause-some
returns-then-holds-clause-some c = record {
  route = slice_index_or c.args.routes.now c.loop-place.place (record { expr = 0; set = 0 });
  at = slice_get-get_or c.args.routes.now c.loop-place.place (record { expr = 0; set = 0 }) c.loop-place-test.true;
  holds = sym c.holds.ensures ∙ c.if-holds.true;
}

pub loop-place-preserved : goal.loop-place-preserved
loop-place-preserved c zero =
    still_none c.args.book.now c.args.routes.now c.loop-place.place _ (slice_get-get_or c.args.routes.now c.loop-place.place (record { expr = 0; set = 0 }) c.loop-place-test.true)
    c.args.word (sym c.holds.ensures ∙ c.if-holds.false) (c.loop-place.invariant zero)
