use Rattle.std.proofs.Common.{length}
use Rattle.std.specs.List.{slice_index_or}
use Rattle.std.proofs.lemmas.Option.{slice_get-get_or}
use Rattle.transfer_set.proofs.Collecting.{expr_at}
use Rattle.route_trace.proofs.Judging.{capped_below}
use Rattle.route_trace.proofs.verdict.judge.Goals as goal

pub size-requires : goal.size-requires
size-requires c =
    expr_at (length c.args.pool.now) c.args.routes.now c.loop-route.route-index _ (slice_get-get_or c.args.routes.now c.loop-route.route-index (record { expr = 0; set = 0 }) c.loop-route-test.true) c.requires

pub returns-then-size-gt-MOST_NODES-clause-judged : goal.returns-then-size-gt-MOST_NODES-clause-judged
returns-then-size-gt-MOST_NODES-clause-judged c = (
  c.if-routes-gt-MOST_VALUES.false,
  record {
    place = c.loop-route.route-index;
    route = slice_index_or c.args.routes.now c.loop-route.route-index (record { expr = 0; set = 0 });
    at = slice_get-get_or c.args.routes.now c.loop-route.route-index (record { expr = 0; set = 0 }) c.loop-route-test.true;
    large = capped_below _ 255 _ c.size.ensures c.if-size-gt-MOST_NODES.true;
  },
)
