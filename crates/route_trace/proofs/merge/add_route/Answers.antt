use Rattle.std.proofs.lemmas.Result.{IfOk-from_err}
use Rattle.std.proofs.lemmas.Option.{slice_get_within}
use Rattle.transfer_set.proofs.Collecting.{set_at}
use Rattle.route_trace.proofs.Merging.{found_index, not_found, merged_routes, merged_exprs, merged_held, pushed_routes, pushed_held, exprs_push}
use Rattle.bit_bdd.proofs.CallerLemmas.{extends_refl}
use Rattle.route_trace.proofs.merge.add_route.Goals as goal

pub or-requires-clause-a : goal.or-requires-clause-a
or-requires-clause-a c =
    let f = found_index c.args.expr c.as_slice.result.now c.args.out.now c.in-Some.place (record { expr = 0; set = 0 }) c.as_slice.ensures c.in-Some.ensures in
    rw c.as_slice-in-Some.ensures (set_at c.args.book.now c.args.out.now c.in-Some.place _ f.0 c.requires.routes.sets).within

pub set-requires : goal.set-requires
set-requires c =
    let f = found_index c.args.expr c.as_slice.result.now c.args.out.now c.in-Some.place (record { expr = 0; set = 0 }) c.as_slice.ensures c.in-Some.ensures in
    slice_get_within c.args.out.now c.in-Some.place _ f.0

pub returns-in_ok-both-in-Some-clause-routes : goal.returns-in_ok-both-in-Some-clause-routes
returns-in_ok-both-in-Some-clause-routes c =
    let f = found_index c.args.expr c.as_slice.result.now c.args.out.now c.in-Some.place (record { expr = 0; set = 0 }) c.as_slice.ensures c.in-Some.ensures in
    rw c.set.ensures
    (merged_routes c.args.book.now c.or.new.self c.in_ok-both-in-Some.ensures.grows c.args.out.now c.requires.routes c.args.expr c.args.set c.requires.set c.in_ok-both-in-Some.both c.in-Some.place (_, f.0, f.1)
    c.in_ok-both-in-Some.ensures.within (rw c.as_slice-in-Some.ensures at c.in_ok-both-in-Some.ensures.words))

pub returns-in_ok-both-in-Some-clause-exprs : goal.returns-in_ok-both-in-Some-clause-exprs
returns-in_ok-both-in-Some-clause-exprs c =
    let f = found_index c.args.expr c.as_slice.result.now c.args.out.now c.in-Some.place (record { expr = 0; set = 0 }) c.as_slice.ensures c.in-Some.ensures in
    rw c.set.ensures
    (merged_exprs c.args.book.now c.or.new.self c.in_ok-both-in-Some.ensures.grows c.args.out.now c.requires.routes c.args.expr c.args.set c.requires.set c.in_ok-both-in-Some.both c.in-Some.place (_, f.0, f.1)
    c.in_ok-both-in-Some.ensures.within (rw c.as_slice-in-Some.ensures at c.in_ok-both-in-Some.ensures.words))

pub returns-in_ok-both-in-Some-clause-by_word : goal.returns-in_ok-both-in-Some-clause-by_word
returns-in_ok-both-in-Some-clause-by_word c word fits =
    let f = found_index c.args.expr c.as_slice.result.now c.args.out.now c.in-Some.place (record { expr = 0; set = 0 }) c.as_slice.ensures c.in-Some.ensures in
    rw c.set.ensures
    (merged_held c.args.book.now c.or.new.self c.in_ok-both-in-Some.ensures.grows c.args.out.now c.requires.routes c.args.expr c.args.set c.requires.set c.in_ok-both-in-Some.both c.in-Some.place (_, f.0, f.1)
    c.in_ok-both-in-Some.ensures.within (rw c.as_slice-in-Some.ensures at c.in_ok-both-in-Some.ensures.words) word (c.requires.apart word fits))

pub returns-in_ok-push-in-None-clause-routes : goal.returns-in_ok-push-in-None-clause-routes
returns-in_ok-push-in-None-clause-routes c =
    let f = not_found c.args.expr c.as_slice.result.now c.args.out.now c.as_slice.ensures c.in-None.ensures in
    rw c.in_ok-push-in-None.ensures.pushed (pushed_routes c.args.book.now c.args.book.now (extends_refl c.args.book.now) c.args.out.now c.requires.routes c.args.expr c.args.set c.requires.set f)

pub returns-in_ok-push-in-None-clause-exprs : goal.returns-in_ok-push-in-None-clause-exprs
returns-in_ok-push-in-None-clause-exprs c size less h =
    rw c.in_ok-push-in-None.ensures.pushed (exprs_push size c.args.out.now (record { expr = c.args.expr; set = c.args.set }) less h)

pub returns-in_ok-push-in-None-clause-by_word : goal.returns-in_ok-push-in-None-clause-by_word
returns-in_ok-push-in-None-clause-by_word c word fits =
    rw c.in_ok-push-in-None.ensures.pushed
    (pushed_held c.args.book.now c.args.book.now (extends_refl c.args.book.now) c.args.out.now c.requires.routes c.args.expr c.args.set c.requires.set word (c.requires.apart word fits))

pub returns-in_err-both-in-Some-clause-routes : goal.returns-in_err-both-in-Some-clause-routes
returns-in_err-both-in-Some-clause-routes c = IfOk-from_err c.from_residual.result _ c.from_residual.ensures.0

pub returns-in_err-both-in-Some-clause-exprs : goal.returns-in_err-both-in-Some-clause-exprs
returns-in_err-both-in-Some-clause-exprs c = IfOk-from_err c.from_residual.result _ c.from_residual.ensures.0

pub returns-in_err-both-in-Some-clause-by_word : goal.returns-in_err-both-in-Some-clause-by_word
returns-in_err-both-in-Some-clause-by_word c = IfOk-from_err c.from_residual.result _ c.from_residual.ensures.0

pub returns-in_err-push-in-None-clause-routes : goal.returns-in_err-push-in-None-clause-routes
returns-in_err-push-in-None-clause-routes c = IfOk-from_err c.from_residual-in_err-push-in-None.result _ c.from_residual-in_err-push-in-None.ensures.0

pub returns-in_err-push-in-None-clause-exprs : goal.returns-in_err-push-in-None-clause-exprs
returns-in_err-push-in-None-clause-exprs c = IfOk-from_err c.from_residual-in_err-push-in-None.result _ c.from_residual-in_err-push-in-None.ensures.0

pub returns-in_err-push-in-None-clause-by_word : goal.returns-in_err-push-in-None-clause-by_word
returns-in_err-push-in-None-clause-by_word c = IfOk-from_err c.from_residual-in_err-push-in-None.result _ c.from_residual-in_err-push-in-None.ensures.0
