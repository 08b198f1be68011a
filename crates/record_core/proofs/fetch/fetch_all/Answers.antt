use Rattle.std.proofs.Common.{inl, inr, refl, arith}
use Rattle.std.proofs.lemmas.Result.{err_from_is_err_and}
use Rattle.record_core.proofs.FetchLemmas.{AreFiles-next, FetchStops-earlier, none_later}
use Rattle.record_core.specs.Words.{texts_of}
use Rattle.record_core.proofs.fetch.fetch_all.Goals as goal

pub loop-index-preserved : goal.loop-index-preserved
loop-index-preserved g c = record {
  later = omega arith;
  calm = inr (none_later _ _ _ c.loop-index.invariant.calm c.in_ok-bytes.ensures.calm);
  unasked = λ none. absurd (omega arith);
  files = cc;
  got = rw c.in_ok-push.ensures.items (AreFiles-next _ _ _ _ _ (omega arith) c.loop-index.invariant.got (rw c.loop-index.invariant.files at c.in_ok-bytes.ensures.ok));
  passed = λ h. c.in_ok-bytes.ensures.passed;
}

pub returns-in_err-bytes-clause-stopped : goal.returns-in_err-bytes-clause-stopped
returns-in_err-bytes-clause-stopped g c =
    let p = err_from_is_err_and c.from_residual.result c.from_residual.ensures.1 in
    rw (p.1, p.2) (FetchStops-earlier (texts_of c.args.names.now) (g.F.Shelf.state c.args.shelf.now) _ _ _ c.loop-index.invariant.files c.loop-index.invariant.calm c.in_err-bytes.ensures.stopped)

pub returns-in_err-push-clause-stopped : goal.returns-in_err-push-clause-stopped
returns-in_err-push-clause-stopped g c =
    let p = err_from_is_err_and c.from_residual-in_err-push.result c.from_residual-in_err-push.ensures.1 in
    rw (p.1, p.2) (inl (refl, none_later _ _ _ c.loop-index.invariant.calm c.in_ok-bytes.ensures.calm))
