use Rattle.std.proofs.Common.{inl, refl, arith}
use Rattle.std.proofs.lemmas.Grind.{common_steps}
use Rattle.record_core.specs.Words.{texts_of}
use Rattle.record_core.proofs.FetchLemmas.{stops_failed, stops_long}
use Rattle.record_core.proofs.fetch.fetch_one.Goals as goal

pub returns-in-Err-Failed-clause-stopped : goal.returns-in-Err-Failed-clause-stopped
returns-in-Err-Failed-clause-stopped g c =
    stops_failed (texts_of c.args.names.now) c.as_str-name.result.now _ _ c.args.index _ (grind (arith, common_steps)) (grind (arith, common_steps)) c.requires.earlier c.place_of.ensures (rw c.in-Err-Failed.field-0-is at c.in-Err-Failed.ensures.refused)

pub returns-in-Err-TooLong-clause-stopped : goal.returns-in-Err-TooLong-clause-stopped
returns-in-Err-TooLong-clause-stopped g c =
    stops_long (texts_of c.args.names.now) c.as_str-name.result.now _ _ c.args.index _ _ (grind (arith, common_steps)) (grind (arith, common_steps)) c.requires.earlier c.place_of-in-Err-TooLong.ensures (rw c.in-Err-TooLong.field-0-is at c.in-Err-TooLong.ensures.refused)

pub returns-in-Err-Memory-clause-stopped : goal.returns-in-Err-Memory-clause-stopped
returns-in-Err-Memory-clause-stopped g c = inl (refl, rw c.in-Err-Memory.field-0-is at c.in-Err-Memory.ensures.refused)
