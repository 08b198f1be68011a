use Rattle.std.proofs.Common.{rules, arith, refl, ap, Ok}
use Rattle.std.proofs.lemmas.Grind.{common_steps}
use Rattle.rec_io.proofs.mem_sink.MemSinkSink.put.Goals as goal

-- the put that took some of the piece
pub returns : goal.returns
returns c = record {
  cause = search rules;
  calm = refl;
  failed = tt;
  worked = λ some. refl;
  empty = λ none. ap (λ n. Ok n) (omega arith);
  same = λ none. absurd (grind (arith, common_steps));
  count = (omega arith, λ some. grind (arith, common_steps));
  took = grind (arith, common_steps);
  nothing = tt;
  turn = search rules;
  due = grind (arith, common_steps);
  portion = omega arith;
  step = refl;
  room = refl;
  fails = refl;
}
