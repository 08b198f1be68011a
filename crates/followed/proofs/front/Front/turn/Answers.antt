use Rattle.std.proofs.Common.{refl}
use Rattle.followed.proofs.front.Front.turn.Goals as goal

pub returns : goal.returns
returns c = record {
  here = refl;
  hint = c.in-Some.hint.now;
  at = c.in-Some.ensures;
  when_one = c.in-Some-targets_of.to.when_one;
  when_zero = c.in-Some-targets_of.to.when_zero;
  targets = c.in-Some-targets_of.ensures;
  known_one = c.in_ok-when_one.ensures.known;
  known_zero = c.in_ok-when_zero.ensures.known;
  one = c.in_ok-when_one.ensures.is;
  zer = c.in_ok-when_zero.ensures.is;
}
