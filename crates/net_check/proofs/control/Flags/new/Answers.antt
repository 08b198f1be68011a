use Rattle.std.proofs.Common.{ℕ, Bool, ap}
use Rattle.net_check.proofs.control.Flags.new.Goals as goal

pub returns : goal.returns
returns c = record {
  statics = λ n. ap (λ (f : ℕ → Bool). f n) c.in_ok-statics.ensures.flags;
  controls = λ n. ap (λ (f : ℕ → Bool). f n) c.in_ok-controls.ensures.flags;
}
