use Rattle.job_gen.specs.NetText.{register_line}
use Rattle.job_gen.proofs.net_text.register_line.Goals as goal

pub returns : goal.returns
unfolding register_line
returns c = rw (← c.in_ok-rows.ensures, ← c.in_ok-numbers.ensures) c.in_ok-format.ensures.ok
