use Rattle.std.proofs.Common.{◌≡◌, ◌<◌, ℕ, List, length, rules, sym, subst}
use Rattle.job_gen.specs.NetText.{net_text}
use Rattle.job_gen.proofs.Lengths.{net_short}
use Rattle.job_gen.proofs.net_text.netlist.Goals as goal

pub returns-clause-short : goal.returns-clause-short
unfolding net_text
returns-clause-short c =
    let is : c.put_memory.new.out.items ≡ net_text c.args.number = search rules in
    subst (λ (text : List ℕ). length text < 4294967296) (sym is) (net_short c.args.number)
