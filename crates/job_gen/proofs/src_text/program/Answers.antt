use Rattle.std.proofs.Common.{◌≡◌, ◌<◌, ℕ, List, length, rules, sym, subst}
use Rattle.job_gen.specs.SrcText.{src_text}
use Rattle.job_gen.proofs.Lengths.{src_short}
use Rattle.job_gen.proofs.src_text.program.Goals as goal

pub returns-clause-short : goal.returns-clause-short
unfolding src_text
returns-clause-short c =
    let is : c.extend_from_slice.new.self.items ≡ src_text c.args.number = search rules in
    subst (λ (text : List ℕ). length text < 4294967296) (sym is) (src_short c.args.number c.requires)
