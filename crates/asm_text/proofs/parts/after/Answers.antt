use Rattle.std.specs.Borrow.{Bor}
use Rattle.std.specs.Prelude.{List, ℕ}
use Rattle.asm_text.proofs.Bytes.{strip_only, strip_some}
use Rattle.asm_text.proofs.parts.after.Goals as goal

pub returns-clause-some : goal.returns-clause-some
returns-clause-some c = strip_some (λ (x : Bor (List ℕ)). x.now) c.args.text.now c.args.front.now c.strip_prefix.result c.strip_prefix.ensures.cases

pub returns-clause-only : goal.returns-clause-only
returns-clause-only c = λ rest e. strip_only (λ (x : Bor (List ℕ)). x.now) c.args.text.now c.args.front.now c.strip_prefix.result c.strip_prefix.ensures.cases rest e
