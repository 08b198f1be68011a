use Rattle.std.proofs.Common.{arith, ◌≡◌, ◌∙◌, length, replicate, false}
use Rattle.std.proofs.lemmas.Grind.{common_steps}
use Rattle.branch_fix.proofs.Entries.{marked, marked_all}
use Rattle.branch_fix.proofs.begun.entered.Goals as goal

pub loop-item-preserved : goal.loop-item-preserved
loop-item-preserved c = grind (arith, common_steps)

pub loop-place-preserved : goal.loop-place-preserved
loop-place-preserved c = grind (arith, common_steps)

pub returns : goal.returns
returns c = (let all : c.loop-place.entered.items ≡ marked c.args.flow.now (replicate (length c.args.flow.now) false) = grind (arith, common_steps) in all ∙ marked_all c.args.flow.now)
