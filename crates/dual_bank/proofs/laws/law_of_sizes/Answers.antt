use Rattle.dual_bank.proofs.Sizes.{banked_small}
use Rattle.dual_bank.proofs.laws.law_of_sizes.Goals as goal

pub returns : goal.returns
returns c = λ bits temps most k jobs some room small. banked_small k bits some room temps most jobs small
