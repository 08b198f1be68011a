use Rattle.std.proofs.Common.{refl}
use Rattle.tree_sharing.proofs.SharingLemmas.{rooted}
use Rattle.tree_sharing.proofs.sharing.first_with.Goals as goal

pub returns-clause-first : goal.returns-clause-first
returns-clause-first c = rooted c.args.sharing.now _ c.args.at c.in_ok-first.first c.args.root c.in_ok-first.ensures refl
