use Rattle.tree_laws.proofs.Redirects.{Progress}
use Rattle.tree_laws.proofs.classes.listing.redirect.Given as goal

abbrev pub invariant-loop-i : goal.invariant-loop-i
invariant-loop-i l = Progress l.from l.to l.i l.fn.classes.items l.classes.items
