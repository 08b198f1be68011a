use Rattle.std.proofs.Common.{subst, sym}
use Rattle.tree_grammar.specs.Leaves.{AreAt}
use Rattle.tree_grammar.proofs.NumberLemmas.{are_push}
use Rattle.tree_grammar.proofs.terms.put_part.Goals as goal

pub returns-clause-at : goal.returns-clause-at
returns-clause-at c = λ nodes old here. subst (λ l. AreAt nodes l) (sym c.in_ok-push.ensures.items) (are_push nodes _ _ old here)
