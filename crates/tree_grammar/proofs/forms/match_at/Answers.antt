use Rattle.std.proofs.Common.{subst, sym}
use Rattle.tree_grammar.specs.Leaves.{AreAt}
use Rattle.tree_grammar.proofs.forms.match_at.Goals as goal

pub returns-in-Some-clause-at : goal.returns-in-Some-clause-at
returns-in-Some-clause-at c = λ nodes s. c.in_ok-setting.ensures.at nodes s (subst (λ l. AreAt nodes l) (sym c.new-parts.ensures.items) tt)
