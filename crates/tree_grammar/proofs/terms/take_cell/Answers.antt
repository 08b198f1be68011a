use Rattle.tree_grammar.proofs.NumberLemmas.{here_ok}
use Rattle.tree_grammar.proofs.terms.take_cell.Goals as goal

pub returns-clause-at : goal.returns-clause-at
returns-clause-at c = here_ok _ _ _ _ _ c.put_part.ensures.at
