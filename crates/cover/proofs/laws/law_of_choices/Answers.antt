use Rattle.cover.proofs.OnceLemmas.{chosen_once, chosen_covers}
use Rattle.cover.proofs.laws.law_of_choices.Goals as goal

pub returns-clause-once : goal.returns-clause-once
returns-clause-once c = chosen_once

pub returns-clause-never_both : goal.returns-clause-never_both
returns-clause-never_both c = chosen_covers
