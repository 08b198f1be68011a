use Rattle.live_sets.proofs.Kept.{listed_of}
use Rattle.live_sets.proofs.laws.law_of_lists.Goals as goal

pub returns : goal.returns
returns c = λ netlist book pool table ready. listed_of netlist book pool table ready
