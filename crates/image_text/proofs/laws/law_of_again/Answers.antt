use Rattle.std.proofs.Common.{refl}
use Rattle.image_text.proofs.laws.law_of_again.Goals as goal

pub returns : goal.returns
returns c = λ limits image f. record { text = refl; fits = f }
