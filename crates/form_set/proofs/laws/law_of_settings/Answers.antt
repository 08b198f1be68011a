use Rattle.form_set.proofs.ShapeBits.{shape_only, shape_set}
use Rattle.form_set.proofs.laws.law_of_settings.Goals as goal

pub returns : goal.returns
returns c = λ bits shape is fits value setting e. (shape_only bits shape is fits value setting e, shape_set bits shape is fits value setting e)
