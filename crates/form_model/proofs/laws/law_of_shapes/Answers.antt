use Rattle.form_model.proofs.ShapeLaws.{exact_shape}
use Rattle.form_model.proofs.laws.law_of_shapes.Goals as goal

pub returns : goal.returns
returns c = exact_shape
