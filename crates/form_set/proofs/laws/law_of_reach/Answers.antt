use Rattle.std.proofs.Common.{◌≡◌, true}
use Rattle.net_model.specs.Nets.{word_width}
use Rattle.form_model.specs.Shapes.{is_shape}
use Rattle.form_model.proofs.ShapeLaws.{reach_is}
use Rattle.form_set.proofs.Editions.{shape_from}
use Rattle.form_set.proofs.ShapeBits.{shape_fits}
use Rattle.form_set.proofs.laws.law_of_reach.Goals as goal

pub returns : goal.returns
returns c = λ netlist pattern h exprs fits.
    (let s : is_shape h.target ≡ true = shape_from netlist.edition h.target h.shape in
    reach_is (word_width netlist) h.target s (shape_fits netlist h.target s exprs fits))
