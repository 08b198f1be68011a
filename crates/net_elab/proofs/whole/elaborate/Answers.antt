use Rattle.std.proofs.Common.{map, sym, ap, ◌∙◌, subst}
use Rattle.net_model.specs.Written.{model_of_unit}
use Rattle.net_model.specs.Elaborable.{IsElaborable}
use Rattle.net_elab.proofs.Formed.{answer_same, answer_formed}
use Rattle.net_elab.proofs.whole.elaborate.Goals as goal

pub emit_items-requires : goal.emit_items-requires
emit_items-requires c = subst IsElaborable (sym (ap (map model_of_unit) (c.in_ok-text.ensures ∙ c.new.ensures))) c.requires.keeps

pub returns-clause-exact : goal.returns-clause-exact
returns-clause-exact c =
    answer_same c.args.units.now.edition (map model_of_unit c.args.units.now.items) (map model_of_unit c.in_ok-text.text) (ap (map model_of_unit) (c.in_ok-text.ensures ∙ c.new.ensures)) _ c.emit_items.ensures

pub returns-clause-formed : goal.returns-clause-formed
returns-clause-formed c =
    answer_formed c.args.units.now.edition (map model_of_unit c.args.units.now.items) (map model_of_unit c.in_ok-text.text) c.requires.keeps c.requires.few (ap (map model_of_unit) (c.in_ok-text.ensures ∙ c.new.ensures)) _ c.emit_items.ensures
