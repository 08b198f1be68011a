use Rattle.std.proofs.Common.{Some, ap, sym, ◌∙◌}
use Rattle.form_model.specs.Trees.{model_of_tree}
use Rattle.tree_laws.specs.Classes.{are_joined, class_of}
use Rattle.tree_laws.proofs.Found.{found_there}
use Rattle.tree_laws.proofs.Standing.{one_stands}
use Rattle.tree_laws.proofs.TreeLaws.{stand_equal}
use Rattle.tree_laws.proofs.classes.Classes.are_equal.Goals as goal

pub returns-in-Some-Some-clause-equal : goal.returns-in-Some-Some-clause-equal
returns-in-Some-Some-clause-equal c = λ e.
    stand_equal c.args.self.now c.args.a.now c.args.b.now c.in-Some-Some.y c.args.self.now.meanings
    (one_stands c.args.self.now (model_of_tree c.args.a.now) c.in-Some-Some.x c.in-Some-Some.y (c.is_joined.ensures.one e) c.in-Some-Some.ensures.stands) c.in-Some-Some.ensures'.stands

pub returns-in-Some-Some-clause-joined : goal.returns-in-Some-Some-clause-joined
returns-in-Some-Some-clause-joined c =
    let self = c.args.self.now in
    c.is_joined.ensures.heads (found_there self c.args.a.now c.in-Some-Some.x (sym c.in-Some-Some.ensures.class))
    ∙ ap (λ o. are_joined self o (Some c.in-Some-Some.y)) c.in-Some-Some.ensures.class ∙ ap (are_joined self (class_of self c.args.a.now)) c.in-Some-Some.ensures'.class
