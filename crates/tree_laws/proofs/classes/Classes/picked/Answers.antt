use Rattle.std.proofs.Common.{Some, ap, refl, sym, ◌∙◌}
use Rattle.std.proofs.lemmas.Option.{slice_get_read}
use Rattle.tree_laws.specs.Classes.{are_joined, expr_in}
use Rattle.tree_laws.proofs.Found.{found_below, is_root, other_unread}
use Rattle.tree_laws.proofs.Standing.{one_stands}
use Rattle.tree_laws.proofs.classes.Classes.picked.Goals as goal

pub returns-in-Some-find-clause-stands : goal.returns-in-Some-find-clause-stands
returns-in-Some-find-clause-stands c =
    one_stands c.args.self.now (expr_in c.args.self.now c.in-Some.node.now) c.in-Some-find.found c.args.class (c.is_joined.ensures.one c.if-is_joined.true) c.in-Some-find.ensures.stands

pub returns-in-Some-find-clause-root : goal.returns-in-Some-find-clause-root
returns-in-Some-find-clause-root c =
    let self = c.args.self.now in
    is_root self c.args.nodes.now c.args.class c.args.at c.in-Some.node.now (slice_get_read _ _ _ _ refl c.in-Some.ensures.lookup.3.0 c.in-Some.ensures.lookup.1) c.in-Some-find.ensures.fits
    (ap (λ o. are_joined self o (Some c.args.class)) (sym c.in-Some-find.ensures.listed)
    ∙ sym (c.is_joined.ensures.heads (found_below self c.in-Some.node.now c.in-Some-find.found (sym c.in-Some-find.ensures.listed))) ∙ c.if-is_joined.true)

pub returns-in_default-find-clause-none : goal.returns-in_default-find-clause-none
returns-in_default-find-clause-none c =
    let self = c.args.self.now in (
      refl,
      other_unread self c.args.nodes.now c.args.class c.args.at c.in-Some.node.now (slice_get_read _ _ _ _ refl c.in-Some.ensures.lookup.3.0 c.in-Some.ensures.lookup.1)
          (ap (λ o. are_joined self o (Some c.args.class)) (sym c.in-Some-find.ensures.listed)
          ∙ sym (c.is_joined.ensures.heads (found_below self c.in-Some.node.now c.in-Some-find.found (sym c.in-Some-find.ensures.listed))) ∙ c.if-is_joined.false),
    )
