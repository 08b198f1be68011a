use Rattle.std.proofs.Common.{◌≡◌, ◌≤◌, Some, ap, length, refl, slice_get, subst, sym}
use Rattle.std.proofs.lemmas.Option.{slice_get_past, slice_get_read}
use Rattle.tree_laws.specs.Meanings.{class_head}
use Rattle.tree_laws.proofs.classes.Classes.head.Goals as goal

pub returns-in-Some : goal.returns-in-Some
returns-in-Some c =
    let got = slice_get_read _ _ _ _ refl c.in-Some.ensures.lookup.3.0 c.in-Some.ensures.lookup.1 in
    sym (ap (class_head c.args.class) (subst (λ l. slice_get l c.args.class ≡ Some c.in-Some.found.now) c.deref.ensures.value got))

pub returns-in-None : goal.returns-in-None
returns-in-None c =
    let past = subst (λ l. length l ≤ c.args.class) c.deref.ensures.value c.in-None.ensures.lookup.3 in
    sym (ap (class_head c.args.class) (slice_get_past _ c.args.class past))
