use Rattle.std.proofs.Common.{◌≡◌, ◌<◌, ◌≤◌, Some, ap, arith, length, refl, slice_get, subst, sym}
use Rattle.std.proofs.lemmas.Option.{slice_get_read}
use Rattle.tree_laws.specs.Meanings.{class_width}
use Rattle.tree_laws.proofs.classes.Classes.width.Goals as goal

pub returns-in-Some : goal.returns-in-Some
returns-in-Some c =
    let got = slice_get_read _ _ _ _ refl c.in-Some.ensures.lookup.3.0 c.in-Some.ensures.lookup.1 in (
      subst (λ l. c.args.class < length l) c.deref.ensures.value c.in-Some.ensures.lookup.3.0,
      sym (ap class_width (subst (λ l. slice_get l c.args.class ≡ Some c.in-Some.found.now) c.deref.ensures.value got)),
    )

pub returns-in-None : goal.returns-in-None
returns-in-None c =
    let past = subst (λ l. length l ≤ c.args.class) c.deref.ensures.value c.in-None.ensures.lookup.3 in
    λ h. omega (arith, past, h)
