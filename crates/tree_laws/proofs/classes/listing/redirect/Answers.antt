use Rattle.std.proofs.Common.{◌≡◌, ◌+◌, ◌<◌, length, slice_get, Some, sym, subst, arith, ◌∙◌, eq-eqb, ap}
use Rattle.std.proofs.lemmas.Bool.{ne_eqb}
use Rattle.std.proofs.lemmas.Option.{slice_get-get_or}
use Rattle.tree_laws.proofs.Redirects.{Progress, none_done, all_done, kept, moved}
use Rattle.tree_laws.proofs.classes.listing.redirect.Goals as goal
use Rattle.tree_laws.proofs.classes.listing.redirect.Goals.{then-class-from, else-class-from}

pub loop-i-init : goal.loop-i-init
loop-i-init c = none_done _ _ _

pub returns : goal.returns
returns c = all_done _ _ c.loop-i.i _ _ (omega (arith, c.loop-i-test.false, c.len-i-end.ensures)) c.loop-i.invariant

pub loop-i-preserved : goal.loop-i-preserved
loop-i-preserved c =
    let p = c.loop-i.invariant in
    let xs = c.loop-i.classes.items in
    let k = c.index-class.result.now in
    let within : c.loop-i.i < length xs = omega (arith, c.loop-i-test.true, c.len-i-end.ensures, p.count) in
    let here : slice_get xs c.loop-i.i ≡ Some k = slice_get-get_or xs c.loop-i.i k within ∙ ap Some (sym c.index-class.ensures) in
    elim c.if-class-from.branch [
      | then-class-from w ↦ subst (λ v. Progress c.args.from c.args.to (c.loop-i.i + 1) c.args.classes.now.items v.items) (sym w.classes-is)
          (moved c.args.from c.args.to c.loop-i.i c.args.classes.now.items xs p k here (eq-eqb k.head c.args.from w.if-class-from.true))
      | else-class-from w ↦ subst (λ v. Progress c.args.from c.args.to (c.loop-i.i + 1) c.args.classes.now.items v.items) (sym w.classes-is)
          (kept c.args.from c.args.to c.loop-i.i c.args.classes.now.items xs p k here (ne_eqb k.head c.args.from w.if-class-from.false))
    ]
