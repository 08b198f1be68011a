use Rattle.std.proofs.Common.{◌∙◌, length, refl, sym, arith}
use Rattle.std.proofs.lemmas.Option.{slice_get_read, slice_get_within}
use Rattle.check_command.proofs.ViewLemmas.{last_apart, last_more}
use Rattle.check_command.proofs.views.is_last_at.Goals as goal

pub returns-then-other-view : goal.returns-then-other-view
returns-then-other-view c =
    let views = c.args.views.now in
    let later = c.loop-later.later in
    let next = c.index-views-later.result in
    let first = c.loop-later.auto.later in
    let here = slice_get_read views (length views) later next refl c.loop-later-test.true c.index-views-later.is in (
      λ t. last_apart views c.requires.ascend c.args.at c.args.view.now c.requires.there later next (omega (arith, first)) here c.if-other-view.true c.loop-later.invariant,
      λ h. refl,
    )

pub returns-then-are_of_one : goal.returns-then-are_of_one
returns-then-are_of_one c =
    let views = c.args.views.now in
    let later = c.loop-later.later in
    let next = c.index-views-later.result in
    let first = c.loop-later.auto.later in
    let here = slice_get_read views (length views) later next refl c.loop-later-test.true c.index-views-later.is in
    (λ t. absurd (cc t), λ h. sym (h later next (omega (arith, first)) here) ∙ (sym c.are_of_one.ensures ∙ c.if-are_of_one.true))

pub loop-later-preserved : goal.loop-later-preserved
loop-later-preserved c =
    let views = c.args.views.now in
    let later = c.loop-later.later in
    let next = c.index-views-later.result in
    let here = slice_get_read views (length views) later next refl c.loop-later-test.true c.index-views-later.is in
    last_more views c.args.at c.args.view.now later next here (sym c.are_of_one.ensures ∙ c.if-are_of_one.false) c.loop-later.invariant

pub returns : goal.returns
returns c =
    let ends = c.loop-later-test.false in (
      λ t k other less e.
          (let within = slice_get_within c.args.views.now k other e in
          c.loop-later.invariant k (omega (arith, within, ends)) less other e),
      λ h. refl,
    )
