use Rattle.std.proofs.Common.{◌≡◌, ◌∙◌, ◌+◌, ◌++◌, ◌∷◌, [], ◌≤◌, List, ap, arith, length, subst, sym, take}
use Rattle.std.proofs.lemmas.List.{take_all, take_more}
use Rattle.std.proofs.lemmas.Slice.Zip.{all_zipped_more}
use Rattle.std.proofs.lemmas.Result.{err_from_is_err_and}
use Rattle.net_model.specs.CheckedRules.{Ordered}
use Rattle.net_model.specs.ModeRules.{AreModesOfNetlist}
use Rattle.isa_extract.specs.Inner.Modes.{AreControlledIn, IsControlledIn}
use Rattle.isa_extract.specs.declared.netlists.Controlled.{Controlled}
use Rattle.isa_extract.proofs.OverModes.{clash_in_modes}
use Rattle.isa_extract.proofs.netlists.all_controlled.Goals as goal

pub loop-base-init : goal.loop-base-init
loop-base-init c = rw c.new-list.ensures.items tt

pub loop-base-preserved : goal.loop-base-preserved
loop-base-preserved c =
    let items = c.bases-base-items.result.now in
    let index = c.loop-base.base-index in
    let more : take (index + 1) items ≡ take index items ++ c.base-item.result ∷ [] =
    take_more items index c.base-item.result (omega (arith, c.loop-base-test.true)) ∙ ap (λ (b : Ordered). take index items ++ b ∷ []) (sym c.base-item.is) in
    rw (c.in_ok-push.ensures.items, more)
    (all_zipped_more (λ (base : Ordered) (one : Controlled). IsControlledIn base.netlist one) (take index items) c.loop-base.list.items c.base-item.result
    c.in_ok-with_controls.field-0 c.loop-base.invariant c.in_ok-with_controls.ensures.found)

pub returns-clause-found : goal.returns-clause-found
returns-clause-found c =
    let items = c.bases-base-items.result.now in
    let past : length items ≤ c.loop-base.base-index = omega (arith, c.loop-base-test.false) in
    subst (λ (bases : List Ordered). AreControlledIn bases c.loop-base.list.items)
    (take_all c.loop-base.base-index items past ∙ c.bases-base-items.ensures.value) c.loop-base.invariant

pub returns-in_err-with_controls-clause-refused : goal.returns-in_err-with_controls-clause-refused
returns-in_err-with_controls-clause-refused c =
    let netlist = c.args.modes.now.netlist in
    let items = c.bases-base-items.result.now in
    let are : AreModesOfNetlist netlist items = subst (AreModesOfNetlist netlist) (sym c.bases-base-items.ensures.value) c.bases-base-items.ensures.kept in
    let p = err_from_is_err_and c.from_residual.result c.from_residual.ensures.1 in
    rw (p.1, p.2)
    (clash_in_modes netlist items are c.loop-base.base-index c.base-item.result c.loop-base.list.items (omega (arith, c.loop-base-test.true)) c.base-item.is
    c.loop-base.invariant _ c.in_err-with_controls.ensures.refused)
