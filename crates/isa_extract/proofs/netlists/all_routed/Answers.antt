use Rattle.std.proofs.Common.{◌≡◌, ◌∙◌, ◌+◌, ◌++◌, ◌∷◌, [], ◌<◌, ◌≤◌, ℕ, List, ap, arith, get_or, length, subst, sym, take}
use Rattle.std.specs.List.{AllZip}
use Rattle.std.proofs.lemmas.Iterator.Adapters.{YieldsList-from_vec}
use Rattle.std.proofs.lemmas.Iterator.Consumers.{YieldsList-end, YieldsList-turn}
use Rattle.std.proofs.lemmas.List.{length_push, take_all, take_more}
use Rattle.std.proofs.lemmas.Result.{err_from_is_err_and}
use Rattle.std.proofs.lemmas.Slice.Zip.{AllZip-long, all_zipped_more}
use Rattle.net_model.specs.CheckedRules.{Ordered}
use Rattle.net_model.specs.ModeRules.{AreModesOfNetlist}
use Rattle.isa_extract.specs.Extraction.{AreExtractedFrom, IsExtractedFrom}
use Rattle.isa_extract.specs.Inner.Modes.{AreControlledIn, IsControlledIn}
use Rattle.isa_extract.specs.declared.netlists.Controlled.{Controlled}
use Rattle.isa_extract.specs.declared.netlists.Isa.{Isa}
use Rattle.isa_extract.proofs.OverModes.{limit_in_modes, many, routed_more, zip_read}
use Rattle.isa_extract.proofs.netlists.all_routed.Goals as goal
use Rattle.isa_extract.proofs.netlists.all_routed.Goals.{In-Some, In-None}

abbrev Has : Ordered → Controlled → Type 0
Has base one = IsControlledIn base.netlist one

abbrev Gives : Ordered → Isa → Type 0
Gives base isa = IsExtractedFrom base.netlist isa

-- in a turn the control bits are those at the mode's place
turn : (c : In-Some) → (c.loop-one.mode < length c.args.controlled.items) × (c.in-Some.one ≡ get_or c.args.controlled.items c.loop-one.mode c.in-Some.one)
turn c =
    let gives = c.into_iter-one-iterator.ensures.into_iter_gives in
    let t = YieldsList-turn (YieldsList-from_vec {s = c.into_iter-one-iterator.result} c.args.controlled.items gives.0 (gives.1 ∙ c.args.controlled.ok.0)) c.loop-one.yielded c.loop-one.one-iterator c.loop-one.yielded_by
    c.next.result c.next.new.self c.in-Some.one c.in-Some.is c.next.ensures.steps in
    let place = c.loop-one.invariant.place in
    (omega (arith, t.0, place), t.1 ∙ ap (λ (k : ℕ). get_or c.args.controlled.items k c.in-Some.one) (sym place))

-- of so many modes there are netlists
within : (c : In-Some) → c.loop-one.mode < length c.bases-bases.result.now
within c =
    let long = AllZip-long Has c.args.modes.now.bases c.args.controlled.items c.requires in
    let same = ap length c.bases-bases.ensures.value in
    let here = (turn c).0 in
    omega (arith, long, same, here)

-- the turns end behind the last mode
past : (c : In-None) → length c.bases-bases.result.now ≡ c.loop-one.mode
past c =
    let gives = c.into_iter-one-iterator.ensures.into_iter_gives in
    let t = YieldsList-end (YieldsList-from_vec {s = c.into_iter-one-iterator.result} c.args.controlled.items gives.0 (gives.1 ∙ c.args.controlled.ok.0)) c.loop-one.yielded c.loop-one.one-iterator c.loop-one.yielded_by
    c.next.result c.next.new.self c.in-None.is c.next.ensures.steps in
    let long = AllZip-long Has c.args.modes.now.bases c.args.controlled.items c.requires in
    let same = ap length c.bases-bases.ensures.value in
    let ends = t.1 in
    let place = c.loop-one.invariant.place in
    omega (arith, long, same, ends, place)

pub bounds-bases-mode : goal.bounds-bases-mode
bounds-bases-mode c = within (goal.at.bounds-bases-mode c).In-Some

pub routed-requires : goal.routed-requires
routed-requires c =
    let here = turn (goal.at.routed-requires c).In-Some in
    let are : AllZip Has c.bases-bases.result.now c.args.controlled.items =
    subst (λ (list : List Ordered). AllZip Has list c.args.controlled.items) (sym c.bases-bases.ensures.value) c.requires in
    zip_read Has c.bases-bases.result.now c.args.controlled.items c.loop-one.mode c.index-bases-mode.result c.in-Some.one are here.0 c.index-bases-mode.is here.1

pub returns-in_err-routed-clause-refused : goal.returns-in_err-routed-clause-refused
returns-in_err-routed-clause-refused c =
    let netlist = c.args.modes.now.netlist in
    let bases = c.bases-bases.result.now in
    let are : AreModesOfNetlist netlist bases = subst (AreModesOfNetlist netlist) (sym c.bases-bases.ensures.value) c.bases-bases.ensures.kept in
    let all : AreControlledIn bases c.args.controlled.items = subst (λ (list : List Ordered). AreControlledIn list c.args.controlled.items) (sym c.bases-bases.ensures.value) c.requires in
    let lt = within (goal.at.returns-in_err-routed-clause-refused c).In-Some in
    let p = err_from_is_err_and c.from_residual.result c.from_residual.ensures.1 in
    rw (p.1, p.2)
    (limit_in_modes netlist bases are c.loop-one.mode c.index-bases-mode.result c.args.controlled.items lt c.index-bases-mode.is all c.loop-one.invariant.kept _
    c.in_err-routed.ensures.refused)

pub loop-one-preserved : goal.loop-one-preserved
loop-one-preserved c =
    let netlist = c.args.modes.now.netlist in
    let bases = c.bases-bases.result.now in
    let mode = c.loop-one.mode in
    let base = c.index-bases-mode.result in
    let are : AreModesOfNetlist netlist bases = subst (AreModesOfNetlist netlist) (sym c.bases-bases.ensures.value) c.bases-bases.ensures.kept in
    let lt = within (goal.at.loop-one-preserved c).In-Some in
    let more : take (mode + 1) bases ≡ take mode bases ++ base ∷ [] =
    take_more bases mode base lt ∙ ap (λ (b : Ordered). take mode bases ++ b ∷ []) (sym c.index-bases-mode.is) in
    let pushed = length_push c.loop-one.yielded c.in-Some.one in
    let place = c.loop-one.invariant.place in
    record {
      place = omega (arith, pushed, place);
      extracted =
          rw (c.in_ok-push.ensures.pushed, more)
          (all_zipped_more Gives (take mode bases) c.loop-one.list base c.in_ok-routed.field-0 c.loop-one.invariant.extracted c.in_ok-routed.ensures.extracted);
      kept = routed_more netlist bases are mode base lt c.index-bases-mode.is c.loop-one.invariant.kept c.in_ok-routed.ensures.kept;
    }

pub returns-clause-extracted : goal.returns-clause-extracted
returns-clause-extracted c =
    let bases = c.bases-bases.result.now in
    let ends = past (goal.at.returns-clause-extracted c).In-None in
    let all : length bases ≤ c.loop-one.mode = omega (arith, ends) in
    subst (λ (list : List Ordered). AreExtractedFrom list c.loop-one.list)
    (take_all c.loop-one.mode bases all ∙ c.bases-bases.ensures.value) c.loop-one.invariant.extracted

pub returns-clause-kept : goal.returns-clause-kept
returns-clause-kept c =
    let ends = past (goal.at.returns-clause-kept c).In-None in
    let same = ap length c.bases-bases.ensures.value in
    let count = many c.args.modes.now.netlist c.args.modes.now.bases c.bases-bases.ensures.kept in
    λ v small. c.loop-one.invariant.kept v (omega (arith, ends, same, count, small))
