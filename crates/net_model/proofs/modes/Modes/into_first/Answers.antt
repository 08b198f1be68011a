use Rattle.std.proofs.Common.{◌≡◌, ◌<◌, Some, ap, arith, length, refl, slice_get}
use Rattle.std.proofs.lemmas.Option.{slice_get_read}
use Rattle.net_model.proofs.ModeFaults.{base_is, kept_at, some_bases}
use Rattle.net_model.proofs.modes.Modes.into_first.Goals as goal
use Rattle.net_model.proofs.modes.Modes.into_first.Goals.{After-drop-bases}

pub swap_remove-requires : goal.swap_remove-requires
swap_remove-requires c =
    let some : 0 < length c.self.inside.bases = some_bases _ _ c.self.invariant in
    omega (arith, some, ap length c.into_vec-bases.ensures, c.into_vec-bases.result.ok.0)

-- what is given is what stood first
at_first : (c : After-drop-bases) → slice_get c.self.inside.bases 0 ≡ Some c.swap_remove.result
at_first c =
    slice_get_read c.self.inside.bases (length c.self.inside.bases) 0 c.swap_remove.result refl (some_bases _ _ c.self.invariant)
    (rw c.into_vec-bases.ensures at c.swap_remove.ensures.value)

pub returns-clause-base : goal.returns-clause-base
returns-clause-base c = rw (← c.self.view_is) (base_is _ _ c.self.invariant 0 c.swap_remove.result (at_first c))

pub returns-clause-kept : goal.returns-clause-kept
returns-clause-kept c = kept_at c.self.inside.bases c.self.invariant.rules 0 c.swap_remove.result (at_first c)
