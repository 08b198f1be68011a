-- Equal spaces.
use Rattle.std.proofs.Common.{◌≡◌, true, true≢false, refl, sym}
use Rattle.net_model.specs.declared.hardware.Space.{Space}
use Rattle.net_model.specs.declared.hardware.Space.TheVariants.{Memory as InMemory, File as InFile}
use Rattle.form_model.specs.Effects.{same_space}

pub space_is : (s t : Space) → same_space s t ≡ true → s ≡ t
space_is InMemory InMemory h = refl
space_is InFile InFile h = refl
space_is s t h = absurd (true≢false (sym h))

pub space_self : (s : Space) → same_space s s ≡ true
space_self InMemory = refl
space_self InFile = refl
