-- The definitions at small values: where each holds, and where it doesn't.
use Rattle.std.proofs.Common.{◌≡◌, ◌^◌, ◌-◌, [], ◌∷◌, None, Some, refl, lit≤, arith}
use Rattle.rec_io.specs.Causes.{Rose}
use Rattle.rec_io.specs.Files.{Files, file_of}
use Rattle.rec_io.specs.Written.{Takes}

rose : Rose 3 4
rose = lit≤ tt

still : ¬ Rose 3 3
still h = omega arith

at_its_end : Rose (2 ^ 64 - 1) (2 ^ 64 - 1)
at_its_end = lit≤ tt

abbrev twice : Files
twice = ((7 ∷ [], 1 ∷ []) ∷ (7 ∷ [], 2 ∷ []) ∷ [])

first_pair : file_of twice (7 ∷ []) ≡ Some (1 ∷ [])
first_pair = refl

missing : file_of twice (8 ∷ []) ≡ None
missing = refl

taken : Takes (Some (1 ∷ [])) (Some (1 ∷ 2 ∷ [])) (2 ∷ [])
taken = refl

untold : Takes None None (2 ∷ [])
untold = refl

left_out : ¬ Takes (Some (1 ∷ [])) (Some (1 ∷ [])) (2 ∷ [])
left_out h = cc
