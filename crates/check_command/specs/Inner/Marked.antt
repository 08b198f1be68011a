-- Labels of tests.
use Rattle.std.specs.Prelude.{Bool, true, false, Option, Some, None}
use Rattle.src_model.specs.declared.checkpoint.Checkpoint.{Checkpoint}
use Rattle.src_model.specs.declared.checkpoint.Checkpoint.TheVariants.{At, End}

-- whether a label is that of a test
abbrev pub is_test : Option Checkpoint → Bool
is_test None = false
is_test (Some (At tree)) = true
is_test (Some End) = false
