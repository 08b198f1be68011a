-- Parts of the definition of what a field shape shows.
use Rattle.std.specs.Prelude.{◌<◌, ◌≤◌, ◌≡◌, ℕ, Bool, true, false, ◌^◌, ◌%◌, ◌==◌, Option, None, if◌then◌else◌}
use Rattle.rec_bits.specs.Operators.{sext_of}
use Rattle.net_model.specs.Exprs.{ExprModel, word, model_of_expr, expr_width}
use Rattle.form_model.specs.Shapes.{Sum as TermSum, field_setting, shows}
use Rattle.tree_grammar.specs.declared.shapes.Sum.{Sum}

-- the instruction word
abbrev pub is_word : ExprModel → Bool
is_word (word w) = true
is_word _ = false

-- the setting of a sext of a field
abbrev pub extension_setting : ExprModel → ℕ → ℕ → Option ℕ
extension_setting a w v =
    if sext_of (v % 2 ^ expr_width a) (expr_width a) w == v
    then field_setting a (v % 2 ^ expr_width a)
    else None

-- with a number the shape shows all that are less
abbrev pub IsSteady : ExprModel → Type 0
IsSteady t = (v u : ℕ) → u ≤ v → shows t v ≡ true → shows t u ≡ true

-- the sum that the code's is
abbrev pub sum_at : Sum → TermSum
sum_at s = record { width = s.width; added = s.added; to = model_of_expr s.to.now }

-- its constant has at most 64 bits and is of its width
abbrev pub IsSmall : Sum → Type 0
IsSmall s = (s.width ≤ 64) × (s.added < 2 ^ s.width)
