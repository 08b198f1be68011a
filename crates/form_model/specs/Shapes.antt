-- Field shapes: the parts of an expression that the instruction word gives as it stands, or with a
-- constant added. A *field shape* is the instruction word, a slice of it, a zext or sext of one of
-- these, or a constant (*plain*); from the second edition on also the sum of a constant and a
-- plain one, either way round, and no sum in a sum (`sum_of`, `is_shape_in`). It *shows* a value
-- where some word gives it this value; its *reach* is the least number that it doesn't show, 0 for
-- most sums. Both are computed, with the bits of the word that give the value, and `law_of_shapes`
-- says that this is exact for words of any width.
use Rattle.std.specs.Prelude.{ℕ, zero, suc, Bool, true, false, ◌+◌, ◌-◌, ◌*◌, ◌^◌, ◌%◌, ◌==◌, ◌<◌, ◌≤◌, ◌≡◌, ◌↔◌, ◌&&◌, nat_lt, nat_le, is_some, if◌then◌else◌, Option, Some, None}
use Rattle.rec_bits.specs.declared.operator.Op2.{Op2}
use Rattle.rec_bits.specs.declared.operator.Op2.TheVariants.{Add}
use Rattle.rec_bits.specs.Operators.{sext_of}
use Rattle.net_model.specs.Exprs.{ExprModel, word, const, bin, slice, zext, sext, expr_width}
use Rattle.net_model.specs.Symbolic.{no_state}
use Rattle.net_model.specs.Meaning.{mean}

-- the instruction word, or a slice of it
abbrev pub is_field : ExprModel → Bool
is_field (word w) = true
is_field (slice (word w) hi lo) = true
is_field _ = false

-- one of these, one of these extended, or a constant
abbrev pub is_plain : ExprModel → Bool
is_plain (const w v) = true
is_plain (zext a w) = is_field a
is_plain (sext a w) = is_field a
is_plain t = is_field t

-- a constant, with its width, and what it is added to
pub record Sum : Type 0 where
  pub width : ℕ
  pub added : ℕ
  pub to : ExprModel

-- a constant has at most 64 bits and is of its width, as all constants of a netlist are, and so is
-- what it is added to
abbrev pub sum_with : ℕ → ℕ → ExprModel → Option Sum
sum_with w c t =
    if nat_le w 64 && (nat_lt c (2 ^ w) && (expr_width t == w))
    then Some (record { width = w; added = c; to = t })
    else None

-- two expressions, one of which is a constant
abbrev pub summands : ExprModel → ExprModel → Option Sum
summands (const w c) b = sum_with w c b
summands a (const w c) = sum_with w c a
summands a b = None

-- the sum that an operator with its operands is, either way round
abbrev pub sum_of : Op2 → ExprModel → ExprModel → Option Sum
sum_of Add a b = summands a b
sum_of o a b = None

abbrev pub is_plain_sum : Option Sum → Bool
is_plain_sum None = false
is_plain_sum (Some s) = is_plain s.to

-- one of these, or the sum of a constant and one of these; there is no sum in a sum
abbrev pub is_shape : ExprModel → Bool
is_shape (bin o a b) = is_plain_sum (sum_of o a b)
is_shape t = is_plain t

-- what is a field shape in texts of an edition: a sum is one from edition 2 on
abbrev pub is_shape_in : ℕ → ExprModel → Bool
is_shape_in edition t = if nat_lt edition 2 then is_plain t else is_shape t

-- a field of words of so many bits
abbrev pub FieldFits : ℕ → ExprModel → Type 0
FieldFits bits (word w) = w ≡ bits
FieldFits bits (slice (word w) hi lo) = (w ≡ bits) × (lo ≤ hi) × (hi < w)
FieldFits bits _ = Unit {0}

-- a shape of words of so many bits: what is extended gets longer
abbrev pub PlainFits : ℕ → ExprModel → Type 0
PlainFits bits (zext a w) = FieldFits bits a × (expr_width a < w)
PlainFits bits (sext a w) = FieldFits bits a × (1 ≤ expr_width a) × (expr_width a < w)
PlainFits bits t = FieldFits bits t

-- a part of a sum: a constant is of its width
abbrev pub SummandFits : ℕ → ExprModel → Type 0
SummandFits bits (const w v) = v < 2 ^ w
SummandFits bits t = PlainFits bits t

-- the parts of a sum are of one width
abbrev pub ShapeFits : ℕ → ExprModel → Type 0
ShapeFits bits (bin o a b) = (expr_width a ≡ expr_width b) × SummandFits bits a × SummandFits bits b
ShapeFits bits t = PlainFits bits t

-- some word of so many bits gives the shape this value
pub record Shows (bits : ℕ) (shape : ExprModel) (value : ℕ) : Type 0 where
  pub word : ℕ
  pub fits : word < 2 ^ bits
  pub is : mean shape no_state word ≡ value

-- the shape shows each number below this one, which is the least address that it doesn't show
pub record IsReach (bits : ℕ) (shape : ExprModel) (reach : ℕ) : Type 0 where
  pub below : (v : ℕ) → v < reach → Shows bits shape v
  pub unshown : Shows bits shape reach → ⊥

-- ---- the same, computed

-- the number, where a test holds
abbrev pub then_some : Bool → ℕ → Option ℕ
then_some b n = if b then Some n else None

-- the bits of the word, in their places, that give a field this value
abbrev pub field_setting : ExprModel → ℕ → Option ℕ
field_setting (word w) v = then_some (nat_lt v (2 ^ w)) v
field_setting (slice (word w) hi lo) v = then_some (nat_lt v (2 ^ (hi + 1 - lo))) (v * 2 ^ lo)
field_setting _ v = None

-- those that give an extended field or a constant this value
abbrev pub plain_setting : ExprModel → ℕ → Option ℕ
plain_setting (const w c) v = then_some (v == c) 0
plain_setting (zext a w) v = field_setting a v
plain_setting (sext a w) v =
    if sext_of (v % 2 ^ expr_width a) (expr_width a) w == v
    then field_setting a (v % 2 ^ expr_width a)
    else None
plain_setting t v = field_setting t v

-- the number to which another one is added to give this value, in so many bits
abbrev pub less_by : ℕ → ℕ → ℕ → ℕ
less_by width v added = (v + 2 ^ width - added) % 2 ^ width

-- the bits that give a sum this value
abbrev pub sum_setting : Option Sum → ℕ → Option ℕ
sum_setting None v = None
sum_setting (Some s) v =
    if nat_lt v (2 ^ s.width) then plain_setting s.to (less_by s.width v s.added) else None

-- the bits of the word, in their places, that give the shape this value, where it shows it
abbrev pub shape_setting : ExprModel → ℕ → Option ℕ
shape_setting (bin o a b) v = sum_setting (sum_of o a b) v
shape_setting t v = plain_setting t v

-- whether there are such bits
abbrev pub shows : ExprModel → ℕ → Bool
shows t v = is_some (shape_setting t v)

-- the least number that a shape doesn't show
abbrev pub plain_reach : ExprModel → ℕ
plain_reach (const w v) = if v == 0 then 1 else 0
plain_reach (sext a w) = 2 ^ (expr_width a - 1)
plain_reach (zext a w) = 2 ^ expr_width a
plain_reach t = 2 ^ expr_width t

-- where a constant is added, what is shown moves up by it, and what gets past the width begins at 0
abbrev pub moved_reach : ℕ → ExprModel → ℕ
moved_reach c (const w v) = if (c + v) % 2 ^ w == 0 then 1 else 0
moved_reach c (sext a w) = if nat_le c (2 ^ (expr_width a - 1)) then 2 ^ (expr_width a - 1) + c else 2 ^ (expr_width a - 1) + c - 2 ^ w
moved_reach c (zext a w) = if c == 0 then 2 ^ expr_width a else 2 ^ expr_width a + c - 2 ^ w
moved_reach c t = 2 ^ expr_width t

abbrev pub sum_reach : Option Sum → ℕ
sum_reach None = 0
sum_reach (Some s) = moved_reach s.added s.to

abbrev pub reach_of : ExprModel → ℕ
reach_of (bin o a b) = sum_reach (sum_of o a b)
reach_of t = plain_reach t

-- the shape shows each number below this one
abbrev pub shows_below : ExprModel → ℕ → Bool
shows_below t zero = true
shows_below t (suc n) = shows t n && shows_below t n

-- what is computed for a field shape of words of so many bits is what it shows
pub record IsExactShape (bits : ℕ) (shape : ExprModel) : Type 0 where
  pub shown : (v : ℕ) → (shows shape v ≡ true) ↔ Shows bits shape v
  pub setting : (v b : ℕ) → shape_setting shape v ≡ Some b → (b < 2 ^ bits) × (mean shape no_state b ≡ v)
  pub below : (n : ℕ) → (shows_below shape n ≡ true) ↔ ((v : ℕ) → v < n → Shows bits shape v)
  pub reach : IsReach bits shape (reach_of shape)
