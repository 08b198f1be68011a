-- Classes that have the value of an operator over classes, whatever values the table's classes can
-- have.
use Rattle.std.specs.Prelude.{ℕ, ◌+◌, ◌%◌, ◌^◌, ◌<◌, ◌≡◌, List, slice_index}
use Rattle.rec_bits.specs.declared.operator.Op1.{Op1}
use Rattle.rec_bits.specs.declared.operator.Op2.{Op2}
use Rattle.rec_bits.specs.declared.operator.Op2.TheVariants.{Add, Sub, Mul, And, Or, Xor, Eq}
use Rattle.rec_bits.specs.Operators.{IsWidth, apply1_of, apply2_of, result_width}
use Rattle.tree_laws.specs.declared.classes.Classes.{Classes}
use Rattle.tree_laws.specs.Classes.{TableMeans, class_count, width_in}

-- operators whose operands may be exchanged
abbrev pub Commutes : Op2 → Type 0
Commutes Add = Unit {0}
Commutes Mul = Unit {0}
Commutes And = Unit {0}
Commutes Or = Unit {0}
Commutes Xor = Unit {0}
Commutes Eq = Unit {0}
Commutes _ = ⊥

-- operators whose value's low bits are their value at the operands' low bits
abbrev pub ActsOnLow : Op2 → Type 0
ActsOnLow Add = Unit {0}
ActsOnLow Sub = Unit {0}
ActsOnLow Mul = Unit {0}
ActsOnLow And = Unit {0}
ActsOnLow Or = Unit {0}
ActsOnLow Xor = Unit {0}
ActsOnLow _ = ⊥

-- the class c has the value of an operator over the classes a and b
pub record Makes (table : Classes) (op : Op2) (a b c : ℕ) : Type 0 where
  pub first : a < class_count table
  pub second : b < class_count table
  pub below : c < class_count table
  pub same : width_in table b ≡ width_in table a
  pub wide : width_in table c ≡ result_width op (width_in table a)
  pub value : (memory regs : List ℕ) → TableMeans table memory regs →
      slice_index regs c ≡ apply2_of op (width_in table a) (slice_index regs a) (slice_index regs b)

-- the class c has the value of an operator over the class a
pub record MakesOf (table : Classes) (op : Op1) (a c : ℕ) : Type 0 where
  pub first : a < class_count table
  pub below : c < class_count table
  pub wide : width_in table c ≡ width_in table a
  pub value : (memory regs : List ℕ) → TableMeans table memory regs →
      slice_index regs c ≡ apply1_of op (width_in table a) (slice_index regs a)

-- the class c has the value of an operator over the class a, of this width, and a number
pub record MakesBy (table : Classes) (op : Op2) (a w n c : ℕ) : Type 0 where
  pub first : a < class_count table
  pub below : c < class_count table
  pub same : width_in table a ≡ w
  pub wide : width_in table c ≡ result_width op w
  pub value : (memory regs : List ℕ) → TableMeans table memory regs →
      slice_index regs c ≡ apply2_of op w (slice_index regs a) n

-- the class c is so many times the class a, of this width
pub record IsMultiple (table : Classes) (a w n c : ℕ) : Type 0 where
  pub is_width : IsWidth w
  pub fits : n < 2 ^ w
  pub makes : MakesBy table Mul a w n c

-- the class c has the low bits of the class a, up to the bit hi
pub record HasLow (table : Classes) (a hi c : ℕ) : Type 0 where
  pub first : a < class_count table
  pub below : c < class_count table
  pub inside : hi < width_in table a
  pub wide : width_in table c ≡ hi + 1
  pub value : (memory regs : List ℕ) → TableMeans table memory regs →
      slice_index regs c ≡ slice_index regs a % 2 ^ (hi + 1)

-- so it has where it has those of another class
pub record SharesLow (table : Classes) (a hi inner : ℕ) : Type 0 where
  pub first : a < class_count table
  pub second : inner < class_count table
  pub inside : hi < width_in table a
  pub value : (memory regs : List ℕ) → TableMeans table memory regs →
      slice_index regs inner % 2 ^ (hi + 1) ≡ slice_index regs a % 2 ^ (hi + 1)
