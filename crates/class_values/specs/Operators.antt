-- Classes of what operators make of the values of classes: the operands are of the old table, the
-- result of the new one.
use Rattle.std.specs.Prelude.{ℕ, ◌+◌, ◌-◌, ◌%◌, ◌^◌, ◌<◌, ◌≡◌, List, slice_index}
use Rattle.rec_bits.specs.declared.operator.Op1.{Op1}
use Rattle.rec_bits.specs.declared.operator.Op2.{Op2}
use Rattle.rec_bits.specs.Operators.{apply1_of, apply2_of, slice_of, sext_of, result_width}
use Rattle.tree_laws.specs.declared.classes.Classes.{Classes}
use Rattle.tree_laws.specs.Classes.{TableMeans, width_in}
use Rattle.class_values.specs.declared.facts.Fact.{Fact}
use Rattle.class_values.specs.Values.{AreFacts, Holds, HoldsWide}

-- a function of one operand's value, of this width
abbrev pub IsMade : Classes → Classes → List Fact → ℕ → ℕ → (ℕ → ℕ) → ℕ → Type 0
IsMade old new facts a w f c =
    (memory : List ℕ) (x : ℕ) → AreFacts old memory facts → Holds old memory a x → HoldsWide new memory c w (f x)

-- and of two
abbrev pub IsMadeOf : Classes → Classes → List Fact → ℕ → ℕ → ℕ → (ℕ → ℕ → ℕ) → ℕ → Type 0
IsMadeOf old new facts a b w f c =
    (memory : List ℕ) (x y : ℕ) → AreFacts old memory facts → Holds old memory a x → Holds old memory b y →
    HoldsWide new memory c w (f x y)

-- the value of an operator over one class, and over two
abbrev pub IsUn : Classes → Classes → List Fact → Op1 → ℕ → ℕ → Type 0
IsUn old new facts op a c = IsMade old new facts a (width_in old a) (apply1_of op (width_in old a)) c

abbrev pub IsBin : Classes → Classes → List Fact → Op2 → ℕ → ℕ → ℕ → Type 0
IsBin old new facts op a b c =
    IsMadeOf old new facts a b (result_width op (width_in old a)) (apply2_of op (width_in old a)) c

-- the bits from hi down to lo of a value, a value with zeros above it, and with copies of its top bit
abbrev pub IsSlice : Classes → Classes → List Fact → ℕ → ℕ → ℕ → ℕ → Type 0
IsSlice old new facts a hi lo c = IsMade old new facts a (hi + 1 - lo) (λ x. slice_of x hi lo) c

abbrev pub IsZext : Classes → Classes → List Fact → ℕ → ℕ → ℕ → Type 0
IsZext old new facts a w c = IsMade old new facts a w (λ x. x) c

abbrev pub IsSext : Classes → Classes → List Fact → ℕ → ℕ → ℕ → Type 0
IsSext old new facts a w c = IsMade old new facts a w (λ x. sext_of x (width_in old a) w) c

-- the class is the sum of a base and a number
pub record IsOffset (table : Classes) (facts : List Fact) (class w base n : ℕ) : Type 0 where
  pub small : n < 2 ^ w
  pub value : (memory regs : List ℕ) → AreFacts table memory facts → TableMeans table memory regs →
      slice_index regs class ≡ (slice_index regs base + n) % 2 ^ w
