-- Numbers of classes: by a fact, of a listed node, and in a width.
use Rattle.std.specs.Prelude.{ℕ, ◌^◌, ◌<◌, ◌≡◌, List}
use Rattle.rec_bits.specs.Operators.{IsWidth}
use Rattle.rec_bits.specs.declared.operator.Op2.TheVariants.{Add}
use Rattle.sym_expr.specs.declared.pool.Node.{Node}
use Rattle.sym_expr.specs.declared.pool.Node.TheVariants.{Bin}
use Rattle.tree_laws.specs.declared.classes.Classes.{Classes}
use Rattle.tree_laws.specs.Classes.{FitsIn, NodeStands, width_in}
use Rattle.class_values.specs.declared.facts.Fact.{Fact}
use Rattle.class_values.specs.Values.{AreSame, HasNumber, Holds}

-- the width of a class, and its number, which fits
pub record IsSized (table : Classes) (facts : List Fact) (class w n : ℕ) : Type 0 where
  pub width : width_in table class ≡ w
  pub is_width : IsWidth w
  pub fits : n < 2 ^ w
  pub number : HasNumber table facts class n

-- the node is listed, and of the class
pub record IsListed (table : Classes) (node : Node) (class : ℕ) : Type 0 where
  pub found : ℕ
  pub stands : NodeStands table node found
  pub same : AreSame table class found

-- where the fact holds, the class has this number as its value
abbrev pub IsTold : Classes → Fact → ℕ → ℕ → Type 0
IsTold table fact class n = (memory : List ℕ) → Holds table memory fact.class fact.number → Holds table memory class n

-- the width of a class, which the number fits
pub record IsFitting (table : Classes) (class n w : ℕ) : Type 0 where
  pub width : width_in table class ≡ w
  pub is_width : IsWidth w
  pub fits : n < 2 ^ w

-- the class is one of a listed sum of another class and of one that has a number, both of this width
pub record IsSum (table : Classes) (facts : List Fact) (class w base by n : ℕ) : Type 0 where
  pub found : ℕ
  pub stands : NodeStands table (Bin Add base by) found
  pub fits : FitsIn table (Bin Add base by)
  pub same : AreSame table class found
  pub wide : width_in table base ≡ w
  pub small : n < 2 ^ w
  pub number : HasNumber table facts by n
