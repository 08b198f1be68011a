-- Laws as data. A rule lists expressions with variables for trees and for numbers, two of which
-- are the same wherever they are well typed and the rule's conditions hold. A *rule* is a law as
-- data: a list of parts, each a variable, a number or an operator over earlier parts, two of which
-- are its sides; and conditions, equations and comparisons of its numbers and of its variables'
-- widths. It holds where for all trees and numbers that keep the conditions and give both sides
-- their widths these are the same.
use Rattle.std.specs.Prelude.{ℕ, ◌+◌, ◌^◌, ◌<◌, ◌≡◌, List, [], ◌∷◌, ◌++◌, Option, Some, None, slice_get, fold}
use Rattle.std.specs.List.{AllByRecursion}
use Rattle.rec_bits.specs.Operators.{apply1_of, apply2_of, slice_of, sext_of}
use Rattle.net_model.specs.declared.states.State.{State}
use Rattle.net_model.specs.Exprs.{ExprModel, const, un, bin, slice, zext, sext, expr_width}
use Rattle.net_model.specs.Meaning.{mean}
use Rattle.sym_expr.specs.Pools.{ExprFits, Suits}
use Rattle.tree_laws.specs.declared.rules.Num.{Num}
use Rattle.tree_laws.specs.declared.rules.Num.TheVariants.{Lit, Var}
use Rattle.tree_laws.specs.declared.rules.Part.{Part}
use Rattle.tree_laws.specs.declared.rules.Part.TheVariants.{Tree, Const, Un, Bin, Slice, Zext, Sext}
use Rattle.tree_laws.specs.declared.rules.Condition.{Condition}
use Rattle.tree_laws.specs.declared.rules.Condition.TheVariants.{Is, Less, Differ}
use Rattle.tree_laws.specs.declared.rules.Value.{Value}
use Rattle.tree_laws.specs.declared.rules.Value.TheVariants.{Width, Sum, Power, Apply1, Apply2, Bits, Signed}
use Rattle.tree_laws.specs.declared.rules.Rule.{Rule}

-- ---- expressions with variables

-- a number, by the values of the variables
abbrev pub num_of : (ℕ → ℕ) → Num → ℕ
num_of number (Lit v) = v
num_of number (Var x) = number x

abbrev pub expr_or : Option ExprModel → ExprModel
expr_or None = const 0 0
expr_or (Some t) = t

-- the expression at a place of a list, and a number of no bits where there is none
abbrev pub expression_at : List ExprModel → ℕ → ExprModel
expression_at exprs k = expr_or (slice_get exprs k)

-- the expression of a part, by those of the parts before it
abbrev pub part_expr : (ℕ → ExprModel) → (ℕ → ℕ) → List ExprModel → Part → ExprModel
part_expr tree number exprs (Tree x) = tree x
part_expr tree number exprs (Const w v) = const (num_of number w) (num_of number v)
part_expr tree number exprs (Un o a) = un o (expression_at exprs a)
part_expr tree number exprs (Bin o a b) = bin o (expression_at exprs a) (expression_at exprs b)
part_expr tree number exprs (Slice a hi lo) = slice (expression_at exprs a) (num_of number hi) (num_of number lo)
part_expr tree number exprs (Zext a w) = zext (expression_at exprs a) (num_of number w)
part_expr tree number exprs (Sext a w) = sext (expression_at exprs a) (num_of number w)

-- the expressions of all parts, in order
abbrev pub part_exprs : (ℕ → ExprModel) → (ℕ → ℕ) → List Part → List ExprModel
part_exprs tree number parts = fold (λ exprs part. exprs ++ part_expr tree number exprs part ∷ []) [] parts

-- ---- conditions

-- the number that a value stands for
abbrev pub value_of : (ℕ → ExprModel) → (ℕ → ℕ) → Value → ℕ
value_of tree number (Width x) = expr_width (tree x)
value_of tree number (Sum a b) = num_of number a + num_of number b
value_of tree number (Power k) = 2 ^ num_of number k
value_of tree number (Apply1 o w a) = apply1_of o (num_of number w) (num_of number a)
value_of tree number (Apply2 o w a b) = apply2_of o (num_of number w) (num_of number a) (num_of number b)
value_of tree number (Bits a hi lo) = slice_of (num_of number a) (num_of number hi) (num_of number lo)
value_of tree number (Signed a from to) = sext_of (num_of number a) (num_of number from) (num_of number to)

abbrev pub Holds : (ℕ → ExprModel) → (ℕ → ℕ) → Condition → Type 0
Holds tree number (Is n v) = num_of number n ≡ value_of tree number v
Holds tree number (Less a b) = num_of number a < num_of number b
Holds tree number (Differ a b) = num_of number a ≡ num_of number b → ⊥

abbrev pub AllHold : (ℕ → ExprModel) → (ℕ → ℕ) → List Condition → Type 0
AllHold tree number conditions = AllByRecursion (Holds tree number) conditions

-- ---- rules

-- two expressions of one width, with one value whatever their variables, the memory and the word
-- hold
pub record AreSame (a b : ExprModel) : Type 0 where
  pub width : expr_width a ≡ expr_width b
  pub value : (s : State) (i : ℕ) → Suits a s i → Suits b s i → mean a s i ≡ mean b s i

-- a side of a rule
abbrev pub side_of : (ℕ → ExprModel) → (ℕ → ℕ) → Rule → ℕ → ExprModel
side_of tree number rule k = expression_at (part_exprs tree number rule.parts.now) k

-- the rule holds: for all trees and numbers its sides are the same, where they are well typed and
-- the conditions hold
abbrev pub RuleHolds : Rule → Type 0
RuleHolds rule =
    (tree : ℕ → ExprModel) (number : ℕ → ℕ) → AllHold tree number rule.conditions.now →
    ExprFits (side_of tree number rule rule.from) → ExprFits (side_of tree number rule rule.to) →
    AreSame (side_of tree number rule rule.from) (side_of tree number rule rule.to)
