-- What the code's match stands for.
use Rattle.std.specs.Prelude.{ℕ, ◌+◌, ◌≡◌, List, [], ◌∷◌, ◌++◌, map, Bool, true, false, Option, Some, None, slice_get}
use Rattle.net_model.specs.Exprs.{ExprModel, model_of_expr, size_of}
use Rattle.form_model.specs.Trees.{model_of_tree}
use Rattle.form_model.specs.Matches.{HomeModel, in_register, in_file, LeafModel, operand, cut, MatchModel}
use Rattle.form_model.specs.Forms.{DestinationModel, into, filed, stored, cell, temporary, tested}
use Rattle.tree_grammar.specs.declared.parts.Home.{Home}
use Rattle.tree_grammar.specs.declared.parts.Home.TheVariants.{Register as HomeRegister, File as HomeFile}
use Rattle.tree_grammar.specs.declared.parts.Leaf.{Leaf}
use Rattle.tree_grammar.specs.declared.parts.Leaf.TheVariants.{Operand, Cut}
use Rattle.tree_grammar.specs.declared.parts.Match.{Match}
use Rattle.tree_grammar.specs.declared.parts.Destination.{Destination}
use Rattle.tree_grammar.specs.declared.parts.Destination.TheVariants.{Register, File, Cell, Store, Test, Temp}
use Rattle.tree_grammar.specs.Numbers.{HoldsSubtrees}

-- where an operand waits
abbrev pub model_of_home : Home → HomeModel
model_of_home (HomeRegister id) = in_register id
model_of_home (HomeFile shape) = in_file (model_of_expr shape.now)

-- the model of the leaf
abbrev pub model_of_leaf : Leaf → LeafModel
model_of_leaf (Operand home tree whole at) = operand (model_of_home home) (model_of_tree tree.now) whole
model_of_leaf (Cut shape tree at) = cut (model_of_expr shape.now) (model_of_tree tree.now)

abbrev pub models_of_leaves : List Leaf → List LeafModel
models_of_leaves parts = map model_of_leaf parts

-- the match
abbrev pub model_of_match : Match → MatchModel
model_of_match m = record { setting = m.setting; leaves = models_of_leaves m.parts.items }

-- the part's tree is the one of its number
abbrev pub IsPartAt : List ExprModel → Leaf → Type 0
IsPartAt nodes (Operand home tree whole at) = slice_get nodes at ≡ Some (model_of_tree tree.now)
IsPartAt nodes (Cut shape tree at) = slice_get nodes at ≡ Some (model_of_tree tree.now)

-- and so of each part
abbrev pub AreAt : List ExprModel → List Leaf → Type 0
AreAt nodes [] = Unit {0}
AreAt nodes (p ∷ ps) = IsPartAt nodes p × AreAt nodes ps

-- the leaves have become more by those of what is found, or nothing is found
abbrev pub Taken : List LeafModel → List LeafModel → Option MatchModel → Option ℕ → Type 0
Taken old new found None = found ≡ None
Taken old new found (Some setting) =
    (added : List LeafModel) × (new ≡ old ++ added)
    × (found ≡ Some (record { setting = setting; leaves = added }))

-- where a tree goes
abbrev pub model_of_destination : Destination → DestinationModel
model_of_destination (Register id) = into id
model_of_destination File = filed
model_of_destination (Cell address) = cell address
model_of_destination (Store address) = stored (model_of_tree address.now)
model_of_destination Test = tested
model_of_destination Temp = temporary

-- the address of a store has its numbers before those of the value
abbrev pub value_at : DestinationModel → ℕ → ℕ
value_at (stored address) at = at + size_of address
value_at (into id) at = at
value_at filed at = at
value_at (cell address) at = at
value_at temporary at = at
value_at tested at = at

-- a store's address has its numbers from `at` on
abbrev pub AddressStands : List ExprModel → ℕ → DestinationModel → Type 0
AddressStands nodes at (stored address) = HoldsSubtrees nodes at address
AddressStands nodes at (into id) = Unit {0}
AddressStands nodes at filed = Unit {0}
AddressStands nodes at (cell address) = Unit {0}
AddressStands nodes at temporary = Unit {0}
AddressStands nodes at tested = Unit {0}

-- the trees of a destination and of a value have their numbers from `at` on
pub record Stands (nodes : List ExprModel) (at : ℕ) (destination : DestinationModel) (t : ExprModel) : Type 0 where
  pub address : AddressStands nodes at destination
  pub value : HoldsSubtrees nodes (value_at destination at) t

-- whether the tree that goes there is whole
abbrev pub is_whole : DestinationModel → Bool
is_whole (cell address) = true
is_whole (stored address) = false
is_whole (into id) = false
is_whole filed = false
is_whole temporary = false
is_whole tested = true
