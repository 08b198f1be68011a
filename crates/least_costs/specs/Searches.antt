-- What the code's values stand for, and the numbers of a job's trees.
use Rattle.std.specs.Prelude.{◌+◌, ◌≤◌, ◌≡◌, List, [], ◌∷◌, ◌++◌, length, map, Some, slice_get}
use Rattle.net_model.specs.Exprs.{ExprModel}
use Rattle.form_model.specs.Trees.{model_of_tree}
use Rattle.form_model.specs.Covers.{StockModel, Operand, stock_with}
use Rattle.tree_sharing.specs.Sharing.{job_nodes}
use Rattle.tree_grammar.specs.Leaves.{model_of_destination, model_of_home}
use Rattle.tree_grammar.specs.declared.parts.Leaf.{Leaf}
use Rattle.tree_grammar.specs.declared.parts.Leaf.TheVariants.{Cut}
use Rattle.tree_grammar.specs.declared.parts.Leaf.TheVariants
use Rattle.least_costs.specs.declared.search.Search.{Search}
use Rattle.least_costs.specs.declared.opened.OpenOperand.{OpenOperand}
use Rattle.least_costs.specs.declared.opened.OpenCut.{OpenCut}
use Rattle.least_costs.specs.Subgoals.{operands_size, exprs_size}

-- what a search is to be covered by
abbrev pub search_stock : Search → StockModel
search_stock s = stock_with s.forms.now s.temps s.file

-- the numbered trees of a search
abbrev pub search_nodes : Search → List ExprModel
search_nodes k = job_nodes (model_of_destination k.destination) (model_of_tree k.tree.now)

abbrev pub open_operand : OpenOperand → Operand
open_operand i = record { home = model_of_home i.home; tree = model_of_tree i.tree.now; whole = i.whole }

abbrev pub open_operands : List OpenOperand → List Operand
open_operands is = map open_operand is

abbrev pub open_cuts : List OpenCut → List ExprModel
open_cuts ss = map (λ s. model_of_tree s.tree.now) ss

-- each operand is the tree of its number
abbrev pub EachOperandAt : List ExprModel → List OpenOperand → Type 0
EachOperandAt nodes [] = Unit {0}
EachOperandAt nodes (i ∷ is) = (slice_get nodes i.at ≡ Some (model_of_tree i.tree.now)) × EachOperandAt nodes is

abbrev pub EachCutAt : List ExprModel → List OpenCut → Type 0
EachCutAt nodes [] = Unit {0}
EachCutAt nodes (s ∷ ss) = (slice_get nodes s.at ≡ Some (model_of_tree s.tree.now)) × EachCutAt nodes ss

-- so it is, and all of them have no more subtrees than there are
abbrev pub OperandsAt : List ExprModel → List OpenOperand → Type 0
OperandsAt nodes is = EachOperandAt nodes is × (operands_size (open_operands is) ≤ length nodes)

abbrev pub CutsAt : List ExprModel → List OpenCut → Type 0
CutsAt nodes ss = EachCutAt nodes ss × (exprs_size (open_cuts ss) ≤ length nodes)

-- the operands and the cuts of one match together have no more either
abbrev pub AreParts : List ExprModel → List Operand → List ExprModel → Type 0
AreParts nodes operands cuts = operands_size operands + exprs_size cuts ≤ length nodes

-- the list has one more item where the part is an operand
abbrev pub HasOperand : Leaf → List OpenOperand → List OpenOperand → Type 0
HasOperand (TheVariants.Operand home tree whole at) old new =
    (i : OpenOperand) × (new ≡ old ++ (i ∷ []))
    × (open_operand i ≡ record { home = model_of_home home; tree = model_of_tree tree.now; whole = whole }) × (i.at ≡ at)
HasOperand (Cut shape tree at) old new = new ≡ old

abbrev pub HasCut : Leaf → List OpenCut → List OpenCut → Type 0
HasCut (TheVariants.Operand home tree whole at) old new = new ≡ old
HasCut (Cut shape tree at) old new = new ≡ old ++ (record { tree = tree; at = at } ∷ [])
