use Rattle.std.proofs.Common.{◌≡◌, take, List}
use Rattle.net_model.specs.Exprs.{ExprModel}
use Rattle.form_model.specs.Covers.{operands_of}
use Rattle.tree_grammar.specs.Leaves.{models_of_leaves, AreAt}
use Rattle.least_costs.specs.Searches.{open_operands, EachOperandAt}
use Rattle.least_costs.proofs.parts.operands_in.Given as goal

abbrev pub invariant-loop-part : goal.invariant-loop-part
invariant-loop-part l = record {
  is : open_operands l.out.items ≡ operands_of (models_of_leaves (take l.part-index l.parts));
  at : (nodes : List ExprModel) → AreAt nodes (take l.part-index l.parts) → EachOperandAt nodes l.out.items;
}
