use Rattle.std.proofs.Common.{◌≡◌, take, List}
use Rattle.net_model.specs.Exprs.{ExprModel}
use Rattle.form_model.specs.Covers.{cuts_of}
use Rattle.tree_grammar.specs.Leaves.{models_of_leaves, AreAt}
use Rattle.least_costs.specs.Searches.{open_cuts, EachCutAt}
use Rattle.least_costs.proofs.parts.cuts_in.Given as goal

abbrev pub invariant-loop-part : goal.invariant-loop-part
invariant-loop-part l = record {
  is : open_cuts l.out.items ≡ cuts_of (models_of_leaves (take l.part-index l.parts));
  at : (nodes : List ExprModel) → AreAt nodes (take l.part-index l.parts) → EachCutAt nodes l.out.items;
}
