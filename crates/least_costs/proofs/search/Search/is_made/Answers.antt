use Rattle.std.proofs.Common.{◌≡◌, length, arith, below_more, subst}
use Rattle.std.proofs.lemmas.List.{length-map}
use Rattle.form_model.specs.Forms.{model_of_form}
use Rattle.form_model.specs.Trees.{model_of_tree}
use Rattle.least_costs.specs.Searches.{search_stock}
use Rattle.least_costs.specs.Inner.Made.{Makes, NeverMakes}
use Rattle.least_costs.proofs.MadeLemmas.{never_made}
use Rattle.least_costs.proofs.search.Search.is_made.Goals as goal

pub loop-k-preserved : goal.loop-k-preserved
loop-k-preserved c =
    let stock = search_stock c.args.self.now in
    let t = model_of_tree c.args.tree.now in
    record {
      below = below_more (NeverMakes stock t) c.loop-k.k c.loop-k.invariant.below (subst (Makes stock t c.loop-k.k) c.if-branch.false c.in_ok-makes.ensures.makes);
      right = c.in_ok-makes.ensures.right;
    }

pub returns-clause-made : goal.returns-clause-made
returns-clause-made c =
    let n : c.loop-k.k ≡ length (search_stock c.args.self.now).forms = (let l = length-map c.args.self.now.forms.now model_of_form in omega (arith, l, c.loop-k-test.false, c.loop-k.auto.k-end)) in
    never_made (search_stock c.args.self.now) (model_of_tree c.args.tree.now) c.loop-k.k n c.loop-k.invariant.below
