use Rattle.std.proofs.Common.{◌≡◌, Some, length, refl, ap, ◌∙◌, subst}
use Rattle.std.specs.Prelude.{slice_get}
use Rattle.std.specs.Option.{option_map}
use Rattle.std.proofs.lemmas.Option.{slice_get_read, slice_get-map}
use Rattle.std.proofs.lemmas.Result.{IfOk-weaker}
use Rattle.net_model.specs.Exprs.{ExprModel}
use Rattle.form_model.specs.Trees.{model_of_tree}
use Rattle.form_model.specs.Forms.{aim_destination}
use Rattle.tree_grammar.specs.Leaves.{model_of_destination}
use Rattle.form_model.specs.Covers.{stock_with}
use Rattle.cover.specs.Jobs.{trees_of}
use Rattle.cover.specs.Inner.Best.{root_subgoal, IsTreeCover}
use Rattle.cover.proofs.jobs.cover_tree_at.Goals as goal

pub returns : goal.returns
returns c =
    let here : slice_get c.args.job.now.trees.items c.args.j ≡ Some c.index.result.now = slice_get_read c.args.job.now.trees.items (length c.args.job.now.trees.items) c.args.j c.index.result.now refl c.requires.place c.index.ensures in
    let there : slice_get (trees_of c.args.job.now.trees.items) c.args.j ≡ Some (model_of_tree c.index.result.now) = slice_get-map model_of_tree c.args.job.now.trees.items c.args.j ∙ ap (option_map model_of_tree) here in
    IfOk-weaker c.cover_tree.result (λ o. IsTreeCover (stock_with c.args.forms.now c.args.temps c.args.file) (root_subgoal (model_of_destination c.of.result) (model_of_tree c.index.result.now)) o) (λ o. (t : ExprModel) → slice_get (trees_of c.args.job.now.trees.items) c.args.j ≡ Some t → IsTreeCover (stock_with c.args.forms.now c.args.temps c.args.file) (root_subgoal (aim_destination c.args.job.now.aim) t) o)
    (λ o is t get.
    let same : model_of_tree c.index.result.now ≡ t = cc in
    subst (λ u. IsTreeCover (stock_with c.args.forms.now c.args.temps c.args.file) (root_subgoal (aim_destination c.args.job.now.aim) u) o) same
    (subst (λ d. IsTreeCover (stock_with c.args.forms.now c.args.temps c.args.file) (root_subgoal d (model_of_tree c.index.result.now)) o) c.of.ensures is)) c.cover_tree.ensures
