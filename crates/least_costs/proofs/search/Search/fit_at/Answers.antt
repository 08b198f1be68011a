use Rattle.std.proofs.Common.{◌≡◌, Some, sym, subst, get_or}
use Rattle.std.specs.Prelude.{slice_get}
use Rattle.std.proofs.lemmas.Result.{IfOk-weaker}
use Rattle.form_model.specs.declared.forms.Form.{Form}
use Rattle.std.proofs.lemmas.Bool.{OnTrue_at, OnFalse_at}
use Rattle.std.proofs.lemmas.Option.{slice_get-get_or}
use Rattle.form_model.specs.Forms.{FormModel, model_of_form}
use Rattle.form_model.specs.Covers.{operands_of, cuts_of, cells_of_goal}
use Rattle.tree_grammar.specs.Leaves.{model_of_match, models_of_leaves, AreAt}
use Rattle.least_costs.specs.Subgoals.{KeepsTo}
use Rattle.least_costs.proofs.LeastLemmas.{no_form}
use Rattle.least_costs.specs.Searches.{search_stock, search_nodes, AreParts}
use Rattle.least_costs.specs.Fits.{model_of_subgoal, FitsParts, IsFit}
use Rattle.least_costs.proofs.StartLemmas.{form_at}
use Rattle.least_costs.specs.Matched.{AreLowLeaves}
use Rattle.least_costs.proofs.FitLemmas.{want_at, want_takes, want_low, want_parts, parts_fit}
use Rattle.least_costs.proofs.search.Search.fit_at.Goals as goal

pub fit_parts-requires-clause-at : goal.fit_parts-requires-clause-at
fit_parts-requires-clause-at c =
    subst (AreAt (search_nodes c.args.self.now)) (sym c.deref.ensures.value)
    (want_at c.args.self.now c.args.goal.now c.in_ok-found.field-0 c.in-Some.found c.requires.stands c.in_ok-found.ensures.at c.in-Some.is)

pub fit_parts-requires-clause-low : goal.fit_parts-requires-clause-low
fit_parts-requires-clause-low c =
    let form : Form = get_or c.args.self.now.forms.now c.args.k c.index-self-k.result in
    let got : slice_get c.args.self.now.forms.now c.args.k ≡ Some form = slice_get-get_or _ _ _ c.requires.form in
    subst (λ l. AreLowLeaves (models_of_leaves l)) (sym c.deref.ensures.value)
    (want_low c.args.self.now form c.args.k c.args.goal.now c.in-Some.found got
    (want_takes c.args.self.now form c.args.goal.now c.in_ok-found.field-0 c.in-Some.found c.in_ok-found.ensures.found c.in-Some.is))

pub fit_parts-requires-clause-few : goal.fit_parts-requires-clause-few
fit_parts-requires-clause-few c =
    let form : Form = get_or c.args.self.now.forms.now c.args.k c.index-self-k.result in
    subst (λ l. AreParts (search_nodes c.args.self.now) (operands_of (models_of_leaves l)) (cuts_of (models_of_leaves l))) (sym c.deref.ensures.value)
    (want_parts c.args.self.now (model_of_form form) c.args.goal.now (model_of_match c.in-Some.found) c.requires.stands
    (want_takes c.args.self.now form c.args.goal.now c.in_ok-found.field-0 c.in-Some.found c.in_ok-found.ensures.found c.in-Some.is))

pub returns-clause-fit : goal.returns-clause-fit
returns-clause-fit c =
    let form : Form = get_or c.args.self.now.forms.now c.args.k c.index-self-k.result in
    let got : slice_get c.args.self.now.forms.now c.args.k ≡ Some form = slice_get-get_or _ _ _ c.requires.form in
    IfOk-weaker c.fit_parts.result (λ o. FitsParts (search_stock c.args.self.now) c.args.limits (operands_of (models_of_leaves c.deref.result.now)) (cuts_of (models_of_leaves c.deref.result.now)) o)
    (λ o. IsFit (search_stock c.args.self.now) c.args.limits (model_of_subgoal c.args.goal.now) c.args.k o)
    (λ o fits. parts_fit (search_stock c.args.self.now) c.args.limits (model_of_subgoal c.args.goal.now) c.args.k (model_of_form form) (model_of_match c.in-Some.found) o
    (form_at c.args.self.now c.args.k form got) (subst (λ n. KeepsTo c.args.limits form.clobbers n) c.cells_of.ensures (OnTrue_at c.if-not-keeps_to.false c.keeps_to.ensures.yes))
    (want_takes c.args.self.now form c.args.goal.now c.in_ok-found.field-0 c.in-Some.found c.in_ok-found.ensures.found c.in-Some.is)
    (subst (λ l. FitsParts (search_stock c.args.self.now) c.args.limits (operands_of (models_of_leaves l)) (cuts_of (models_of_leaves l)) o) c.deref.ensures.value fits)) c.fit_parts.ensures.fit

pub returns-then-not-keeps_to-clause-fit : goal.returns-then-not-keeps_to-clause-fit
returns-then-not-keeps_to-clause-fit c =
    let form : Form = get_or c.args.self.now.forms.now c.args.k c.index-self-k.result in
    let got : slice_get c.args.self.now.forms.now c.args.k ≡ Some form = slice_get-get_or _ _ _ c.requires.form in
    let at : slice_get (search_stock c.args.self.now).forms c.args.k ≡ Some (model_of_form form) = form_at c.args.self.now c.args.k form got in
    no_form (search_stock c.args.self.now) c.args.limits (model_of_subgoal c.args.goal.now) c.args.k
    (λ model found here kept is.
    let same : model ≡ model_of_form form = cc in
    OnFalse_at c.if-not-keeps_to.true c.keeps_to.ensures.no
    (subst (λ n. KeepsTo c.args.limits form.clobbers n) (sym c.cells_of.ensures) (subst (λ (r : FormModel). KeepsTo c.args.limits r.clobbers (cells_of_goal r.goal)) same kept)))
