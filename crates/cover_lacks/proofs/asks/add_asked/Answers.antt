use Rattle.std.proofs.Common.{List, length, sym, ap, ◌∙◌, subst, get_or}
use Rattle.std.specs.Prelude.{IfSome}
use Rattle.std.specs.Option.{option_map}
use Rattle.std.proofs.lemmas.List.{append-nil}
use Rattle.std.proofs.lemmas.Result.{on_ok_weaker}
use Rattle.net_model.specs.Exprs.{ExprModel}
use Rattle.form_model.specs.Forms.{model_of_form}
use Rattle.form_model.specs.declared.forms.Form.{Form}
use Rattle.tree_grammar.specs.declared.parts.Match.{Match}
use Rattle.tree_grammar.specs.Leaves.{AreAt, model_of_match}
use Rattle.cover_lacks.specs.Inner.Asked.{AddsParts, LookStands, search_nodes, search_stock}
use Rattle.cover_lacks.proofs.AskLemmas.{asked_none, asked_some, form_at}
use Rattle.cover_lacks.proofs.asks.add_asked.Goals as goal

pub returns-in_default : goal.returns-in_default
returns-in_default c =
    let search = c.args.search.now in
    let form : Form = get_or search.forms.now c.args.k c.index-search-k.result in
    asked_none (search_stock search) (search_nodes search) c.args.look.now c.args.k (model_of_form form) (form_at search.forms.now c.args.k c.index-search-k.result c.requires.form)
    c.args.numbers.now.items (sym (append-nil c.args.numbers.now.items)) (ap (option_map model_of_match) (sym c.in_default.is) ∙ c.in_ok-found.ensures.found)

pub add_parts-requires-clause-at : goal.add_parts-requires-clause-at
add_parts-requires-clause-at c =
    let nodes = search_nodes c.args.search.now in
    subst (AreAt nodes) (sym c.deref.ensures.value)
    (subst (λ o. IfSome o (λ (m : Match). (ns : List ExprModel) → LookStands ns c.args.look.now → AreAt ns m.parts.items)) c.in-Some.is c.in_ok-found.ensures.at nodes c.requires.stands)

pub returns : goal.returns
returns c =
    let search = c.args.search.now in
    let stock = search_stock search in
    let form : Form = get_or search.forms.now c.args.k c.index-search-k.result in
    on_ok_weaker c.add_parts.result (λ e. asked_some stock (search_nodes search) c.args.look.now c.args.k (model_of_form form) (form_at search.forms.now c.args.k c.index-search-k.result c.requires.form) c.in-Some.found
    c.args.numbers.now.items c.add_parts.new.numbers.items
    (ap (option_map model_of_match) (sym c.in-Some.is) ∙ c.in_ok-found.ensures.found)
    (subst (λ o. IfSome o (λ (m : Match). (ns : List ExprModel) → LookStands ns c.args.look.now → AreAt ns m.parts.items)) c.in-Some.is c.in_ok-found.ensures.at)
    c.requires.stands
    (subst (λ ps. AddsParts stock c.args.look.now.below ps (length ps) c.args.numbers.now.items c.add_parts.new.numbers.items) c.deref.ensures.value e)) c.add_parts.ensures
