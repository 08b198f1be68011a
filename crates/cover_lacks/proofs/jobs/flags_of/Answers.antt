use Rattle.std.proofs.Common.{◌≡◌, Bool, false, rules}
use Rattle.std.specs.Prelude.{is_some}
use Rattle.std.specs.declared.alloc.Global.{Global}
use Rattle.std.specs.declared.vec.Vec.{Vec}
use Rattle.form_model.specs.Covers.{stock_with}
use Rattle.form_model.specs.Trees.{model_of_tree}
use Rattle.tree_grammar.specs.Leaves.{model_of_destination}
use Rattle.cover_lacks.proofs.JobLemmas.{flags_lacking, uncovered_by}
use Rattle.cover_lacks.proofs.jobs.flags_of.Goals as goal

pub returns : goal.returns
returns c =
    let forms = c.args.forms.now.list.items in
    let d = model_of_destination c.args.destination in
    let root = model_of_tree c.args.tree.now in
    let none : is_some c.in_ok-least_cost.field-0 ≡ false = first_of (cc, cc c.is_some.ensures, search rules) in
    flags_lacking (λ (v : Vec Bool Global). v.items) c.lacking_flags.result c.deref.result.now forms c.args.temps c.args.forms.now.file d root c.deref.ensures.value c.lacking_flags.ensures.flags c.lacking_flags.ensures.some
    (uncovered_by (stock_with forms c.args.temps c.args.forms.now.file) d root c.in_ok-least_cost.field-0 c.in_ok-least_cost.ensures none)
