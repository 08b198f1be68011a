use Rattle.std.proofs.Common.{◌++◌, ◌∙◌, ap, append_assoc, sym}
use Rattle.std.proofs.lemmas.List.{append-nil}
use Rattle.std.proofs.lemmas.Result.{IfOk-from_err, IfOk-weaker}
use Rattle.src_trees.specs.Jobs.{model_of_job}
use Rattle.tree_sharing.specs.Sharing.{exprs_at}
use Rattle.explain_command.specs.Explained.{IsEqualText, ShowsLacks}
use Rattle.explain_command.specs.Inner.Telling.{netlist_of, stock_of}
use Rattle.explain_command.specs.Lines.{bare_line}
use Rattle.explain_command.proofs.Growing.{adds_both}
use Rattle.explain_command.proofs.covering.add_lacks.Goals as goal

pub returns : goal.returns
returns c =
    let netlist = netlist_of c.args.subject.now in
    let stock = stock_of c.args.subject.now in
    let job = model_of_job c.args.job.now in
    let told = c.in_ok-add_trees.ensures in
    let old = c.args.text.now.items in
    IfOk-weaker c.add_equal.result _ _
    (λ _ found. adds_both old c.add_trees.new.text.items c.add_equal.new.text.items (bare_line ++ told.more) (IsEqualText netlist stock job) (ShowsLacks netlist stock job)
    (λ more is. record {
      none = c.requires;
      lacks = exprs_at c.deref.result.now;
      are = rw c.deref.ensures.value c.in_ok-trees.ensures.list;
      rest = told.more;
      told = told.is;
      equal = more;
      found = is;
      lines = append_assoc bare_line told.more more ∙ ap (λ l. bare_line ++ (told.more ++ l)) (sym (append-nil more));
    })
    (told.text ∙ ap (λ l. l ++ told.more) c.in_ok-add_bytes.ensures ∙ append_assoc old bare_line told.more) found)
    c.add_equal.ensures

pub returns-in_err-trees : goal.returns-in_err-trees
returns-in_err-trees c = IfOk-from_err c.from_residual.result _ c.from_residual.ensures.0

pub returns-in_err-add_bytes : goal.returns-in_err-add_bytes
returns-in_err-add_bytes c = IfOk-from_err c.from_residual-in_err-add_bytes.result _ c.from_residual-in_err-add_bytes.ensures.0

pub returns-in_err-add_trees : goal.returns-in_err-add_trees
returns-in_err-add_trees c = IfOk-from_err c.from_residual-in_err-add_trees.result _ c.from_residual-in_err-add_trees.ensures.0
