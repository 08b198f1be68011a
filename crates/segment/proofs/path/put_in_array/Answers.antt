use Rattle.std.proofs.Common.{◌≡◌, List, Some, ◌∙◌, sym, ap, subst, slice_get}
use Rattle.net_model.specs.Exprs.{const, write_at}
use Rattle.form_model.specs.Trees.{model_of_tree}
use Rattle.sym_run.specs.Moves.{IsNextPut}
use Rattle.std.specs.Prelude.{option_copied}
use Rattle.form_model.specs.declared.trees.Tree.{Tree}
use Rattle.sym_run.specs.declared.known.Put.{Put}
use Rattle.sym_run.proofs.Writing.{if_puts}
use Rattle.segment.proofs.Putting.{put_element, put_numbered}
use Rattle.segment.proofs.path.put_in_array.Goals as goal

pub returns-in-Store-clause-is : goal.returns-in-Store-clause-is
returns-in-Store-clause-is c =
    let first : slice_get c.args.job.now.trees.items 0 ≡ Some c.in-Some.tree.now = ap (λ (xs : List Tree). slice_get xs 0) (sym c.deref.ensures.value) ∙ sym c.first.ensures.value ∙ ap option_copied c.in-Some.is in
    if_puts c.put.result _ _ (λ (puts : List Put) h. put_element c.args.table.now c.put.new.table c.args.facts.now c.args.known.now c.args.job.now c.in-Some.tree.now first puts c.in-Store.addr c.in-Store.is h) c.put.ensures.is

pub returns-in-Cell-clause-is : goal.returns-in-Cell-clause-is
returns-in-Cell-clause-is c =
    let first : slice_get c.args.job.now.trees.items 0 ≡ Some c.in-Some.tree.now = ap (λ (xs : List Tree). slice_get xs 0) (sym c.deref.ensures.value) ∙ sym c.first.ensures.value ∙ ap option_copied c.in-Some.is in
    if_puts c.put_at.result _ _ (λ (puts : List Put) h. put_numbered c.args.table.now c.put_at.new.table c.args.facts.now c.args.known.now c.args.job.now c.in-Some.tree.now first puts c.args.width c.in-Cell.address c.in-Cell.is
    (subst (λ n. IsNextPut c.args.table.now c.put_at.new.table c.args.facts.now c.args.known.now 0 (write_at (const c.args.width n) (model_of_tree c.in-Some.tree.now)) puts) c.from.ensures h)) c.put_at.ensures.is
