use Rattle.std.proofs.Common.{unwrap_or, sym, ap, ◌∙◌}
use Rattle.src_model.specs.Meaning.{first_cell}
use Rattle.src_eval.specs.Inner.Tables.{cell_of_name}
use Rattle.src_eval.proofs.TableLemmas.{first_is}
use Rattle.src_eval.proofs.table.SymbolTable.first_cell.Goals as goal

pub returns : goal.returns
returns c =
    let vars = c.self.inside.vars.now in
    let found = c.copied.ensures ∙ c.get.ensures.value ∙ c.self.invariant.finds c.as_slice.result.now ∙ ap (cell_of_name vars) c.as_slice.ensures in
    c.unwrap_or.ensures ∙ (λ j. unwrap_or (found j) (c.self.invariant.total_is j)) ∙ sym (first_is vars c.args.name.now) ∙ ap (λ vs. first_cell vs c.args.name.now) c.self.view_is
