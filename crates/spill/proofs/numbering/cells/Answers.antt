use Rattle.std.proofs.Common.{◌++◌, ◌∙◌, List, ℕ, ap, length, sym}
use Rattle.std.specs.List.{range_with_len}
use Rattle.form_model.specs.CoverModels.{model_of_cover}
use Rattle.form_model.specs.Steps.{cut_count}
use Rattle.spill.proofs.InOrder.{in_order}
use Rattle.spill.proofs.numbering.cells.Goals as goal

pub returns-clause-filled : goal.returns-clause-filled
returns-clause-filled c = λ stock destination tree whole orderly.
    in_order stock (model_of_cover c.args.cover.now) 0 destination tree whole orderly
    ∙ sym (c.in_ok-add_in.ensures ∙ ap (λ (l : List ℕ). l ++ range_with_len (length l) (cut_count (model_of_cover c.args.cover.now))) c.new-list.ensures.items)
