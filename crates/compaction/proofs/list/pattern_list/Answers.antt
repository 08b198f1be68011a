use Rattle.std.proofs.lemmas.Result.{IfOk-from_err}
use Rattle.std.proofs.Common.{◌≢◌, sym, subst}
use Rattle.std.specs.List.{AllPairs}
use Rattle.std.specs.List.Sorted.{IsPermutation}
use Rattle.code_model.specs.ImageFits.{AscendFrom}
use Rattle.compaction.proofs.Ascending.{sorted_ascend}
use Rattle.compaction.proofs.list.pattern_list.Goals as goal

pub returns : goal.returns
returns c =
    let e = c.in_ok-numbers.ensures.numbers in
    record {
      ascends = subst (λ z. AscendFrom 0 z) (sym c.from_vec.ensures)
          (sorted_ascend c.in_ok-numbers.numbers.items c.sort.new.self.items (subst (λ z. AllPairs (λ a b. a ≢ b) z) (sym e) c.requires) c.in_ok-numbers.ensures.small c.in_ok-sort.ensures.permutation c.in_ok-sort.ensures.sorted);
      holds = subst (λ z. IsPermutation z c.from_vec.result) e (subst (λ z. IsPermutation c.in_ok-numbers.numbers.items z) (sym c.from_vec.ensures) c.in_ok-sort.ensures.permutation);
    }

pub returns-in_err-numbers : goal.returns-in_err-numbers
returns-in_err-numbers c = IfOk-from_err c.from_residual.result _ c.from_residual.ensures.0

pub returns-in_err-sort : goal.returns-in_err-sort
returns-in_err-sort c = IfOk-from_err c.from_residual-in_err-sort.result _ c.from_residual-in_err-sort.ensures.0
