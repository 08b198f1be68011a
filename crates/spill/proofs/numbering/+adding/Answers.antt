use Rattle.std.proofs.Common.{◌≡◌, ◌++◌, ◌+◌, [], ◌∷◌, List, ℕ, length, ap, ◌∙◌, subst, sym, rules}
use Rattle.std.specs.List.{range_with_len}
use Rattle.std.proofs.lemmas.Result.{on_ok_weaker}
use Rattle.form_model.specs.CoverModels.{model_of_cover_cuts, model_of_cover_operands, model_of_cover}
use Rattle.form_model.specs.Steps.{cut_count, cuts_count, operands_count}
use Rattle.spill.proofs.Adding.{added_more, added_one}
use Rattle.spill.proofs.numbering.+adding.Goals as goal

pub add_in-returns : goal.add_in-returns
add_in-returns t c =
    on_ok_weaker c.add_in_cuts.result
    (λ h. added_more c.args.list.now.items c.add_in_operands.new.list.items c.add_in_cuts.new.list.items (operands_count (model_of_cover_operands c.args.cover.now.operands)) (cuts_count (model_of_cover_cuts c.args.cover.now.cuts)) c.in_ok-add_in_operands.ensures h)
    c.add_in_cuts.ensures

pub add_in_operands-returns-in_ok-add_in-in-Then : goal.add_in_operands-returns-in_ok-add_in-in-Then
add_in_operands-returns-in_ok-add_in-in-Then t c =
    let old : List ℕ = c.args.list.now.items in
    let e : operands_count (model_of_cover_operands c.args.operands.now) ≡ cut_count (model_of_cover c.deref.result.now) + operands_count (model_of_cover_operands c.deref-in-Then.result.now) = search rules in
    on_ok_weaker c.add_in_operands.result
    (λ h. subst (λ n. c.add_in_operands.new.list.items ≡ old ++ range_with_len (length old) n) (sym e)
    (added_more old c.add_in.new.list.items c.add_in_operands.new.list.items (cut_count (model_of_cover c.deref.result.now)) (operands_count (model_of_cover_operands c.deref-in-Then.result.now)) c.in_ok-add_in-in-Then.ensures h))
    c.add_in_operands.ensures

pub add_in_cuts-returns-in_ok-push-in-Then : goal.add_in_cuts-returns-in_ok-push-in-Then
add_in_cuts-returns-in_ok-push-in-Then t c =
    let old : List ℕ = c.args.list.now.items in
    let inside : List ℕ = c.add_in.new.list.items in
    let n : ℕ = cut_count (model_of_cover c.deref.result.now) in
    let e : cuts_count (model_of_cover_cuts c.args.cuts.now) ≡ cut_count (model_of_cover c.deref.result.now) + 1 + cuts_count (model_of_cover_cuts c.deref-in-Then.result.now) = search rules in
    let cell : c.len-cell.result ≡ length inside = search rules in
    let pushed : c.push.new.self.items ≡ inside ++ (length inside ∷ []) = c.in_ok-push-in-Then.ensures.items ∙ ap (λ (k : ℕ). inside ++ (k ∷ [])) cell in
    on_ok_weaker c.add_in_cuts.result
    (λ h. subst (λ m. c.add_in_cuts.new.list.items ≡ old ++ range_with_len (length old) m) (sym e)
    (added_more old c.push.new.self.items c.add_in_cuts.new.list.items (n + 1) (cuts_count (model_of_cover_cuts c.deref-in-Then.result.now)) (added_one old inside c.push.new.self.items n c.in_ok-add_in-in-Then.ensures pushed) h))
    c.add_in_cuts.ensures
