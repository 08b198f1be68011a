use Rattle.std.proofs.Common.{◌≡◌, ◌-◌, length, take, drop, reverse, ap, ◌∙◌}
use Rattle.std.specs.List.{suffix_len}
use Rattle.std.proofs.lemmas.List.{take_rest}
use Rattle.std.proofs.lemmas.List.Folds.{length-prefix_len}
use Rattle.text_places.specs.Places.{is_inner}
use Rattle.text_places.proofs.places.line_before.Goals as goal

pub returns : goal.returns
returns c =
    let before : c.parts.result.0.now ≡ take c.args.at c.args.text.now = c.parts.ensures.before in
    let start : c.behind_last.result ≡ suffix_len is_inner (take c.args.at c.args.text.now) =
    c.behind_last.ensures ∙ length-prefix_len is_inner (reverse c.parts.result.0.now) ∙ ap (suffix_len is_inner) before in
    take_rest c.parts.result.0.now (length c.parts.result.0.now - c.behind_last.result)
    ∙ (λ j. drop (length (before j) - start j) (before j))
