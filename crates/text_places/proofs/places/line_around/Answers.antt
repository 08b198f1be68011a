use Rattle.std.proofs.Common.{◌≡◌, ◌+◌, ◌-◌, ◌≤◌, length, take, drop, reverse, ap, sym, ◌∙◌, arith}
use Rattle.std.specs.List.{prefix_len, suffix_len}
use Rattle.std.proofs.lemmas.List.{length-reverse, take-append-drop}
use Rattle.std.proofs.lemmas.List.Sums.{prefix_len-le-length}
use Rattle.std.proofs.lemmas.List.Folds.{length-prefix_len}
use Rattle.text_places.specs.Places.{is_inner}
use Rattle.text_places.proofs.LineLemmas.{around}
use Rattle.text_places.proofs.places.line_around.Goals as goal

pub returns : goal.returns
returns c =
    let text = c.args.text.now in
    let b = take c.args.at text in
    let d = drop c.args.at text in
    let before : c.parts.result.0.now ≡ b = c.parts.ensures.before in
    let start : c.behind_last.result ≡ suffix_len is_inner b =
    c.behind_last.ensures ∙ length-prefix_len is_inner (reverse c.parts.result.0.now) ∙ ap (suffix_len is_inner) before in
    let end : c.before_first.result ≡ prefix_len is_inner d =
    c.before_first.ensures ∙ length-prefix_len is_inner c.parts.result.1.now ∙ ap (prefix_len is_inner) c.parts.ensures.behind in
    let few : suffix_len is_inner b ≤ length b = omega (arith, prefix_len-le-length is_inner (reverse b), length-reverse b) in
    (λ j. take (length (before j) + end j - (length (before j) - start j)) (drop (length (before j) - start j) text))
    ∙ around b d text (suffix_len is_inner b) (prefix_len is_inner d) (sym (take-append-drop c.args.at text)) few
