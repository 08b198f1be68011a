use Rattle.std.proofs.Common.{sym, ap, ◌∙◌}
use Rattle.grammar.proofs.Steps.{token_reads}
use Rattle.grammar.proofs.Passing.{token_ended, token_missed}
use Rattle.grammar.specs.declared.words.Lexed.{Lexed}
use Rattle.grammar.specs.declared.words.Word.TheVariants.{Name}
use Rattle.grammar.proofs.Tokens.{there_name, name_token, same_name}
use Rattle.grammar.proofs.step.name.Goals as goal

pub returns-in_default : goal.returns-in_default
returns-in_default g c = token_ended there_name c.in_default.ensures

pub returns-in_default-word : goal.returns-in_default-word
returns-in_default-word g c = token_missed there_name c.in-Some.ensures (λ w h. c.in_default-word.not-Name w.name (ap (λ (t : Lexed g.row.S.Denot g.row.K.Denot). t.word) h))

pub returns : goal.returns
returns g c =
    let is = name_token c.in-Some.t.now c.in_ok-name.name (c.in-Name.is ∙ ap (λ n. Name n) (sym (c.in_ok-name.ensures ∙ c.as_slice.ensures))) in
    token_reads c.in-Some.ensures is (λ w h. same_name _ w (sym is ∙ h))
