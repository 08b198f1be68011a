use Rattle.std.proofs.lemmas.Result.{IfOk-from_err}
use Rattle.std.proofs.Common.{◌≡◌, None, ◌<◌, ◌^◌, ◌↔◌, not, true, sym, ◌∙◌, subst}
use Rattle.std.specs.List.{list_any}
use Rattle.net_model.specs.declared.hardware.Net.{Net}
use Rattle.net_model.specs.Clock.{gate_clashes}
use Rattle.bit_bdd.specs.Diagrams.{has_word}
use Rattle.net_model.specs.Transfers.{IsClean, clash_at}
use Rattle.net_model.proofs.WordWidths.{word_fits}
use Rattle.ctl_bdd.specs.Tables.{numbers_at}
use Rattle.ctl_bdd.proofs.Enables.{all_have, legal_is}
use Rattle.ctl_bdd.proofs.control.legal_words.Goals as goal

pub legal_set-requires-clause-enables : goal.legal_set-requires-clause-enables
legal_set-requires-clause-enables c =
    rw (c.as_slice-nets.ensures, c.netlist.ensures.value)
    (all_have c.args.checked.now.netlist c.args.book.now c.args.table.now c.requires.controls c.netlist.ensures.sound.typed c.netlist.ensures.sound.controlled)

pub returns-clause-legal : goal.returns-clause-legal
returns-clause-legal c word lt =
    let below : word < 2 ^ c.args.book.now.bits = subst (λ b. word < 2 ^ b) c.in_ok-legal.ensures.grows.bits lt in
    let words = c.in_ok-legal.ensures.words word in
    let told : has_word c.legal_set.new.book c.in_ok-legal.legal word ≡ not (list_any (λ (net : Net). gate_clashes (numbers_at c.args.book.now c.args.table.now word) net.gate) c.args.checked.now.netlist.nets) = rw (c.as_slice-nets.ensures, c.netlist.ensures.value) at words in
    let is : (not (list_any (λ (net : Net). gate_clashes (numbers_at c.args.book.now c.args.table.now word) net.gate) c.args.checked.now.netlist.nets) ≡ true) ↔ (clash_at c.args.checked.now.netlist word ≡ None) = legal_is c.args.checked.now.netlist c.args.book.now c.args.table.now c.requires.controls c.netlist.ensures.sound.typed c.netlist.ensures.sound.controlled word below in (
      λ e. record {
        fits = word_fits c.args.checked.now.netlist word c.netlist.ensures.kept.roles.code (subst (λ b. word < 2 ^ b) c.requires.width below);
        clean = is.0 (sym told ∙ e);
      },
      λ (e : IsClean c.args.checked.now.netlist word). told ∙ is.1 e.clean,
    )

pub returns-in_err-legal-clause-within : goal.returns-in_err-legal-clause-within
returns-in_err-legal-clause-within c = IfOk-from_err c.from_residual.result _ c.from_residual.ensures.0

pub returns-in_err-legal-clause-legal : goal.returns-in_err-legal-clause-legal
returns-in_err-legal-clause-legal c = IfOk-from_err c.from_residual.result _ c.from_residual.ensures.0
