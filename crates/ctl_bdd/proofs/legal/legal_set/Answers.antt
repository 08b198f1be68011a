use Rattle.std.proofs.lemmas.Result.{IfOk-from_err}
use Rattle.std.proofs.Common.{◌+◌, ◌&&◌, not, Bool, drop, ap, ◌∙◌}
use Rattle.std.specs.List.{list_any}
use Rattle.net_model.specs.declared.hardware.Net.{Net}
use Rattle.net_model.specs.Clock.{gate_clashes}
use Rattle.bit_bdd.specs.Diagrams.{has_word}
use Rattle.bit_bdd.proofs.CallerLemmas.{extends_trans}
use Rattle.ctl_bdd.specs.Tables.{numbers_at}
use Rattle.ctl_bdd.proofs.Filling.{table_later}
use Rattle.ctl_bdd.proofs.Clashes.{gate_step, any_step, numbers_later}
use Rattle.ctl_bdd.proofs.legal.legal_set.Goals as goal

pub returns-in_err-legal-clause-grows : goal.returns-in_err-legal-clause-grows
returns-in_err-legal-clause-grows c = extends_trans c.args.book.now c.loop-net.book c.gate_legal.new.book c.loop-net.invariant.grows c.in_err-legal.ensures.grows

pub gate_legal-requires-clause-table : goal.gate_legal-requires-clause-table
gate_legal-requires-clause-table c = table_later c.args.book.now c.loop-net.book c.loop-net.invariant.grows c.args.table.now c.requires.table

pub loop-net-preserved : goal.loop-net-preserved
loop-net-preserved c = record {
  grows = extends_trans c.args.book.now c.loop-net.book c.gate_legal.new.book c.loop-net.invariant.grows c.in_ok-legal.ensures.grows;
  within = c.in_ok-legal.ensures.within;
  words = λ word.
      let f : Net → Bool = λ net. gate_clashes (numbers_at c.args.book.now c.args.table.now word) net.gate in
      let v = numbers_later c.args.book.now c.loop-net.book c.loop-net.invariant.grows c.args.table.now c.requires.table word in
      let here = c.in_ok-legal.ensures.words word ∙ (λ j. has_word c.loop-net.book c.loop-net.legal word && not (gate_clashes (v j) (c.net-item.is j).gate)) in
      (λ j. here j && not (list_any f (drop (c.loop-net.net-index + 1) c.args.nets.now)))
      ∙ gate_step _ _ _
      ∙ ap (λ b. has_word c.loop-net.book c.loop-net.legal word && not b) (any_step f c.args.nets.now c.loop-net.net-index c.net-item.result c.loop-net-test.true)
      ∙ c.loop-net.invariant.words word;
}

pub returns-in_err-legal-clause-within : goal.returns-in_err-legal-clause-within
returns-in_err-legal-clause-within c = IfOk-from_err c.from_residual.result _ c.from_residual.ensures.0

pub returns-in_err-legal-clause-words : goal.returns-in_err-legal-clause-words
returns-in_err-legal-clause-words c = IfOk-from_err c.from_residual.result _ c.from_residual.ensures.0
