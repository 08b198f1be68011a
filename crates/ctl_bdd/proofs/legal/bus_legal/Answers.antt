use Rattle.std.proofs.lemmas.Result.{IfOk-from_err}
use Rattle.std.proofs.Common.{◌+◌, ◌&&◌, ◌||◌, ◌==◌, [], ◌∷◌, cond, not, nat_lt, drop, get_or, sym, ap, ◌∙◌}
use Rattle.rec_bits.specs.Operators.{bit_of}
use Rattle.net_model.specs.Clock.{enabled_count}
use Rattle.bit_bdd.specs.Diagrams.{has_word}
use Rattle.bit_bdd.proofs.CallerLemmas.{same_words, extends_trans}
use Rattle.ctl_bdd.specs.Bits.{AreSets, number_at}
use Rattle.ctl_bdd.specs.Tables.{numbers_at, sets_at}
use Rattle.ctl_bdd.proofs.Clashes.{clash_step, counted, count_step}
use Rattle.ctl_bdd.proofs.legal.bus_legal.Goals as goal

pub returns-in_err-left-clause-grows : goal.returns-in_err-left-clause-grows
returns-in_err-left-clause-grows c = extends_trans c.args.book.now c.loop-driver.book c.add_driver.new.book c.loop-driver.invariant.grows c.in_err-left.ensures.grows

pub loop-driver-preserved : goal.loop-driver-preserved
loop-driver-preserved c =
    let sets : AreSets c.args.book.now (sets_at c.args.table.now (get_or c.args.drivers.now c.loop-driver.driver-index (0, 0)).1) = c.requires.table.sets _ in
    let within : AreSets c.args.book.now (c.set_of-enable.result ∷ []) = rw c.set_of-enable.ensures at sets in
    record {
      grows = extends_trans c.args.book.now c.loop-driver.book c.add_driver.new.book c.loop-driver.invariant.grows c.in_ok-left.ensures.grows;
      left_in = c.in_ok-left.ensures.legal_in;
      seen_in = c.in_ok-left.ensures.seen_in;
      words = λ word.
          let d = same_words c.args.book.now c.loop-driver.book c.loop-driver.invariant.grows c.set_of-enable.result within.0 word in
          let legal = c.in_ok-left.ensures.legal word ∙ (λ j. has_word c.loop-driver.book c.loop-driver.left word && not (has_word c.loop-driver.book c.loop-driver.seen word && d j)) in
          let seen = c.in_ok-left.ensures.seen word ∙ (λ j. has_word c.loop-driver.book c.loop-driver.seen word || d j) in
          let one = counted c.args.book.now c.set_of-enable.result word ∙ ap (λ sets. cond (number_at c.args.book.now sets word == 1) 1 0) (sym c.set_of-enable.ensures) in
          (λ j. legal j && not (nat_lt 1 (bit_of (seen j) + enabled_count (numbers_at c.args.book.now c.args.table.now word) (drop (c.loop-driver.driver-index + 1) c.args.drivers.now))))
          ∙ clash_step (has_word c.loop-driver.book c.loop-driver.left word) (has_word c.loop-driver.book c.loop-driver.seen word) (has_word c.args.book.now c.set_of-enable.result word) (enabled_count (numbers_at c.args.book.now c.args.table.now word) (drop (c.loop-driver.driver-index + 1) c.args.drivers.now))
          ∙ ap (λ k. has_word c.loop-driver.book c.loop-driver.left word && not (nat_lt 1 (bit_of (has_word c.loop-driver.book c.loop-driver.seen word) + k)))
          (ap (λ k. k + enabled_count (numbers_at c.args.book.now c.args.table.now word) (drop (c.loop-driver.driver-index + 1) c.args.drivers.now)) one
          ∙ count_step (numbers_at c.args.book.now c.args.table.now word) c.args.drivers.now c.loop-driver.driver-index (0, 0) c.loop-driver-test.true)
          ∙ c.loop-driver.invariant.words word;
    }

pub returns-in_err-left-clause-within : goal.returns-in_err-left-clause-within
returns-in_err-left-clause-within c = IfOk-from_err c.from_residual.result _ c.from_residual.ensures.0

pub returns-in_err-left-clause-words : goal.returns-in_err-left-clause-words
returns-in_err-left-clause-words c = IfOk-from_err c.from_residual.result _ c.from_residual.ensures.0
