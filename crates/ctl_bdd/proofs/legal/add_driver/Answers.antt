use Rattle.std.proofs.lemmas.Result.{IfOk-from_err}
use Rattle.std.proofs.Common.{◌&&◌, ◌||◌, not, ◌∙◌}
use Rattle.bit_bdd.specs.Diagrams.{has_word}
use Rattle.bit_bdd.proofs.CallerLemmas.{same_words, extends_trans, still_within}
use Rattle.ctl_bdd.proofs.legal.add_driver.Goals as goal

pub or-requires-clause-a : goal.or-requires-clause-a
or-requires-clause-a c = still_within c.args.book.now c.not.new.self (extends_trans c.args.book.now c.and.new.self c.not.new.self c.in_ok-both.ensures.grows c.in_ok-apart.ensures.grows) c.args.seen c.requires.seen

pub or-requires-clause-b : goal.or-requires-clause-b
or-requires-clause-b c = still_within c.args.book.now c.not.new.self (extends_trans c.args.book.now c.and.new.self c.not.new.self c.in_ok-both.ensures.grows c.in_ok-apart.ensures.grows) c.args.driver c.requires.driver

pub and-requires-2-clause-a : goal.and-requires-2-clause-a
and-requires-2-clause-a c = still_within c.args.book.now c.or.new.self (extends_trans c.args.book.now c.not.new.self c.or.new.self (extends_trans c.args.book.now c.and.new.self c.not.new.self c.in_ok-both.ensures.grows c.in_ok-apart.ensures.grows) c.in_ok-more.ensures.grows) c.args.legal c.requires.legal

pub and-requires-2-clause-b : goal.and-requires-2-clause-b
and-requires-2-clause-b c = still_within c.not.new.self c.or.new.self c.in_ok-more.ensures.grows c.in_ok-apart.apart c.in_ok-apart.ensures.within

pub returns-in_err-apart-clause-grows : goal.returns-in_err-apart-clause-grows
returns-in_err-apart-clause-grows c = extends_trans c.args.book.now c.and.new.self c.not.new.self c.in_ok-both.ensures.grows c.in_err-apart.ensures.grows

pub returns-in_err-more-clause-grows : goal.returns-in_err-more-clause-grows
returns-in_err-more-clause-grows c = extends_trans c.args.book.now c.not.new.self c.or.new.self (extends_trans c.args.book.now c.and.new.self c.not.new.self c.in_ok-both.ensures.grows c.in_ok-apart.ensures.grows) c.in_err-more.ensures.grows

pub returns-in_err-left-clause-grows : goal.returns-in_err-left-clause-grows
returns-in_err-left-clause-grows c = extends_trans c.args.book.now c.or.new.self c.and-2.new.self (extends_trans c.args.book.now c.not.new.self c.or.new.self (extends_trans c.args.book.now c.and.new.self c.not.new.self c.in_ok-both.ensures.grows c.in_ok-apart.ensures.grows) c.in_ok-more.ensures.grows) c.in_err-left.ensures.grows

pub returns-clause-grows : goal.returns-clause-grows
returns-clause-grows c = extends_trans c.args.book.now c.or.new.self c.and-2.new.self (extends_trans c.args.book.now c.not.new.self c.or.new.self (extends_trans c.args.book.now c.and.new.self c.not.new.self c.in_ok-both.ensures.grows c.in_ok-apart.ensures.grows) c.in_ok-more.ensures.grows) c.in_ok-left.ensures.grows

pub returns-clause-seen_in : goal.returns-clause-seen_in
returns-clause-seen_in c = still_within c.or.new.self c.and-2.new.self c.in_ok-left.ensures.grows c.in_ok-more.more c.in_ok-more.ensures.within

pub returns-clause-legal : goal.returns-clause-legal
returns-clause-legal c word =
    let one = extends_trans c.args.book.now c.and.new.self c.not.new.self c.in_ok-both.ensures.grows c.in_ok-apart.ensures.grows in
    let all = extends_trans c.args.book.now c.not.new.self c.or.new.self one c.in_ok-more.ensures.grows in
    let l = same_words c.args.book.now c.or.new.self all c.args.legal c.requires.legal word in
    let a = same_words c.not.new.self c.or.new.self c.in_ok-more.ensures.grows c.in_ok-apart.apart c.in_ok-apart.ensures.within word ∙ c.in_ok-apart.ensures.words word in
    let b = c.in_ok-both.ensures.words word in
    c.in_ok-left.ensures.words word ∙ (λ j. l j && a j) ∙ (λ j. has_word c.args.book.now c.args.legal word && not (b j))

pub returns-clause-seen : goal.returns-clause-seen
returns-clause-seen c word =
    let one = extends_trans c.args.book.now c.and.new.self c.not.new.self c.in_ok-both.ensures.grows c.in_ok-apart.ensures.grows in
    let s = same_words c.args.book.now c.not.new.self one c.args.seen c.requires.seen word in
    let d = same_words c.args.book.now c.not.new.self one c.args.driver c.requires.driver word in
    same_words c.or.new.self c.and-2.new.self c.in_ok-left.ensures.grows c.in_ok-more.more c.in_ok-more.ensures.within word ∙ c.in_ok-more.ensures.words word ∙ (λ j. s j || d j)

pub returns-in_err-apart-clause-legal_in : goal.returns-in_err-apart-clause-legal_in
returns-in_err-apart-clause-legal_in c = IfOk-from_err c.from_residual-in_err-apart.result _ c.from_residual-in_err-apart.ensures.0

pub returns-in_err-apart-clause-seen_in : goal.returns-in_err-apart-clause-seen_in
returns-in_err-apart-clause-seen_in c = IfOk-from_err c.from_residual-in_err-apart.result _ c.from_residual-in_err-apart.ensures.0

pub returns-in_err-apart-clause-legal : goal.returns-in_err-apart-clause-legal
returns-in_err-apart-clause-legal c = IfOk-from_err c.from_residual-in_err-apart.result _ c.from_residual-in_err-apart.ensures.0

pub returns-in_err-apart-clause-seen : goal.returns-in_err-apart-clause-seen
returns-in_err-apart-clause-seen c = IfOk-from_err c.from_residual-in_err-apart.result _ c.from_residual-in_err-apart.ensures.0

pub returns-in_err-both-clause-legal_in : goal.returns-in_err-both-clause-legal_in
returns-in_err-both-clause-legal_in c = IfOk-from_err c.from_residual.result _ c.from_residual.ensures.0

pub returns-in_err-both-clause-seen_in : goal.returns-in_err-both-clause-seen_in
returns-in_err-both-clause-seen_in c = IfOk-from_err c.from_residual.result _ c.from_residual.ensures.0

pub returns-in_err-both-clause-legal : goal.returns-in_err-both-clause-legal
returns-in_err-both-clause-legal c = IfOk-from_err c.from_residual.result _ c.from_residual.ensures.0

pub returns-in_err-both-clause-seen : goal.returns-in_err-both-clause-seen
returns-in_err-both-clause-seen c = IfOk-from_err c.from_residual.result _ c.from_residual.ensures.0

pub returns-in_err-left-clause-legal_in : goal.returns-in_err-left-clause-legal_in
returns-in_err-left-clause-legal_in c = IfOk-from_err c.from_residual-in_err-left.result _ c.from_residual-in_err-left.ensures.0

pub returns-in_err-left-clause-seen_in : goal.returns-in_err-left-clause-seen_in
returns-in_err-left-clause-seen_in c = IfOk-from_err c.from_residual-in_err-left.result _ c.from_residual-in_err-left.ensures.0

pub returns-in_err-left-clause-legal : goal.returns-in_err-left-clause-legal
returns-in_err-left-clause-legal c = IfOk-from_err c.from_residual-in_err-left.result _ c.from_residual-in_err-left.ensures.0

pub returns-in_err-left-clause-seen : goal.returns-in_err-left-clause-seen
returns-in_err-left-clause-seen c = IfOk-from_err c.from_residual-in_err-left.result _ c.from_residual-in_err-left.ensures.0

pub returns-in_err-more-clause-legal_in : goal.returns-in_err-more-clause-legal_in
returns-in_err-more-clause-legal_in c = IfOk-from_err c.from_residual-in_err-more.result _ c.from_residual-in_err-more.ensures.0

pub returns-in_err-more-clause-seen_in : goal.returns-in_err-more-clause-seen_in
returns-in_err-more-clause-seen_in c = IfOk-from_err c.from_residual-in_err-more.result _ c.from_residual-in_err-more.ensures.0

pub returns-in_err-more-clause-legal : goal.returns-in_err-more-clause-legal
returns-in_err-more-clause-legal c = IfOk-from_err c.from_residual-in_err-more.result _ c.from_residual-in_err-more.ensures.0

pub returns-in_err-more-clause-seen : goal.returns-in_err-more-clause-seen
returns-in_err-more-clause-seen c = IfOk-from_err c.from_residual-in_err-more.result _ c.from_residual-in_err-more.ensures.0
