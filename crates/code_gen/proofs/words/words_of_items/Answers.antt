use Rattle.std.proofs.lemmas.Result.{IfOk-from_err}
use Rattle.std.proofs.Common.{◌++◌, [], ◌∷◌, get_or, subst, sym, take}
use Rattle.std.proofs.lemmas.List.{take_more}
use Rattle.bit_bdd.proofs.CallerLemmas.{extends_trans}
use Rattle.branch_fix.specs.declared.laid.Item.TheVariants.{Group}
use Rattle.form_model.specs.Live.{regs_of}
use Rattle.code_gen.specs.Inner.Coded.{AreItemWords}
use Rattle.code_gen.specs.Machines.{known_netlist, known_patterns}
use Rattle.code_gen.proofs.Listing.{words_more}
use Rattle.code_gen.proofs.words.words_of_items.Goals as goal

pub loop-item-preserved : goal.loop-item-preserved
loop-item-preserved c =
    let netlist = known_netlist c.args.known.now in
    let patterns = known_patterns c.args.known.now in
    let blocks = c.args.blocks.now in
    let kept = regs_of c.args.kept in
    let items = c.args.items.now in
    let at = c.loop-item.item-index in
    let front = take at items in
    let item = get_or items at (Group 0 0) in
    record {
      grows = extends_trans c.args.book.now c.loop-item.book c.word_of_item.new.book c.loop-item.invariant.grows c.word_of_item.ensures.grows;
      ready = c.word_of_item.ensures.ready;
      words =
          subst (λ list. AreItemWords netlist patterns kept blocks list c.push.new.self) (sym (take_more items at (Group 0 0) c.loop-item-test.true))
          (subst (AreItemWords netlist patterns kept blocks (front ++ item ∷ [])) (sym c.in_ok-push.ensures.pushed)
          (words_more netlist patterns kept blocks front c.loop-item.words item c.in_ok-word.word c.loop-item.invariant.words c.in_ok-word.ensures.word));
    }

pub returns-in_err-push-clause-words : goal.returns-in_err-push-clause-words
returns-in_err-push-clause-words c = IfOk-from_err c.from_residual-in_err-push.result _ c.from_residual-in_err-push.ensures.0

pub returns-in_err-word-clause-words : goal.returns-in_err-word-clause-words
returns-in_err-word-clause-words c = IfOk-from_err c.from_residual.result _ c.from_residual.ensures.0

pub returns-in_err-word-clause-grows : goal.returns-in_err-word-clause-grows
returns-in_err-word-clause-grows c = extends_trans c.args.book.now c.loop-item.book c.word_of_item.new.book c.loop-item.invariant.grows c.word_of_item.ensures.grows

pub returns-in_err-push-clause-grows : goal.returns-in_err-push-clause-grows
returns-in_err-push-clause-grows c = extends_trans c.args.book.now c.loop-item.book c.word_of_item.new.book c.loop-item.invariant.grows c.word_of_item.ensures.grows
