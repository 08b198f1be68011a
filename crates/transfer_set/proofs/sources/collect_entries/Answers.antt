use Rattle.std.proofs.lemmas.Result.{IfOk-from_err}
use Rattle.std.proofs.Common.{◌≡◌, ◌^◌, ◌<◌, ◌≤◌, ◌==◌, ◌&&◌, ◌++◌, length, sym, subst, ◌∙◌, arith}
use Rattle.bit_bdd.specs.Diagrams.{has_word}
use Rattle.bit_bdd.proofs.CallerLemmas.{extends_trans, same_words}
use Rattle.net_model.proofs.KeptRules.{few_storages}
use Rattle.net_model.specs.Transfers.{transfer_at}
use Rattle.transfer_set.specs.Inner.Entries.{list_if}
use Rattle.transfer_set.specs.Inner.Sources.{changes}
use Rattle.transfer_set.proofs.Finding.{each_is, every_is}
use Rattle.transfer_set.proofs.Feeding.{past, source_later, upto}
use Rattle.transfer_set.proofs.sources.collect_entries.Goals as goal

pub overflow_cast-count : goal.overflow_cast-count
overflow_cast-count c =
    let few : length c.args.source.now.checked.now.netlist.storages ≤ 15 = few_storages c.args.source.now.checked.now.netlist c.args.source.now.checked.now.order c.netlist.ensures.kept in
    let e : c.len-count.result ≡ length c.args.source.now.checked.now.netlist.storages = rw c.netlist.ensures.value at c.len-count.ensures in
    omega (arith, few, e)

pub add_storage-requires-clause-source : goal.add_storage-requires-clause-source
add_storage-requires-clause-source c =
    source_later c.args.source.now.checked.now.netlist c.args.book.now c.loop-id.book c.loop-id.invariant.grows c.args.source.now.pool.now c.args.source.now.controls.now c.args.source.now.routes.now.of c.requires.source

pub loop-id-preserved : goal.loop-id-preserved
loop-id-preserved c =
    let grows = c.loop-id.invariant.grows in
    record {
      grows = extends_trans c.args.book.now c.loop-id.book c.add_storage.new.book grows c.in_ok-add_storage.ensures.grows;
      words = c.in_ok-add_storage.ensures.words;
      moves = λ n word fits.
          let same = same_words c.args.book.now c.loop-id.book grows c.args.source.now.controls.now.legal c.requires.source.within word in
          let so_far = c.loop-id.invariant.moves n word fits in
          c.in_ok-add_storage.ensures.moves n word (subst (λ b. word < 2 ^ b) (sym grows.bits) fits)
          ∙ (λ j. so_far j ++ list_if ((c.loop-id.id == n) && same j) (changes (transfer_at c.args.source.now.checked.now.netlist word c.loop-id.id)))
          ∙ upto c.loop-id.id n (has_word c.args.book.now c.args.source.now.controls.now.legal word) (λ m. changes (transfer_at c.args.source.now.checked.now.netlist word m));
      whole = c.in_ok-add_storage.ensures.whole c.loop-id.invariant.whole;
      known = c.in_ok-add_storage.ensures.known c.loop-id.invariant.known;
    }

pub returns-clause-moves : goal.returns-clause-moves
returns-clause-moves c n word fits =
    let e : c.len-count.result ≡ length c.args.source.now.checked.now.netlist.storages = rw c.netlist.ensures.value at c.len-count.ensures in
    c.loop-id.invariant.moves n word fits
    ∙ past c.args.source.now.checked.now.netlist word n c.loop-id.id (has_word c.args.book.now c.args.source.now.controls.now.legal word) (omega (arith, e, c.loop-id-test.false))

pub returns-clause-each : goal.returns-clause-each
returns-clause-each c = each_is c.args.source.now.checked.now.netlist c.loop-id.book c.args.source.now.pool.now c.loop-id.out c.loop-id.invariant.words c.loop-id.invariant.whole

pub returns-clause-every : goal.returns-clause-every
returns-clause-every c =
    let e : c.len-count.result ≡ length c.args.source.now.checked.now.netlist.storages = rw c.netlist.ensures.value at c.len-count.ensures in
    every_is c.args.source.now.checked.now.netlist c.args.source.now.checked.now.order c.netlist.ensures.kept c.args.book.now c.loop-id.book c.args.source.now.pool.now c.args.source.now.controls.now.legal c.loop-id.out c.requires.bits
    (λ pattern i fits w. (c.requires.source.legal i fits).1 w.clean)
    (λ n word fits. c.loop-id.invariant.moves n word fits
    ∙ past c.args.source.now.checked.now.netlist word n c.loop-id.id (has_word c.args.book.now c.args.source.now.controls.now.legal word) (omega (arith, e, c.loop-id-test.false)))

pub returns-in_err-add_storage-clause-words : goal.returns-in_err-add_storage-clause-words
returns-in_err-add_storage-clause-words c = IfOk-from_err c.from_residual.result _ c.from_residual.ensures.0

pub returns-in_err-add_storage-clause-moves : goal.returns-in_err-add_storage-clause-moves
returns-in_err-add_storage-clause-moves c = IfOk-from_err c.from_residual.result _ c.from_residual.ensures.0

pub returns-in_err-add_storage-clause-whole : goal.returns-in_err-add_storage-clause-whole
returns-in_err-add_storage-clause-whole c = IfOk-from_err c.from_residual.result _ c.from_residual.ensures.0

pub returns-in_err-add_storage-clause-known : goal.returns-in_err-add_storage-clause-known
returns-in_err-add_storage-clause-known c = IfOk-from_err c.from_residual.result _ c.from_residual.ensures.0

pub returns-in_err-add_storage-clause-each : goal.returns-in_err-add_storage-clause-each
returns-in_err-add_storage-clause-each c = IfOk-from_err c.from_residual.result _ c.from_residual.ensures.0

pub returns-in_err-add_storage-clause-every : goal.returns-in_err-add_storage-clause-every
returns-in_err-add_storage-clause-every c = IfOk-from_err c.from_residual.result _ c.from_residual.ensures.0
