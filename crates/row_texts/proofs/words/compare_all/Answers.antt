use Rattle.std.proofs.Common.{◌^◌, ◌<◌, ◌≤◌, subst, arith}
use Rattle.net_model.proofs.WordWidths.{word_fits}
use Rattle.row_texts.proofs.WordCounts.{one_shift}
use Rattle.row_texts.proofs.words.compare_all.Goals as goal

pub compare_word-requires-clause-word : goal.compare_word-requires-clause-word
compare_word-requires-clause-word c =
    let few : c.word_bits.result ≤ 16 = omega (arith, c.word_bits.ensures, c.requires.few) in
    let below : c.loop-word.word < 2 ^ c.word_bits.result = subst (λ n. c.loop-word.word < n) (one_shift c.word_bits.result few) c.loop-word-test.true in
    word_fits c.args.checked.now.netlist c.loop-word.word c.netlist.ensures.kept.roles.code (subst (λ n. c.loop-word.word < 2 ^ n) c.word_bits.ensures below)
