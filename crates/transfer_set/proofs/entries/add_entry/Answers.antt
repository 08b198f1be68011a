use Rattle.std.proofs.lemmas.Result.{IfOk-from_err}
use Rattle.std.proofs.Common.{◌==◌, ◌&&◌, ◌++◌, [], ◌∷◌, sym, ◌∙◌}
use Rattle.bit_bdd.specs.Diagrams.{has_word}
use Rattle.transfer_set.specs.declared.entries.Entry.{Entry}
use Rattle.transfer_set.specs.Inner.Entries.{entry_transfer, list_if}
use Rattle.transfer_set.proofs.Collecting.{held_entries_later, held_entries_push, known_push, moves_later, moves_push, nothing, whole_later, whole_push, words_same}
use Rattle.transfer_set.proofs.entries.add_entry.Goals as goal

pub returns-in-None-clause-words : goal.returns-in-None-clause-words
returns-in-None-clause-words c = held_entries_later c.args.book.now c.and.new.self c.in_ok-set.ensures.grows c.args.out.now c.requires.words

pub returns-in-None-clause-moves : goal.returns-in-None-clause-moves
returns-in-None-clause-moves c pool id word =
    moves_later c.args.book.now c.and.new.self c.in_ok-set.ensures.grows pool c.args.out.now c.requires.words id word
    ∙ nothing _ (entry_transfer pool c.args.entry ∷ []) (c.args.entry.storage == id) _ (sym (c.in_ok-set.ensures.words word) ∙ c.in-None.ensures.none word)

pub returns-in-None-clause-whole : goal.returns-in-None-clause-whole
returns-in-None-clause-whole c netlist pool w is = whole_later c.args.book.now c.and.new.self c.in_ok-set.ensures.grows netlist pool c.args.out.now c.requires.words w

pub returns-in_ok-push-in-Some-clause-words : goal.returns-in_ok-push-in-Some-clause-words
returns-in_ok-push-in-Some-clause-words c =
    let x : Entry = record c.args.entry { set = c.in_ok-set.set } in
    rw c.in_ok-push-in-Some.ensures.pushed
    (held_entries_push c.and.new.self c.args.out.now x (held_entries_later c.args.book.now c.and.new.self c.in_ok-set.ensures.grows c.args.out.now c.requires.words)
    (record { within = c.in_ok-set.ensures.within; word = c.in-Some.field-0; fits = c.in-Some.ensures.within; holds = c.in-Some.ensures.some }))

pub returns-in_ok-push-in-Some-clause-moves : goal.returns-in_ok-push-in-Some-clause-moves
returns-in_ok-push-in-Some-clause-moves c pool id word =
    let x : Entry = record c.args.entry { set = c.in_ok-set.set } in
    let p = moves_later c.args.book.now c.and.new.self c.in_ok-set.ensures.grows pool c.args.out.now c.requires.words id word in
    let q = c.in_ok-set.ensures.words word in
    rw c.in_ok-push-in-Some.ensures.pushed
    (moves_push c.and.new.self pool c.args.out.now x id word
    ∙ (λ j. p j ++ list_if ((c.args.entry.storage == id) && q j) (entry_transfer pool c.args.entry ∷ [])))

pub returns-in_ok-push-in-Some-clause-whole : goal.returns-in_ok-push-in-Some-clause-whole
returns-in_ok-push-in-Some-clause-whole c netlist pool w is =
    let x : Entry = record c.args.entry { set = c.in_ok-set.set } in
    rw c.in_ok-push-in-Some.ensures.pushed
    (whole_push netlist pool c.and.new.self c.args.out.now x (whole_later c.args.book.now c.and.new.self c.in_ok-set.ensures.grows netlist pool c.args.out.now c.requires.words w)
    (words_same netlist c.args.book.now.bits c.and.new.self.bits c.args.entry.storage (entry_transfer pool c.args.entry)
    (λ word. has_word c.args.book.now c.args.on word && has_word c.args.book.now c.args.entry.set word) (λ word. has_word c.and.new.self c.in_ok-set.set word)
    c.in_ok-set.ensures.grows.bits c.in_ok-set.ensures.words is))

pub returns-in_ok-push-in-Some-clause-known : goal.returns-in_ok-push-in-Some-clause-known
returns-in_ok-push-in-Some-clause-known c size h a v =
    let x : Entry = record c.args.entry { set = c.in_ok-set.set } in
    rw c.in_ok-push-in-Some.ensures.pushed (known_push size c.args.out.now x h a v)

pub returns-in_err-push-in-Some-clause-words : goal.returns-in_err-push-in-Some-clause-words
returns-in_err-push-in-Some-clause-words c = IfOk-from_err c.from_residual-in_err-push-in-Some.result _ c.from_residual-in_err-push-in-Some.ensures.0

pub returns-in_err-push-in-Some-clause-moves : goal.returns-in_err-push-in-Some-clause-moves
returns-in_err-push-in-Some-clause-moves c = IfOk-from_err c.from_residual-in_err-push-in-Some.result _ c.from_residual-in_err-push-in-Some.ensures.0

pub returns-in_err-push-in-Some-clause-whole : goal.returns-in_err-push-in-Some-clause-whole
returns-in_err-push-in-Some-clause-whole c = IfOk-from_err c.from_residual-in_err-push-in-Some.result _ c.from_residual-in_err-push-in-Some.ensures.0

pub returns-in_err-push-in-Some-clause-known : goal.returns-in_err-push-in-Some-clause-known
returns-in_err-push-in-Some-clause-known c = IfOk-from_err c.from_residual-in_err-push-in-Some.result _ c.from_residual-in_err-push-in-Some.ensures.0

pub returns-in_err-set-clause-words : goal.returns-in_err-set-clause-words
returns-in_err-set-clause-words c = IfOk-from_err c.from_residual.result _ c.from_residual.ensures.0

pub returns-in_err-set-clause-moves : goal.returns-in_err-set-clause-moves
returns-in_err-set-clause-moves c = IfOk-from_err c.from_residual.result _ c.from_residual.ensures.0

pub returns-in_err-set-clause-whole : goal.returns-in_err-set-clause-whole
returns-in_err-set-clause-whole c = IfOk-from_err c.from_residual.result _ c.from_residual.ensures.0

pub returns-in_err-set-clause-known : goal.returns-in_err-set-clause-known
returns-in_err-set-clause-known c = IfOk-from_err c.from_residual.result _ c.from_residual.ensures.0
