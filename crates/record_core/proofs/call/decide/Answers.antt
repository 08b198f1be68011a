use Rattle.std.proofs.Common.{◌≡◌, List, ℕ, ◌+◌, ◌-◌, take, drop, ap, sym, ◌∙◌, arith, inl, inr}
use Rattle.std.proofs.lemmas.Result.{IfOk-weaker, IfErr-weaker}
use Rattle.std.specs.Prelude.{String}
use Rattle.std.specs.declared.alloc.Global.{Global}
use Rattle.record_core.specs.declared.words.Command.{Command}
use Rattle.record_core.specs.Inner.Fetch.{contents, FetchesPass}
use Rattle.record_core.specs.Answers.{AreFiles}
use Rattle.record_core.specs.Inner.Putting.{PutsAnswer}
use Rattle.record_core.specs.Inner.Refusals.{RefusesWords, status_of, text_of}
use Rattle.record_core.specs.Words.{texts_of, file_count, names_of}
use Rattle.record_core.specs.declared.status.Status.TheVariants.{Done}
use Rattle.record_core.proofs.AnswerLemmas.{answers_fetched, answers_stopped}
use Rattle.record_core.proofs.FetchLemmas.{files_short}
use Rattle.record_core.proofs.WordLemmas.{names_from}
use Rattle.record_core.proofs.call.decide.Goals as goal

-- the names that were fetched are those of the command
names_are : (command : Command) (words : List (String Global)) (n : ℕ) → n ≡ file_count command → texts_of (take (n + 1 - 1) (drop 1 words)) ≡ names_of command (texts_of words)
names_are command words n is = names_from (n + 1 - 1) words ∙ ap (λ (k : ℕ). take k (drop 1 (texts_of words))) (omega (arith, is))

pub put_for-requires-clause-short : goal.put_for-requires-clause-short
put_for-requires-clause-short g c = rw c.deref.ensures.value (files_short _ _ _ c.in-Ok.ensures.ok)

pub returns-in-Ok-clause-done : goal.returns-in-Ok-clause-done
returns-in-Ok-clause-done g c =
    let words = c.args.words.now in
    let command = c.in-Some.command in
    let before = g.F.Shelf.state c.args.shelf.now in
    let now = g.F.Shelf.state c.fetch_all.new.shelf in
    let names = texts_of (take (c.file_count.result + 1 - 1) (drop 1 words)) in
    let are : names ≡ names_of command (texts_of words) = names_are command words c.file_count.result c.file_count.ensures.count in
    let passes : FetchesPass names now = c.in-Ok.ensures.passed in
    let held : AreFiles before.files names (contents c.in-Ok.files.items) = c.in-Ok.ensures.ok in
    IfOk-weaker c.put_for.result _ (PutsAnswer (texts_of words) before now (g.S.Sink.state c.args.out.now) (g.S.Sink.state c.put_for.new.out))
    (λ put done. record {
      text = done.text;
      answers = answers_fetched (texts_of words) command before now (sym c.in-Some.ensures.command) (rw are at passes) (contents c.in-Ok.files.items) (rw are at held) Done done.text
          (rw c.deref.ensures.value at done.answers);
      puts = done.puts;
    })
    c.put_for.ensures.done

pub returns-in-Ok-clause-refused : goal.returns-in-Ok-clause-refused
returns-in-Ok-clause-refused g c =
    let words = c.args.words.now in
    let command = c.in-Some.command in
    let before = g.F.Shelf.state c.args.shelf.now in
    let now = g.F.Shelf.state c.fetch_all.new.shelf in
    let names = texts_of (take (c.file_count.result + 1 - 1) (drop 1 words)) in
    let are : names ≡ names_of command (texts_of words) = names_are command words c.file_count.result c.file_count.ensures.count in
    let passes : FetchesPass names now = c.in-Ok.ensures.passed in
    let held : AreFiles before.files names (contents c.in-Ok.files.items) = c.in-Ok.ensures.ok in
    IfErr-weaker c.put_for.result _ (RefusesWords (texts_of words) before now)
    (λ refusal why. record {
      answer = elim why [
        | inl memory ↦ inl memory
        | inr answers ↦ inr (answers_fetched (texts_of words) command before now (sym c.in-Some.ensures.command) (rw are at passes) (contents c.in-Ok.files.items) (rw are at held) (status_of refusal) (text_of (texts_of words) refusal)
            (rw c.deref.ensures.value at answers))
      ];
      fetches = inl c.in-Ok.ensures.calm;
    })
    c.put_for.ensures.refused

pub returns-in-Err-clause-refused : goal.returns-in-Err-clause-refused
returns-in-Err-clause-refused g c =
    let words = c.args.words.now in
    let command = c.in-Some.command in
    let before = g.F.Shelf.state c.args.shelf.now in
    let now = g.F.Shelf.state c.fetch_all.new.shelf in
    let are = names_are command words c.file_count.result c.file_count.ensures.count in
    let made = c.refused-in-Err.ensures in
    answers_stopped (texts_of words) command before now (sym c.in-Some.ensures.command) c.in-Err.status c.refused-in-Err.result
    (rw are at c.in-Err.ensures.stopped) made.line made.read
