-- What the words answer, by how the fetches end.
use Rattle.std.proofs.Common.{◌≡◌, ℕ, ◌⊎◌, List, [], ◌∷◌, Some, inl, inr, refl, sym, ap, subst, arith, ◌∙◌}
use Rattle.rec_io.specs.Shelf.{ShelfState, NoFetchFailed}
use Rattle.rec_io.specs.Sink.{SinkState}
use Rattle.record_core.proofs.StageLemmas.{By-none}
use Rattle.record_core.specs.Answers.{Answers, FetchesTold, IsAnswer, MayAnswer, TextAnswers, IsFileReadFault, IsFileTooLong, AreFiles, netlist_in}
use Rattle.record_core.specs.Inner.Fetch.{FetchStops, FetchesPass}
use Rattle.record_core.specs.Inner.Refusals.{IsRefusal, RefusesText, RefusesWords, text_of}
use Rattle.record_core.specs.Lines.{due_line}
use Rattle.record_core.specs.Words.{command_of, names_of}
use Rattle.record_core.specs.declared.refusal.Refusal.{Refusal}
use Rattle.record_core.specs.declared.refusal.Refusal.TheVariants.{Read}
use Rattle.record_core.specs.declared.status.Status.{Status}
use Rattle.record_core.specs.declared.status.Status.TheVariants.{Memory, ReadFault, TooLong}
use Rattle.record_core.specs.declared.words.Command.{Command}
use Rattle.record_core.specs.declared.stop.Told.{Told}
use Rattle.record_core.specs.declared.stop.Told.TheVariants.{Nothing}

no_read_fault : (names : List (List ℕ)) (before now : ShelfState) → FetchesPass names now → (file : ℕ) → IsFileReadFault names before now file → ⊥
no_read_fault [] before now passes file fault = let p = fault.place in absurd cc
no_read_fault (name ∷ names) before now passes file fault = let a = (passes (omega arith)).ended in let b = fault.failed in cc

no_long_file : (names : List (List ℕ)) (before now : ShelfState) → FetchesPass names now → (at : ℕ × ℕ) → IsFileTooLong names before now at → ⊥
no_long_file [] before now passes at long = let p = long.place in absurd cc
no_long_file (name ∷ names) before now passes at long = let a = (passes (omega arith)).short in let b = long.bound in let c = long.above in omega arith

-- ---- refusals, made of their status and the line that is due

-- of what words ask for
pub words_refused : (words : List (List ℕ)) (net : List ℕ) (told : Told) (before now : ShelfState) (status : Status) (refusal : Refusal) → NoFetchFailed before now
    → MayAnswer words before now status (due_line words net told status) → IsRefusal words net told status refusal → RefusesWords words before now refusal
words_refused words net told before now status refusal calm due (inl memory) = rw memory (record { answer = inl (refl, refl); fetches = inl calm })
words_refused words net told before now status refusal calm due (inr (is, text)) = record {
  answer = subst (λ (s : Status). MayAnswer words before now s (text_of words refusal)) (sym is) (subst (λ (t : List ℕ). MayAnswer words before now status t) (sym text) due);
  fetches = inl calm;
}

-- of a command over its files
pub text_refused : (words : List (List ℕ)) (net : List ℕ) (told : Told) (line : Told → Status → List ℕ) (command : Command) (files : List (List ℕ)) (status : Status) (refusal : Refusal)
    → (status ≡ Memory) ⊎ TextAnswers line command files status (due_line words net told status) → IsRefusal words net told status refusal → RefusesText words line command files refusal
text_refused words net told line command files status refusal due (inl memory) = rw memory (inl (refl, refl))
text_refused words net told line command files status refusal (inl memory) (inr (is, text)) = inl (is ∙ memory, text ∙ ap (due_line words net told) memory)
text_refused words net told line command files status refusal (inr answers) (inr (is, text)) =
    inr (subst (λ (s : Status). TextAnswers line command files s (text_of words refusal)) (sym is) (subst (λ (t : List ℕ). TextAnswers line command files status t) (sym text) answers))

-- ---- fetches

module _ (words : List (List ℕ)) (command : Command) (before now : ShelfState) (is : command_of words ≡ Some command) where
  -- the fetches passed, so the words answer what the command does on the files
  pub answers_fetched : FetchesPass (names_of command words) now → (files : List (List ℕ)) → AreFiles before.files (names_of command words) files
      → (status : Status) (text : List ℕ) → TextAnswers (due_line words (netlist_in command files)) command files status text → Answers words before now status text
  answers_fetched passes files are status text answers =
      rw is (
      inr (
        By-none ReadFault (IsFileReadFault (names_of command words) before now) (no_read_fault (names_of command words) before now passes),
        inr (
          By-none (λ (p : ℕ × ℕ). TooLong p.0 p.1) (IsFileTooLong (names_of command words) before now) (no_long_file (names_of command words) before now passes),
          (files, are, answers),
        ),
      ))

  -- a fetch stopped, and that is what the words answer
  pub answers_stopped : (status : Status) (refusal : Refusal) → FetchStops (names_of command words) before now status → IsRefusal words [] Nothing status refusal
      → ((file : ℕ) → status ≡ ReadFault file → refusal ≡ Read file) → RefusesWords words before now refusal
  answers_stopped status refusal (inl (memory, none)) made read =
      words_refused words [] Nothing before now status refusal (inr none) (inl (memory, ap (due_line words [] Nothing) memory)) made
  answers_stopped status refusal (inr (inl (why, last))) made read =
      rw (read why.0 why.2) (record {
        answer = inr (rw is (inl ((why.0, why.1, refl), refl)));
        fetches = inr (last, (why.0, refl));
      })
  answers_stopped status refusal (inr (inr (long, none))) made read =
      words_refused words [] Nothing before now status refusal (inr none) (inr (
      rw is
      (inr (By-none ReadFault (IsFileReadFault (names_of command words) before now) (λ file fault. let a = fault.failed in let b = long.1.ended in absurd cc), inl (long, refl))))) made

-- ---- what is given

-- a fetch that failed is told
pub told_of : (words : List (List ℕ)) (before now : ShelfState) (old new : SinkState) (result : Status) → IsAnswer words before now old new result → FetchesTold before now result
told_of words before now old new result gives = elim gives.fetches [
  | inl calm ↦ inl calm
  | inr (last, (file, is)) ↦ elim gives.put [
    | inl whole ↦ inr (last, inl (file, whole.0 ∙ is))
    | inr part ↦ inr (last, inr part.0)
  ]
]
