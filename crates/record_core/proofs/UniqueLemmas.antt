-- Statuses that apply agree, and what follows.
use Rattle.std.proofs.Common.{◌≡◌, ℕ, ◌+◌, ◌<◌, ◌⊎◌, List, [], ◌∷◌, Bool, true, false, cond, length, Some, None, IsSome, IsSomeAnd, refl, sym, ap, subst, ◌∙◌, inl, inr, rules, arith}
use Rattle.std.proofs.lemmas.Slice.Eq.{bytes_eq-Decides}
use Rattle.std.specs.Str.{bytes_eq}
use Rattle.std.specs.declared.option.Option.{Option}
use Rattle.net_parser.proofs.TextFaults.{one_net_fault}
use Rattle.net_front.proofs.TakenLaws.{one_broken_for}
use Rattle.net_front.specs.Taken.{BreaksTaken, HasNoBank, IsLater, added_role, unbanked_role}
use Rattle.src_parser.proofs.TextFaults.{one_src_fault}
use Rattle.isa_extract.specs.Extracts.{IsExtracted, extracted_edition}
use Rattle.net_model.specs.declared.fault.NetFault.{NetFault}
use Rattle.isa_extract.proofs.RoutedTaken.{one_broken_any_taken, one_broken_of_any}
use Rattle.isa_extract.specs.Taken.{BreaksAnyBanked}
use Rattle.job_gen.specs.NetText.{net_text as job_netlist}
use Rattle.job_gen.specs.SrcText.{src_text as job_program}
use Rattle.check_command.specs.Checked.{BreaksCheckedSrc, BreaksImageRule}
use Rattle.check_command.specs.Tasks.{checked_edition}
use Rattle.check_command.proofs.CheckLaws.{one_broken_rule, one_broken_src, one_no_image}
use Rattle.compile_command.specs.Code.{IsDataFull, IsWithin}
use Rattle.compile_command.specs.Compiled.{BreaksSrc, IsCompiled}
use Rattle.compile_command.specs.Tasks.{TaskHolds, compiled_edition}
use Rattle.code_gen.specs.Refusals.{IsBeyondReach, IsImageTooLong as HasLongImage}
use Rattle.right_code.specs.Covered.{HasBareTree}
use Rattle.right_code.specs.Tasks.{Property}
use Rattle.src_model.specs.declared.fault.SrcFault.{SrcFault}
use Rattle.dual_command.specs.Code.{IsDualFull, IsDualWithin}
use Rattle.dual_command.specs.Compiled.{BreaksDualSrc, IsDualCompiled}
use Rattle.dual_command.specs.Tasks.{DualHolds, ViewHolds}
use Rattle.dual_command.proofs.DualLemmas.{one_no_part, one_beyond as one_dual_beyond, one_broken as one_dual_broken, one_full as one_dual_full, one_limit as one_dual_limit, one_uncovered as one_dual_uncovered}
use Rattle.make_command.specs.Summaries.{IsSummary}
use Rattle.compile_command.proofs.TaskLemmas.{one_beyond, one_broken, one_full, one_limit, one_uncovered}
use Rattle.run_command.proofs.RunLaws.{one_image_fault, one_memory_fault, one_clash, no_clash_shown}
use Rattle.run_command.specs.Runs.{ClashedAt, run_edition}
use Rattle.asm_command.proofs.AsmLaws.{one_text_fault, one_wordless}
use Rattle.asm_command.specs.Assembled.{IsAssembled}
use Rattle.asm_command.specs.Disassembled.{IsDisassembled}
use Rattle.explain_command.specs.Explained.{explained_edition, IsExplained}
use Rattle.test_command.proofs.TestLaws.{one_full as one_test_full, one_limit as one_test_limit, one_too_long}
use Rattle.test_command.specs.Texts.{tested_edition}
use Rattle.rec_io.specs.Causes.{Rose}
use Rattle.rec_io.specs.Files.{Files, file_of}
use Rattle.rec_io.specs.Shelf.{ShelfState}
use Rattle.rec_io.specs.Sink.{SinkState}
use Rattle.record_core.proofs.CompileLemmas.{done_within}
use Rattle.record_core.proofs.BothLemmas.{dual_within}
use Rattle.record_core.proofs.TuneLemmas.{tuned_done}
use Rattle.record_core.proofs.GoLemmas.{one_lack}
use Rattle.record_core.proofs.NetLemmas.{NetStages-alike}
use Rattle.asm_command.specs.Machines.{assembled_edition}
use Rattle.record_core.proofs.StageLemmas.{AllAlike, AtMostOne, By-unique, Then-alike, Just-unique}
use Rattle.record_core.specs.Answers.{AnswersAgree, Answers, AsmAnswers, CheckAnswers, CheckEnds, DisAnswers, FilesAnswer, CanCompile, CanDual, CanTune, AreOfImages, AreOfTests, CodeAnswers, CodeEnds, CoverAnswers, DualAnswers, ExtractAnswers, FormAnswers, IsAskedOf, RoomAnswers, SourceAnswers, TuneAnswers, TuneEnds, IsOfCheck, IsOfTune, WatchAnswers, netlist_in, RunEnds, RunAnswers, TestAnswers, TestEnds, TextAnswers, CommandAnswers, file_at, file_limit, place_from, AreFiles, IsFileReadFault, IsFileTooLong, IsFile, IsAnswer, IsExact, IsAccepted}
use Rattle.record_core.specs.Lines.{due_line}
use Rattle.record_core.specs.Stages.{Then, ThenTelling}
use Rattle.record_core.specs.Watching.{IsWatched}
use Rattle.record_core.specs.Words.{command_of, names_of}
use Rattle.record_core.specs.declared.words.Command.{Command}
use Rattle.record_core.specs.declared.words.Command.TheVariants.{Compile, Extract, Run, Go, Make, Asm, Dis, Test, Explain, Tune, Dual, Check}
use Rattle.record_core.specs.declared.status.Status.{Status}
use Rattle.record_core.specs.declared.status.Status.TheVariants.{Done, Usage, ReadFault, TooLong, NetText, Net, SrcText, Src, NoStep, NoJump, NoCover, DataFull, NoReach, ImageFull, ImageText, MemText, Clash, AsmText, AsmWord, PartText, Rule, Memory}
use Rattle.record_core.specs.declared.stop.Told.{Told}
use Rattle.record_core.specs.declared.stop.Told.TheVariants.{Nothing}

one_read : (names : List (List ℕ)) (before now : ShelfState) (x y : ℕ) → IsFileReadFault names before now x → IsFileReadFault names before now y → x ≡ y
one_read names before now x y p q = let a = p.place in let b = q.place in cc

one_long : (names : List (List ℕ)) (before now : ShelfState) (x y : ℕ × ℕ) → IsFileTooLong names before now x → IsFileTooLong names before now y → x ≡ y
one_long names before now (a, b) (c, d) p q = let p0 = p.place in let p1 = p.bound in let q0 = q.place in let q1 = q.bound in cc

done_only : (Written : List ℕ → Type 0) → AtMostOne (λ status text. (status ≡ Done) × Written text)
done_only Written s t a b p q = p.0 ∙ sym q.0

-- one answer agrees with itself
equal : (command : Option Command) (s t : Status) → s ≡ t → AnswersAgree command s t
equal None s t e = e
equal (Some Compile) s t e = inl e
equal (Some Extract) s t e = e
equal (Some (Run clocks)) s t e = e
equal (Some (Go clocks)) s t e = inl e
equal (Some (Make number)) s t e = inl e
equal (Some Asm) s t e = e
equal (Some Dis) s t e = e
equal (Some Test) s t e = inl e
equal (Some Explain) s t e = e
equal (Some Tune) s t e = inl e
equal (Some Dual) s t e = inl e
equal (Some Check) s t e = inl e

-- ---- stages

module _ (Alike : Status → Status → Type 0) (same : (s t : Status) → s ≡ t → Alike s t) (line : Status → List ℕ) where
  -- a stage that refuses with one status, before others that are alike
  stage : (Refuses : Status → Type 0) (Rest : Status → List ℕ → Type 0) → ((s t : Status) → Refuses s → Refuses t → s ≡ t) →
      AllAlike Alike Rest → AllAlike Alike (Then line Refuses Rest)
  stage Refuses Rest one = Then-alike Alike line Refuses Rest (λ s t p q. same s t (one s t p q))

  SourceAnswers-alike : (net src : List ℕ) (Breaks : NetFault → Type 0) → ((fault other : NetFault) → Breaks fault → Breaks other → fault ≡ other) →
      (BreaksSource : SrcFault → Type 0) → ((fault other : SrcFault) → BreaksSource fault → BreaksSource other → fault ≡ other) →
      (Later : Status → List ℕ → Type 0) → AllAlike Alike Later → AllAlike Alike (SourceAnswers line net src Breaks BreaksSource Later)
  SourceAnswers-alike net src Breaks one BreaksSource first Later later =
      NetStages-alike line net Breaks _ one Alike same (
      stage _ _ (By-unique SrcText _ (one_src_fault src)) (
      stage _ _ (By-unique Src _ first) later))

  RoomAnswers-alike : (Full : ℕ × ℕ → Type 0) → ((p q : ℕ × ℕ) → Full p → Full q → p ≡ q) → (Holds : Property → Type 0) →
      (Later : Status → List ℕ → Type 0) → AllAlike Alike Later → AllAlike Alike (RoomAnswers line Full Holds Later)
  RoomAnswers-alike Full one Holds Later later =
      stage _ _ (By-unique (λ (p : ℕ × ℕ). DataFull p.0 p.1) _ one) (
      stage _ _ (Just-unique NoStep _) (
      stage _ _ (Just-unique NoJump _) later))

  FormAnswers-alike : (net src : List ℕ) (Breaks : NetFault → Type 0) → ((fault other : NetFault) → Breaks fault → Breaks other → fault ≡ other) →
      (Later : Status → List ℕ → Type 0) → AllAlike Alike Later → AllAlike Alike (FormAnswers line net src Breaks Later)
  FormAnswers-alike net src Breaks one Later later =
      SourceAnswers-alike net src Breaks one (BreaksSrc net src) (one_broken net src) _
      (RoomAnswers-alike (λ (p : ℕ × ℕ). TaskHolds net src (IsDataFull p.0 p.1)) (one_full net src) (TaskHolds net src) Later later)

-- ---- commands that make code

-- one answer, or two of images made for one task
abbrev CodeAgree : Status → Status → Type 0
CodeAgree s t = (s ≡ t) ⊎ AreOfImages s t

-- what is answered once there is an image: one status, which may stand beside an image that is too
-- long
record IsOfImage (Later : Status → List ℕ → Type 0) : Type 0 where
  one : AtMostOne Later
  beside : (s : Status) (text : List ℕ) → Later s text → (len size bound : ℕ) → AreOfImages s (ImageFull len size bound) × AreOfImages (ImageFull len size bound) s

-- what is said of tasks says it of one alone
record AreOfOne (Holds : Property → Type 0) : Type 0 where
  bare : (number other : ℕ) → Holds (HasBareTree number) → Holds (HasBareTree other) → number ≡ other
  beyond : (p q : ℕ × ℕ) → Holds (IsBeyondReach p.0 p.1) → Holds (IsBeyondReach q.0 q.1) → p ≡ q
  long : (len size bound other room most : ℕ) → Holds (HasLongImage len size bound) → Holds (HasLongImage other room most) → (size ≡ room) × (bound ≡ most)

of_two : (net src : List ℕ) → AreOfOne (TaskHolds net src)
of_two net src = record { bare = one_uncovered net src; beyond = one_beyond net src; long = one_limit net src }

of_three : (net src part : List ℕ) → AreOfOne (ViewHolds net src part)
of_three net src part = record { bare = one_dual_uncovered net src part; beyond = one_dual_beyond net src part; long = one_dual_limit net src part }

module _ (line : Status → List ℕ) (Holds : Property → Type 0) (one : AreOfOne Holds) (Later : Status → List ℕ → Type 0) (of : IsOfImage Later) where
  CodeEnds-agree : AllAlike CodeAgree (CodeEnds line Holds Later)
  CodeEnds-agree s t a b (inl (len, size, bound, p, is, x)) (inl (other, room, most, q, also, y)) =
      rw (is, also) (inr (one.long len size bound other room most p q))
  CodeEnds-agree s t a b (inl (len, size, bound, p, is, x)) (inr q) = rw is (inr (of.beside t b q len size bound).1)
  CodeEnds-agree s t a b (inr p) (inl (len, size, bound, q, also, y)) = rw also (inr (of.beside s a p len size bound).0)
  CodeEnds-agree s t a b (inr p) (inr q) = inl (of.one s t a b p q)

  CoverAnswers-agree : AllAlike CodeAgree (CoverAnswers line Holds Later)
  CoverAnswers-agree =
      stage CodeAgree (λ s t e. inl e) line _ _ (By-unique NoCover _ one.bare) (
      stage CodeAgree (λ s t e. inl e) line _ _ (By-unique (λ (p : ℕ × ℕ). NoReach p.0 p.1) _ one.beyond) CodeEnds-agree)

CodeAnswers-agree : (line : Status → List ℕ) (net src : List ℕ) (Later : Status → List ℕ → Type 0) → IsOfImage Later → AllAlike CodeAgree (CodeAnswers line net src Later)
CodeAnswers-agree line net src Later of =
    FormAnswers-alike CodeAgree (λ s t e. inl e) line net src _ (one_broken_any_taken compiled_edition net) _
    (CoverAnswers-agree line (TaskHolds net src) (of_two net src) Later of)

-- what is written is beside an image that is too long
done_beside : (Written : List ℕ → Type 0) → IsOfImage (λ status text. (status ≡ Done) × Written text)
done_beside Written = record {
  one = done_only Written;
  beside = λ s text p len size bound. rw p.0 (tt, tt);
}

module _ (line : Status → List ℕ) (net src memory : List ℕ) (clocks : ℕ) where
  abbrev Shown : Status → List ℕ → Type 0
  Shown status text = (status ≡ Done) × TaskHolds net src (IsWatched memory clocks text)

  watch_one : AtMostOne (WatchAnswers line net src memory clocks)
  watch_one s t a b p q = Then-alike (λ s t. s ≡ t) line _ Shown (By-unique MemText _ (one_lack net src memory)) (done_only (λ text. TaskHolds net src (IsWatched memory clocks text))) s t a b p.1 q.1

  watch_beside : IsOfImage (WatchAnswers line net src memory clocks)
  watch_beside = record { one = watch_one; beside = beside }
    where
      beside : (s : Status) (text : List ℕ) → WatchAnswers line net src memory clocks s text → (len size bound : ℕ) → AreOfImages s (ImageFull len size bound) × AreOfImages (ImageFull len size bound) s
      beside s text (image, inl ((at, lacks, is), same)) len size bound = rw is (tt, tt)
      beside s text (image, inr (none, (is, shown))) len size bound = rw is (tt, tt)

-- ---- `dual`

DualAnswers-agree : (line : Status → List ℕ) (net src part : List ℕ) → AllAlike CodeAgree (DualAnswers line net src part)
DualAnswers-agree line net src part =
    SourceAnswers-alike CodeAgree (λ s t e. inl e) line net src (BreaksAnyBanked net) (one_broken_of_any HasNoBank unbanked_role net) (BreaksDualSrc net src) (one_dual_broken net src part) _ (
    stage CodeAgree (λ s t e. inl e) line _ _ (By-unique PartText _ (one_no_part net src part))
    (RoomAnswers-alike CodeAgree (λ s t e. inl e) line (λ (p : ℕ × ℕ). DualHolds net src part (IsDualFull p.0 p.1)) (one_dual_full net src part) (ViewHolds net src part) _
    (CoverAnswers-agree line (ViewHolds net src part) (of_three net src part) _ (done_beside (IsDualCompiled net src part)))))

-- ---- `tune`

module _ (line : Status → List ℕ) (net src : List ℕ) where
  -- one answer, or two of a program in some spelling
  abbrev TunesAgree : Status → Status → Type 0
  TunesAgree s t = (s ≡ t) ⊎ (IsOfTune s × IsOfTune t)

  of_tune : (s : Status) (text : List ℕ) → TuneEnds line net src s text → IsOfTune s
  of_tune s text (inl ((tree, why, is), same)) = rw is tt
  of_tune s text (inr (inl ((p, why, is), same))) = rw is tt
  of_tune s text (inr (inr (inl ((p, why, is), same)))) = rw is tt
  of_tune s text (inr (inr (inr (is, tuned)))) = rw is tt

  TuneAnswers-agree : AllAlike TunesAgree (TuneAnswers line net src)
  TuneAnswers-agree =
      FormAnswers-alike TunesAgree (λ s t e. inl e) line net src _ (one_broken_any_taken compiled_edition net) _
      (λ s t a b p q. inr (of_tune s a p, of_tune t b q))

-- ---- `check`

module _ (line : Told → Status → List ℕ) (net src image : List ℕ) where
  -- one answer, or two of an image that keeps all rules
  abbrev ChecksAgree : Status → Status → Type 0
  ChecksAgree s t = (s ≡ t) ⊎ (IsOfCheck s × IsOfCheck t)

  of_check : (s : Status) (text : List ℕ) → CheckEnds line net src image s text → IsOfCheck s
  of_check s text (inl (origin, cause, name, kept, is, same)) = rw is tt
  of_check s text (inr (is, checked)) = rw is tt

  rules_agree : AllAlike ChecksAgree (ThenTelling line Rule (BreaksImageRule net src image) (CheckEnds line net src image))
  rules_agree s t a b (inl (f, n, p, is, x)) (inl (g, m, q, also, y)) = inl (is ∙ ap Rule (one_broken_rule net src image f g n m p q) ∙ sym also)
  rules_agree s t a b (inl (f, n, p, is, x)) (inr (none, q)) = absurd (none f n p)
  rules_agree s t a b (inr (none, p)) (inl (g, m, q, also, y)) = absurd (none g m q)
  rules_agree s t a b (inr (none, p)) (inr (also, q)) = inr (of_check s a p, of_check t b q)

  CheckAnswers-agree : AllAlike ChecksAgree (CheckAnswers line net src image)
  CheckAnswers-agree =
      SourceAnswers-alike ChecksAgree (λ s t e. inl e) (line Nothing) net src (BreaksTaken checked_edition net) (one_broken_for (IsLater checked_edition) added_role net)
      (BreaksCheckedSrc net src) (one_broken_src net src) _
      (stage ChecksAgree (λ s t e. inl e) (line Nothing) _ _ (By-unique ImageText _ (one_no_image net image)) rules_agree)

-- ---- `extract`

ExtractAnswers-unique : (line : Status → List ℕ) (net : List ℕ) → AtMostOne (ExtractAnswers line net)
ExtractAnswers-unique line net = NetStages-alike line net _ _ (one_broken_any_taken extracted_edition net) (λ s t. s ≡ t) (λ s t e. e) (done_only (IsExtracted net))

-- ---- `run`

-- clocks end in one way
RunEnds-unique : (line : Told → Status → List ℕ) (net image memory : List ℕ) (clocks : ℕ) → AtMostOne (RunEnds line net image memory clocks)
RunEnds-unique line net image memory clocks s t a b (inl (c, p, is, x)) (inl (d, q, also, y)) =
    let same = one_clash net image memory clocks c d p q in is ∙ ap (λ (e : ClashedAt). Clash e.cycle e.bus) same ∙ sym also
RunEnds-unique line net image memory clocks s t a b (inl (c, p, is, x)) (inr (also, q)) = absurd (no_clash_shown net image memory clocks c b p q)
RunEnds-unique line net image memory clocks s t a b (inr (is, p)) (inl (d, q, also, y)) = absurd (no_clash_shown net image memory clocks d a q p)
RunEnds-unique line net image memory clocks s t a b (inr (is, p)) (inr (also, q)) = is ∙ sym also

RunAnswers-unique : (line : Told → Status → List ℕ) (net image memory : List ℕ) (clocks : ℕ) → AtMostOne (RunAnswers line net image memory clocks)
RunAnswers-unique line net image memory clocks =
    Then-alike (λ s t. s ≡ t) (line Nothing) _ _ (By-unique NetText _ (one_net_fault net)) (
    Then-alike (λ s t. s ≡ t) (line Nothing) _ _ (By-unique Net _ (one_broken_for (IsLater run_edition) added_role net)) (
    Then-alike (λ s t. s ≡ t) (line Nothing) _ _ (By-unique ImageText _ (one_image_fault net image)) (
    Then-alike (λ s t. s ≡ t) (line Nothing) _ _ (By-unique MemText _ (one_memory_fault net memory)) (RunEnds-unique line net image memory clocks))))

-- ---- `asm` and `dis`

AsmAnswers-unique : (line : Status → List ℕ) (net asm : List ℕ) → AtMostOne (AsmAnswers line net asm)
AsmAnswers-unique line net asm =
    NetStages-alike line net _ _ (one_broken_any_taken assembled_edition net) (λ s t. s ≡ t) (λ s t e. e) (
    Then-alike (λ s t. s ≡ t) line _ _ (By-unique AsmText _ (one_text_fault net asm)) (
    Then-alike (λ s t. s ≡ t) line _ _ (By-unique AsmWord _ (one_wordless net asm)) (done_only (IsAssembled net asm))))

DisAnswers-unique : (line : Status → List ℕ) (net image : List ℕ) → AtMostOne (DisAnswers line net image)
DisAnswers-unique line net image =
    NetStages-alike line net _ _ (one_broken_any_taken assembled_edition net) (λ s t. s ≡ t) (λ s t e. e) (
    Then-alike (λ s t. s ≡ t) line _ _ (By-unique ImageText _ (one_image_fault net image)) (done_only (IsDisassembled net image)))

-- ---- `test`

module _ (line : Status → List ℕ) (net : List ℕ) where
  -- one answer, or two of words made for one netlist
  abbrev TestsAgree : Status → Status → Type 0
  TestsAgree s t = (s ≡ t) ⊎ AreOfTests s t

  TestEnds-agree : AllAlike TestsAgree (TestEnds line net)
  TestEnds-agree s t a b (inl (len, size, bound, p, is, x)) (inl (other, room, most, q, also, y)) = rw (is, also) (inr (one_too_long net len size bound other room most p q))
  TestEnds-agree s t a b (inl (len, size, bound, p, is, x)) (inr (inl (count, most, q, also, y))) = rw (is, also) (inr tt)
  TestEnds-agree s t a b (inl (len, size, bound, p, is, x)) (inr (inr (also, q))) = rw (is, also) (inr tt)
  TestEnds-agree s t a b (inr (inl (count, bound, p, is, x))) (inl (len, size, most, q, also, y)) = rw (is, also) (inr tt)
  TestEnds-agree s t a b (inr (inl (count, bound, p, is, x))) (inr (inl (other, most, q, also, y))) = rw (is, also) (inr (one_test_limit net count bound other most p q))
  TestEnds-agree s t a b (inr (inl (count, bound, p, is, x))) (inr (inr (also, q))) = rw (is, also) (inr tt)
  TestEnds-agree s t a b (inr (inr (is, p))) (inl (len, size, bound, q, also, y)) = rw (is, also) (inr tt)
  TestEnds-agree s t a b (inr (inr (is, p))) (inr (inl (count, bound, q, also, y))) = rw (is, also) (inr tt)
  TestEnds-agree s t a b (inr (inr (is, p))) (inr (inr (also, q))) = inl (is ∙ sym also)

  TestAnswers-agree : AllAlike TestsAgree (TestAnswers line net)
  TestAnswers-agree =
      stage TestsAgree (λ s t e. inl e) line _ _ (By-unique NetText _ (one_net_fault net)) (
      stage TestsAgree (λ s t e. inl e) line _ _ (By-unique Net _ (one_broken_any_taken tested_edition net)) (
      stage TestsAgree (λ s t e. inl e) line _ _ (By-unique (λ (p : ℕ × ℕ). DataFull p.0 p.1) _ (one_test_full net)) (
      stage TestsAgree (λ s t e. inl e) line _ _ (Just-unique NoStep _) TestEnds-agree)))

-- ---- all commands

TextAnswers-agree : (line : Told → Status → List ℕ) (command : Command) (files : List (List ℕ)) → AllAlike (AnswersAgree (Some command)) (TextAnswers line command files)
TextAnswers-agree line Compile files =
    CodeAnswers-agree (line Nothing) (file_at files 0) (file_at files 1) _ (done_beside (IsCompiled (file_at files 0) (file_at files 1)))
TextAnswers-agree line Extract files = ExtractAnswers-unique (line Nothing) (file_at files 0)
TextAnswers-agree line (Run clocks) files = RunAnswers-unique line (file_at files 0) (file_at files 1) (file_at files 2) clocks
TextAnswers-agree line (Go clocks) files =
    CodeAnswers-agree (line Nothing) (file_at files 0) (file_at files 1) _ (watch_beside (line Nothing) (file_at files 0) (file_at files 1) (file_at files 2) clocks)
TextAnswers-agree line (Make number) files = CodeAnswers-agree (line Nothing) (job_netlist number) (job_program number) _ (done_beside (IsSummary number))
TextAnswers-agree line Asm files = AsmAnswers-unique (line Nothing) (file_at files 0) (file_at files 1)
TextAnswers-agree line Dis files = DisAnswers-unique (line Nothing) (file_at files 0) (file_at files 1)
TextAnswers-agree line Test files = TestAnswers-agree (line Nothing) (file_at files 0)
TextAnswers-agree line Explain files =
    FormAnswers-alike (λ s t. s ≡ t) (λ s t e. e) (line Nothing) (file_at files 0) (file_at files 1) _ (one_broken_any_taken explained_edition (file_at files 0)) _ (done_only (IsExplained (file_at files 0) (file_at files 1)))
TextAnswers-agree line Tune files = TuneAnswers-agree (line Nothing) (file_at files 0) (file_at files 1)
TextAnswers-agree line Dual files = DualAnswers-agree (line Nothing) (file_at files 0) (file_at files 1) (file_at files 2)
TextAnswers-agree line Check files = CheckAnswers-agree line (file_at files 0) (file_at files 1) (file_at files 2)

-- the bytes of a file that is told
one_file : (files : Option Files) (name a b : List ℕ) → IsSome files → IsFile files name a → IsFile files name b → a ≡ b
one_file None name a b told p q = absurd (search rules)
one_file (Some all) name a b told p q = let x = p.same in let y = q.same in cc

-- the files of these names are told
same_files : (told : Option Files) (names a b : List (List ℕ)) → IsSome told → AreFiles told names a → AreFiles told names b → a ≡ b
same_files told [] [] [] some p q = refl
same_files told (name ∷ names) (x ∷ a) (y ∷ b) some p q = let e = one_file told name x y some p.0 q.0 in let f = same_files told names a b some p.1 q.1 in cc
same_files told [] (x ∷ a) b some p q = absurd p
same_files told [] [] (y ∷ b) some p q = absurd q
same_files told (name ∷ names) [] b some p q = absurd p
same_files told (name ∷ names) (x ∷ a) [] some p q = absurd q

CommandAnswers-agree : (line : List ℕ → Told → Status → List ℕ) (told : Option Files) (command : Command) (names : List (List ℕ)) → IsSome told →
    AllAlike (AnswersAgree (Some command)) (CommandAnswers line told command names)
CommandAnswers-agree line told command names some s t a b (files, p, x) (others, q, y) =
    let e : others ≡ files = same_files told names others files some q p in
    TextAnswers-agree (line (netlist_in command files)) command files s t a b x (subst (λ (fs : List (List ℕ)). TextAnswers (line (netlist_in command fs)) command fs t b) e y)

usage_only : (line : List ℕ) → AtMostOne (λ status text. (status ≡ Usage) × (text ≡ line))
usage_only line s t a b p q = p.0 ∙ sym q.0

FilesAnswer-agree : (words : List (List ℕ)) (command : Option Command) (before now : ShelfState) → IsSome before.files →
    AllAlike (AnswersAgree command) (FilesAnswer words command before now)
FilesAnswer-agree words None before now told = usage_only (due_line words [] Nothing Usage)
FilesAnswer-agree words (Some command) before now told =
    Then-alike (AnswersAgree (Some command)) (due_line words [] Nothing) _ _
    (λ s t p q. equal (Some command) s t (By-unique ReadFault _ (one_read (names_of command words) before now) s t p q))
    (Then-alike (AnswersAgree (Some command)) (due_line words [] Nothing) _ _
    (λ s t p q. equal (Some command) s t (By-unique (λ (p : ℕ × ℕ). TooLong p.0 p.1) _ (one_long (names_of command words) before now) s t p q))
    (CommandAnswers-agree (due_line words) before.files command (names_of command words) told))

-- where the files are told, the statuses that apply agree
pub Answers-agree : (words : List (List ℕ)) (before now : ShelfState) → IsSome before.files → AllAlike (AnswersAgree (command_of words)) (Answers words before now)
Answers-agree words before now told = FilesAnswer-agree words (command_of words) before now told

pub exact_of : (words : List (List ℕ)) (before now : ShelfState) (old new : SinkState) (result : Status) → IsAnswer words before now old new result →
    IsSome before.files → IsExact words before now result
exact_of words before now old new result gives told status text applies = elim gives.put [
  | inl whole ↦ elim gives.answer [
    | inl memory ↦ inr (inl (whole.0 ∙ memory.0))
    | inr due ↦ inl (subst (λ (r : Status). AnswersAgree (command_of words) r status) (sym whole.0) (Answers-agree words before now told gives.due status gives.text text due applies))
  ]
  | inr part ↦ inr (inr part.0)
]

pub complete_of : (words : List (List ℕ)) (before now : ShelfState) (old new : SinkState) (result : Status) → IsAnswer words before now old new result → IsAccepted words before now → (Rose old.faults new.faults → ⊥) → (result ≡ Done) ⊎ (result ≡ Memory)
complete_of words before now old new result gives accepted calm = elim gives.put [
  | inl whole ↦ elim gives.answer [
    | inl memory ↦ inr (whole.0 ∙ memory.0)
    | inr due ↦ inl (whole.0 ∙ accepted gives.due gives.text due)
  ]
  | inr part ↦ absurd (let count = part.1.count in calm (omega arith))
]

-- ---- texts of which nothing is refused

-- a file that is told and was taken is not too long
not_long : (told : Files) (k : ℕ) (names files : List (List ℕ)) (name : List ℕ) (place : ℕ) → AreFiles (Some told) names files → place_from k names name ≡ Some place →
    IsSomeAnd (file_of told name) (λ bytes. file_limit < length bytes) → ⊥
not_long told k [] files name place are found long = absurd cc
not_long told k (first ∷ names) [] name place are found long = absurd are
not_long told k (first ∷ names) (bytes ∷ files) name place are found long =
    by_test (bytes_eq first name) refl (λ later. not_long told (k + 1) names files name place are.1 later long) found
  where
    by_test : (same : Bool) → bytes_eq first name ≡ same → (place_from (k + 1) names name ≡ Some place → ⊥) →
        cond same (Some k) (place_from (k + 1) names name) ≡ Some place → ⊥
    by_test true e rest f =
        let is : first ≡ name = (bytes_eq-Decides first name).0 e in
        let there : file_of told first ≡ Some bytes = are.0.same in
        let above : file_limit < length bytes = rw (sym is, there) at long in
        let short = are.0.short in omega arith
    by_test false e rest f = rest f

no_long_file : (files : Option Files) → IsSome files → (names contents : List (List ℕ)) (before now : ShelfState) → before.files ≡ files → AreFiles files names contents →
    (at : ℕ × ℕ) → IsFileTooLong names before now at → ⊥
no_long_file None told names contents before now is are at long = absurd (search rules)
no_long_file (Some all) told names contents before now is are at long =
    not_long all 0 names contents now.last at.0 are long.place (rw (long.bound, is) at long.longer)

-- where the files say what the later stages take, they answer
accepted_by : (words : List (List ℕ)) (before now : ShelfState) (command : Command) (Of : List (List ℕ) → Type 0) → IsAskedOf command Of words before.files → (Rose before.faults now.faults → ⊥) →
    ((line : Told → Status → List ℕ) (files : List (List ℕ)) → Of files → (status : Status) (text : List ℕ) → TextAnswers line command files status text → status ≡ Done) →
    (status : Status) (text : List ℕ) → Answers words before now status text → status ≡ Done
accepted_by words before now command Of can calm done status text answers = by (subst (λ (asked : Option Command). FilesAnswer words asked before now status text) can.asked answers)
  where
    by : FilesAnswer words (Some command) before now status text → status ≡ Done
    by (inl ((file, fault, e), t)) = absurd (calm fault.rose)
    by (inr (a, inl ((at, long, e), t))) = absurd (no_long_file before.files can.known (names_of command words) can.files before now refl can.are at long)
    by (inr (a, inr (b, (files, are, given)))) =
        let same : files ≡ can.files = same_files before.files (names_of command words) files can.files can.known are can.are in
        done (due_line words (netlist_in command can.files)) can.files can.of status text
        (subst (λ (fs : List (List ℕ)). TextAnswers (due_line words (netlist_in command fs)) command fs status text) same given)

pub compiled_of : (words : List (List ℕ)) (before now : ShelfState) (old new : SinkState) (result : Status) → IsAnswer words before now old new result →
    CanCompile words before.files → (Rose before.faults now.faults → ⊥) → (Rose old.faults new.faults → ⊥) → (result ≡ Done) ⊎ (result ≡ Memory)
compiled_of words before now old new result gives can read calm =
    complete_of words before now old new result gives
    (accepted_by words before now Compile (λ (files : List (List ℕ)). TaskHolds (file_at files 0) (file_at files 1) IsWithin) can read
    (λ line files within. done_within (line Nothing) (file_at files 0) (file_at files 1) within)) calm

pub tuned_with : (words : List (List ℕ)) (before now : ShelfState) (old new : SinkState) (result : Status) → IsAnswer words before now old new result →
    CanTune words before.files → (Rose before.faults now.faults → ⊥) → (Rose old.faults new.faults → ⊥) → (result ≡ Done) ⊎ (result ≡ Memory)
tuned_with words before now old new result gives can read calm =
    complete_of words before now old new result gives
    (accepted_by words before now Tune (λ (files : List (List ℕ)). TaskHolds (file_at files 0) (file_at files 1) IsWithin) can read
    (λ line files within. tuned_done (line Nothing) (file_at files 0) (file_at files 1) within)) calm

pub both_of : (words : List (List ℕ)) (before now : ShelfState) (old new : SinkState) (result : Status) → IsAnswer words before now old new result →
    CanDual words before.files → (Rose before.faults now.faults → ⊥) → (Rose old.faults new.faults → ⊥) → (result ≡ Done) ⊎ (result ≡ Memory)
both_of words before now old new result gives can read calm =
    complete_of words before now old new result gives
    (accepted_by words before now Dual (λ (files : List (List ℕ)). DualHolds (file_at files 0) (file_at files 1) (file_at files 2) IsDualWithin) can read
    (λ line files within. dual_within (line Nothing) (file_at files 0) (file_at files 1) (file_at files 2) within)) calm
