-- What the call answers: the first refusal that applies, or `Done`. Refused by the first stage
-- that has a reason, with that status and its line, or else answered by what comes after.
-- `TextAnswers` has a line for each command: what it answers for the bytes of its files. `IsText`
-- says what it writes on `Done`, and `Wrote` that this was taken in the call, for the bytes of the
-- files that the words name. `CodeEnds`, of the commands that make code: there is an image made
-- for the task that is too long, or one that is right code, of which the later stages answer; the
-- one doesn't exclude the other.
use Rattle.std.specs.Prelude.{◌≡◌, ℕ, ◌+◌, ◌<◌, ◌≤◌, ◌⊎◌, true, false, List, [], ◌∷◌, ◌++◌, length, take, Some, None, IfSome, IsSome, IsSomeAnd, cond, slice_index_or, ⊤}
use Rattle.std.specs.declared.option.Option.{Option}
use Rattle.std.specs.Str.{bytes_eq}
use Rattle.net_model.specs.declared.fault.NetFault.{NetFault}
use Rattle.net_parser.specs.Texts.{IsNoNetText}
use Rattle.net_front.specs.Taken.{BreaksTaken}
use Rattle.isa_extract.specs.Extracts.{IsExtracted, extracted_edition}
use Rattle.isa_extract.specs.Taken.{BreaksAnyBanked, BreaksAnyTaken}
use Rattle.src_model.specs.declared.fault.SrcFault.{SrcFault}
use Rattle.src_parser.specs.Texts.{IsNoSrcText}
use Rattle.right_code.specs.Covered.{HasBareTree}
use Rattle.right_code.specs.Tasks.{Property}
use Rattle.code_gen.specs.Refusals.{IsBeyondReach, IsJumpless, IsStepless, IsImageTooLong as HasLongImage}
use Rattle.compile_command.specs.Code.{HasRightCode, IsDataFull, IsWithin}
use Rattle.compile_command.specs.Compiled.{IsCompiled, BreaksSrc}
use Rattle.compile_command.specs.Tasks.{TaskHolds, compiled_edition}
use Rattle.compile_command.specs.declared.fault.CompileFault.TheVariants.{NoCover as Uncovered, NoReach as Beyond, ImageFull as Overlong}
use Rattle.tune_command.specs.Tuned.{IsTuned, TuneFailsWith}
use Rattle.dual_command.specs.Code.{IsDualFull, IsDualWithin}
use Rattle.dual_command.specs.Compiled.{BreaksDualSrc, IsDualCompiled, IsNoPart}
use Rattle.dual_command.specs.Tasks.{DualHolds, ViewHolds}
use Rattle.check_command.specs.Checked.{BreaksCheckedSrc, BreaksImageRule, IsChecked, IsNoViewedFile, KeepsAllRules}
use Rattle.check_command.specs.Tasks.{checked_edition}
use Rattle.check_command.specs.declared.fault.Cause.{Cause}
use Rattle.check_command.specs.declared.fault.Origin.{Origin}
use Rattle.job_gen.specs.NetText.{net_text as job_netlist}
use Rattle.job_gen.specs.SrcText.{src_text as job_program}
use Rattle.make_command.specs.Summaries.{IsSummary}
use Rattle.asm_command.specs.Assembled.{IsAssembled, IsNoAsmFile, IsWordless}
use Rattle.asm_command.specs.Disassembled.{IsDisassembled}
use Rattle.asm_command.specs.Machines.{assembled_edition}
use Rattle.explain_command.specs.Explained.{explained_edition, IsExplained}
use Rattle.test_command.specs.Refusals.{IsBeyondLimit, IsTestDataFull, IsTestTooLong}
use Rattle.test_command.specs.Texts.{IsTested, NetHolds, tested_edition}
use Rattle.run_command.specs.Runs.{IsNoImageFile, IsNoMemoryFile, ClashedAt, Clashes, ShowsState, run_edition}
use Rattle.rec_io.specs.Causes.{Rose}
use Rattle.rec_io.specs.Files.{Files, file_of}
use Rattle.rec_io.specs.Shelf.{ShelfState, LastFailed, NoFetchFailed}
use Rattle.rec_io.specs.Sink.{SinkState, LastPutFailed}
use Rattle.rec_io.specs.Written.{Takes, TakesPrefix}
use Rattle.record_core.specs.Lines.{due_line}
use Rattle.record_core.specs.Showing.{IsShownText}
use Rattle.record_core.specs.Stages.{By, Just, Then, ThenTelling, name_told}
use Rattle.record_core.specs.Watching.{IsWatched, LacksMemory}
use Rattle.record_core.specs.Words.{command_of, names_of}
use Rattle.record_core.specs.declared.words.Command.{Command}
use Rattle.record_core.specs.declared.words.Command.TheVariants.{Compile, Extract, Run, Go, Make, Asm, Dis, Test, Explain, Tune, Dual, Check}
use Rattle.record_core.specs.declared.status.Status.{Status}
use Rattle.record_core.specs.declared.status.Status.TheVariants.{Done, Usage, ReadFault, TooLong, WriteFault, NetText, Net, SrcText, Src, NoStep, NoJump, NoCover, DataFull, NoReach, ImageFull, Memory, ImageText, MemText, Clash, AsmText, AsmWord, TestLimit, PartText, Rule, Follow}
use Rattle.record_core.specs.declared.stop.Told.{Told}
use Rattle.record_core.specs.declared.stop.Told.TheVariants.{Nothing, Bus}

-- the most bytes of a file
abbrev pub file_limit : ℕ
file_limit = 1048576

-- the first place from k on at which this name stands
abbrev pub place_from : ℕ → List (List ℕ) → List ℕ → Option ℕ
place_from k [] name = None
place_from k (first ∷ names) name = cond (bytes_eq first name) (Some k) (place_from (k + 1) names name)

-- the bytes of this file, where the files are told
pub record IsFile (files : Option Files) (name bytes : List ℕ) : Type 0 where
  pub short : length bytes ≤ file_limit
  pub same : IfSome files (λ all. file_of all name ≡ Some bytes)

-- the same for several files
abbrev pub AreFiles : Option Files → List (List ℕ) → List (List ℕ) → Type 0
AreFiles files [] [] = ⊤
AreFiles files (name ∷ names) (bytes ∷ rest) = IsFile files name bytes × AreFiles files names rest
AreFiles files _ _ = ⊥

-- the first files of these names are there and short enough
abbrev pub HasFirst : Option Files → List (List ℕ) → ℕ → Type 0
HasFirst files names count = (contents : List (List ℕ)) × AreFiles files (take count names) contents

-- the last fetch failed, it asked for the file at this place, and the count of faults rose
pub record IsFileReadFault (names : List (List ℕ)) (before now : ShelfState) (file : ℕ) : Type 0 where
  pub rose : Rose before.faults now.faults
  pub failed : now.failed ≡ true
  pub place : place_from 0 names now.last ≡ Some file
  pub earlier : HasFirst before.files names file

-- the last fetch asked for the file at this place, did not fail and got more than the limit
pub record IsFileTooLong (names : List (List ℕ)) (before now : ShelfState) (at : ℕ × ℕ) : Type 0 where
  pub bound : at.1 ≡ file_limit
  pub above : at.1 < now.taken
  pub ended : now.failed ≡ false
  pub place : place_from 0 names now.last ≡ Some at.0
  pub earlier : HasFirst before.files names at.0
  pub longer : IfSome before.files (λ all. IsSomeAnd (file_of all now.last) (λ bytes. at.1 < length bytes))

-- ---- the stages of commands that make code. `Holds P` says that what was read is a task of which P
-- holds

-- how the making of the code ends: there is an image made for the task that is too long, or there
-- is one that is right code and that the netlist holds, and the later stages answer. Images made
-- for one task may differ in length, so both may apply
abbrev pub CodeEnds : (Status → List ℕ) → (Property → Type 0) → (Status → List ℕ → Type 0) → Status → List ℕ → Type 0
CodeEnds line Holds Later status text =
    ((len : ℕ) × (size : ℕ) × (bound : ℕ) × Holds (HasLongImage len size bound)
    × (status ≡ ImageFull len size bound) × (text ≡ line (ImageFull len size bound)))
    ⊎ Later status text

-- covers of all trees, and jumps that reach all words
abbrev pub CoverAnswers : (Status → List ℕ) → (Property → Type 0) → (Status → List ℕ → Type 0) → Status → List ℕ → Type 0
CoverAnswers line Holds Later =
    Then line (By NoCover (λ (tree : ℕ). Holds (HasBareTree tree))) (
    Then line (By (λ (p : ℕ × ℕ). NoReach p.0 p.1) (λ (p : ℕ × ℕ). Holds (IsBeyondReach p.0 p.1))) (
    CodeEnds line Holds Later))

-- room for the variables, and forms that step and jump; `Full` says of a number of cells that it is
-- needed, and of another that there are only so many
abbrev pub RoomAnswers : (Status → List ℕ) → (ℕ × ℕ → Type 0) → (Property → Type 0) →
    (Status → List ℕ → Type 0) → Status → List ℕ → Type 0
RoomAnswers line Full Holds Later =
    Then line (By (λ (p : ℕ × ℕ). DataFull p.0 p.1) Full) (
    Then line (Just NoStep (Holds (λ task. IsStepless task.netlist))) (
    Then line (Just NoJump (Holds (λ task. IsJumpless task.netlist))) Later))

-- a netlist, and a program for its words
abbrev pub SourceAnswers : (Status → List ℕ) → (net src : List ℕ) → (NetFault → Type 0) → (SrcFault → Type 0) →
    (Status → List ℕ → Type 0) → Status → List ℕ → Type 0
SourceAnswers line net src Breaks BreaksSource Later =
    Then line (By NetText (IsNoNetText net)) (
    Then line (By Net Breaks) (
    Then line (By SrcText (IsNoSrcText src)) (
    Then line (By Src BreaksSource) Later)))

-- what a command answers that covers the program of the second text by forms of the netlist of the
-- first, by the first rule that the netlist's text breaks, and what the later stages answer where
-- code can be made of them
abbrev pub FormAnswers : (Status → List ℕ) → List ℕ → List ℕ → (NetFault → Type 0) →
    (Status → List ℕ → Type 0) → Status → List ℕ → Type 0
FormAnswers line net src Breaks Later =
    SourceAnswers line net src Breaks (BreaksSrc net src) (
    RoomAnswers line (λ (p : ℕ × ℕ). TaskHolds net src (IsDataFull p.0 p.1)) (TaskHolds net src) Later)

-- what a command answers that makes code of these two texts, and what the later stages answer once
-- there is an image
abbrev pub CodeAnswers : (Status → List ℕ) → List ℕ → List ℕ → (Status → List ℕ → Type 0) → Status → List ℕ → Type 0
CodeAnswers line net src Later =
    FormAnswers line net src (BreaksAnyTaken compiled_edition net) (CoverAnswers line (TaskHolds net src) Later)

-- what `compile` answers for these two texts
abbrev pub CompileAnswers : (Status → List ℕ) → List ℕ → List ℕ → Status → List ℕ → Type 0
CompileAnswers line net src = CodeAnswers line net src (λ status text. (status ≡ Done) × IsCompiled net src text)

-- how `tune` ends, whose program has room in a netlist that steps and jumps: of the task in some
-- spelling one of these refusals comes, or code is written. What is found isn't the least, so more
-- than one may apply
abbrev pub TuneEnds : (Status → List ℕ) → (net src : List ℕ) → Status → List ℕ → Type 0
TuneEnds line net src status text =
    (By NoCover (λ (tree : ℕ). TaskHolds net src (TuneFailsWith (Uncovered tree))) status × (text ≡ line status))
    ⊎ (By (λ (p : ℕ × ℕ). NoReach p.0 p.1) (λ (p : ℕ × ℕ). TaskHolds net src (TuneFailsWith (Beyond p.0 p.1))) status × (text ≡ line status))
    ⊎ (By (λ (p : ℕ × ℕ × ℕ). ImageFull p.0 p.1 p.2) (λ (p : ℕ × ℕ × ℕ). TaskHolds net src (TuneFailsWith (Overlong p.0 p.1 p.2))) status × (text ≡ line status))
    ⊎ ((status ≡ Done) × IsTuned net src text)

-- what `tune` answers for these two texts
abbrev pub TuneAnswers : (Status → List ℕ) → (net src : List ℕ) → Status → List ℕ → Type 0
TuneAnswers line net src = FormAnswers line net src (BreaksAnyTaken compiled_edition net) (TuneEnds line net src)

-- what `dual` answers for these three texts, of which the first has a bank
abbrev pub DualAnswers : (Status → List ℕ) → (net src part : List ℕ) → Status → List ℕ → Type 0
DualAnswers line net src part =
    SourceAnswers line net src (BreaksAnyBanked net) (BreaksDualSrc net src) (
    Then line (By PartText (IsNoPart net src part)) (
    RoomAnswers line (λ (p : ℕ × ℕ). DualHolds net src part (IsDualFull p.0 p.1)) (ViewHolds net src part) (
    CoverAnswers line (ViewHolds net src part) (λ status text. (status ≡ Done) × IsDualCompiled net src part text))))

-- how the check of an image ends that keeps all rules: it isn't shown that its words follow the
-- program from some mark on, or it is right by its views. The first says nothing of the image, so both
-- may apply
abbrev pub CheckEnds : (Told → Status → List ℕ) → (net src image : List ℕ) → Status → List ℕ → Type 0
CheckEnds line net src image status text =
    ((origin : Origin) × (cause : Cause) × (name : Option (List ℕ)) × KeepsAllRules net src image
    × (status ≡ Follow origin cause) × (text ≡ line (name_told name) (Follow origin cause)))
    ⊎ ((status ≡ Done) × IsChecked net src image text)

-- what `check` answers for these three texts, of which the first has no modes and no bank
abbrev pub CheckAnswers : (Told → Status → List ℕ) → (net src image : List ℕ) → Status → List ℕ → Type 0
CheckAnswers line net src image =
    SourceAnswers (line Nothing) net src (BreaksTaken checked_edition net) (BreaksCheckedSrc net src) (
    Then (line Nothing) (By ImageText (IsNoViewedFile net image)) (
    ThenTelling line Rule (BreaksImageRule net src image) (CheckEnds line net src image)))

-- what `explain` answers for these two texts, of which the first has no modes; a cover that is
-- missing is no refusal
abbrev pub ExplainAnswers : (Status → List ℕ) → List ℕ → List ℕ → Status → List ℕ → Type 0
ExplainAnswers line net src =
    FormAnswers line net src (BreaksAnyTaken explained_edition net)
    (λ status text. (status ≡ Done) × IsExplained net src text)

-- what `extract` answers for this text
abbrev pub ExtractAnswers : (Status → List ℕ) → List ℕ → Status → List ℕ → Type 0
ExtractAnswers line net =
    Then line (By NetText (IsNoNetText net)) (
    Then line (By Net (BreaksAnyTaken extracted_edition net)) (
    λ status text. (status ≡ Done) × IsExtracted net text))

-- how the clocks of `run` end: a bus clashes, and its name is told, or the state is reached
abbrev pub RunEnds : (Told → Status → List ℕ) → List ℕ → List ℕ → List ℕ → ℕ → Status → List ℕ → Type 0
RunEnds line net image memory clocks status text =
    ((c : ClashedAt) × Clashes net image memory clocks c × (status ≡ Clash c.cycle c.bus)
    × (text ≡ line (Bus c.at) (Clash c.cycle c.bus)))
    ⊎ ((status ≡ Done) × ShowsState net image memory clocks text)

-- what `run` answers for these three texts and this number of clocks
abbrev pub RunAnswers : (Told → Status → List ℕ) → List ℕ → List ℕ → List ℕ → ℕ → Status → List ℕ → Type 0
RunAnswers line net image memory clocks =
    Then (line Nothing) (By NetText (IsNoNetText net)) (
    Then (line Nothing) (By Net (BreaksTaken run_edition net)) (
    Then (line Nothing) (By ImageText (IsNoImageFile net image)) (
    Then (line Nothing) (By MemText (IsNoMemoryFile net memory)) (
    RunEnds line net image memory clocks))))

-- what `go` answers once there is an image: its checkpoints from the state that the memory text
-- says; of an image that is too long nothing is shown, and no memory text is looked at
abbrev pub WatchAnswers : (Status → List ℕ) → List ℕ → List ℕ → List ℕ → ℕ → Status → List ℕ → Type 0
WatchAnswers line net src memory clocks status text =
    TaskHolds net src HasRightCode
    × Then line (By MemText (λ (at : ℕ). TaskHolds net src (LacksMemory memory at)))
    (λ status text. (status ≡ Done) × TaskHolds net src (IsWatched memory clocks text)) status text

-- what `go` answers for these three texts and this number of clocks
abbrev pub GoAnswers : (Status → List ℕ) → List ℕ → List ℕ → List ℕ → ℕ → Status → List ℕ → Type 0
GoAnswers line net src memory clocks = CodeAnswers line net src (WatchAnswers line net src memory clocks)

-- what `make` answers for this number, which says two texts
abbrev pub MakeAnswers : (Status → List ℕ) → ℕ → Status → List ℕ → Type 0
MakeAnswers line number =
    CodeAnswers line (job_netlist number) (job_program number)
    (λ status text. (status ≡ Done) × IsSummary number text)

-- what `asm` answers for these two texts, of which the first has no modes
abbrev pub AsmAnswers : (Status → List ℕ) → List ℕ → List ℕ → Status → List ℕ → Type 0
AsmAnswers line net asm =
    Then line (By NetText (IsNoNetText net)) (
    Then line (By Net (BreaksAnyTaken assembled_edition net)) (
    Then line (By AsmText (IsNoAsmFile net asm)) (
    Then line (By AsmWord (IsWordless net asm)) (
    λ status text. (status ≡ Done) × IsAssembled net asm text))))

-- what `dis` answers for these two texts, of which the first has no modes
abbrev pub DisAnswers : (Status → List ℕ) → List ℕ → List ℕ → Status → List ℕ → Type 0
DisAnswers line net image =
    Then line (By NetText (IsNoNetText net)) (
    Then line (By Net (BreaksAnyTaken assembled_edition net)) (
    Then line (By ImageText (IsNoImageFile net image)) (
    λ status text. (status ≡ Done) × IsDisassembled net image text)))

-- how a self-test ends: words that are made for it are more than the code has; others take more
-- evaluations than may be; or there is a right self-test, of which the report is written. Words that
-- are made for one netlist may differ in number, so more than one may apply
abbrev pub TestEnds : (Status → List ℕ) → List ℕ → Status → List ℕ → Type 0
TestEnds line net status text =
    ((len : ℕ) × (size : ℕ) × (bound : ℕ) × NetHolds net (λ netlist. IsTestTooLong netlist len size bound)
    × (status ≡ ImageFull len size bound) × (text ≡ line (ImageFull len size bound)))
    ⊎ (((count : ℕ) × (bound : ℕ) × NetHolds net (λ netlist. IsBeyondLimit netlist count bound)
    × (status ≡ TestLimit count bound) × (text ≡ line (TestLimit count bound)))
    ⊎ ((status ≡ Done) × IsTested net text))

-- what `test` answers for this text, which has to be of the first edition
abbrev pub TestAnswers : (Status → List ℕ) → List ℕ → Status → List ℕ → Type 0
TestAnswers line net =
    Then line (By NetText (IsNoNetText net)) (
    Then line (By Net (BreaksAnyTaken tested_edition net)) (
    Then line (By (λ (p : ℕ × ℕ). DataFull p.0 p.1)
    (λ (p : ℕ × ℕ). NetHolds net (λ netlist. IsTestDataFull netlist p.0 p.1))) (
    Then line (Just NoStep (NetHolds net IsStepless)) (
    TestEnds line net))))

-- the bytes of the file at this place
abbrev pub file_at : List (List ℕ) → ℕ → List ℕ
file_at files place = slice_index_or files place []

-- what a command answers for the bytes of its files; a line is of what is told beside the status
abbrev pub TextAnswers : (Told → Status → List ℕ) → Command → List (List ℕ) → Status → List ℕ → Type 0
TextAnswers line Compile files = CompileAnswers (line Nothing) (file_at files 0) (file_at files 1)
TextAnswers line Extract files = ExtractAnswers (line Nothing) (file_at files 0)
TextAnswers line (Run clocks) files = RunAnswers line (file_at files 0) (file_at files 1) (file_at files 2) clocks
TextAnswers line (Go clocks) files = GoAnswers (line Nothing) (file_at files 0) (file_at files 1) (file_at files 2) clocks
TextAnswers line (Make number) files = MakeAnswers (line Nothing) number
TextAnswers line Asm files = AsmAnswers (line Nothing) (file_at files 0) (file_at files 1)
TextAnswers line Dis files = DisAnswers (line Nothing) (file_at files 0) (file_at files 1)
TextAnswers line Test files = TestAnswers (line Nothing) (file_at files 0)
TextAnswers line Explain files = ExplainAnswers (line Nothing) (file_at files 0) (file_at files 1)
TextAnswers line Tune files = TuneAnswers (line Nothing) (file_at files 0) (file_at files 1)
TextAnswers line Dual files = DualAnswers (line Nothing) (file_at files 0) (file_at files 1) (file_at files 2)
TextAnswers line Check files = CheckAnswers line (file_at files 0) (file_at files 1) (file_at files 2)

-- the netlist's text of a command: the first file, and of `make` that of its number
abbrev pub netlist_in : Command → List (List ℕ) → List ℕ
netlist_in (Make number) files = job_netlist number
netlist_in command files = file_at files 0

-- what it answers once its files are there; a line is of the netlist's text too
abbrev pub CommandAnswers : (List ℕ → Told → Status → List ℕ) → Option Files → Command →
    List (List ℕ) → Status → List ℕ → Type 0
CommandAnswers line known command names status text =
    (files : List (List ℕ)) × AreFiles known names files
    × TextAnswers (line (netlist_in command files)) command files status text

-- what the words answer by their command
abbrev pub FilesAnswer : List (List ℕ) → Option Command → ShelfState → ShelfState → Status → List ℕ → Type 0
FilesAnswer words None before now status text = (status ≡ Usage) × (text ≡ due_line words [] Nothing Usage)
FilesAnswer words (Some command) before now status text =
    Then (due_line words [] Nothing) (By ReadFault (IsFileReadFault (names_of command words) before now)) (
    Then (due_line words [] Nothing)
    (By (λ (p : ℕ × ℕ). TooLong p.0 p.1) (IsFileTooLong (names_of command words) before now)) (
    CommandAnswers (due_line words) before.files command (names_of command words))) status text

-- what the call answers: the first refusal that applies and its line, or `Done` and the text; all
-- but want of memory and faults of the sink
abbrev pub Answers : List (List ℕ) → ShelfState → ShelfState → Status → List ℕ → Type 0
Answers words before now status text = FilesAnswer words (command_of words) before now status text

-- that, or want of memory
abbrev pub MayAnswer : List (List ℕ) → ShelfState → ShelfState → Status → List ℕ → Type 0
MayAnswer words before now status text =
    ((status ≡ Memory) × (text ≡ due_line words [] Nothing Memory))
    ⊎ Answers words before now status text

-- a file could not be read
abbrev pub IsReadFault : Status → Type 0
IsReadFault status = (file : ℕ) × (status ≡ ReadFault file)

-- no fetch failed, or the last did, and none before it, and this status tells it
abbrev pub FetchesEnd : ShelfState → ShelfState → Status → Type 0
FetchesEnd before now status = NoFetchFailed before now ⊎ (LastFailed before now × IsReadFault status)

-- the same of the status that is returned, since the output may fail when the line is put
abbrev pub FetchesTold : ShelfState → ShelfState → Status → Type 0
FetchesTold before now result =
    NoFetchFailed before now
    ⊎ (LastFailed before now × (IsReadFault result ⊎ (result ≡ WriteFault)))

-- the sink took the whole text of the status, or it failed within the text and took a prefix, and
-- nothing was put after the put that failed
abbrev pub PutsText : SinkState → SinkState → List ℕ → Status → Status → Type 0
PutsText before now text status result =
    ((result ≡ status) × Takes before.written now.written text)
    ⊎ ((result ≡ WriteFault) × LastPutFailed before now × TakesPrefix before.written now.written text)

-- the answer that is due, how the fetches went, what the sink took of its text, and the status that
-- is returned
pub record IsAnswer (words : List (List ℕ)) (before now : ShelfState) (old new : SinkState)
    (result : Status) : Type 0 where
  pub due : Status
  pub text : List ℕ
  pub answer : MayAnswer words before now due text
  pub fetches : FetchesEnd before now due
  pub put : PutsText old new text due result

-- two answers that images made for one task have: what is answered of one of them, and that the
-- other is too long, or that both are too long, for one code and with one bound
abbrev pub AreOfImages : Status → Status → Type 0
AreOfImages Done (ImageFull len size bound) = ⊤
AreOfImages (ImageFull len size bound) Done = ⊤
AreOfImages (MemText at) (ImageFull len size bound) = ⊤
AreOfImages (ImageFull len size bound) (MemText at) = ⊤
AreOfImages (ImageFull len size bound) (ImageFull other room most) = (size ≡ room) × (bound ≡ most)
AreOfImages _ _ = ⊥

-- two answers that words of a self-test have which are made for one netlist: they are as many as
-- may be, or too many, for one code with one bound, or of too many evaluations, with one bound
abbrev pub AreOfTests : Status → Status → Type 0
AreOfTests Done (ImageFull len size bound) = ⊤
AreOfTests (ImageFull len size bound) Done = ⊤
AreOfTests Done (TestLimit count bound) = ⊤
AreOfTests (TestLimit count bound) Done = ⊤
AreOfTests (ImageFull len size bound) (TestLimit count most) = ⊤
AreOfTests (TestLimit count most) (ImageFull len size bound) = ⊤
AreOfTests (ImageFull len size bound) (ImageFull other room most) = (size ≡ room) × (bound ≡ most)
AreOfTests (TestLimit count bound) (TestLimit other most) = bound ≡ most
AreOfTests _ _ = ⊥

-- answers that `tune` has of a program in some spelling
abbrev pub IsOfTune : Status → Type 0
IsOfTune Done = ⊤
IsOfTune (NoCover tree) = ⊤
IsOfTune (NoReach bound reach) = ⊤
IsOfTune (ImageFull len size bound) = ⊤
IsOfTune _ = ⊥

-- answers that `check` has of an image that keeps all rules
abbrev pub IsOfCheck : Status → Type 0
IsOfCheck Done = ⊤
IsOfCheck (Follow origin cause) = ⊤
IsOfCheck _ = ⊥

-- one answer; of the commands that make code, or two of images made for one task; of `test`, or two
-- of words made for one netlist; of `tune`, or two of a program in some spelling; of `check`, or two
-- of an image that keeps all rules
abbrev pub AnswersAgree : Option Command → Status → Status → Type 0
AnswersAgree (Some Compile) status other = (status ≡ other) ⊎ AreOfImages status other
AnswersAgree (Some (Go clocks)) status other = (status ≡ other) ⊎ AreOfImages status other
AnswersAgree (Some (Make number)) status other = (status ≡ other) ⊎ AreOfImages status other
AnswersAgree (Some Test) status other = (status ≡ other) ⊎ AreOfTests status other
AnswersAgree (Some Tune) status other = (status ≡ other) ⊎ (IsOfTune status × IsOfTune other)
AnswersAgree (Some Dual) status other = (status ≡ other) ⊎ AreOfImages status other
AnswersAgree (Some Check) status other = (status ≡ other) ⊎ (IsOfCheck status × IsOfCheck other)
AnswersAgree _ status other = status ≡ other

-- where an answer applies, nothing else is returned but one that agrees with it, want of memory or
-- a fault of the sink
abbrev pub IsExact : List (List ℕ) → ShelfState → ShelfState → Status → Type 0
IsExact words before now result = (status : Status) (text : List ℕ) → Answers words before now status text →
    AnswersAgree (command_of words) result status ⊎ (result ≡ Memory) ⊎ (result ≡ WriteFault)

-- no refusal applies
abbrev pub IsAccepted : List (List ℕ) → ShelfState → ShelfState → Type 0
IsAccepted words before now = (status : Status) (text : List ℕ) → Answers words before now status text → status ≡ Done

-- the words ask for this command, the files are told, and this holds of them
pub record IsAskedOf (command : Command) (Of : List (List ℕ) → Type 0) (words : List (List ℕ)) (given : Option Files) : Type 0 where
  pub asked : command_of words ≡ Some command
  pub known : IsSome given
  pub files : List (List ℕ)
  pub are : AreFiles given (names_of command words) files
  pub of : Of files

-- the words ask to compile, and the files say a task of which nothing is refused, whatever image is
-- made for it
abbrev pub CanCompile : List (List ℕ) → Option Files → Type 0
CanCompile = IsAskedOf Compile (λ (files : List (List ℕ)). TaskHolds (file_at files 0) (file_at files 1) IsWithin)

-- the words ask for equal trees, of such a task
abbrev pub CanTune : List (List ℕ) → Option Files → Type 0
CanTune = IsAskedOf Tune (λ (files : List (List ℕ)). TaskHolds (file_at files 0) (file_at files 1) IsWithin)

-- the same for two memories
abbrev pub CanDual : List (List ℕ) → Option Files → Type 0
CanDual =
    IsAskedOf Dual
    (λ (files : List (List ℕ)). DualHolds (file_at files 0) (file_at files 1) (file_at files 2) IsDualWithin)

-- what is written on `Done`. Of `compile`: an image that is right code for the program on the
-- netlist. Of `extract`: what the instruction words of the netlist do, each with its least word. Of
-- `run`: the state that the clocks reach. Of `go`: the checkpoints that the netlist shows on the
-- words of an image that is right code. Of `make`: the summary of the made-up texts of the number.
-- Of `asm`: the image of the least words of the lines. Of `dis`: a line for each word of the image,
-- of which it is one of the words, and what is assembled of the text clocks as the image does. Of
-- `test`: the report of a right self-test of the netlist. Of `explain`: what covers the program's
-- jobs, and what in them no form makes. Of `tune`: an image that traces the program on the netlist,
-- made for it in a spelling by equal trees. Of `dual`: an image that is right code for the program on
-- the netlist of two memories, with the variables of the part in the bank. Of `check`: that the image
-- of the bytes is right code by its views for the program on the netlist, with its views, what it
-- hides, and the clocks from mark to mark
abbrev pub IsText : Command → List (List ℕ) → List ℕ → Type 0
IsText Compile files = IsCompiled (file_at files 0) (file_at files 1)
IsText Extract files = IsExtracted (file_at files 0)
IsText (Run clocks) files = ShowsState (file_at files 0) (file_at files 1) (file_at files 2) clocks
IsText (Go clocks) files = λ out. TaskHolds (file_at files 0) (file_at files 1) (IsWatched (file_at files 2) clocks out)
IsText (Make number) files = IsSummary number
IsText Asm files = IsAssembled (file_at files 0) (file_at files 1)
IsText Dis files = IsShownText (file_at files 0) (file_at files 1)
IsText Test files = IsTested (file_at files 0)
IsText Explain files = IsExplained (file_at files 0) (file_at files 1)
IsText Tune files = IsTuned (file_at files 0) (file_at files 1)
IsText Dual files = IsDualCompiled (file_at files 0) (file_at files 1) (file_at files 2)
IsText Check files = IsChecked (file_at files 0) (file_at files 1) (file_at files 2)

-- the bytes that were taken are the text of the command for the files of these names
pub record HasText (command : Command) (names : List (List ℕ)) (known : Files) (old new : List ℕ) : Type 0 where
  pub files : List (List ℕ)
  pub out : List ℕ
  pub are : AreFiles (Some known) names files
  pub taken : new ≡ old ++ out
  pub text : IsText command files out

-- the same, where files and bytes are told
abbrev pub Wrote : Command → List (List ℕ) → Option Files → Option (List ℕ) → Option (List ℕ) → Type 0
Wrote command names files old new =
    IfSome files (λ all. IfSome old (λ before. IfSome new (HasText command names all before)))
