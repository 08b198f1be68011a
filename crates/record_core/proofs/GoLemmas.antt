-- What `go` answers for three texts.
use Rattle.std.proofs.Common.{◌≡◌, ◌⊎◌, ℕ, List, inl, inr, refl, subst}
use Rattle.std.specs.Prelude.{IfOk, Result, Ok, Err}
use Rattle.rec_bits.specs.declared.fault.ParseFault.{ParseFault}
use Rattle.rec_bits.specs.declared.fault.ParseFault.TheVariants.{Text as NoState, Memory as NoStateMemory}
use Rattle.net_model.specs.declared.hardware.Netlist.{Netlist}
use Rattle.net_model.specs.declared.states.State.{State}
use Rattle.net_model.specs.MemoryText.{IsMemoryFault, IsMemoryRefusal, IsMemoryText}
use Rattle.net_model.specs.ModeRules.{base_at}
use Rattle.net_model.specs.Modes.{IsBase}
use Rattle.net_model.proofs.Bases.{base_of}
use Rattle.net_model.proofs.BaseTexts.{fault_of_base, text_of_base}
use Rattle.code_model.specs.Machine.{IsCalm}
use Rattle.code_model.proofs.Bases.{at_in}
use Rattle.compile_command.proofs.TaskLemmas.{holds_of_read, together}
use Rattle.compile_command.specs.Code.{HasRightCode, HasRoom}
use Rattle.compile_command.specs.Compiled.{IsCompileFault}
use Rattle.compile_command.specs.Read.{IsCompiledTo}
use Rattle.compile_command.specs.Tasks.{TaskHolds}
use Rattle.compile_command.specs.declared.compiler.Compiled.{Compiled}
use Rattle.compile_command.specs.declared.fault.CompileFault.{CompileFault}
use Rattle.code_gen.specs.Refusals.{IsReached}
use Rattle.run_command.proofs.StateLaws.{no_state_fault, one_state_fault}
use Rattle.right_code.specs.Tasks.{Property, Task, read_task}
use Rattle.state_text.proofs.Calm.{calm_of_text}
use Rattle.state_text.specs.Settings.{IsStartState}
use Rattle.record_core.proofs.CompileLemmas.{answers_fault, answers_later, later_of}
use Rattle.record_core.proofs.StageLemmas.{By-none}
use Rattle.record_core.specs.Answers.{GoAnswers, WatchAnswers}
use Rattle.record_core.specs.Inner.Putting.{IsMemoryStatus}
use Rattle.record_core.specs.Inner.Statuses.{compile_status, memory_status}
use Rattle.record_core.specs.Watching.{IsWatched, LacksMemory}
use Rattle.record_core.specs.declared.status.Status.{Status}
use Rattle.record_core.specs.declared.status.Status.TheVariants.{Done, Usage, ReadFault, TooLong, WriteFault, NetText, Net, SrcText, Src, NoStep, NoJump, NoCover, DataFull, NoReach, ImageFull, Memory, ImageText, MemText, Clash, AsmText, AsmWord, TestLimit, PartText, Rule, Follow}

-- ---- the state to start from

-- two facts of what was read
pub both_ok : {T E : Type 0} → (r : Result T E) (P Q : T → Type 0) → IfOk r P → IfOk r Q → IfOk r (λ x. P x × Q x)
both_ok (Ok x) P Q p q = (p, q)
both_ok (Err e) P Q p q = tt

module _ (task : Task) (first whole : Netlist) (first_is : first ≡ base_at task.netlist 0) (whole_is : whole ≡ task.netlist) (memory : List ℕ) where
  -- what the text says of what a netlist is in mode 0, and doesn't name the mode, it says of the netlist
  pub said_of_first : (s : State) → IsMemoryText first whole.special memory s → IsMemoryText task.netlist task.netlist.special memory s
  said_of_first s h =
      subst (λ (n : Netlist). IsMemoryText task.netlist n.special memory s) whole_is
      (text_of_base task.netlist 0 whole.special memory s (subst (λ (n : Netlist). IsMemoryText n whole.special memory s) first_is h))

  pub calm_start : (s : State) → IsMemoryText first whole.special memory s × IsStartState first s → IsCalm task.netlist 0 s
  calm_start s h =
      let start : IsStartState (base_at task.netlist 0) s = subst (λ (n : Netlist). IsStartState n s) first_is h.1 in
      let same : IsBase task.netlist task.netlist.special 0 (base_at task.netlist 0) = base_of task.netlist task.netlist.special 0 in
      record {
        here = at_in (base_at task.netlist 0) task.netlist 0 s same.storages same.codes (record { state = start.state; counter = start.counter });
        mode = calm_of_text task.netlist task.netlist.special memory s (said_of_first s h.0);
      }

  -- and where it says nothing of the one, it says nothing of the other
  pub unsaid_of_first : (fault : ParseFault) → IsMemoryRefusal first whole.special memory fault → IsMemoryStatus task memory (memory_status fault)
  unsaid_of_first (NoState at) h = record {
    none =
        subst (λ (n : Netlist). IsMemoryFault task.netlist n.special memory at) whole_is
        (fault_of_base task.netlist 0 whole.special memory at (subst (λ (n : Netlist). IsMemoryFault n whole.special memory at) first_is h));
  }
  unsaid_of_first NoStateMemory h = tt

module _ (net src memory : List ℕ) where
  -- a memory text that is none shows that at one offset, and one that is read shows it at none
  pub one_lack : (a b : ℕ) → TaskHolds net src (LacksMemory memory a) → TaskHolds net src (LacksMemory memory b) → a ≡ b
  one_lack a b = together net src (LacksMemory memory a) (LacksMemory memory b) (a ≡ b) (λ task x y. one_state_fault task.netlist task.netlist.special memory a b x.none y.none)

  pub no_lack : (clocks : ℕ) (out : List ℕ) (at : ℕ) → TaskHolds net src (IsWatched memory clocks out) → TaskHolds net src (LacksMemory memory at) → ⊥
  no_lack clocks out at = together net src (IsWatched memory clocks out) (LacksMemory memory at) ⊥ (λ task x y. no_state_fault task.netlist task.netlist.special memory x.start at x.said y.none)

module _ (line : Status → List ℕ) (net src memory : List ℕ) (clocks : ℕ) where
  -- a fault of the compiler is what is answered
  pub go_fault : (fault : CompileFault) → IsCompileFault net src fault → (compile_status fault ≡ Memory) ⊎ GoAnswers line net src memory clocks (compile_status fault) (line (compile_status fault))
  go_fault = answers_fault line net src (WatchAnswers line net src memory clocks)

  -- what is written on `Done` are the checkpoints
  pub watched_of : (text : List ℕ) → GoAnswers line net src memory clocks Done text → TaskHolds net src (IsWatched memory clocks text)
  watched_of text answers = shown (later_of line net src (WatchAnswers line net src memory clocks) text answers)
    where
      shown : WatchAnswers line net src memory clocks Done text → TaskHolds net src (IsWatched memory clocks text)
      shown (image, inl ((at, reason, is), same)) = absurd cc
      shown (image, inr (none, (is, watched))) = watched

  module _ (program : Compiled) (from : IsCompiledTo net src program) where
    -- what holds of the task that was read holds of the texts
    holds : (P : Property) → P (read_task program.modes program.typed) → TaskHolds net src P
    holds = holds_of_read net src program.modes program.typed from.read.net_file from.read.width from.read.src_file

    later : (status : Status) (text : List ℕ) → WatchAnswers line net src memory clocks status text → GoAnswers line net src memory clocks status text
    later = answers_later line net src (WatchAnswers line net src memory clocks) (holds HasRoom from.image.room) (holds IsReached from.image.reached)

    image : TaskHolds net src HasRightCode
    image = holds HasRightCode (record { image = program.image; right = from.image })

    pub answers_watched : (text : List ℕ) → IsWatched memory clocks text (read_task program.modes program.typed) → GoAnswers line net src memory clocks Done text
    answers_watched text watched =
        let shown : TaskHolds net src (IsWatched memory clocks text) = holds (IsWatched memory clocks text) watched in
        later Done text (
          image,
          inr (By-none MemText (λ (at : ℕ). TaskHolds net src (LacksMemory memory at)) (λ at lacks. no_lack net src memory clocks text at shown lacks), (refl, shown)),
        )

    answers_lacking : (at : ℕ) → LacksMemory memory at (read_task program.modes program.typed) → GoAnswers line net src memory clocks (MemText at) (line (MemText at))
    answers_lacking at lacks = later (MemText at) (line (MemText at)) (image, inl ((at, holds (LacksMemory memory at) lacks, refl), refl))

    -- why there is no state to start from is what is answered
    pub memory_fault : (status : Status) → IsMemoryStatus (read_task program.modes program.typed) memory status →
        (status ≡ Memory) ⊎ GoAnswers line net src memory clocks status (line status)
    memory_fault (MemText at) is = inr (answers_lacking at is)
    memory_fault Memory is = inl refl
    memory_fault Done is = absurd is
    memory_fault Usage is = absurd is
    memory_fault (ReadFault file) is = absurd is
    memory_fault (TooLong file limit) is = absurd is
    memory_fault WriteFault is = absurd is
    memory_fault (NetText at) is = absurd is
    memory_fault (Net fault) is = absurd is
    memory_fault (SrcText at) is = absurd is
    memory_fault (Src fault) is = absurd is
    memory_fault NoStep is = absurd is
    memory_fault NoJump is = absurd is
    memory_fault (NoCover tree) is = absurd is
    memory_fault (DataFull need have) is = absurd is
    memory_fault (NoReach bound reach) is = absurd is
    memory_fault (ImageFull len size bound) is = absurd is
    memory_fault (ImageText at) is = absurd is
    memory_fault (Clash cycle bus) is = absurd is
    memory_fault (AsmText at) is = absurd is
    memory_fault (AsmWord number) is = absurd is
    memory_fault (TestLimit count bound) is = absurd is
    memory_fault (PartText at) is = absurd is
    memory_fault (Rule fault) is = absurd is
    memory_fault (Follow origin cause) is = absurd is
