-- What commands answer that make code of two texts.
use Rattle.std.proofs.Common.{◌≡◌, ◌⊎◌, ℕ, List, inl, inr, refl}
use Rattle.net_model.specs.declared.fault.NetFault.{NetFault}
use Rattle.isa_extract.specs.Taken.{BreaksAnyTaken}
use Rattle.isa_extract.proofs.RoutedTaken.{no_broken_any_taken, no_text_fault_where_taken}
use Rattle.right_code.specs.Covered.{HasBareTree}
use Rattle.right_code.specs.Tasks.{Property}
use Rattle.code_gen.specs.Refusals.{HasJumps, IsBeyondReach, IsCoverable, IsReached, IsImageTooLong as HasLongImage}
use Rattle.compile_command.proofs.TaskLemmas.{has_net, weaker, no_uncovered, no_beyond, no_long, room_of_code, reached_of_code}
use Rattle.compile_command.specs.declared.fault.CompileFault.{CompileFault}
use Rattle.compile_command.specs.declared.fault.CompileFault.TheVariants.{NetText as CompileNetText, Net as CompileNet, SrcText as CompileSrcText, Src as CompileSrc, DataFull as NoRoom, NoStep as Stepless, NoJump as Jumpless, NoCover as Uncovered, NoReach as Beyond, ImageFull as Overlong, Memory as CompileMemory}
use Rattle.compile_command.specs.Code.{IsDataFull, IsWithin, FailsWith, HasRoom}
use Rattle.compile_command.specs.Compiled.{HasNet, IsCompiled, IsCompileFault}
use Rattle.compile_command.specs.Tasks.{TaskHolds, compiled_edition}
use Rattle.record_core.proofs.FormLemmas.{answers_no_net_text, answers_broken, answers_no_src_text, answers_broken_src, answers_full, answers_stepless, answers_jumpless, behind_jumps, later_of_forms, past_jumps}
use Rattle.record_core.proofs.StageLemmas.{By-none, Then-behind, Then-past}
use Rattle.record_core.specs.Answers.{CodeAnswers, CodeEnds, CompileAnswers}
use Rattle.record_core.specs.Stages.{By, Then}
use Rattle.record_core.specs.Inner.Statuses.{compile_status}
use Rattle.record_core.specs.declared.status.Status.{Status}
use Rattle.record_core.specs.declared.status.Status.TheVariants.{Done, NoCover, NoReach, ImageFull, Memory}

module _ (line : Status → List ℕ) (net src : List ℕ) (Later : Status → List ℕ → Type 0) where
  -- ---- the stages behind those of the forms

  abbrev uncovered : Status → Type 0
  uncovered = By NoCover (λ (tree : ℕ). TaskHolds net src (HasBareTree tree))

  abbrev beyond : Status → Type 0
  beyond = By (λ (p : ℕ × ℕ). NoReach p.0 p.1) (λ (p : ℕ × ℕ). TaskHolds net src (IsBeyondReach p.0 p.1))

  -- ---- what is answered behind them

  abbrev ends : Status → List ℕ → Type 0
  ends = CodeEnds line (TaskHolds net src) Later

  abbrev reach_answers : Status → List ℕ → Type 0
  reach_answers = Then line beyond ends

  abbrev cover_answers : Status → List ℕ → Type 0
  cover_answers = Then line uncovered reach_answers

  -- ---- no stage refuses where there is nothing to refuse

  not_uncovered : TaskHolds net src IsCoverable → (other : Status) → uncovered other → ⊥
  not_uncovered h = By-none NoCover (λ (tree : ℕ). TaskHolds net src (HasBareTree tree)) (λ tree is. no_uncovered net src tree h is)

  not_beyond : TaskHolds net src IsReached → (other : Status) → beyond other → ⊥
  not_beyond h = By-none (λ (p : ℕ × ℕ). NoReach p.0 p.1) (λ (p : ℕ × ℕ). TaskHolds net src (IsBeyondReach p.0 p.1)) (λ p is. no_beyond net src p.0 p.1 h is)

  -- the netlist of a task breaks no rule
  keeps : (P : Property) → TaskHolds net src P → (fault : NetFault) → BreaksAnyTaken compiled_edition net fault → ⊥
  keeps P h fault breaks = let has : HasNet net = has_net net src P h in no_broken_any_taken compiled_edition net has.entries fault has.file.file has.file.taken breaks

  -- ---- what each refusal that doesn't come leaves to the later stages

  module _ (roomy : TaskHolds net src HasRoom) where
    past_covers : TaskHolds net src IsCoverable → (status : Status) (text : List ℕ) → reach_answers status text → CodeAnswers line net src Later status text
    past_covers h status text later =
        past_jumps line net src (BreaksAnyTaken compiled_edition net) cover_answers (keeps HasRoom roomy) roomy (weaker net src IsCoverable HasJumps (λ task x. x.jumps) h) status text
        (Then-past line uncovered reach_answers (not_uncovered h) status text later)

    past_reach : TaskHolds net src IsReached → (status : Status) (text : List ℕ) → ends status text → CodeAnswers line net src Later status text
    past_reach h status text later =
        past_covers (weaker net src IsReached IsCoverable (λ task x. x.coverable) h) status text (Then-past line beyond ends (not_beyond h) status text later)

  -- where there is room and the code is within reach, the later stages answer
  pub answers_later : TaskHolds net src HasRoom → TaskHolds net src IsReached → (status : Status) (text : List ℕ) → Later status text → CodeAnswers line net src Later status text
  answers_later roomy reached status text later = past_reach roomy reached status text (inr later)

  -- ---- each refusal is answered

  answers_uncovered : (tree : ℕ) → TaskHolds net src (FailsWith (Uncovered tree)) → CodeAnswers line net src Later (NoCover tree) (line (NoCover tree))
  answers_uncovered tree h =
      past_jumps line net src (BreaksAnyTaken compiled_edition net) cover_answers (keeps (FailsWith (Uncovered tree)) h) (weaker net src (FailsWith (Uncovered tree)) HasRoom (λ task x. x.0) h)
      (weaker net src (FailsWith (Uncovered tree)) HasJumps (λ task x. x.1.0) h)
      (NoCover tree) (line (NoCover tree))
      (inl ((tree, weaker net src (FailsWith (Uncovered tree)) (HasBareTree tree) (λ task x. x.1.1) h, refl), refl))

  answers_beyond : (bound reach : ℕ) → TaskHolds net src (FailsWith (Beyond bound reach)) → CodeAnswers line net src Later (NoReach bound reach) (line (NoReach bound reach))
  answers_beyond bound reach h =
      past_covers (weaker net src (FailsWith (Beyond bound reach)) HasRoom (λ task x. x.0) h)
      (weaker net src (FailsWith (Beyond bound reach)) IsCoverable (λ task x. x.1.0) h)
      (NoReach bound reach) (line (NoReach bound reach))
      (inl (((bound, reach), weaker net src (FailsWith (Beyond bound reach)) (IsBeyondReach bound reach) (λ task x. x.1.1) h, refl), refl))

  answers_long : (len size bound : ℕ) → TaskHolds net src (FailsWith (Overlong len size bound)) → CodeAnswers line net src Later (ImageFull len size bound) (line (ImageFull len size bound))
  answers_long len size bound h =
      past_reach (weaker net src (FailsWith (Overlong len size bound)) HasRoom (λ task x. x.0) h)
      (weaker net src (FailsWith (Overlong len size bound)) IsReached (λ task x. x.1.0) h)
      (ImageFull len size bound) (line (ImageFull len size bound))
      (inl (len, size, bound, weaker net src (FailsWith (Overlong len size bound)) (HasLongImage len size bound) (λ task x. x.1.1) h, refl, refl))

  -- a fault of the compiler is what is answered
  pub answers_fault : (fault : CompileFault) → IsCompileFault net src fault →
      (compile_status fault ≡ Memory) ⊎ CodeAnswers line net src Later (compile_status fault) (line (compile_status fault))
  answers_fault (CompileNetText at) is = inr (answers_no_net_text line net src (BreaksAnyTaken compiled_edition net) cover_answers at is)
  answers_fault (CompileNet fault) is = inr (answers_broken line net src (BreaksAnyTaken compiled_edition net) cover_answers fault (λ at faulty. no_text_fault_where_taken compiled_edition net fault at is faulty) is)
  answers_fault (CompileSrcText at) is = inr (answers_no_src_text line net src (BreaksAnyTaken compiled_edition net) cover_answers (λ fault breaks. no_broken_any_taken compiled_edition net is.0.entries fault is.0.file.file is.0.file.taken breaks) at is)
  answers_fault (CompileSrc fault) is = inr (answers_broken_src line net src (BreaksAnyTaken compiled_edition net) cover_answers (λ other breaks. no_broken_any_taken compiled_edition net is.entries other is.net_file.file is.net_file.taken breaks) fault is)
  answers_fault (NoRoom need have) is = inr (answers_full line net src (BreaksAnyTaken compiled_edition net) cover_answers (keeps (IsDataFull need have) is) need have is)
  answers_fault Stepless is = inr (answers_stepless line net src (BreaksAnyTaken compiled_edition net) cover_answers (keeps (FailsWith Stepless) is) is)
  answers_fault Jumpless is = inr (answers_jumpless line net src (BreaksAnyTaken compiled_edition net) cover_answers (keeps (FailsWith Jumpless) is) is)
  answers_fault (Uncovered tree) is = inr (answers_uncovered tree is)
  answers_fault (Beyond bound reach) is = inr (answers_beyond bound reach is)
  answers_fault (Overlong len size bound) is = inr (answers_long len size bound is)
  answers_fault CompileMemory is = inl refl

  -- ---- where nothing is refused, whatever image is made

  module _ (h : TaskHolds net src IsWithin) where
    reached : TaskHolds net src IsReached
    reached = weaker net src IsWithin IsReached (λ task x. x.reached) h

    covered : TaskHolds net src IsCoverable
    covered = weaker net src IsReached IsCoverable (λ task x. x.coverable) reached

    jumps : TaskHolds net src HasJumps
    jumps = weaker net src IsCoverable HasJumps (λ task x. x.jumps) covered

    ends_later : (status : Status) (text : List ℕ) → ends status text → Later status text
    ends_later status text (inl (len, size, bound, long, is, same)) = absurd (no_long net src len size bound h long)
    ends_later status text (inr later) = later

    pub later_within : (status : Status) (text : List ℕ) → CodeAnswers line net src Later status text → Later status text
    later_within status text answers =
        let roomy : TaskHolds net src HasRoom = weaker net src IsWithin HasRoom (λ task x. x.room) h in
        let a : cover_answers status text = behind_jumps line net src (BreaksAnyTaken compiled_edition net) cover_answers (keeps HasRoom roomy) roomy jumps status text answers in
        let b : reach_answers status text = Then-behind line uncovered reach_answers (not_uncovered covered) status text a in
        ends_later status text (Then-behind line beyond ends (not_beyond reached) status text b)

  -- ---- what is written on `Done` is what the later stages write

  pub later_of : (text : List ℕ) → CodeAnswers line net src Later Done text → Later Done text
  later_of text answers = by (later_of_forms line net src (BreaksAnyTaken compiled_edition net) cover_answers text answers)
    where
      by : cover_answers Done text → Later Done text
      by (inl ((tree, reason, e), same)) = absurd cc
      by (inr (covers, inl ((p, reason, e), same))) = absurd cc
      by (inr (covers, inr (reach, inl (len, size, bound, long, e, same)))) = absurd cc
      by (inr (covers, inr (reach, inr later))) = later

-- ---- `compile`

module _ (line : Status → List ℕ) (net src : List ℕ) where
  pub answers_done : (out : List ℕ) → IsCompiled net src out → CompileAnswers line net src Done out
  answers_done out code =
      answers_later line net src (λ status text. (status ≡ Done) × IsCompiled net src text) (room_of_code net src out code) (reached_of_code net src out code) Done out (refl, code)

  pub compile_fault : (fault : CompileFault) → IsCompileFault net src fault →
      (compile_status fault ≡ Memory) ⊎ CompileAnswers line net src (compile_status fault) (line (compile_status fault))
  compile_fault = answers_fault line net src (λ status text. (status ≡ Done) × IsCompiled net src text)

  -- what is written on `Done` is an image
  pub right_of : (text : List ℕ) → CompileAnswers line net src Done text → IsCompiled net src text
  right_of text answers = (later_of line net src (λ status text. (status ≡ Done) × IsCompiled net src text) text answers).1

  -- where nothing is refused, whatever image is made, one is written
  pub done_within : TaskHolds net src IsWithin → (status : Status) (text : List ℕ) → CompileAnswers line net src status text → status ≡ Done
  done_within h status text answers = (later_within line net src (λ status text. (status ≡ Done) × IsCompiled net src text) h status text answers).0
