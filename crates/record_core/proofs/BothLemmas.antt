-- What `dual` answers.
use Rattle.std.proofs.Common.{◌≡◌, ◌⊎◌, ℕ, List, inl, inr, refl}
use Rattle.net_model.specs.declared.fault.NetFault.{NetFault}
use Rattle.net_front.specs.Taken.{HasNoBank, unbanked_role}
use Rattle.net_front.proofs.TakenLaws.{has_bank}
use Rattle.isa_extract.specs.Taken.{BreaksAnyBanked}
use Rattle.isa_extract.proofs.RoutedTaken.{no_broken_of_any, no_text_fault_of_any}
use Rattle.src_front.proofs.FrontLaws.{no_text_fault as no_src_fault}
use Rattle.src_model.specs.declared.fault.SrcFault.{SrcFault}
use Rattle.src_parser.specs.Texts.{IsNoSrcText}
use Rattle.right_code.specs.Covered.{HasBareTree}
use Rattle.code_gen.specs.Refusals.{HasJumps, HasSteps, IsBeyondReach, IsCoverable, IsJumpless, IsReached, IsStepless, IsImageTooLong as HasLongImage}
use Rattle.compile_command.specs.declared.fault.CompileFault.TheVariants.{NetText as CompileNetText, Net as CompileNet, SrcText as CompileSrcText, Src as CompileSrc, DataFull as NoRoom, NoStep as Stepless, NoJump as Jumpless, NoCover as Uncovered, NoReach as Beyond, ImageFull as Overlong, Memory as CompileMemory}
use Rattle.dual_command.specs.Code.{DualFailsWith, IsDualFull, IsDualWithin}
use Rattle.dual_command.specs.Compiled.{BreaksDualSrc, IsDualCompiled, IsDualFault, IsNoPart}
use Rattle.dual_command.specs.RightDual.{HasBothRoom, dual_task}
use Rattle.dual_command.specs.Tasks.{DualHolds, DualProperty, HasBankedNet, HasBankedProgram, ViewHolds}
use Rattle.dual_command.specs.declared.fault.DualFault.{DualFault}
use Rattle.dual_command.specs.declared.fault.DualFault.TheVariants.{PartText as NoPart, Compile as NoCode}
use Rattle.dual_command.proofs.DualLemmas.{has_program, no_beyond, no_full, no_jumpless, no_long, no_stepless, no_uncovered, none_broken, none_no_part, reached_of_code, room_of_code, weaker}
use Rattle.record_core.proofs.NetLemmas.{behind_rules, past_rules, stops_at_rule, stops_at_text}
use Rattle.record_core.proofs.StageLemmas.{By-none, Just-none, Then-behind, Then-past}
use Rattle.record_core.specs.Answers.{CodeEnds, DualAnswers}
use Rattle.record_core.specs.Inner.Statuses.{dual_status}
use Rattle.record_core.specs.Stages.{By, Just, Then}
use Rattle.record_core.specs.declared.status.Status.{Status}
use Rattle.record_core.specs.declared.status.Status.TheVariants.{Done, SrcText, Src, PartText, DataFull, NoStep, NoJump, NoCover, NoReach, ImageFull, Memory}

module _ (line : Status → List ℕ) (net src part : List ℕ) where
  -- ---- the stages behind those of the netlist

  abbrev no_text : Status → Type 0
  no_text = By SrcText (IsNoSrcText src)

  abbrev broken : Status → Type 0
  broken = By Src (BreaksDualSrc net src)

  abbrev partless : Status → Type 0
  partless = By PartText (IsNoPart net src part)

  abbrev full : Status → Type 0
  full = By (λ (p : ℕ × ℕ). DataFull p.0 p.1) (λ (p : ℕ × ℕ). DualHolds net src part (IsDualFull p.0 p.1))

  abbrev stepless : Status → Type 0
  stepless = Just NoStep (ViewHolds net src part (λ task. IsStepless task.netlist))

  abbrev jumpless : Status → Type 0
  jumpless = Just NoJump (ViewHolds net src part (λ task. IsJumpless task.netlist))

  abbrev uncovered : Status → Type 0
  uncovered = By NoCover (λ (tree : ℕ). ViewHolds net src part (HasBareTree tree))

  abbrev beyond : Status → Type 0
  beyond = By (λ (p : ℕ × ℕ). NoReach p.0 p.1) (λ (p : ℕ × ℕ). ViewHolds net src part (IsBeyondReach p.0 p.1))

  -- ---- what is answered behind them

  abbrev text_answers : Status → List ℕ → Type 0
  text_answers status text = (status ≡ Done) × IsDualCompiled net src part text

  abbrev ends : Status → List ℕ → Type 0
  ends = CodeEnds line (ViewHolds net src part) text_answers

  abbrev reach_answers : Status → List ℕ → Type 0
  reach_answers = Then line beyond ends

  abbrev cover_answers : Status → List ℕ → Type 0
  cover_answers = Then line uncovered reach_answers

  abbrev jump_answers : Status → List ℕ → Type 0
  jump_answers = Then line jumpless cover_answers

  abbrev step_answers : Status → List ℕ → Type 0
  step_answers = Then line stepless jump_answers

  abbrev room_answers : Status → List ℕ → Type 0
  room_answers = Then line full step_answers

  abbrev part_answers : Status → List ℕ → Type 0
  part_answers = Then line partless room_answers

  abbrev rule_answers : Status → List ℕ → Type 0
  rule_answers = Then line broken part_answers

  abbrev source_answers : Status → List ℕ → Type 0
  source_answers = Then line no_text rule_answers

  -- ---- no stage refuses where there is nothing to refuse

  kept : HasBankedNet net → (fault : NetFault) → BreaksAnyBanked net fault → ⊥
  kept h fault = no_broken_of_any HasNoBank unbanked_role net h.entries fault h.file (has_bank h.entries.edition h.banked)

  not_text : HasBankedProgram net src → (other : Status) → no_text other → ⊥
  not_text h = By-none SrcText (IsNoSrcText src) (λ at faulty. no_src_fault src h.program at h.src_file.says faulty)

  not_broken : HasBankedProgram net src → (other : Status) → broken other → ⊥
  not_broken h = By-none Src (BreaksDualSrc net src) (λ fault breaks. none_broken net src part fault h breaks)

  not_partless : (P : DualProperty) → DualHolds net src part P → (other : Status) → partless other → ⊥
  not_partless P h = By-none PartText (IsNoPart net src part) (λ at none. none_no_part net src part P at h none)

  not_full : DualHolds net src part HasBothRoom → (other : Status) → full other → ⊥
  not_full h = By-none (λ (p : ℕ × ℕ). DataFull p.0 p.1) (λ (p : ℕ × ℕ). DualHolds net src part (IsDualFull p.0 p.1)) (λ p is. no_full net src part p.0 p.1 h is)

  not_stepless : ViewHolds net src part HasSteps → (other : Status) → stepless other → ⊥
  not_stepless h = Just-none NoStep (ViewHolds net src part (λ task. IsStepless task.netlist)) (no_stepless net src part h)

  not_jumpless : ViewHolds net src part HasJumps → (other : Status) → jumpless other → ⊥
  not_jumpless h = Just-none NoJump (ViewHolds net src part (λ task. IsJumpless task.netlist)) (no_jumpless net src part h)

  not_uncovered : ViewHolds net src part IsCoverable → (other : Status) → uncovered other → ⊥
  not_uncovered h = By-none NoCover (λ (tree : ℕ). ViewHolds net src part (HasBareTree tree)) (λ tree is. no_uncovered net src part tree h is)

  not_beyond : ViewHolds net src part IsReached → (other : Status) → beyond other → ⊥
  not_beyond h = By-none (λ (p : ℕ × ℕ). NoReach p.0 p.1) (λ (p : ℕ × ℕ). ViewHolds net src part (IsBeyondReach p.0 p.1)) (λ p is. no_beyond net src part p.0 p.1 h is)

  steps_of : ViewHolds net src part HasJumps → ViewHolds net src part HasSteps
  steps_of = weaker net src part (λ task. HasJumps (dual_task task)) (λ task. HasSteps (dual_task task)) (λ task x. x.steps)

  jumps_of : ViewHolds net src part IsCoverable → ViewHolds net src part HasJumps
  jumps_of = weaker net src part (λ task. IsCoverable (dual_task task)) (λ task. HasJumps (dual_task task)) (λ task x. x.jumps)

  covers_of : ViewHolds net src part IsReached → ViewHolds net src part IsCoverable
  covers_of = weaker net src part (λ task. IsReached (dual_task task)) (λ task. IsCoverable (dual_task task)) (λ task x. x.coverable)

  -- ---- what each refusal that doesn't come leaves to the later stages

  past_net : HasBankedNet net → (status : Status) (text : List ℕ) → source_answers status text → DualAnswers line net src part status text
  past_net h = past_rules line net (BreaksAnyBanked net) source_answers h.entries h.file.file.says (kept h)

  past_program : HasBankedProgram net src → (status : Status) (text : List ℕ) → part_answers status text → DualAnswers line net src part status text
  past_program h status text later = past_net h.net_file status text
      (Then-past line no_text rule_answers (not_text h) status text (Then-past line broken part_answers (not_broken h) status text later))

  past_part : (P : DualProperty) → DualHolds net src part P → (status : Status) (text : List ℕ) → room_answers status text → DualAnswers line net src part status text
  past_part P h status text later =
      past_program (has_program net src part P h) status text (Then-past line partless room_answers (not_partless P h) status text later)

  past_room : DualHolds net src part HasBothRoom → (status : Status) (text : List ℕ) → step_answers status text → DualAnswers line net src part status text
  past_room h status text later = past_part HasBothRoom h status text (Then-past line full step_answers (not_full h) status text later)

  module _ (roomy : DualHolds net src part HasBothRoom) where
    past_steps : ViewHolds net src part HasSteps → (status : Status) (text : List ℕ) → jump_answers status text → DualAnswers line net src part status text
    past_steps h status text later = past_room roomy status text (Then-past line stepless jump_answers (not_stepless h) status text later)

    past_jumps : ViewHolds net src part HasJumps → (status : Status) (text : List ℕ) → cover_answers status text → DualAnswers line net src part status text
    past_jumps h status text later = past_steps (steps_of h) status text (Then-past line jumpless cover_answers (not_jumpless h) status text later)

    past_covers : ViewHolds net src part IsCoverable → (status : Status) (text : List ℕ) → reach_answers status text → DualAnswers line net src part status text
    past_covers h status text later = past_jumps (jumps_of h) status text (Then-past line uncovered reach_answers (not_uncovered h) status text later)

    past_reach : ViewHolds net src part IsReached → (status : Status) (text : List ℕ) → ends status text → DualAnswers line net src part status text
    past_reach h status text later = past_covers (covers_of h) status text (Then-past line beyond ends (not_beyond h) status text later)

  -- ---- what is written is answered

  pub dual_done : (out : List ℕ) → IsDualCompiled net src part out → DualAnswers line net src part Done out
  dual_done out code = past_reach (room_of_code net src part out code) (reached_of_code net src part out code) Done out (inr (refl, code))

  -- ---- each refusal is answered

  answers_broken_src : (fault : SrcFault) → BreaksDualSrc net src fault → DualAnswers line net src part (Src fault) (line (Src fault))
  answers_broken_src fault breaks = past_net breaks.net_file (Src fault) (line (Src fault)) (inr (
    By-none SrcText (IsNoSrcText src) (λ at faulty. no_src_fault src breaks.breaks.program at breaks.breaks.says faulty),
    inl ((fault, breaks, refl), refl),
  ))

  pub dual_fault : (fault : DualFault) → IsDualFault net src part fault → (dual_status fault ≡ Memory) ⊎ DualAnswers line net src part (dual_status fault) (line (dual_status fault))
  dual_fault (NoPart at) is = inr (past_program is.program (PartText at) (line (PartText at)) (inl ((at, is, refl), refl)))
  dual_fault (NoCode (CompileNetText at)) is = inr (stops_at_text line net (BreaksAnyBanked net) source_answers at is)
  dual_fault (NoCode (CompileNet fault)) is = inr (stops_at_rule line net (BreaksAnyBanked net) source_answers fault (λ at faulty. no_text_fault_of_any HasNoBank unbanked_role net fault at is faulty) is)
  dual_fault (NoCode (CompileSrcText at)) is = inr (past_net is.0 (SrcText at) (line (SrcText at)) (inl ((at, is.1, refl), refl)))
  dual_fault (NoCode (CompileSrc fault)) is = inr (answers_broken_src fault is)
  dual_fault (NoCode (NoRoom need have)) is = inr (past_part (IsDualFull need have) is (DataFull need have) (line (DataFull need have)) (inl (((need, have), is, refl), refl)))
  dual_fault (NoCode Stepless) is =
      inr (past_room (weaker net src part (DualFailsWith Stepless) HasBothRoom (λ task x. x.0) is) NoStep (line NoStep)
      (inl ((weaker net src part (DualFailsWith Stepless) (λ task. IsStepless (dual_task task).netlist) (λ task x. x.1) is, refl), refl)))
  dual_fault (NoCode Jumpless) is =
      inr (past_steps (weaker net src part (DualFailsWith Jumpless) HasBothRoom (λ task x. x.0) is)
      (weaker net src part (DualFailsWith Jumpless) (λ task. HasSteps (dual_task task)) (λ task x. x.1.0) is) NoJump (line NoJump)
      (inl ((weaker net src part (DualFailsWith Jumpless) (λ task. IsJumpless (dual_task task).netlist) (λ task x. x.1.1) is, refl), refl)))
  dual_fault (NoCode (Uncovered tree)) is =
      inr (past_jumps (weaker net src part (DualFailsWith (Uncovered tree)) HasBothRoom (λ task x. x.0) is)
      (weaker net src part (DualFailsWith (Uncovered tree)) (λ task. HasJumps (dual_task task)) (λ task x. x.1.0) is) (NoCover tree) (line (NoCover tree))
      (inl ((tree, weaker net src part (DualFailsWith (Uncovered tree)) (λ task. HasBareTree tree (dual_task task)) (λ task x. x.1.1) is, refl), refl)))
  dual_fault (NoCode (Beyond bound reach)) is =
      inr (past_covers (weaker net src part (DualFailsWith (Beyond bound reach)) HasBothRoom (λ task x. x.0) is)
      (weaker net src part (DualFailsWith (Beyond bound reach)) (λ task. IsCoverable (dual_task task)) (λ task x. x.1.0) is) (NoReach bound reach) (line (NoReach bound reach))
      (inl (((bound, reach), weaker net src part (DualFailsWith (Beyond bound reach)) (λ task. IsBeyondReach bound reach (dual_task task)) (λ task x. x.1.1) is, refl), refl)))
  dual_fault (NoCode (Overlong len size bound)) is =
      inr (past_reach (weaker net src part (DualFailsWith (Overlong len size bound)) HasBothRoom (λ task x. x.0) is)
      (weaker net src part (DualFailsWith (Overlong len size bound)) (λ task. IsReached (dual_task task)) (λ task x. x.1.0) is) (ImageFull len size bound) (line (ImageFull len size bound))
      (inl (len, size, bound, weaker net src part (DualFailsWith (Overlong len size bound)) (λ task. HasLongImage len size bound (dual_task task)) (λ task x. x.1.1) is, refl, refl)))
  dual_fault (NoCode CompileMemory) is = inl refl

  -- ---- what is written on `Done` is an image

  pub dual_of : (text : List ℕ) → DualAnswers line net src part Done text → IsDualCompiled net src part text
  dual_of text (inl ((at, reason, e), same)) = absurd cc
  dual_of text (inr (a, inl ((fault, reason, e), same))) = absurd cc
  dual_of text (inr (a, inr (b, inl ((at, reason, e), same)))) = absurd cc
  dual_of text (inr (a, inr (b, inr (c, inl ((fault, reason, e), same))))) = absurd cc
  dual_of text (inr (a, inr (b, inr (c, inr (d, inl ((at, reason, e), same)))))) = absurd cc
  dual_of text (inr (a, inr (b, inr (c, inr (d, inr (f, inl ((p, reason, e), same))))))) = absurd cc
  dual_of text (inr (a, inr (b, inr (c, inr (d, inr (f, inr (g, inl ((reason, e), same)))))))) = absurd cc
  dual_of text (inr (a, inr (b, inr (c, inr (d, inr (f, inr (g, inr (h, inl ((reason, e), same))))))))) = absurd cc
  dual_of text (inr (a, inr (b, inr (c, inr (d, inr (f, inr (g, inr (h, inr (i, later))))))))) = by later
    where
      by : cover_answers Done text → IsDualCompiled net src part text
      by (inl ((tree, reason, e), same)) = absurd cc
      by (inr (covers, inl ((p, reason, e), same))) = absurd cc
      by (inr (covers, inr (reach, inl (len, size, bound, long, e, same)))) = absurd cc
      by (inr (covers, inr (reach, inr answer))) = answer.1

  -- ---- where nothing is refused, whatever image is made, one is written

  ends_within : DualHolds net src part IsDualWithin → (status : Status) (text : List ℕ) → ends status text → status ≡ Done
  ends_within h status text (inl (len, size, bound, long, is, same)) = absurd (no_long net src part len size bound h long)
  ends_within h status text (inr answer) = answer.0

  pub dual_within : DualHolds net src part IsDualWithin → (status : Status) (text : List ℕ) → DualAnswers line net src part status text → status ≡ Done
  dual_within h status text answers =
      let program : HasBankedProgram net src = has_program net src part IsDualWithin h in
      let roomy : DualHolds net src part HasBothRoom = weaker net src part IsDualWithin HasBothRoom (λ task x. x.room) h in
      let reached : ViewHolds net src part IsReached = weaker net src part IsDualWithin (λ task. IsReached (dual_task task)) (λ task x. x.reached) h in
      let jumps : ViewHolds net src part HasJumps = jumps_of (covers_of reached) in
      let a : source_answers status text = behind_rules line net (BreaksAnyBanked net) source_answers program.net_file.entries program.net_file.file.file.says (kept program.net_file) status text answers in
      let b : rule_answers status text = Then-behind line no_text rule_answers (not_text program) status text a in
      let c : part_answers status text = Then-behind line broken part_answers (not_broken program) status text b in
      let d : room_answers status text = Then-behind line partless room_answers (not_partless IsDualWithin h) status text c in
      let e : step_answers status text = Then-behind line full step_answers (not_full roomy) status text d in
      let f : jump_answers status text = Then-behind line stepless jump_answers (not_stepless (steps_of jumps)) status text e in
      let g : cover_answers status text = Then-behind line jumpless cover_answers (not_jumpless jumps) status text f in
      let i : reach_answers status text = Then-behind line uncovered reach_answers (not_uncovered (covers_of reached)) status text g in
      ends_within h status text (Then-behind line beyond ends (not_beyond reached) status text i)
