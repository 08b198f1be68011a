-- What commands answer that take the forms of a netlist for a program.
use Rattle.std.proofs.Common.{ℕ, List, inl, inr, refl}
use Rattle.net_model.specs.declared.fault.NetFault.{NetFault}
use Rattle.net_parser.specs.Texts.{IsNoNetText}
use Rattle.src_front.proofs.FrontLaws.{no_text_fault as no_src_fault}
use Rattle.src_model.specs.declared.fault.SrcFault.{SrcFault}
use Rattle.src_parser.specs.Texts.{IsNoSrcText}
use Rattle.right_code.specs.Tasks.{Property}
use Rattle.code_gen.specs.Refusals.{HasJumps, HasSteps, IsJumpless, IsStepless}
use Rattle.compile_command.proofs.TaskLemmas.{has_net, none_broken, weaker, no_full, no_stepless, no_jumpless}
use Rattle.compile_command.specs.Code.{FailsWith, IsDataFull, HasRoom}
use Rattle.compile_command.specs.Compiled.{HasNet, BreaksSrc}
use Rattle.compile_command.specs.Tasks.{TaskHolds}
use Rattle.compile_command.specs.declared.fault.CompileFault.TheVariants.{NoStep as Stepless, NoJump as Jumpless}
use Rattle.record_core.proofs.NetLemmas.{behind_rules, past_rules, stops_at_text, stops_at_rule}
use Rattle.record_core.proofs.StageLemmas.{By-none, Just-none, Then-behind, Then-past}
use Rattle.record_core.specs.Answers.{FormAnswers}
use Rattle.record_core.specs.Stages.{By, Just, Then}
use Rattle.record_core.specs.declared.status.Status.{Status}
use Rattle.record_core.specs.declared.status.Status.TheVariants.{NetText, Net, SrcText, Src, Done, NoStep, NoJump, DataFull}

-- `Breaks` says which rule the netlist's text breaks first
module _ (line : Status → List ℕ) (net src : List ℕ) (Breaks : NetFault → Type 0) (Later : Status → List ℕ → Type 0) where
  -- ---- the stages behind those of the netlist

  abbrev no_text : Status → Type 0
  no_text = By SrcText (IsNoSrcText src)

  abbrev broken : Status → Type 0
  broken = By Src (BreaksSrc net src)

  abbrev full : Status → Type 0
  full = By (λ (p : ℕ × ℕ). DataFull p.0 p.1) (λ (p : ℕ × ℕ). TaskHolds net src (IsDataFull p.0 p.1))

  abbrev stepless : Status → Type 0
  stepless = Just NoStep (TaskHolds net src (λ task. IsStepless task.netlist))

  abbrev jumpless : Status → Type 0
  jumpless = Just NoJump (TaskHolds net src (λ task. IsJumpless task.netlist))

  -- ---- what is answered behind them

  abbrev jump_answers : Status → List ℕ → Type 0
  jump_answers = Then line jumpless Later

  abbrev step_answers : Status → List ℕ → Type 0
  step_answers = Then line stepless jump_answers

  abbrev room_answers : Status → List ℕ → Type 0
  room_answers = Then line full step_answers

  abbrev rule_answers : Status → List ℕ → Type 0
  rule_answers = Then line broken room_answers

  abbrev source_answers : Status → List ℕ → Type 0
  source_answers = Then line no_text rule_answers

  -- ---- no stage refuses where there is nothing to refuse

  not_text : (P : Property) → TaskHolds net src P → (other : Status) → no_text other → ⊥
  not_text P h = By-none SrcText (IsNoSrcText src) (λ at faulty. no_src_fault src h.task.program at h.is.src_file.says faulty)

  not_broken : (P : Property) → TaskHolds net src P → (other : Status) → broken other → ⊥
  not_broken P h = By-none Src (BreaksSrc net src) (λ fault breaks. none_broken net src P fault h breaks)

  not_full : TaskHolds net src HasRoom → (other : Status) → full other → ⊥
  not_full h = By-none (λ (p : ℕ × ℕ). DataFull p.0 p.1) (λ (p : ℕ × ℕ). TaskHolds net src (IsDataFull p.0 p.1)) (λ p is. no_full net src p.0 p.1 h is)

  not_stepless : TaskHolds net src HasSteps → (other : Status) → stepless other → ⊥
  not_stepless h = Just-none NoStep (TaskHolds net src (λ task. IsStepless task.netlist)) (no_stepless net src h)

  not_jumpless : TaskHolds net src HasJumps → (other : Status) → jumpless other → ⊥
  not_jumpless h = Just-none NoJump (TaskHolds net src (λ task. IsJumpless task.netlist)) (no_jumpless net src h)

  steps_of : TaskHolds net src HasJumps → TaskHolds net src HasSteps
  steps_of = weaker net src HasJumps HasSteps (λ task x. x.steps)

  -- ---- what each refusal that doesn't come leaves to the later stages, where the netlist's text
  -- breaks no rule

  module _ (kept : (fault : NetFault) → Breaks fault → ⊥) where
    past_net : HasNet net → (status : Status) (text : List ℕ) → source_answers status text → FormAnswers line net src Breaks Later status text
    past_net h = past_rules line net Breaks source_answers h.entries h.file.file.file.says kept

    past_program : (P : Property) → TaskHolds net src P → (status : Status) (text : List ℕ) → room_answers status text → FormAnswers line net src Breaks Later status text
    past_program P h status text later = past_net (has_net net src P h) status text
        (Then-past line no_text rule_answers (not_text P h) status text (Then-past line broken room_answers (not_broken P h) status text later))

    past_room : TaskHolds net src HasRoom → (status : Status) (text : List ℕ) → step_answers status text → FormAnswers line net src Breaks Later status text
    past_room h status text later = past_program HasRoom h status text (Then-past line full step_answers (not_full h) status text later)

    past_steps : TaskHolds net src HasRoom → TaskHolds net src HasSteps → (status : Status) (text : List ℕ) → jump_answers status text → FormAnswers line net src Breaks Later status text
    past_steps roomy h status text later = past_room roomy status text (Then-past line stepless jump_answers (not_stepless h) status text later)

    -- where there is room and the netlist has both, the later stages answer
    pub past_jumps : TaskHolds net src HasRoom → TaskHolds net src HasJumps → (status : Status) (text : List ℕ) → Later status text → FormAnswers line net src Breaks Later status text
    past_jumps roomy h status text later = past_steps roomy (steps_of h) status text (Then-past line jumpless Later (not_jumpless h) status text later)

    -- and nothing else does
    pub behind_jumps : TaskHolds net src HasRoom → TaskHolds net src HasJumps → (status : Status) (text : List ℕ) → FormAnswers line net src Breaks Later status text → Later status text
    behind_jumps roomy h status text answers =
        let a : source_answers status text = behind_rules line net Breaks source_answers (has_net net src HasRoom roomy).entries (has_net net src HasRoom roomy).file.file.file.says kept status text answers in
        let b : rule_answers status text = Then-behind line no_text rule_answers (not_text HasRoom roomy) status text a in
        let c : room_answers status text = Then-behind line broken room_answers (not_broken HasRoom roomy) status text b in
        let d : step_answers status text = Then-behind line full step_answers (not_full roomy) status text c in
        let e : jump_answers status text = Then-behind line stepless jump_answers (not_stepless (steps_of h)) status text d in
        Then-behind line jumpless Later (not_jumpless h) status text e

    -- ---- each refusal behind the netlist's is answered

    pub answers_no_src_text : (at : ℕ) → HasNet net × IsNoSrcText src at → FormAnswers line net src Breaks Later (SrcText at) (line (SrcText at))
    answers_no_src_text at (has, none) = past_net has (SrcText at) (line (SrcText at)) (inl ((at, none, refl), refl))

    pub answers_broken_src : (fault : SrcFault) → BreaksSrc net src fault → FormAnswers line net src Breaks Later (Src fault) (line (Src fault))
    answers_broken_src fault breaks = past_net (record { entries = breaks.entries; file = breaks.net_file }) (Src fault) (line (Src fault)) (inr (
      By-none SrcText (IsNoSrcText src) (λ at faulty. no_src_fault src breaks.breaks.program at breaks.breaks.says faulty),
      inl ((fault, breaks, refl), refl),
    ))

    pub answers_full : (need have : ℕ) → TaskHolds net src (IsDataFull need have) → FormAnswers line net src Breaks Later (DataFull need have) (line (DataFull need have))
    answers_full need have is = past_program (IsDataFull need have) is (DataFull need have) (line (DataFull need have)) (inl (((need, have), is, refl), refl))

    pub answers_stepless : TaskHolds net src (FailsWith Stepless) → FormAnswers line net src Breaks Later NoStep (line NoStep)
    answers_stepless h = past_room (weaker net src (FailsWith Stepless) HasRoom (λ task x. x.0) h) NoStep (line NoStep)
        (inl ((weaker net src (FailsWith Stepless) (λ task. IsStepless task.netlist) (λ task x. x.1) h, refl), refl))

    pub answers_jumpless : TaskHolds net src (FailsWith Jumpless) → FormAnswers line net src Breaks Later NoJump (line NoJump)
    answers_jumpless h =
        past_steps (weaker net src (FailsWith Jumpless) HasRoom (λ task x. x.0) h)
        (weaker net src (FailsWith Jumpless) HasSteps (λ task x. x.1.0) h)
        NoJump (line NoJump)
        (inl ((weaker net src (FailsWith Jumpless) (λ task. IsJumpless task.netlist) (λ task x. x.1.1) h, refl), refl))

  -- ---- the netlist's refusals are answered

  pub answers_no_net_text : (at : ℕ) → IsNoNetText net at → FormAnswers line net src Breaks Later (NetText at) (line (NetText at))
  answers_no_net_text = stops_at_text line net Breaks source_answers

  pub answers_broken : (fault : NetFault) → ((at : ℕ) → IsNoNetText net at → ⊥) → Breaks fault → FormAnswers line net src Breaks Later (Net fault) (line (Net fault))
  answers_broken = stops_at_rule line net Breaks source_answers

  -- ---- what is written on `Done` is what the later stages write

  pub later_of_forms : (text : List ℕ) → FormAnswers line net src Breaks Later Done text → Later Done text
  later_of_forms text (inl ((at, reason, e), same)) = absurd cc
  later_of_forms text (inr (net_text, inl ((fault, reason, e), same))) = absurd cc
  later_of_forms text (inr (net_text, inr (rules, inl ((at, reason, e), same)))) = absurd cc
  later_of_forms text (inr (net_text, inr (rules, inr (src_text, inl ((fault, reason, e), same))))) = absurd cc
  later_of_forms text (inr (net_text, inr (rules, inr (src_text, inr (src_rules, inl ((p, reason, e), same)))))) = absurd cc
  later_of_forms text (inr (net_text, inr (rules, inr (src_text, inr (src_rules, inr (room, inl ((reason, e), same))))))) = absurd cc
  later_of_forms text (inr (net_text, inr (rules, inr (src_text, inr (src_rules, inr (room, inr (steps, inl ((reason, e), same)))))))) = absurd cc
  later_of_forms text (inr (net_text, inr (rules, inr (src_text, inr (src_rules, inr (room, inr (steps, inr (jumps, later)))))))) = later
