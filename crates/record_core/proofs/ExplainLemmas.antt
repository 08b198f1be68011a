-- What `explain` answers for two texts.
use Rattle.std.proofs.Common.{◌≡◌, ◌⊎◌, ℕ, List, inl, inr, refl}
use Rattle.net_model.specs.declared.fault.NetFault.{NetFault}
use Rattle.isa_extract.specs.Taken.{BreaksAnyTaken}
use Rattle.isa_extract.proofs.RoutedTaken.{no_broken_any_taken, no_text_fault_where_taken}
use Rattle.code_gen.specs.Refusals.{HasJumps}
use Rattle.compile_command.proofs.TaskLemmas.{weaker}
use Rattle.compile_command.specs.Code.{HasRoom}
use Rattle.compile_command.specs.declared.fault.CompileFault.{CompileFault}
use Rattle.compile_command.specs.declared.fault.CompileFault.TheVariants as compiling
use Rattle.explain_command.specs.Explained.{explained_edition, HasTakenNet, IsExplained, IsExplainedTask, IsExplainFault}
use Rattle.record_core.proofs.FormLemmas.{answers_no_net_text, answers_broken, answers_no_src_text, answers_broken_src, answers_full, answers_stepless, answers_jumpless, later_of_forms, past_jumps}
use Rattle.record_core.specs.Answers.{ExplainAnswers}
use Rattle.record_core.specs.Inner.Statuses.{compile_status}
use Rattle.record_core.specs.declared.status.Status.{Status}
use Rattle.record_core.specs.declared.status.Status.TheVariants.{Done, Memory}

module _ (line : Status → List ℕ) (net src : List ℕ) where
  abbrev explained : Status → List ℕ → Type 0
  explained status text = (status ≡ Done) × IsExplained net src text

  abbrev Broken : NetFault → Type 0
  Broken = BreaksAnyTaken explained_edition net

  -- a text that is taken breaks no rule
  kept : HasTakenNet net → (fault : NetFault) → Broken fault → ⊥
  kept has fault = no_broken_any_taken explained_edition net has.entries fault has.file has.taken

  pub answers_explained : (out : List ℕ) → IsExplained net src out → ExplainAnswers line net src Done out
  answers_explained out is =
      past_jumps line net src Broken explained (kept is.0) (weaker net src (IsExplainedTask src out) HasRoom (λ task x. x.room) is.1)
      (weaker net src (IsExplainedTask src out) HasJumps (λ task x. x.jumps) is.1) Done out (refl, is)

  -- why nothing is explained is what is answered
  pub answers_explain_fault : (fault : CompileFault) → IsExplainFault net src fault →
      (compile_status fault ≡ Memory) ⊎ ExplainAnswers line net src (compile_status fault) (line (compile_status fault))
  answers_explain_fault (compiling.NetText at) is = inr (answers_no_net_text line net src Broken explained at is)
  answers_explain_fault (compiling.Net broken) is =
      inr (answers_broken line net src Broken explained broken (λ at faulty. no_text_fault_where_taken explained_edition net broken at is faulty) is)
  answers_explain_fault (compiling.SrcText at) is = inr (answers_no_src_text line net src Broken explained (kept is.0) at is.1)
  answers_explain_fault (compiling.Src broken) is = inr (answers_broken_src line net src Broken explained (kept is.0) broken is.1)
  answers_explain_fault (compiling.DataFull need have) is = inr (answers_full line net src Broken explained (kept is.0) need have is.1)
  answers_explain_fault compiling.NoStep is = inr (answers_stepless line net src Broken explained (kept is.0) is.1)
  answers_explain_fault compiling.NoJump is = inr (answers_jumpless line net src Broken explained (kept is.0) is.1)
  answers_explain_fault (compiling.NoCover tree) is = absurd is
  answers_explain_fault (compiling.NoReach bound reach) is = absurd is
  answers_explain_fault (compiling.ImageFull len size bound) is = absurd is
  answers_explain_fault compiling.Memory is = inl refl

  -- what is written on `Done` is explained
  pub explained_of : (text : List ℕ) → ExplainAnswers line net src Done text → IsExplained net src text
  explained_of text answers = (later_of_forms line net src Broken explained text answers).1
