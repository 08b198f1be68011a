-- What `tune` answers.
use Rattle.std.proofs.Common.{◌≡◌, ◌⊎◌, ℕ, List, inl, inr, refl}
use Rattle.net_model.specs.declared.fault.NetFault.{NetFault}
use Rattle.isa_extract.specs.Taken.{BreaksAnyTaken}
use Rattle.isa_extract.proofs.RoutedTaken.{no_broken_any_taken, no_text_fault_where_taken}
use Rattle.right_code.specs.Tasks.{Property, Task}
use Rattle.code_gen.specs.Refusals.{HasJumps}
use Rattle.compile_command.proofs.TaskLemmas.{has_net, together, weaker}
use Rattle.compile_command.specs.declared.fault.CompileFault.{CompileFault}
use Rattle.compile_command.specs.declared.fault.CompileFault.TheVariants.{NetText as CompileNetText, Net as CompileNet, SrcText as CompileSrcText, Src as CompileSrc, DataFull as NoRoom, NoStep as Stepless, NoJump as Jumpless, NoCover as Uncovered, NoReach as Beyond, ImageFull as Overlong, Memory as CompileMemory}
use Rattle.compile_command.specs.Code.{IsDataFull, IsWithin, FailsWith, HasRoom}
use Rattle.compile_command.specs.Compiled.{HasNet}
use Rattle.compile_command.specs.Tasks.{TaskHolds, compiled_edition}
use Rattle.tune_command.specs.Tuned.{IsTuned, IsTunedCode, IsTuneFault, TuneFailsWith}
use Rattle.tune_command.proofs.FaultLemmas.{jumps_of_beyond, jumps_of_code, jumps_of_long, jumps_of_uncovered, own_jumpless, own_stepless}
use Rattle.tune_command.proofs.WithinLemmas.{beyond_never, long_never, uncovered_never}
use Rattle.record_core.proofs.FormLemmas.{answers_no_net_text, answers_broken, answers_no_src_text, answers_broken_src, answers_full, answers_stepless, answers_jumpless, behind_jumps, later_of_forms, past_jumps}
use Rattle.record_core.specs.Answers.{TuneAnswers, TuneEnds}
use Rattle.record_core.specs.Inner.Statuses.{compile_status}
use Rattle.record_core.specs.declared.status.Status.{Status}
use Rattle.record_core.specs.declared.status.Status.TheVariants.{Done, NoCover, NoReach, ImageFull, Memory}

module _ (line : Status → List ℕ) (net src : List ℕ) where
  -- the netlist of a task breaks no rule
  keeps : (P : Property) → TaskHolds net src P → (fault : NetFault) → BreaksAnyTaken compiled_edition net fault → ⊥
  keeps P h fault breaks = let has : HasNet net = has_net net src P h in no_broken_any_taken compiled_edition net has.entries fault has.file.file has.file.taken breaks

  abbrev ends : Status → List ℕ → Type 0
  ends = TuneEnds line net src

  -- how `tune` ends where there is room, and the netlist steps and jumps
  past_forms : (P : Property) → ((task : Task) → P task → HasRoom task) → ((task : Task) → P task → HasJumps task) → TaskHolds net src P
      → (status : Status) (text : List ℕ) → ends status text → TuneAnswers line net src status text
  past_forms P room jumps h =
      past_jumps line net src (BreaksAnyTaken compiled_edition net) ends (keeps P h) (weaker net src P HasRoom room h) (weaker net src P HasJumps jumps h)

  pub answers_tuned : (out : List ℕ) → IsTuned net src out → TuneAnswers line net src Done out
  answers_tuned out code = past_forms (IsTunedCode out) (λ task x. x.right.room) (λ task x. jumps_of_code task x.right.reached) code Done out (inr (inr (inr (refl, code))))

  -- a fault of the compiler is what is answered
  pub tune_fault : (fault : CompileFault) → IsTuneFault net src fault →
      (compile_status fault ≡ Memory) ⊎ TuneAnswers line net src (compile_status fault) (line (compile_status fault))
  tune_fault (CompileNetText at) is = inr (answers_no_net_text line net src (BreaksAnyTaken compiled_edition net) ends at is)
  tune_fault (CompileNet fault) is = inr (answers_broken line net src (BreaksAnyTaken compiled_edition net) ends fault (λ at faulty. no_text_fault_where_taken compiled_edition net fault at is faulty) is)
  tune_fault (CompileSrcText at) is = inr (answers_no_src_text line net src (BreaksAnyTaken compiled_edition net) ends (λ fault breaks. no_broken_any_taken compiled_edition net is.0.entries fault is.0.file.file is.0.file.taken breaks) at is)
  tune_fault (CompileSrc fault) is = inr (answers_broken_src line net src (BreaksAnyTaken compiled_edition net) ends (λ other breaks. no_broken_any_taken compiled_edition net is.entries other is.net_file.file is.net_file.taken breaks) fault is)
  tune_fault (NoRoom need have) is = inr (answers_full line net src (BreaksAnyTaken compiled_edition net) ends (keeps (IsDataFull need have) is) need have is)
  tune_fault Stepless is =
      inr (answers_stepless line net src (BreaksAnyTaken compiled_edition net) ends (keeps (TuneFailsWith Stepless) is) (weaker net src (TuneFailsWith Stepless) (FailsWith Stepless) own_stepless is))
  tune_fault Jumpless is =
      inr (answers_jumpless line net src (BreaksAnyTaken compiled_edition net) ends (keeps (TuneFailsWith Jumpless) is) (weaker net src (TuneFailsWith Jumpless) (FailsWith Jumpless) own_jumpless is))
  tune_fault (Uncovered tree) is =
      inr (past_forms (TuneFailsWith (Uncovered tree)) (λ task x. x.0) (λ task x. jumps_of_uncovered task tree x.1) is (NoCover tree) (line (NoCover tree)) (inl ((tree, is, refl), refl)))
  tune_fault (Beyond bound reach) is =
      inr (past_forms (TuneFailsWith (Beyond bound reach)) (λ task x. x.0) (λ task x. jumps_of_beyond task bound reach x.1) is (NoReach bound reach) (line (NoReach bound reach)) (inr (inl (((bound, reach), is, refl), refl))))
  tune_fault (Overlong len size bound) is =
      inr (past_forms (TuneFailsWith (Overlong len size bound)) (λ task x. x.0) (λ task x. jumps_of_long task len size bound x.1) is (ImageFull len size bound) (line (ImageFull len size bound))
      (inr (inr (inl (((len, size, bound), is, refl), refl)))))
  tune_fault CompileMemory is = inl refl

  -- what is written on `Done` is an image
  pub tuned_of : (text : List ℕ) → TuneAnswers line net src Done text → IsTuned net src text
  tuned_of text answers = by (later_of_forms line net src (BreaksAnyTaken compiled_edition net) ends text answers)
    where
      by : ends Done text → IsTuned net src text
      by (inl ((tree, why, is), same)) = absurd cc
      by (inr (inl ((p, why, is), same))) = absurd cc
      by (inr (inr (inl ((p, why, is), same)))) = absurd cc
      by (inr (inr (inr (is, tuned)))) = tuned

  -- where nothing is refused, whatever image is made, code is written
  pub tuned_done : TaskHolds net src IsWithin → (status : Status) (text : List ℕ) → TuneAnswers line net src status text → status ≡ Done
  tuned_done h status text answers =
      by (behind_jumps line net src (BreaksAnyTaken compiled_edition net) ends (keeps IsWithin h)
      (weaker net src IsWithin HasRoom (λ task x. x.room) h) (weaker net src IsWithin HasJumps (λ task x. x.reached.coverable.jumps) h) status text answers)
    where
      by : ends status text → status ≡ Done
      by (inl ((tree, why, is), same)) = absurd (together net src IsWithin (TuneFailsWith (Uncovered tree)) ⊥ (λ task within fails. uncovered_never task within tree fails.1) h why)
      by (inr (inl ((p, why, is), same))) = absurd (together net src IsWithin (TuneFailsWith (Beyond p.0 p.1)) ⊥ (λ task within fails. beyond_never task within p.0 p.1 fails.1) h why)
      by (inr (inr (inl ((p, why, is), same)))) = absurd (together net src IsWithin (TuneFailsWith (Overlong p.0 p.1 p.2)) ⊥ (λ task within fails. long_never task within p.0 p.1 p.2 fails.1) h why)
      by (inr (inr (inr (is, tuned)))) = is
