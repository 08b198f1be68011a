-- What `make` answers for a number.
use Rattle.std.proofs.Common.{◌≡◌, ◌⊎◌, ℕ, List, refl}
use Rattle.job_gen.specs.NetText.{net_text as job_netlist}
use Rattle.job_gen.specs.SrcText.{src_text as job_program}
use Rattle.compile_command.proofs.TaskLemmas.{weaker}
use Rattle.compile_command.specs.Code.{HasRoom}
use Rattle.compile_command.specs.Compiled.{IsCompileFault}
use Rattle.compile_command.specs.declared.fault.CompileFault.{CompileFault}
use Rattle.code_gen.specs.Refusals.{IsReached}
use Rattle.make_command.specs.Summaries.{IsSummary, IsSummaryOf}
use Rattle.record_core.proofs.CompileLemmas.{answers_fault, answers_later, later_of}
use Rattle.record_core.specs.Answers.{MakeAnswers}
use Rattle.record_core.specs.Inner.Statuses.{compile_status}
use Rattle.record_core.specs.declared.status.Status.{Status}
use Rattle.record_core.specs.declared.status.Status.TheVariants.{Done, Memory}

module _ (line : Status → List ℕ) (number : ℕ) where
  abbrev summed : Status → List ℕ → Type 0
  summed status text = (status ≡ Done) × IsSummary number text

  pub answers_summary : (text : List ℕ) → IsSummary number text → MakeAnswers line number Done text
  answers_summary text is =
      answers_later line (job_netlist number) (job_program number) summed
      (weaker (job_netlist number) (job_program number) (IsSummaryOf number text) HasRoom (λ task x. x.right.room) is)
      (weaker (job_netlist number) (job_program number) (IsSummaryOf number text) IsReached (λ task x. x.right.reached) is)
      Done text (refl, is)

  pub make_fault : (fault : CompileFault) → IsCompileFault (job_netlist number) (job_program number) fault →
      (compile_status fault ≡ Memory) ⊎ MakeAnswers line number (compile_status fault) (line (compile_status fault))
  make_fault = answers_fault line (job_netlist number) (job_program number) summed

  -- what is written on `Done` is the summary
  pub summary_of : (text : List ℕ) → MakeAnswers line number Done text → IsSummary number text
  summary_of text answers = (later_of line (job_netlist number) (job_program number) summed text answers).1
