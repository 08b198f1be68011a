-- Right code clashes nowhere before its end mark.
use Rattle.std.proofs.Common.{ℕ, ◌≡◌, ◌≤◌, ◌+◌, ◌-◌, ◌*◌, ◌∙◌, List, [], ◌∷◌, ◌++◌, map, length, sym, ap, arith}
use Rattle.net_model.specs.declared.states.State.{State}
use Rattle.src_model.specs.Written.{stmts_of}
use Rattle.form_model.specs.declared.flow.Flow.{Flow}
use Rattle.form_model.specs.declared.flow.Flow.TheVariants.{End}
use Rattle.src_trees.specs.Flows.{flow_in, program_flow}
use Rattle.branch_fix.specs.Marked.{Ascend, labels}
use Rattle.branch_fix.proofs.Marking.{some_label, ascend_within}
use Rattle.code_model.specs.declared.image.Image.{Image}
use Rattle.code_model.specs.declared.image.Mark.{Mark}
use Rattle.code_model.specs.Machine.{IsCalm}
use Rattle.code_model.specs.Places.{words_of}
use Rattle.code_model.specs.Right.{ShowsSource}
use Rattle.right_code.specs.Images.{IsMadeFor, IsRightImage}
use Rattle.right_code.specs.Tasks.{Task}
use Rattle.src_model.specs.Trace.{strace}
use Rattle.make_command.specs.Stops.{IsAtEnd, RunsOn}
use Rattle.make_command.proofs.Shown.{shown_runs}

some_word : (flow : List Flow) (words : ℕ) (marks : List Mark) → map (λ (mark : Mark). mark.label) marks ≡ labels (flow ++ End ∷ []) → Ascend 0 marks words → 1 ≤ words
some_word flow words [] each apart = absurd (some_label flow (sym each))
some_word flow words (mark ∷ marks) each apart = omega (arith, ascend_within (mark.address + 1) words marks apart.1)

some_words : (task : Task) (image : Image) → task.flow ≡ program_flow task.program → IsMadeFor task image → 1 ≤ length (words_of image)
some_words task image own made = some_word (flow_in (stmts_of task.program.body) 0 0) (length (words_of image)) image.marks (made.marked.each ∙ ap labels own) made.marked.apart

enough : (n words : ℕ) → 1 ≤ words → n * words ≡ n + (n * words - n)
enough n words some = grind arith

pub right_runs : (task : Task) (image : Image) → task.flow ≡ program_flow task.program → IsRightImage task image → (s : State) → IsCalm task.netlist 0 s → (n : ℕ) → RunsOn task.netlist (words_of image) (IsAtEnd task.netlist image) n s
right_runs task image own right s here n =
    let h : ShowsSource task.netlist image (strace task.width task.program) s n = right.traces.shows s here n in
    shown_runs task.netlist image n (n * length (words_of image) - n) (n * length (words_of image)) s 0 h.entries (enough n (length (words_of image)) (some_words task image own right.made)) h.traced
