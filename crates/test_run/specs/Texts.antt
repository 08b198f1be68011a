-- The text of a self-test's run.
use Rattle.std.specs.Prelude.{ℕ, List, Option, Some, None}
use Rattle.net_model.specs.declared.hardware.Netlist.{Netlist}
use Rattle.net_model.specs.declared.states.State.{State}
use Rattle.net_model.specs.Clock.{Run}
use Rattle.net_model.specs.Nets.{word_width}
use Rattle.fault_sim.specs.Reports.{cells_after, findings}
use Rattle.test_run.specs.Text.{report_text}
use Rattle.test_run.specs.Starts.{test_start}

-- of what words show of each fault from a state, where the run without a fault leaves `good` in the
-- memory
abbrev pub shown_text : Netlist → ℕ → ℕ → List ℕ → State → List ℕ → List ℕ
shown_text netlist tested skipped words s good =
    report_text (word_width netlist) tested skipped words (findings netlist words s good)

-- where the run without a fault clashes there is none
abbrev pub text_with : Netlist → ℕ → ℕ → List ℕ → Option (List ℕ) → Option (List ℕ)
text_with netlist tested skipped words None = None
text_with netlist tested skipped words (Some good) =
    Some (shown_text netlist tested skipped words (test_start netlist) good)

-- by the run without a fault
abbrev pub text_of : Netlist → ℕ → ℕ → List ℕ → Run → Option (List ℕ)
text_of netlist tested skipped words run = text_with netlist tested skipped words (cells_after run)
