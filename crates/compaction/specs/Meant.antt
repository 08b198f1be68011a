-- What a packing of steps has to leave, at its clocks. Groups mean steps where any words that fit
-- the groups, clocked in order from any state, don't clash and leave in the memory and in the live
-- registers what the steps leave one after the other; all other registers may differ.
use Rattle.std.specs.Prelude.{ℕ, ◌+◌, ◌^◌, ◌≤◌, List, length}
use Rattle.net_model.specs.declared.hardware.Netlist.{Netlist}
use Rattle.net_model.specs.declared.states.State.{State}
use Rattle.net_model.specs.Clock.{counter_in}
use Rattle.net_model.specs.Nets.{counter_width}
use Rattle.net_model.specs.Widths.{IsState}
use Rattle.form_model.specs.Effects.{Operation, steps_effect}
use Rattle.form_model.specs.Live.{Regs}
use Rattle.word_fit.specs.Fits.{fits_over}
use Rattle.word_fit.specs.Groups.{GroupsFit}
use Rattle.word_fit.specs.Runs.{RunsTo, StandAt}

-- any words that fit the groups, clocked in order from any state with the program counter at the
-- first of them, up to the last address that it can have, don't clash, leave the program counter
-- behind them, and leave the memory, the file and the registers that are live behind them as the
-- steps do one after the other; all other registers may differ
abbrev pub MeansSteps : {A : Type 0} → Netlist → (A → Operation) → Regs → List A → List (List A) → Type 0
MeansSteps netlist m after steps groups =
    (code words : List ℕ) (s : State) → GroupsFit m (fits_over netlist m) words groups after
    → IsState netlist s → StandAt code (counter_in netlist s) words
    → counter_in netlist s + length words ≤ 2 ^ counter_width netlist
    → RunsTo netlist code s (length words) after (steps_effect m steps s)
