-- What follows for words that fit groups, as statements.
use Rattle.std.specs.Prelude.{◌≡◌, ◌⊎◌, ◌↔◌, ℕ, ◌+◌, ◌<◌, ◌≤◌, ◌^◌, List, length, true, Some, slice_get}
use Rattle.net_model.specs.declared.hardware.Netlist.{Netlist}
use Rattle.net_model.specs.declared.states.State.{State}
use Rattle.net_model.specs.CheckedRules.{KeepsRules}
use Rattle.net_model.specs.Clock.{counter_in, word_at}
use Rattle.net_model.specs.Nets.{counter_width}
use Rattle.net_model.specs.Widths.{IsState}
use Rattle.form_model.specs.declared.forms.Step.{Step}
use Rattle.form_model.specs.Effects.{Operation, groups_effect, steps_effect}
use Rattle.form_model.specs.Live.{Regs, live_at, live_before, singles}
use Rattle.word_fit.specs.Fits.{FitsGroup, fits_over}
use Rattle.word_fit.specs.Groups.{GroupsFit, AreLeast, IsLiveBehind, IsReadIn, lives_of}
use Rattle.word_fit.specs.Runs.{IsClocked, RunsTo, StandAt}

-- a clock under a word that fits a group follows the group, from every state
abbrev pub ClocksFollow : Type 0
ClocksFollow =
    (netlist : Netlist) (order : List ℕ) (m : Step → Operation) (code : List ℕ) (w : ℕ)
    (g : List Step) (live : Regs) (s : State) →
    KeepsRules netlist order → FitsGroup netlist m w g live → IsState netlist s →
    word_at netlist code s ≡ w → IsClocked netlist m code g live s

-- words that fit groups and stand in a code from the program counter on, up to the last address
-- that it can have, clocked in order, don't clash, leave the program counter behind them, and leave
-- the memory, the file and the registers that are live after them as the groups do one after the
-- other
abbrev pub RunsFollow : Type 0
RunsFollow =
    (netlist : Netlist) (order : List ℕ) (m : Step → Operation) (code words : List ℕ)
    (groups : List (List Step)) (after : Regs) (s : State) →
    KeepsRules netlist order → GroupsFit m (fits_over netlist m) words groups after → IsState netlist s →
    StandAt code (counter_in netlist s) words → counter_in netlist s + length words ≤ 2 ^ counter_width netlist →
    RunsTo netlist code s (length words) after (groups_effect m groups s)

-- and where each group has one step, as the steps do
abbrev pub RunsFollowSteps : Type 0
RunsFollowSteps =
    (netlist : Netlist) (order : List ℕ) (m : Step → Operation) (code words : List ℕ)
    (steps : List Step) (after : Regs) (s : State) →
    KeepsRules netlist order → GroupsFit m (fits_over netlist m) words (singles steps) after → IsState netlist s →
    StandAt code (counter_in netlist s) words → counter_in netlist s + length words ≤ 2 ^ counter_width netlist →
    RunsTo netlist code s (length words) after (steps_effect m steps s)

-- a register is live exactly where it is still needed
abbrev pub LiveIsNeeded : Type 0
LiveIsNeeded =
    (m : Step → Operation) (later : List (List Step)) (after : Regs) (r : ℕ) →
    (live_before m later after r ≡ true) ↔ (IsReadIn m later r ⊎ IsLiveBehind m later after r)

-- the list of live sets has at each group's place the registers that are live after it
abbrev pub LivesAreLive : Type 0
LivesAreLive =
    (m : Step → Operation) (groups : List (List Step)) (after : Regs) (k : ℕ) → k < length groups →
    slice_get (lives_of m groups after) k ≡ Some (live_at m groups after k)

-- the least words of groups fit them
abbrev pub LeastWordsFit : Type 0
LeastWordsFit =
    (netlist : Netlist) (m : Step → Operation) (words : List ℕ) (groups : List (List Step)) (after : Regs) →
    AreLeast m (fits_over netlist m) words groups after → GroupsFit m (fits_over netlist m) words groups after

-- groups have one list of least words
abbrev pub LeastWordsAreOne : Type 0
LeastWordsAreOne =
    (netlist : Netlist) (m : Step → Operation) (words others : List ℕ) (groups : List (List Step)) (after : Regs) →
    AreLeast m (fits_over netlist m) words groups after →
    AreLeast m (fits_over netlist m) others groups after → words ≡ others
