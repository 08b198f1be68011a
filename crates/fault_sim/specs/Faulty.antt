-- A netlist whose nets aren't seen as they are: one bit of one net is stuck at a value.
--
-- What is seen of a net is a parameter: where each net is seen as it is, the equations are those of
-- the netlist itself (`law_of_no_fault`).
use Rattle.std.specs.Prelude.{ℕ, zero, suc, ◌+◌, ◌-◌, ◌^◌, ◌<◌, ◌≡◌, ◌==◌, if◌then◌else◌, bit_and, bit_or, Bool, true, false, List, length, slice_get}
use Rattle.net_model.specs.declared.hardware.Netlist.{Netlist}
use Rattle.net_model.specs.declared.states.State.{State}
use Rattle.net_model.specs.Nets.{width_at}
use Rattle.net_model.specs.Value.{net_value, value_of}
use Rattle.net_model.specs.Clock.{Outcome, Run, Reached, clash_in, outcome_of, then_run, word_at}
use Rattle.fault_sim.specs.declared.fault.Fault.{Fault}

-- ---- the values of nets, where `see n x` is what is seen of the net n whose gate gives x

abbrev pub seen_within : (ℕ → ℕ → ℕ) → ℕ → Netlist → State → ℕ → ℕ → ℕ
seen_within see zero netlist s word n = 0
seen_within see (suc k) netlist s word n =
    see n (net_value (seen_within see k netlist s word) netlist s word (slice_get netlist.nets n))

-- without a fault
abbrev pub as_it_is : ℕ → ℕ → ℕ
as_it_is n x = x

-- what gates, storages and buses see of a net
abbrev pub seen_of : (ℕ → ℕ → ℕ) → Netlist → State → ℕ → ℕ → ℕ
seen_of see netlist s word n = seen_within see (length netlist.nets) netlist s word n

-- ---- clocks

-- a clock under this word
abbrev pub seen_step : (ℕ → ℕ → ℕ) → Netlist → State → ℕ → Outcome
seen_step see netlist s word =
    outcome_of (seen_of see netlist s word) netlist s (clash_in (seen_of see netlist s word) netlist.nets)

-- a clock; the word is taken at the program counter's state
abbrev pub seen_clock : (ℕ → ℕ → ℕ) → Netlist → List ℕ → State → Outcome
seen_clock see netlist words s = seen_step see netlist s (word_at netlist words s)

-- so many clocks, the first of this cycle
abbrev pub seen_run_from : (ℕ → ℕ → ℕ) → ℕ → Netlist → List ℕ → State → ℕ → Run
seen_run_from see cycle netlist words s zero = Reached s
seen_run_from see cycle netlist words s (suc n) =
    then_run cycle (λ t. seen_run_from see (cycle + 1) netlist words t n) (seen_clock see netlist words s)

abbrev pub seen_run : (ℕ → ℕ → ℕ) → Netlist → List ℕ → State → ℕ → Run
seen_run see netlist words s n = seen_run_from see 0 netlist words s n

-- ---- stuck bits

-- a number with its bit `bit` at 1, or at 0
abbrev pub with_bit : ℕ → ℕ → Bool → ℕ
with_bit x bit true = bit_or x (2 ^ bit)
with_bit x bit false = x - bit_and x (2 ^ bit)

-- what is seen of a net: of the fault's net its value with the stuck bit, of each other its value
abbrev pub seen_under : Fault → ℕ → ℕ → ℕ
seen_under fault n x = if n == fault.net then with_bit x fault.bit fault.value else x

-- a bit of a net of the netlist
pub record IsFault (netlist : Netlist) (fault : Fault) : Type 0 where
  pub net : fault.net < length netlist.nets
  pub bit : fault.bit < width_at netlist fault.net

-- the bit has the stuck value already
abbrev pub IsHidden : Netlist → Fault → State → ℕ → Type 0
IsHidden netlist fault s word =
    with_bit (value_of netlist s word fault.net) fault.bit fault.value ≡ value_of netlist s word fault.net

-- the faulty netlist's values, clock and run
abbrev pub faulty_value : Netlist → Fault → State → ℕ → ℕ → ℕ
faulty_value netlist fault s word n = seen_of (seen_under fault) netlist s word n

abbrev pub faulty_clock : Netlist → Fault → List ℕ → State → Outcome
faulty_clock netlist fault words s = seen_clock (seen_under fault) netlist words s

abbrev pub faulty_run : Netlist → Fault → List ℕ → State → ℕ → Run
faulty_run netlist fault words s n = seen_run (seen_under fault) netlist words s n
