-- Netlists of the same storages and codes have the program counter at the same address.
use Rattle.std.proofs.Common.{ℕ, ◌≡◌, List, sym, ◌∙◌, ap, slice_index}
use Rattle.net_model.specs.declared.hardware.Netlist.{Netlist}
use Rattle.net_model.specs.declared.hardware.Code.{Code}
use Rattle.net_model.specs.declared.states.State.{State}
use Rattle.net_model.specs.Nets.{counter_of}
use Rattle.net_model.proofs.Bases.{state_in}
use Rattle.code_model.specs.Machine.{IsAt}

pub at_in : (a b : Netlist) (address : ℕ) (s : State) → a.storages ≡ b.storages → a.codes ≡ b.codes → IsAt a address s → IsAt b address s
at_in a b address s e f h = record { state = state_in a b s e h.state; counter = sym (ap (λ (list : List Code). slice_index s.regs (counter_of list)) f) ∙ h.counter }
