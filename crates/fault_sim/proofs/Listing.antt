-- What the words show of all faults, bit by bit and net by net.
use Rattle.std.proofs.Common.{◌≡◌, ℕ, suc, ◌+◌, ◌-◌, ◌<◌, List, ◌++◌, append_assoc, ap, sym, ◌∙◌, arith, get_or, length, refl}
use Rattle.std.proofs.lemmas.List.{map-append}
use Rattle.std.proofs.lemmas.Option.{slice_get_read}
use Rattle.net_model.specs.declared.hardware.Netlist.{Netlist}
use Rattle.net_model.specs.declared.hardware.Net.{Net}
use Rattle.net_model.specs.declared.states.State.{State}
use Rattle.net_model.specs.Nets.{net_width, width_at}
use Rattle.fault_sim.specs.declared.fault.Fault.{Fault}
use Rattle.fault_sim.specs.declared.finding.Finding.{Finding}
use Rattle.fault_sim.specs.Reports.{bit_faults, finding, told}

pub width_is : (netlist : Netlist) (place : ℕ) (net : Net) → place < length netlist.nets → net ≡ get_or netlist.nets place net → net.width ≡ width_at netlist place
width_is netlist place net lt is = sym (ap net_width (slice_get_read netlist.nets (length netlist.nets) place net refl lt is))

bit_on : (n bit width : ℕ) → bit < width → bit_faults n bit (width - bit) ≡ bit_faults n bit 1 ++ bit_faults n (bit + 1) (width - (bit + 1))
bit_on n bit width lt = ap (bit_faults n bit) (let e : width - bit ≡ suc (width - (bit + 1)) = omega (arith, lt) in e)

-- what is found once both faults of a bit are added, and what is left to add
pub bit_added : (netlist : Netlist) (words : List ℕ) (s : State) (good : List ℕ) (old new whole : List (Fault × Finding)) (n bit width : ℕ) → bit < width
    → new ≡ old ++ told netlist words s good (bit_faults n bit 1) → old ++ told netlist words s good (bit_faults n bit (width - bit)) ≡ whole
    → new ++ told netlist words s good (bit_faults n (bit + 1) (width - (bit + 1))) ≡ whole
bit_added netlist words s good old new whole n bit width lt e w =
    let rest : List Fault = bit_faults n (bit + 1) (width - (bit + 1)) in
    ap (λ (found : List (Fault × Finding)). found ++ told netlist words s good rest) e
    ∙ append_assoc old (told netlist words s good (bit_faults n bit 1)) (told netlist words s good rest)
    ∙ ap (λ (found : List (Fault × Finding)). old ++ found)
    (sym (map-append (λ (fault : Fault). (fault, finding netlist words s good fault)) (bit_faults n bit 1) rest) ∙ ap (told netlist words s good) (sym (bit_on n bit width lt)))
    ∙ w
