-- What a run of an image on a netlist shows, and why there is none.
use Rattle.std.specs.Prelude.{ℕ, ◌≡◌, List, None}
use Rattle.net_model.specs.declared.hardware.Netlist.{Netlist}
use Rattle.net_model.specs.declared.states.State.{State}
use Rattle.net_model.specs.Clock.{run, Reached, Clashed}
use Rattle.net_model.specs.NetFaults.{name_at}
use Rattle.net_parser.specs.Texts.{IsNoNetText}
use Rattle.net_front.specs.Taken.{BreaksTaken}
use Rattle.net_front.specs.declared.front.NetRefusal.{NetRefusal}
use Rattle.net_front.specs.declared.front.NetRefusal.TheVariants.{Text as NoNet, Fault as Breaks, Memory as NetMemory}
use Rattle.rec_bits.specs.declared.fault.ParseFault.{ParseFault}
use Rattle.rec_bits.specs.declared.fault.ParseFault.TheVariants.{Text as NoText, Memory as ParseMemory}
use Rattle.viewed_text.specs.Texts.{IsRemarkedFault}
use Rattle.net_model.specs.MemoryText.{IsMemoryFault}
use Rattle.state_text.specs.Shown.{state_text}
use Rattle.run_command.specs.Runs.{run_edition}
use Rattle.run_command.specs.declared.machine.RunFault.{RunFault}
use Rattle.run_command.specs.declared.machine.RunFault.TheVariants.{NetText, Net, ImageText, MemText, Clash, Memory}

-- ---- refusals

-- what a refusal of the netlist's bytes, a fault of the image's and one of the memory's are told as
abbrev pub net_fault : NetRefusal → RunFault
net_fault (NoNet at) = NetText at
net_fault (Breaks fault) = Net fault
net_fault NetMemory = Memory

abbrev pub image_fault : ParseFault → RunFault
image_fault (NoText at) = ImageText at
image_fault ParseMemory = Memory

abbrev pub memory_fault : ParseFault → RunFault
memory_fault (NoText at) = MemText at
memory_fault ParseMemory = Memory

-- why the netlist's bytes were not taken
abbrev pub IsNetFault : List ℕ → RunFault → Type 0
IsNetFault net (NetText at) = IsNoNetText net at
IsNetFault net (Net fault) = BreaksTaken run_edition net fault
IsNetFault net Memory = Unit {0}
IsNetFault net _ = ⊥

-- why the image's and the memory's were not, for this netlist
abbrev pub IsImageFault : Netlist → List ℕ → RunFault → Type 0
IsImageFault netlist image (ImageText at) = IsRemarkedFault netlist image at
IsImageFault netlist image Memory = Unit {0}
IsImageFault netlist image _ = ⊥

abbrev pub IsMemoryFaultOf : Netlist → List ℕ → RunFault → Type 0
IsMemoryFaultOf netlist memory (MemText at) = IsMemoryFault netlist None memory at
IsMemoryFaultOf netlist memory Memory = Unit {0}
IsMemoryFaultOf netlist memory _ = ⊥

-- how the clocks on these words end: with the text of the state that is reached, or with the first
-- clash
abbrev pub IsEndText : Netlist → List ℕ → State → ℕ → List ℕ → Type 0
IsEndText netlist words start clocks out =
    (last : State) × (run netlist words start clocks ≡ Reached last)
    × (out ≡ state_text netlist clocks last)

abbrev pub IsEndFault : Netlist → List ℕ → State → ℕ → RunFault → Type 0
IsEndFault netlist words start clocks (Clash cycle bus at) =
    (run netlist words start clocks ≡ Clashed cycle bus) × (at ≡ name_at netlist bus)
IsEndFault netlist words start clocks Memory = Unit {0}
IsEndFault netlist words start clocks _ = ⊥
