-- What the refusal of a part is told as.
use Rattle.binding.specs.declared.fault.BindFault.{BindFault}
use Rattle.binding.specs.declared.fault.BindFault.TheVariants.{DataFull as NoRoom, Memory as BindMemory}
use Rattle.net_front.specs.declared.front.NetRefusal.{NetRefusal}
use Rattle.net_front.specs.declared.front.NetRefusal.TheVariants.{Text as NoNet, Fault as BrokenNet, Memory as NetMemory}
use Rattle.src_front.specs.declared.front.SrcRefusal.{SrcRefusal}
use Rattle.src_front.specs.declared.front.SrcRefusal.TheVariants.{Text as NoSrc, Fault as BrokenSrc, Memory as SrcMemory}
use Rattle.code_gen.specs.declared.fault.CodeFault.{CodeFault}
use Rattle.code_gen.specs.declared.fault.CodeFault.TheVariants.{NoStep as Stepless, NoJump as Jumpless, NoCover as Uncovered, NoReach as Beyond, ImageFull as Overlong, Memory as CodeMemory}
use Rattle.compile_command.specs.declared.fault.CompileFault.{CompileFault}
use Rattle.compile_command.specs.declared.fault.CompileFault.TheVariants.{NetText, Net, SrcText, Src, DataFull, NoStep, NoJump, NoCover, NoReach, ImageFull, Memory}

-- the netlist's
abbrev pub net_fault : NetRefusal → CompileFault
net_fault (NoNet at) = NetText at
net_fault (BrokenNet fault) = Net fault
net_fault NetMemory = Memory

-- the program's
abbrev pub src_fault : SrcRefusal → CompileFault
src_fault (NoSrc at) = SrcText at
src_fault (BrokenSrc fault) = Src fault
src_fault SrcMemory = Memory

-- that of the places of its variables
abbrev pub bind_fault : BindFault → CompileFault
bind_fault (NoRoom need have) = DataFull need have
bind_fault BindMemory = Memory

-- that of its image
abbrev pub code_fault : CodeFault → CompileFault
code_fault Stepless = NoStep
code_fault Jumpless = NoJump
code_fault (Uncovered number) = NoCover number
code_fault (Beyond bound reach) = NoReach bound reach
code_fault (Overlong len size bound) = ImageFull len size bound
code_fault CodeMemory = Memory
