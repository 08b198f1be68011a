-- What the fault of a part is told as.
use Rattle.std.specs.Prelude.{None}
use Rattle.net_front.specs.declared.front.NetRefusal.{NetRefusal}
use Rattle.net_front.specs.declared.front.NetRefusal.TheVariants.{Text as NoNet, Fault as BrokenNet, Memory as NetMemory}
use Rattle.rec_bits.specs.declared.fault.ParseFault.{ParseFault}
use Rattle.rec_bits.specs.declared.fault.ParseFault.TheVariants.{Text as NoImage, Memory as ImageMemory}
use Rattle.src_front.specs.declared.front.SrcRefusal.{SrcRefusal}
use Rattle.src_front.specs.declared.front.SrcRefusal.TheVariants.{Text as NoSrc, Fault as BrokenSrc, Memory as SrcMemory}
use Rattle.check_command.specs.declared.fault.CheckFault.{CheckFault}
use Rattle.check_command.specs.declared.fault.CheckFault.TheVariants.{NetText, Net, SrcText, Src, ImageText, Memory}
use Rattle.check_command.specs.declared.fault.CheckStop.{CheckStop}

-- a fault that tells no name
abbrev pub nameless : CheckFault → CheckStop
nameless fault = record { fault = fault; name = None }

-- of the reading of a netlist
abbrev pub net_fault : NetRefusal → CheckFault
net_fault (NoNet at) = NetText at
net_fault (BrokenNet fault) = Net fault
net_fault NetMemory = Memory

-- of a program
abbrev pub src_fault : SrcRefusal → CheckFault
src_fault (NoSrc at) = SrcText at
src_fault (BrokenSrc fault) = Src fault
src_fault SrcMemory = Memory

-- of an image with views
abbrev pub image_fault : ParseFault → CheckFault
image_fault (NoImage at) = ImageText at
image_fault ImageMemory = Memory
