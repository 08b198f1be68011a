-- What the faults of parts are told as.
use Rattle.net_front.specs.declared.front.NetRefusal.{NetRefusal}
use Rattle.net_front.specs.declared.front.NetRefusal.TheVariants.{Text as NoNet, Fault as Breaks, Memory as NetMemory}
use Rattle.rec_bits.specs.declared.fault.ParseFault.{ParseFault}
use Rattle.rec_bits.specs.declared.fault.ParseFault.TheVariants.{Text as NoText, Memory as ParseMemory}
use Rattle.asm_command.specs.declared.fault.AsmFault.{AsmFault}
use Rattle.asm_command.specs.declared.fault.AsmFault.TheVariants as asm
use Rattle.asm_command.specs.declared.fault.DisFault.{DisFault}
use Rattle.asm_command.specs.declared.fault.DisFault.TheVariants as dis

abbrev pub asm_net_fault : NetRefusal → AsmFault
asm_net_fault (NoNet at) = asm.NetText at
asm_net_fault (Breaks fault) = asm.Net fault
asm_net_fault NetMemory = asm.Memory

abbrev pub asm_text_fault : ParseFault → AsmFault
asm_text_fault (NoText at) = asm.Text at
asm_text_fault ParseMemory = asm.Memory

abbrev pub dis_net_fault : NetRefusal → DisFault
dis_net_fault (NoNet at) = dis.NetText at
dis_net_fault (Breaks fault) = dis.Net fault
dis_net_fault NetMemory = dis.Memory

abbrev pub dis_image_fault : ParseFault → DisFault
dis_image_fault (NoText at) = dis.ImageText at
dis_image_fault ParseMemory = dis.Memory
