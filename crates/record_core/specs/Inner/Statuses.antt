-- What the fault of a part is told as.
use Rattle.net_front.specs.declared.front.NetRefusal.{NetRefusal}
use Rattle.net_front.specs.declared.front.NetRefusal.TheVariants.{Text as NoNet, Fault as BrokenNet, Memory as NetMemory}
use Rattle.compile_command.specs.declared.fault.CompileFault.{CompileFault}
use Rattle.compile_command.specs.declared.fault.CompileFault.TheVariants.{NetText as CompileNetText, Net as CompileNet, SrcText as CompileSrcText, Src as CompileSrc, DataFull as NoRoom, NoStep as Stepless, NoJump as Jumpless, NoCover as Uncovered, NoReach as Beyond, ImageFull as Overlong, Memory as CompileMemory}
use Rattle.dual_command.specs.declared.fault.DualFault.{DualFault}
use Rattle.dual_command.specs.declared.fault.DualFault.TheVariants.{PartText as NoPart, Compile as NoCode}
use Rattle.check_command.specs.declared.fault.CheckFault.{CheckFault}
use Rattle.check_command.specs.declared.fault.CheckFault.TheVariants as checking
use Rattle.check_command.specs.declared.fault.CheckStop.{CheckStop}
use Rattle.asm_command.specs.declared.fault.AsmFault.{AsmFault}
use Rattle.asm_command.specs.declared.fault.AsmFault.TheVariants as assembling
use Rattle.asm_command.specs.declared.fault.DisFault.{DisFault}
use Rattle.asm_command.specs.declared.fault.DisFault.TheVariants as showing
use Rattle.test_command.specs.declared.fault.TestFault.{TestFault}
use Rattle.test_command.specs.declared.fault.TestFault.TheVariants as testing
use Rattle.run_command.specs.declared.machine.RunFault.{RunFault}
use Rattle.run_command.specs.declared.machine.RunFault.TheVariants.{NetText as RunNetText, Net as RunNet, ImageText as NoImage, MemText as NoMemoryText, Clash as Clashed, Memory as RunMemory}
use Rattle.rec_bits.specs.declared.fault.ParseFault.{ParseFault}
use Rattle.rec_bits.specs.declared.fault.ParseFault.TheVariants.{Text as NoState, Memory as NoStateMemory}
use Rattle.record_core.specs.Stages.{name_told}
use Rattle.record_core.specs.declared.status.Status.{Status}
use Rattle.record_core.specs.declared.status.Status.TheVariants.{NetText, Net, SrcText, Src, NoStep, NoJump, NoCover, DataFull, NoReach, ImageFull, Memory, ImageText, MemText, Clash, AsmText, AsmWord, TestLimit, PartText, Rule, Follow}
use Rattle.record_core.specs.declared.stop.Stop.{Stop}
use Rattle.record_core.specs.declared.stop.Told.TheVariants.{Nothing, Bus}

-- of the compiler
abbrev pub compile_status : CompileFault → Status
compile_status (CompileNetText at) = NetText at
compile_status (CompileNet fault) = Net fault
compile_status (CompileSrcText at) = SrcText at
compile_status (CompileSrc fault) = Src fault
compile_status (NoRoom need have) = DataFull need have
compile_status Stepless = NoStep
compile_status Jumpless = NoJump
compile_status (Uncovered tree) = NoCover tree
compile_status (Beyond bound reach) = NoReach bound reach
compile_status (Overlong len size bound) = ImageFull len size bound
compile_status CompileMemory = Memory

-- of that for two memories
abbrev pub dual_status : DualFault → Status
dual_status (NoPart at) = PartText at
dual_status (NoCode fault) = compile_status fault

-- of the reading of a memory text
abbrev pub memory_status : ParseFault → Status
memory_status (NoState at) = MemText at
memory_status NoStateMemory = Memory

-- of the reading of a netlist
abbrev pub net_status : NetRefusal → Status
net_status (NoNet at) = NetText at
net_status (BrokenNet fault) = Net fault
net_status NetMemory = Memory

-- of the assembler
abbrev pub asm_status : AsmFault → Status
asm_status (assembling.NetText at) = NetText at
asm_status (assembling.Net broken) = Net broken
asm_status (assembling.Text at) = AsmText at
asm_status (assembling.Word number) = AsmWord number
asm_status assembling.Memory = Memory

-- of the disassembler
abbrev pub dis_status : DisFault → Status
dis_status (showing.NetText at) = NetText at
dis_status (showing.Net broken) = Net broken
dis_status (showing.ImageText at) = ImageText at
dis_status showing.Memory = Memory

-- of a self-test
abbrev pub test_status : TestFault → Status
test_status (testing.NetText at) = NetText at
test_status (testing.Net broken) = Net broken
test_status (testing.DataFull need have) = DataFull need have
test_status testing.NoStep = NoStep
test_status (testing.ImageFull len size bound) = ImageFull len size bound
test_status (testing.TestLimit count bound) = TestLimit count bound
test_status testing.Memory = Memory

-- of the check of an image
abbrev pub check_status : CheckFault → Status
check_status (checking.NetText at) = NetText at
check_status (checking.Net broken) = Net broken
check_status (checking.SrcText at) = SrcText at
check_status (checking.Src broken) = Src broken
check_status (checking.ImageText at) = ImageText at
check_status (checking.Rule broken) = Rule broken
check_status (checking.Follow origin cause) = Follow origin cause
check_status checking.Memory = Memory

-- a status with nothing beside it
abbrev pub alone : Status → Stop
alone status = record { status = status; told = Nothing }

-- of a run
abbrev pub run_stop : RunFault → Stop
run_stop (RunNetText at) = alone (NetText at)
run_stop (RunNet fault) = alone (Net fault)
run_stop (NoImage at) = alone (ImageText at)
run_stop (NoMemoryText at) = alone (MemText at)
run_stop (Clashed cycle bus at) = record { status = Clash cycle bus; told = Bus at }
run_stop RunMemory = alone Memory

-- of the check of an image, with the name that is told of it
abbrev pub check_stop : CheckStop → Stop
check_stop found = record { status = check_status found.fault; told = name_told found.name }
