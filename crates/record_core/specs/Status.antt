-- The exit status of each answer.
use Rattle.std.specs.Prelude.{ℕ}
use Rattle.record_core.specs.declared.status.Status.{Status}
use Rattle.record_core.specs.declared.status.Status.TheVariants.{Done, Usage, ReadFault, TooLong, WriteFault, NetText, Net, SrcText, Src, NoStep, NoJump, NoCover, DataFull, NoReach, ImageFull, Memory, ImageText, MemText, Clash, AsmText, AsmWord, TestLimit, PartText, Rule, Follow}

-- the exit status of the program
abbrev pub code_of : Status → ℕ
code_of Done = 0
code_of Usage = 2
code_of (ReadFault file) = 3
code_of (TooLong file limit) = 3
code_of WriteFault = 4
code_of (NetText at) = 5
code_of (Net fault) = 6
code_of (SrcText at) = 7
code_of (Src fault) = 8
code_of NoStep = 9
code_of NoJump = 9
code_of (NoCover tree) = 9
code_of (DataFull need have) = 10
code_of (NoReach bound reach) = 10
code_of (ImageFull len size bound) = 10
code_of Memory = 11
code_of (ImageText at) = 12
code_of (MemText at) = 12
code_of (Clash cycle bus) = 13
code_of (AsmText at) = 16
code_of (AsmWord line) = 17
code_of (TestLimit count bound) = 18
code_of (PartText at) = 19
code_of (Rule fault) = 20
code_of (Follow origin cause) = 21
