-- What the refusal of a part is told as, and when a program in parts is refused.
use Rattle.std.specs.Prelude.{ℕ, List}
use Rattle.rec_bits.specs.declared.fault.ParseFault.{ParseFault}
use Rattle.rec_bits.specs.declared.fault.ParseFault.TheVariants.{Text as NoPartText, Memory as ParseMemory}
use Rattle.src_model.specs.Written.{ProgramModel}
use Rattle.src_front.specs.Fronts.{IsSrcFile}
use Rattle.dual_bank.specs.Parts.{IsPartFault}
use Rattle.compile_command.specs.Compiled.{IsSrcFault}
use Rattle.compile_command.specs.declared.fault.CompileFault.TheVariants.{Memory}
use Rattle.dual_command.specs.declared.fault.DualFault.{DualFault}
use Rattle.dual_command.specs.declared.fault.DualFault.TheVariants.{PartText, Compile}

abbrev pub part_fault : ParseFault → DualFault
part_fault (NoPartText at) = PartText at
part_fault ParseMemory = Compile Memory

-- the second bytes tell no part of the program that the first are for words of so many bits: the
-- line at this byte is none
pub record IsPartless (src part : List ℕ) (width at : ℕ) : Type 0 where
  pub program : ProgramModel
  pub file : IsSrcFile src width program
  pub fault : IsPartFault program.vars part at

-- why the two weren't taken
abbrev pub IsToldFault : (src part : List ℕ) → ℕ → DualFault → Type 0
IsToldFault src part width (PartText at) = IsPartless src part width at
IsToldFault src part width (Compile fault) = IsSrcFault src width fault
