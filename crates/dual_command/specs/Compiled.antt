-- The texts that are compiled for two memories, what is written for them, and when each refusal
-- comes.
use Rattle.std.specs.Prelude.{ℕ, List}
use Rattle.net_parser.specs.Texts.{IsNoNetText}
use Rattle.isa_extract.specs.Taken.{BreaksAnyBanked}
use Rattle.src_model.specs.declared.fault.SrcFault.{SrcFault}
use Rattle.src_parser.specs.Texts.{IsNoSrcText}
use Rattle.src_front.specs.Fronts.{BreaksSrcRule}
use Rattle.dual_bank.specs.Parts.{IsPartFault}
use Rattle.compile_command.specs.Tasks.{data_width}
use Rattle.compile_command.specs.declared.fault.CompileFault.{CompileFault}
use Rattle.compile_command.specs.declared.fault.CompileFault.TheVariants.{NetText, Net, SrcText, Src, Memory}
use Rattle.dual_command.specs.Code.{DualFailsWith, IsDualCode}
use Rattle.dual_command.specs.Tasks.{DualHolds, HasBankedNet, HasBankedProgram}
use Rattle.dual_command.specs.declared.fault.DualFault.{DualFault}
use Rattle.dual_command.specs.declared.fault.DualFault.TheVariants.{PartText, Compile}

-- the fourth bytes are read as an image that is right code for the program of the second, whose part
-- the third tell, on the netlist of the first
abbrev pub IsDualCompiled : (net src part out : List ℕ) → Type 0
IsDualCompiled net src part out = DualHolds net src part (IsDualCode out)

-- the first bytes are a netlist's with a bank, and this is the first rule that the program of the
-- second breaks for its words
pub record BreaksDualSrc (net src : List ℕ) (fault : SrcFault) : Type 0 where
  pub net_file : HasBankedNet net
  pub breaks : BreaksSrcRule src (data_width net_file.entries) fault

-- the second are a program's for these words, and the third tell no part of its variables: the line
-- at this byte is none
pub record IsNoPart (net src part : List ℕ) (at : ℕ) : Type 0 where
  pub program : HasBankedProgram net src
  pub fault : IsPartFault program.program.vars part at

-- why the netlist's bytes were not taken
abbrev pub IsBankedNetFault : List ℕ → CompileFault → Type 0
IsBankedNetFault net (NetText at) = IsNoNetText net at
IsBankedNetFault net (Net fault) = BreaksAnyBanked net fault
IsBankedNetFault net Memory = Unit {0}
IsBankedNetFault net _ = ⊥

-- when each refusal comes that `compile` has too; nothing is said where memory ran out
abbrev pub IsBankedCompileFault : (net src part : List ℕ) → CompileFault → Type 0
IsBankedCompileFault net src part (NetText at) = IsNoNetText net at
IsBankedCompileFault net src part (Net fault) = BreaksAnyBanked net fault
IsBankedCompileFault net src part (SrcText at) = HasBankedNet net × IsNoSrcText src at
IsBankedCompileFault net src part (Src fault) = BreaksDualSrc net src fault
IsBankedCompileFault net src part Memory = Unit {0}
IsBankedCompileFault net src part fault = DualHolds net src part (DualFailsWith fault)

-- when each comes
abbrev pub IsDualFault : (net src part : List ℕ) → DualFault → Type 0
IsDualFault net src part (PartText at) = IsNoPart net src part at
IsDualFault net src part (Compile fault) = IsBankedCompileFault net src part fault
