-- The texts that are compiled, what is written for them, and when each refusal comes.
use Rattle.std.specs.Prelude.{ℕ, List}
use Rattle.net_model.specs.Written.{UnitsModel}
use Rattle.net_parser.specs.Texts.{IsNoNetText}
use Rattle.isa_extract.specs.Taken.{BreaksAnyTaken, IsRoutedTaken}
use Rattle.src_model.specs.declared.fault.SrcFault.{SrcFault}
use Rattle.src_parser.specs.Texts.{IsNoSrcText}
use Rattle.src_front.specs.Fronts.{BreaksSrcRule}
use Rattle.compile_command.specs.Code.{IsCode, FailsWith}
use Rattle.compile_command.specs.Tasks.{TaskHolds, compiled_edition, data_width}
use Rattle.compile_command.specs.declared.fault.CompileFault.{CompileFault}
use Rattle.compile_command.specs.declared.fault.CompileFault.TheVariants.{NetText, Net, SrcText, Src, Memory}

-- ---- texts

-- the bytes are a netlist's that keeps all rules, for which code is made
pub record HasNet (net : List ℕ) : Type 0 where
  pub entries : UnitsModel
  pub file : IsRoutedTaken compiled_edition net entries

-- the third bytes are read as an image that is right code for the program of the second on the
-- netlist of the first
abbrev pub IsCompiled : List ℕ → List ℕ → List ℕ → Type 0
IsCompiled net src out = TaskHolds net src (IsCode out)

-- ---- refusals

-- the first bytes are a netlist's, and this is the first rule that the program of the second breaks
-- for its words
pub record BreaksSrc (net src : List ℕ) (fault : SrcFault) : Type 0 where
  pub entries : UnitsModel
  pub net_file : IsRoutedTaken compiled_edition net entries
  pub breaks : BreaksSrcRule src (data_width entries) fault

-- why the netlist's bytes were not taken
abbrev pub IsNetFault : List ℕ → CompileFault → Type 0
IsNetFault net (NetText at) = IsNoNetText net at
IsNetFault net (Net fault) = BreaksAnyTaken compiled_edition net fault
IsNetFault net Memory = Unit {0}
IsNetFault net _ = ⊥

-- why the program's bytes were not taken, for words of so many bits
abbrev pub IsSrcFault : List ℕ → ℕ → CompileFault → Type 0
IsSrcFault src width (SrcText at) = IsNoSrcText src at
IsSrcFault src width (Src fault) = BreaksSrcRule src width fault
IsSrcFault src width Memory = Unit {0}
IsSrcFault src width _ = ⊥

-- why one of the two was not taken
abbrev pub IsReadFault : List ℕ → List ℕ → CompileFault → Type 0
IsReadFault net src (NetText at) = IsNoNetText net at
IsReadFault net src (Net fault) = BreaksAnyTaken compiled_edition net fault
IsReadFault net src (SrcText at) = HasNet net × IsNoSrcText src at
IsReadFault net src (Src fault) = BreaksSrc net src fault
IsReadFault net src Memory = Unit {0}
IsReadFault net src _ = ⊥

-- when each refusal comes; nothing is said where memory ran out
abbrev pub IsCompileFault : List ℕ → List ℕ → CompileFault → Type 0
IsCompileFault net src (NetText at) = IsNoNetText net at
IsCompileFault net src (Net fault) = BreaksAnyTaken compiled_edition net fault
IsCompileFault net src (SrcText at) = HasNet net × IsNoSrcText src at
IsCompileFault net src (Src fault) = BreaksSrc net src fault
IsCompileFault net src Memory = Unit {0}
IsCompileFault net src fault = TaskHolds net src (FailsWith fault)
