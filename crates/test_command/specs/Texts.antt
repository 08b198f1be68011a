-- What `test` answers for the bytes of a netlist.
use Rattle.std.specs.Prelude.{ℕ, ◌≤◌, List}
use Rattle.net_model.specs.declared.hardware.Netlist.{Netlist}
use Rattle.net_front.specs.Fronts.{taken_of}
use Rattle.net_model.specs.Written.{UnitsModel}
use Rattle.net_parser.specs.Texts.{IsNoNetText}
use Rattle.isa_extract.specs.Extracts.{IsRoutedFile}
use Rattle.isa_extract.specs.Taken.{BreaksAnyTaken}
use Rattle.code_gen.specs.Refusals.{IsStepless}
use Rattle.test_command.specs.Refusals.{HasTestCells, IsBeyondLimit, IsTestable, IsTestDataFull, IsTestText, IsTestTooLong}
use Rattle.test_command.specs.declared.fault.TestFault.{TestFault}
use Rattle.test_command.specs.declared.fault.TestFault.TheVariants.{NetText, Net, DataFull, NoStep, ImageFull, TestLimit, Memory}

-- the newest edition of the netlist texts that are tested
abbrev pub tested_edition : ℕ
tested_edition = 1

-- the bytes are a netlist text of the first edition that keeps all rules, and this holds of the
-- netlist
pub record NetHolds (net : List ℕ) (P : Netlist → Type 0) : Type 0 where
  pub entries : UnitsModel
  pub file : IsRoutedFile net entries
  pub taken : entries.edition ≤ tested_edition
  pub holds : P (taken_of entries)

-- the text is that of a right self-test of the netlist, to which no refusal applies
abbrev pub IsTested : List ℕ → List ℕ → Type 0
IsTested net text = NetHolds net (λ netlist. IsTestText netlist text)

-- why a netlist that keeps all rules has no self-test; nothing is said where memory ran out
abbrev pub LacksTest : Netlist → TestFault → Type 0
LacksTest netlist (DataFull need have) = IsTestDataFull netlist need have
LacksTest netlist NoStep = HasTestCells netlist × IsStepless netlist
LacksTest netlist (ImageFull len size bound) = IsTestable netlist × IsTestTooLong netlist len size bound
LacksTest netlist (TestLimit count bound) = IsTestable netlist × IsBeyondLimit netlist count bound
LacksTest netlist Memory = Unit {0}
LacksTest netlist _ = ⊥

-- when each refusal comes; nothing is said where memory ran out
abbrev pub IsTestFault : List ℕ → TestFault → Type 0
IsTestFault net (NetText at) = IsNoNetText net at
IsTestFault net (Net fault) = BreaksAnyTaken tested_edition net fault
IsTestFault net Memory = Unit {0}
IsTestFault net fault = NetHolds net (λ netlist. LacksTest netlist fault)
