-- What was read of three texts, and why nothing was.
use Rattle.std.specs.Prelude.{ℕ, ◌≡◌, List}
use Rattle.net_model.specs.declared.hardware.Netlist.{Netlist}
use Rattle.net_model.specs.Written.{UnitsModel}
use Rattle.net_parser.specs.Texts.{IsNoNetText}
use Rattle.net_front.specs.Fronts.{taken_of}
use Rattle.net_front.specs.Taken.{BreaksTaken, IsTakenFile}
use Rattle.src_parser.specs.Texts.{IsNoSrcText}
use Rattle.src_front.specs.Fronts.{BreaksSrcRule}
use Rattle.viewed_text.specs.Texts.{IsRemarkedFault}
use Rattle.follow.specs.Relations.{Relation}
use Rattle.followed.specs.Passing.{HasPassed}
use Rattle.followed.specs.declared.passed.Passed.{Passed}
use Rattle.check_command.specs.Checked.{BreaksCheckedSrc, HasCheckedNet, HasCheckedSrc, IsNoViewedFile}
use Rattle.check_command.specs.Tasks.{CheckTask, checked_edition}
use Rattle.check_command.specs.declared.fault.CheckFault.{CheckFault}
use Rattle.check_command.specs.declared.fault.CheckFault.TheVariants.{NetText, Net, SrcText, Src, ImageText, Follow, Memory}
use Rattle.check_command.specs.declared.fault.CheckStop.{CheckStop}

-- the netlist is that of the bytes
pub record IsNetRead (net : List ℕ) (netlist : Netlist) : Type 0 where
  pub entries : UnitsModel
  pub file : IsTakenFile checked_edition net entries
  pub is : netlist ≡ taken_of entries

-- why the bytes are no netlist's
abbrev pub IsNetStop : List ℕ → CheckFault → Type 0
IsNetStop net (NetText at) = IsNoNetText net at
IsNetStop net (Net fault) = BreaksTaken checked_edition net fault
IsNetStop net Memory = Unit {0}
IsNetStop net _ = ⊥

-- why they are no program's
abbrev pub IsSrcStop : List ℕ → ℕ → CheckFault → Type 0
IsSrcStop src width (SrcText at) = IsNoSrcText src at
IsSrcStop src width (Src fault) = BreaksSrcRule src width fault
IsSrcStop src width Memory = Unit {0}
IsSrcStop src width _ = ⊥

-- why they are no image's with views
abbrev pub IsViewedStop : Netlist → List ℕ → CheckFault → Type 0
IsViewedStop netlist img (ImageText at) = IsRemarkedFault netlist img at
IsViewedStop netlist img Memory = Unit {0}
IsViewedStop netlist img _ = ⊥

-- why one of the three was not taken
abbrev pub IsReadStop : List ℕ → List ℕ → List ℕ → CheckFault → Type 0
IsReadStop net src img (NetText at) = IsNoNetText net at
IsReadStop net src img (Net fault) = BreaksTaken checked_edition net fault
IsReadStop net src img (SrcText at) = HasCheckedNet net × IsNoSrcText src at
IsReadStop net src img (Src fault) = BreaksCheckedSrc net src fault
IsReadStop net src img (ImageText at) = HasCheckedSrc net src × IsNoViewedFile net img at
IsReadStop net src img Memory = Unit {0}
IsReadStop net src img _ = ⊥

-- the ways of an image's words are these, and it is right by its views
pub record IsPassed (task : CheckTask) (passed : Passed) : Type 0 where
  pub relation : ℕ → Relation
  pub has : HasPassed task.netlist task.width task.program task.viewed relation passed

-- it isn't shown that words follow, or memory is wanting
abbrev pub IsFollowFault : CheckFault → Type 0
IsFollowFault (Follow origin cause) = Unit {0}
IsFollowFault Memory = Unit {0}
IsFollowFault _ = ⊥

abbrev pub IsFollowStop : CheckStop → Type 0
IsFollowStop stop = IsFollowFault stop.fault
