-- What is written of three texts whose image is shown to be right, and when each refusal comes.
use Rattle.std.specs.Prelude.{ℕ, ◌≡◌, List, length, Option, None}
use Rattle.net_model.specs.Written.{UnitsModel}
use Rattle.net_parser.specs.Texts.{IsNoNetText}
use Rattle.net_front.specs.Fronts.{taken_of}
use Rattle.net_front.specs.Taken.{BreaksTaken, IsTakenFile}
use Rattle.src_model.specs.declared.fault.SrcFault.{SrcFault}
use Rattle.src_model.specs.Written.{ProgramModel}
use Rattle.src_parser.specs.Texts.{IsNoSrcText}
use Rattle.src_front.specs.Fronts.{BreaksSrcRule, IsSrcFile}
use Rattle.viewed_text.specs.Texts.{IsRemarkedFault}
use Rattle.follow.specs.Relations.{Relation}
use Rattle.followed.specs.Passing.{HasPassed}
use Rattle.followed.specs.declared.passed.Passed.{Passed}
use Rattle.check_command.specs.Reports.{report_text}
use Rattle.check_command.specs.Rules.{IsRuleFault, KeepsImageRules}
use Rattle.check_command.specs.Tasks.{CheckHolds, CheckTask, checked_edition, word_bits}
use Rattle.check_command.specs.declared.fault.CheckFault.{CheckFault}
use Rattle.check_command.specs.declared.fault.CheckFault.TheVariants.{NetText, Net, SrcText, Src, ImageText, Rule, Follow, Memory}
use Rattle.check_command.specs.declared.fault.CheckStop.{CheckStop}
use Rattle.check_command.specs.declared.fault.RuleFault.{RuleFault}

-- ---- what is written

-- The image keeps all rules, it is right code by its views for the program (`HasPassed`), and the
-- ways of its words from mark to mark are what is written, behind its views and what it hides. The ways are by relations of
-- the marks: from each state at a mark that is related to the program's cells, where the mark's test has
-- an answer, the words take just so many clocks to the mark that is told; or no such state has it.
pub record IsAccepted (img out : List ℕ) (task : CheckTask) : Type 0 where
  pub rules : KeepsImageRules task
  pub relation : ℕ → Relation
  pub passed : Passed
  pub has : HasPassed task.netlist task.width task.program task.viewed relation passed
  pub text : out ≡ report_text img (length task.viewed.image.marks) passed

-- so it is for the image of the third bytes, the program of the second and the netlist of the first
abbrev pub IsChecked : List ℕ → List ℕ → List ℕ → List ℕ → Type 0
IsChecked net src img out = CheckHolds net src img (IsAccepted img out)

-- ---- refusals

-- the bytes are a netlist's that keeps all rules, for which images are checked
pub record HasCheckedNet (net : List ℕ) : Type 0 where
  pub entries : UnitsModel
  pub file : IsTakenFile checked_edition net entries

-- and the second bytes a program's for its words
pub record HasCheckedSrc (net src : List ℕ) : Type 0 where
  pub entries : UnitsModel
  pub net_file : IsTakenFile checked_edition net entries
  pub program : ProgramModel
  pub src_file : IsSrcFile src (word_bits entries) program

-- the first bytes are a netlist's, and this is the first rule that the program of the second breaks
-- for its words
pub record BreaksCheckedSrc (net src : List ℕ) (fault : SrcFault) : Type 0 where
  pub entries : UnitsModel
  pub net_file : IsTakenFile checked_edition net entries
  pub breaks : BreaksSrcRule src (word_bits entries) fault

-- the first bytes are a netlist's, and others no text of an image for it, which shows at this offset
pub record IsNoViewedFile (net img : List ℕ) (at : ℕ) : Type 0 where
  pub entries : UnitsModel
  pub net_file : IsTakenFile checked_edition net entries
  pub none : IsRemarkedFault (taken_of entries) img at

-- the image breaks this rule first, of which this name is told
abbrev pub BreaksImageRule : List ℕ → List ℕ → List ℕ → RuleFault → Option (List ℕ) → Type 0
BreaksImageRule net src img fault name = CheckHolds net src img (λ task. IsRuleFault task fault name)

-- it breaks none
abbrev pub KeepsAllRules : List ℕ → List ℕ → List ℕ → Type 0
KeepsAllRules net src img = CheckHolds net src img KeepsImageRules

-- when each refusal comes, and the name that is told of it, which those of the texts have none of;
-- nothing is said where memory ran out, and nothing of an image of which it
-- isn't shown that its words follow the program, but that it keeps all rules
abbrev pub IsCheckFault : List ℕ → List ℕ → List ℕ → CheckFault → Option (List ℕ) → Type 0
IsCheckFault net src img (NetText at) name = (name ≡ None) × IsNoNetText net at
IsCheckFault net src img (Net fault) name = (name ≡ None) × BreaksTaken checked_edition net fault
IsCheckFault net src img (SrcText at) name = (name ≡ None) × HasCheckedNet net × IsNoSrcText src at
IsCheckFault net src img (Src fault) name = (name ≡ None) × BreaksCheckedSrc net src fault
IsCheckFault net src img (ImageText at) name = (name ≡ None) × HasCheckedSrc net src × IsNoViewedFile net img at
IsCheckFault net src img (Rule fault) name = BreaksImageRule net src img fault name
IsCheckFault net src img (Follow origin cause) name = KeepsAllRules net src img
IsCheckFault net src img Memory name = Unit {0}

abbrev pub IsCheckStop : List ℕ → List ℕ → List ℕ → CheckStop → Type 0
IsCheckStop net src img stop = IsCheckFault net src img stop.fault stop.name
