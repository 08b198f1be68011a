-- The words of a block.
use Rattle.std.specs.Prelude.{ℕ, zero, suc, ◌+◌, ◌≡◌, List, [], ◌∷◌, length, Option, Some, slice_get}
use Rattle.std.specs.List.{AllByRecursion}
use Rattle.net_model.specs.CheckedRules.{KeepsRules}
use Rattle.net_model.specs.declared.hardware.Space.TheVariants.{File as InFile}
use Rattle.net_model.specs.Nets.{IsRegister, file_place, size_in}
use Rattle.net_model.specs.Exprs.{ExprModel, keep, write}
use Rattle.net_model.specs.Transfers.{IsClean, Steps, memory_transfer, transfer_at}
use Rattle.code_model.specs.Words.{IsFixedAt, KeepsMode}
use Rattle.net_model.specs.Fixed.{mode_in}
use Rattle.net_model.specs.Modes.{IsBase}
use Rattle.emit_seq.specs.Formed.{AreFormed}
use Rattle.net_model.specs.declared.hardware.Netlist.{Netlist}
use Rattle.net_model.specs.declared.states.State.{State}
use Rattle.net_model.specs.Patterns.{Pattern}
use Rattle.code_model.specs.declared.image.Image.{Image}
use Rattle.code_model.specs.Places.{words_of}
use Rattle.form_model.specs.Covers.{StockModel, JobCoverModel}
use Rattle.compaction.specs.Laws.{operation_in}
use Rattle.form_model.specs.declared.forms.Step.{Step}
use Rattle.form_model.specs.Live.{Regs}
use Rattle.word_fit.specs.Fits.{fits_over}
use Rattle.word_fit.specs.Groups.{Agree, GroupsFit}
use Rattle.word_fit.specs.Runs.{StandAt}
use Rattle.compaction.specs.Meant.{MeansSteps}
use Rattle.src_trees.specs.Lowered.{JobModel}
use Rattle.branch_fix.specs.Made.{Walks, image_word}
use Rattle.branch_fix.specs.Sections.{Section, section_jobs, section_room, sections_room}
use Rattle.right_code.specs.Jobs.{jobs_steps}
use Rattle.right_code.specs.Inner.Jobs.{AreCovered}

-- so many clocks lead from s, each to the next address, to a state in the mode v with the memory
-- and the live registers of another
pub record WalksTo (netlist : Netlist) (v : ℕ) (image : Image) (at n : ℕ)
    (live : Regs) (s goal : State) : Type 0 where
  pub last : State
  pub walks : Walks netlist image at s n last
  pub mode : mode_in netlist.special last ≡ v
  pub agree : Agree live last goal

-- so many words from an address on fit groups, which mean the steps of the jobs' covers, and keep
-- the mode
pub record IsBlockMade (netlist : Netlist) (special : Option ℕ) (patterns : List Pattern)
    (stock : StockModel) (image : Image) (jobs : List JobModel) (at n : ℕ) : Type 0 where
  pub choices : List JobCoverModel
  pub covered : AreCovered stock jobs choices
  pub live : Regs
  pub groups : List (List Step)
  pub means : MeansSteps netlist (operation_in netlist patterns) live (jobs_steps stock jobs choices) groups
  pub words : List ℕ
  pub fit : GroupsFit (operation_in netlist patterns) (fits_over netlist (operation_in netlist patterns)) words groups live
  pub long : n ≡ length words
  pub stand : StandAt (words_of image) at words
  pub kept : AllByRecursion (KeepsMode special netlist) words

-- ---- modes

-- a netlist, and so many temporary cells
pub record Machine : Type 0 where
  pub netlist : Netlist
  pub temps : ℕ

-- what a mode gives: its netlist with the patterns, and the forms
pub record Kit : Type 0 where
  pub netlist : Netlist
  pub patterns : List Pattern
  pub stock : StockModel

-- it is that of a machine in the mode v
pub record IsKit (m : Machine) (v : ℕ) (kit : Kit) : Type 0 where
  pub base : IsBase m.netlist m.netlist.special v kit.netlist
  pub order : List ℕ
  pub keeps : KeepsRules kit.netlist order
  pub sized : kit.stock.file ≡ size_in InFile kit.netlist.storages
  pub formed : AreFormed (file_place kit.netlist.storages) kit.patterns (length kit.netlist.storages) kit.stock.file kit.stock.forms
  pub temps : kit.stock.temps ≡ m.temps

-- a word of the netlist puts a number into the mode register, steps and keeps the memory
pub record IsModeWordMade (netlist : Netlist) (special : Option ℕ) (i to : ℕ) : Type 0 where
  pub clean : IsClean netlist i
  pub id : ℕ
  pub is : special ≡ Some id
  pub register : IsRegister (slice_get netlist.storages id)
  pub value : ExprModel
  pub move : transfer_at netlist i id ≡ write value
  pub puts : IsFixedAt i value to
  pub steps : Steps netlist i
  pub memory : memory_transfer netlist i ≡ keep

-- the words of a section: those of its jobs in its mode, between the mode words of one other than 0;
-- the kit is that of mode 0
abbrev pub IsSectionMade : Machine → Kit → Image → ℕ → List JobModel → ℕ → ℕ → Type 0
IsSectionMade m kit image zero jobs at n = IsBlockMade kit.netlist m.netlist.special kit.patterns kit.stock image jobs at n
IsSectionMade m kit image (suc v) jobs at n =
    (other : Kit) × IsKit m (suc v) other
    × IsModeWordMade kit.netlist m.netlist.special (image_word image at) (suc v)
    × IsBlockMade other.netlist m.netlist.special other.patterns other.stock image jobs (at + 1) n
    × IsModeWordMade other.netlist m.netlist.special (image_word image (at + 1 + n)) 0

abbrev pub AreSectionsMade : Machine → Kit → Image → List Section → ℕ → Type 0
AreSectionsMade m kit image [] at = Unit {0}
AreSectionsMade m kit image (x ∷ sections) at =
    IsSectionMade m kit image x.mode x.jobs at x.words
    × AreSectionsMade m kit image sections (at + section_room x.mode x.words)

-- so many words from an address on are those of sections with these jobs
pub record IsModeBlockMade (m : Machine) (kit : Kit) (image : Image) (jobs : List JobModel) (at n : ℕ) : Type 0 where
  pub sections : List Section
  pub are : jobs ≡ section_jobs sections
  pub room : n ≡ sections_room sections
  pub made : AreSectionsMade m kit image sections at
