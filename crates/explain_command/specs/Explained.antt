-- What is explained of two texts: each job with its cover, or with what lacks one and equal trees
-- that have one, and what `compile` answers. Of each job its place, its trees, and the cost of its
-- chosen cover, or that it has none and what is lacking, each with any lines that begin with `near
-- `; then the line of an answer of `compile`. The refusals are those of `compile` up to no jump,
-- but that a text with modes breaks N6.
use Rattle.std.specs.Prelude.{ℕ, Bool, ◌+◌, ◌≤◌, ◌≡◌, ◌≢◌, ◌⊎◌, List, [], ◌∷◌, ◌++◌, map}
use Rattle.std.specs.List.{AllByRecursion, concat}
use Rattle.net_model.specs.declared.hardware.Netlist.{Netlist}
use Rattle.net_model.specs.Nets.{memory_width}
use Rattle.net_model.specs.Exprs.{ExprModel}
use Rattle.net_model.specs.Written.{UnitsModel}
use Rattle.net_parser.specs.Texts.{IsNoNetText}
use Rattle.isa_extract.specs.Extracts.{IsRoutedFile}
use Rattle.isa_extract.specs.Taken.{BreaksAnyTaken}
use Rattle.form_model.specs.Covers.{JobCoverModel, HasNoCover, IsChosen, StockModel, job_cost}
use Rattle.form_model.specs.Forms.{FormModel}
use Rattle.src_trees.specs.Lowered.{JobModel}
use Rattle.src_trees.specs.Measures.{IsSmall}
use Rattle.job_places.specs.Places.{JobPlaceModel, program_job_places}
use Rattle.cover_lacks.specs.Lacks.{AreLacking}
use Rattle.respell.specs.Respelled.{IsRespelled}
use Rattle.right_code.specs.Forms.{AreFormsOf}
use Rattle.right_code.specs.Tasks.{Task, task_stock, task_jobs}
use Rattle.right_code.specs.FlowJobs.{node_limit}
use Rattle.code_gen.specs.Refusals.{HasJumps}
use Rattle.compile_command.specs.Code.{HasRightCode, HasRoom, IsTaskFault}
use Rattle.compile_command.specs.Compiled.{IsCompileFault}
use Rattle.compile_command.specs.Tasks.{TaskHolds}
use Rattle.compile_command.specs.declared.fault.CompileFault.{CompileFault}
use Rattle.compile_command.specs.declared.fault.CompileFault.TheVariants.{NetText, Net, NoCover, NoReach, ImageFull, Memory}
use Rattle.explain_command.specs.Lines.{bare_line, cost_line, done_line, end_line, equal_lines, job_head, lack_line, near_line}

-- ---- what is open: the wording of near forms

-- one line's bytes
abbrev pub IsInner : List ℕ → Type 0
IsInner rest = AllByRecursion (λ byte. byte ≢ 10) rest

-- any lines that begin with `near `
pub record AreNearLines (text : List ℕ) : Type 0 where
  pub rests : List (List ℕ)
  pub inner : AllByRecursion IsInner rests
  pub lines : text ≡ concat (map near_line rests)

-- ---- jobs

-- the subtrees that nothing makes, in their order, each with lines on near forms behind it
abbrev pub AreLackLines : Netlist → List ExprModel → List ℕ → Type 0
AreLackLines netlist [] text = text ≡ []
AreLackLines netlist (tree ∷ trees) text =
    (near : List ℕ) × AreNearLines near × (later : List ℕ) × AreLackLines netlist trees later
    × (text ≡ concat (lack_line netlist tree ∷ near ∷ later ∷ []))

-- the job has an orderly cover, and the text is the cost of the chosen one
pub record ShowsCost (stock : StockModel) (job : JobModel) (text : List ℕ) : Type 0 where
  pub choice : JobCoverModel
  pub chosen : IsChosen stock job.destination job.trees choice
  pub line : text ≡ cost_line (job_cost job.destination choice.cover)

-- a job that may stand for another: by equal trees, or of a test by an opposite one, and with cells
-- for what waits
pub record MayStandFor (netlist : Netlist) (stock : StockModel) (turned : Bool) (job other : JobModel) : Type 0 where
  pub respelled : IsRespelled (memory_width netlist.storages) turned job other
  pub small : IsSmall (memory_width netlist.storages) stock.temps node_limit other

-- one that has an orderly cover, and the text tells its trees and the cost of the chosen one
pub record ShowsEqual (netlist : Netlist) (stock : StockModel) (job : JobModel) (text : List ℕ) : Type 0 where
  pub turned : Bool
  pub other : JobModel
  pub stands : MayStandFor netlist stock turned job other
  pub choice : JobCoverModel
  pub chosen : IsChosen stock other.destination other.trees choice
  pub lines : text ≡ equal_lines netlist turned other (job_cost other.destination choice.cover)

-- such trees, where some are found; that all are found which there are is not promised
abbrev pub IsEqualText : Netlist → StockModel → JobModel → List ℕ → Type 0
IsEqualText netlist stock job text = (text ≡ []) ⊎ ShowsEqual netlist stock job text

-- it has none, and the text tells the smallest subtrees that nothing makes, and what may stand for
-- the job
pub record ShowsLacks (netlist : Netlist) (stock : StockModel) (job : JobModel) (text : List ℕ) : Type 0 where
  pub none : HasNoCover stock job.destination job.trees
  pub lacks : List ExprModel
  pub are : AreLacking stock job.destination job.trees lacks
  pub rest : List ℕ
  pub told : AreLackLines netlist lacks rest
  pub equal : List ℕ
  pub found : IsEqualText netlist stock job equal
  pub lines : text ≡ concat (bare_line ∷ rest ∷ equal ∷ [])

-- one of the two
abbrev pub IsCoverText : Netlist → StockModel → JobModel → List ℕ → Type 0
IsCoverText netlist stock job text = ShowsCost stock job text ⊎ ShowsLacks netlist stock job text

-- the text of a job of this number, with its place in the program's text
pub record IsJobText (netlist : Netlist) (stock : StockModel) (src : List ℕ) (number : ℕ) (spot : JobPlaceModel)
    (job : JobModel) (text : List ℕ) : Type 0 where
  pub cover : List ℕ
  pub shown : IsCoverText netlist stock job cover
  pub lines : text ≡ job_head netlist src number spot job ++ cover

-- the texts of jobs, which are numbered from one on, one behind the other
abbrev pub AreJobTexts : Netlist → StockModel → List ℕ → ℕ → List JobPlaceModel → List JobModel → List ℕ → Type 0
AreJobTexts netlist stock src number [] [] text = text ≡ []
AreJobTexts netlist stock src number (spot ∷ spots) (job ∷ jobs) text =
    (own : List ℕ) × IsJobText netlist stock src number spot job own
    × (later : List ℕ) × AreJobTexts netlist stock src (number + 1) spots jobs later × (text ≡ own ++ later)
AreJobTexts netlist stock src number _ _ text = ⊥

-- ---- the end

-- `compile` refuses the task with this fault, behind the refusals that `explain` has too
abbrev pub IsLateFault : Task → CompileFault → Type 0
IsLateFault task (NoCover number) = IsTaskFault task (NoCover number)
IsLateFault task (NoReach bound reach) = IsTaskFault task (NoReach bound reach)
IsLateFault task (ImageFull len size bound) = IsTaskFault task (ImageFull len size bound)
IsLateFault task _ = ⊥

-- the line of an answer of `compile`: there is right code for the task, or a refusal. Images made
-- for one task may differ in length, so both may apply
abbrev pub IsEnding : Task → List ℕ → Type 0
IsEnding task text =
    (HasRightCode task × (text ≡ done_line))
    ⊎ ((fault : CompileFault) × IsLateFault task fault × (text ≡ end_line fault))

-- ---- the whole

-- the task has room and its netlist a step and a jump, and the text tells of each job of the
-- program, by the netlist's forms, and of what `compile` answers
pub record IsExplainedTask (src text : List ℕ) (task : Task) : Type 0 where
  pub room : HasRoom task
  pub jumps : HasJumps task
  pub all : List FormModel
  pub reach : ℕ
  pub forms : AreFormsOf task.netlist all reach
  pub jobs : List ℕ
  pub told : AreJobTexts task.netlist (task_stock all task) src 0 (program_job_places task.program) (task_jobs task) jobs
  pub ending : List ℕ
  pub ends : IsEnding task ending
  pub lines : text ≡ jobs ++ ending

-- the newest edition of the netlist texts of which programs are explained: what is told of a job is
-- told of one netlist, and a text of a later edition has one for each mode
abbrev pub explained_edition : ℕ
explained_edition = 2

-- the bytes are a netlist text of such an edition that keeps all rules
pub record HasTakenNet (net : List ℕ) : Type 0 where
  pub entries : UnitsModel
  pub file : IsRoutedFile net entries
  pub taken : entries.edition ≤ explained_edition

-- the third bytes explain the program of the second on the netlist of the first
abbrev pub IsExplained : List ℕ → List ℕ → List ℕ → Type 0
IsExplained net src text = HasTakenNet net × TaskHolds net src (IsExplainedTask src text)

-- why the netlist's bytes were not taken; nothing is said where memory ran out
abbrev pub IsUntaken : List ℕ → CompileFault → Type 0
IsUntaken net (NetText at) = IsNoNetText net at
IsUntaken net (Net fault) = BreaksAnyTaken explained_edition net fault
IsUntaken net Memory = Unit {0}
IsUntaken net _ = ⊥

-- when each refusal comes: the netlist's bytes are not taken, or `compile` refuses them so, up to
-- NoJump; a tree without a cover, and code that is too long, refuse nothing
abbrev pub IsExplainFault : List ℕ → List ℕ → CompileFault → Type 0
IsExplainFault net src (NetText at) = IsUntaken net (NetText at)
IsExplainFault net src (Net fault) = IsUntaken net (Net fault)
IsExplainFault net src Memory = Unit {0}
IsExplainFault net src (NoCover number) = ⊥
IsExplainFault net src (NoReach bound reach) = ⊥
IsExplainFault net src (ImageFull len size bound) = ⊥
IsExplainFault net src fault = HasTakenNet net × IsCompileFault net src fault
