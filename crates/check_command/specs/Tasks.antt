-- What three texts say together: a netlist, a program for its words, and an image for the netlist, with
-- its views and what it hides.
use Rattle.std.specs.Prelude.{ℕ, ◌≡◌, List, Some, map}
use Rattle.net_model.specs.declared.hardware.Netlist.{Netlist}
use Rattle.net_model.specs.Nets.{memory_width}
use Rattle.net_model.specs.Written.{UnitsModel}
use Rattle.net_front.specs.Fronts.{taken_of}
use Rattle.net_front.specs.Taken.{IsTakenFile}
use Rattle.src_model.specs.Written.{ProgramModel}
use Rattle.src_front.specs.Fronts.{IsSrcFile}
use Rattle.code_model.specs.declared.image.Image.{Image}
use Rattle.code_model.specs.declared.views.Viewed.{Viewed}
use Rattle.view_lines.specs.Remarks.{RemarkModel}
use Rattle.viewed_text.specs.Texts.{IsRemarkedText}
use Rattle.view_parts.specs.Said.{hidden_said, model_of_view, views_said}

-- the newest edition of the netlist texts for which images are checked, that of register files: a text
-- of a later one has a mode register, or a bank
abbrev pub checked_edition : ℕ
checked_edition = 2

-- how many bits a word has: the width of the data memory that these items say
abbrev pub word_bits : UnitsModel → ℕ
word_bits entries = memory_width (taken_of entries).storages

pub record CheckTask : Type 0 where
  pub netlist : Netlist
  pub width : ℕ
  pub program : ProgramModel
  pub viewed : Viewed

-- the bytes are the text of this image with these remarks, and of no other
pub record SaysRemarked (netlist : Netlist) (bytes : List ℕ) (image : Image) (remarks : List RemarkModel) : Type 0 where
  pub text : IsRemarkedText netlist bytes image remarks
  pub only : (i : Image) (r : List RemarkModel) → IsRemarkedText netlist bytes i r → (image ≡ i) × (remarks ≡ r)

-- the bytes are the text of an image with views and what it hides
pub record IsViewedText (netlist : Netlist) (bytes : List ℕ) (viewed : Viewed) : Type 0 where
  pub remarks : List RemarkModel
  pub says : SaysRemarked netlist bytes viewed.image remarks
  pub views : views_said netlist.storages remarks ≡ Some (map model_of_view viewed.views)
  pub hidden : viewed.hidden ≡ hidden_said remarks

-- the first bytes are a netlist's that keeps all rules, the second a program's for its words, and the
-- third an image's for it
pub record IsCheckTask (net src img : List ℕ) (task : CheckTask) : Type 0 where
  pub entries : UnitsModel
  pub net_file : IsTakenFile checked_edition net entries
  pub netlist : task.netlist ≡ taken_of entries
  pub width : task.width ≡ word_bits entries
  pub src_file : IsSrcFile src task.width task.program
  pub image_text : IsViewedText task.netlist img task.viewed

-- they are, and this holds of the task
pub record CheckHolds (net src img : List ℕ) (P : CheckTask → Type 0) : Type 0 where
  pub task : CheckTask
  pub is : IsCheckTask net src img task
  pub holds : P task
