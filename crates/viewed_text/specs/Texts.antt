-- Which bytes are the text of an image with remarks, and where other bytes are at fault. Behind the
-- text of an image that fits a netlist stands nothing, or the lines of remarks that fit the image, each
-- behind the one before, and a second `done`. Other bytes are at fault at the first line such that the
-- lines before it begin such a text and with it they don't.
use Rattle.std.specs.Prelude.{ℕ, ◌≡◌, ◌⊎◌, List, [], ◌∷◌, ◌++◌, codes, length, Option, None, Some, slice_get}
use Rattle.std.specs.List.{concat, flat_map}
use Rattle.net_model.specs.declared.hardware.Netlist.{Netlist}
use Rattle.net_model.specs.declared.hardware.Storage.{Storage}
use Rattle.net_model.specs.Nets.{memory_width}
use Rattle.rec_bits.specs.declared.fault.ParseFault.{ParseFault}
use Rattle.rec_bits.specs.declared.fault.ParseFault.TheVariants as fault
use Rattle.text_lines.specs.Lines.{lines_of}
use Rattle.code_model.specs.declared.image.Image.{Image}
use Rattle.code_model.specs.ImageFits.{IsFitting, limits_of}
use Rattle.code_model.specs.ImageText.{image_text}
use Rattle.view_lines.specs.Remarks.{RemarkModel, RemarkFits, remark_line}
use Rattle.view_scope.specs.declared.turn.Turn.{Turn}
use Rattle.view_scope.specs.Fits.{accepts}

-- remarks can be written, fit an image where a cell has so many bits, and each may follow the one before
abbrev pub AreRemarks : List Storage → Image → ℕ → Option Turn → List RemarkModel → Type 0
AreRemarks storages image word last [] = Unit {0}
AreRemarks storages image word last (remark ∷ remarks) =
    RemarkFits remark × ((turn : Turn) × (accepts storages image word last remark ≡ Some turn)
    × AreRemarks storages image word (Some turn) remarks)

-- the lines of remarks, and `done`
abbrev pub remarks_text : List RemarkModel → List ℕ
remarks_text remarks = flat_map remark_line remarks ++ codes "done\n"

-- nothing, or remarks
abbrev pub IsBehind : List RemarkModel → List ℕ → Type 0
IsBehind remarks text = ((remarks ≡ []) × (text ≡ [])) ⊎ (text ≡ remarks_text remarks)

-- the bytes are the text of the image, which fits, with these remarks on it
pub record IsRemarkedText (netlist : Netlist) (bytes : List ℕ) (image : Image) (remarks : List RemarkModel) : Type 0 where
  pub behind : List ℕ
  pub text : bytes ≡ image_text image ++ behind
  pub remarked : IsBehind remarks behind
  pub fits : IsFitting (limits_of netlist) image
  pub remarks_fit : AreRemarks netlist.storages image (memory_width netlist.storages) None remarks

-- the bytes are a text of the image, whatever is remarked on it
pub record IsImageRead (netlist : Netlist) (bytes : List ℕ) (image : Image) : Type 0 where
  pub remarks : List RemarkModel
  pub is : IsRemarkedText netlist bytes image remarks

-- the lines begin such a text
pub record BeginRemarked (netlist : Netlist) (lines : List (List ℕ)) : Type 0 where
  pub more : List (List ℕ)
  pub bytes : List ℕ
  pub image : Image
  pub remarks : List RemarkModel
  pub lines_are : (lines ++ more) ≡ lines_of bytes
  pub is : IsRemarkedText netlist bytes image remarks

-- The bytes aren't such a text, and the fault is at this byte: the first of the first line such
-- that the lines before it begin a text and with it they don't, or the end where all lines begin
-- one.
pub record IsRemarkedFault (netlist : Netlist) (bytes : List ℕ) (at : ℕ) : Type 0 where
  pub front : List (List ℕ)
  pub rest : List (List ℕ)
  pub lines : lines_of bytes ≡ front ++ rest
  pub place : length (concat front) ≡ at
  pub begins : BeginRemarked netlist front
  pub next : (line : List ℕ) → slice_get rest 0 ≡ Some line → BeginRemarked netlist (front ++ (line ∷ [])) → ⊥
  pub whole : (image : Image) (remarks : List RemarkModel) → IsRemarkedText netlist bytes image remarks → ⊥

abbrev pub IsRemarkedRefusal : Netlist → List ℕ → ParseFault → Type 0
IsRemarkedRefusal netlist bytes (fault.Text at) = IsRemarkedFault netlist bytes at
IsRemarkedRefusal netlist bytes fault.Memory = Unit {0}
