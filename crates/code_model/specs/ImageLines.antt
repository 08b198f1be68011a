-- Which bytes are the text of an image that fits a netlist, and where other bytes are at fault.
-- Bytes are an image's text where they are what is written of it and it fits; otherwise the fault
-- is at the first line such that those before it begin the text of an image that fits and with it
-- they don't.
use Rattle.std.specs.Prelude.{ℕ, ◌≡◌, List, [], ◌∷◌, ◌++◌, length, Some, slice_get}
use Rattle.std.specs.List.{concat}
use Rattle.rec_bits.specs.declared.fault.ParseFault.{ParseFault}
use Rattle.rec_bits.specs.declared.fault.ParseFault.TheVariants as fault
use Rattle.text_lines.specs.Lines.{lines_of}
use Rattle.code_model.specs.declared.image.Image.{Image}
use Rattle.code_model.specs.declared.limits.Limits.{Limits}
use Rattle.code_model.specs.ImageFits.{IsFitting}
use Rattle.code_model.specs.ImageText.{image_text}

-- the bytes are the text of the image, which fits
pub record IsImageText (limits : Limits) (bytes : List ℕ) (image : Image) : Type 0 where
  pub text : bytes ≡ image_text image
  pub fits : IsFitting limits image

-- the lines begin the text of an image that fits
abbrev pub Begin : Limits → List (List ℕ) → Type 0
Begin limits lines =
    (more : List (List ℕ)) × (image : Image) × ((lines ++ more) ≡ lines_of (image_text image))
    × IsFitting limits image

-- The bytes aren't such a text, and the fault is at this byte: the first of the first line such
-- that the lines before it begin a text and with it they don't, or the end where all lines begin
-- one.
pub record IsLineFault (limits : Limits) (bytes : List ℕ) (at : ℕ) : Type 0 where
  pub front : List (List ℕ)
  pub rest : List (List ℕ)
  pub lines : lines_of bytes ≡ front ++ rest
  pub place : length (concat front) ≡ at
  pub begins : Begin limits front
  pub next : (line : List ℕ) → slice_get rest 0 ≡ Some line → Begin limits (front ++ (line ∷ [])) → ⊥
  pub whole : (image : Image) → IsImageText limits bytes image → ⊥

abbrev pub IsImageRefusal : Limits → List ℕ → ParseFault → Type 0
IsImageRefusal limits bytes (fault.Text at) = IsLineFault limits bytes at
IsImageRefusal limits bytes fault.Memory = Unit {0}
