-- Remarks on an image: how each is written, and which can be.
use Rattle.std.specs.Prelude.{◌≡◌, ℕ, ◌^◌, ◌<◌, true, List, [], ◌∷◌, codes, Option}
use Rattle.std.specs.Fmt.{decimal}
use Rattle.std.specs.List.{concat}
use Rattle.text_lines.specs.Fields.{is_name}
use Rattle.code_model.specs.ImageFits.{LabelFits}
use Rattle.code_model.specs.ImageText.{label_text}
use Rattle.view_terms.specs.Terms.{TermModel, TermFits, max_levels, model_of_term, term_text}
use Rattle.view_lines.specs.declared.remark.Holder.{Holder}
use Rattle.view_lines.specs.declared.remark.Holder.TheVariants.{Register, Cell}
use Rattle.view_lines.specs.declared.remark.Remark.{Remark}
use Rattle.view_lines.specs.declared.remark.Remark.TheVariants.{Hide, View, Hold, Know}

-- a remark as a plain value
pub data RemarkModel : Type 0 where
  hide : (label : Option ℕ) (name : List ℕ) → RemarkModel
  view : (address : ℕ) (name : List ℕ) (value : TermModel) → RemarkModel
  hold : (address : ℕ) (holder : Holder) (value : TermModel) → RemarkModel
  know : (address : ℕ) (name : List ℕ) (value : ℕ) → RemarkModel

-- that of the code's remark
abbrev pub model_of_remark : Remark → RemarkModel
model_of_remark (Hide label name) = hide label name
model_of_remark (View address name value) = view address name (model_of_term value)
model_of_remark (Hold address holder value) = hold address holder (model_of_term value)
model_of_remark (Know address name value) = know address name value

-- REGISTER, and MEMORY[CELL]
abbrev pub holder_text : Holder → List ℕ
holder_text (Register name) = name
holder_text (Cell cells at) = concat (cells ∷ codes "[" ∷ decimal at ∷ codes "]" ∷ [])

-- hide LABEL NAME, view ADDRESS NAME TERM, hold ADDRESS HOLDER TERM, know ADDRESS NAME NUMBER
abbrev pub remark_line : RemarkModel → List ℕ
remark_line (hide label name) = concat (codes "hide " ∷ label_text label ∷ codes " " ∷ name ∷ codes "\n" ∷ [])
remark_line (view address name value) =
    concat (codes "view " ∷ decimal address ∷ codes " " ∷ name ∷ codes " " ∷ term_text value ∷ codes "\n" ∷ [])
remark_line (hold address holder value) =
    concat (codes "hold " ∷ decimal address ∷ codes " " ∷ holder_text holder ∷ codes " " ∷ term_text value
    ∷ codes "\n" ∷ [])
remark_line (know address name value) =
    concat (codes "know " ∷ decimal address ∷ codes " " ∷ name ∷ codes " " ∷ decimal value ∷ codes "\n" ∷ [])

-- names are names, addresses, labels and cells lie below 2^32, and other numbers below 2^64
abbrev pub HolderFits : Holder → Type 0
HolderFits (Register name) = is_name name ≡ true
HolderFits (Cell cells at) = (is_name cells ≡ true) × (at < 2 ^ 32)

abbrev pub RemarkFits : RemarkModel → Type 0
RemarkFits (hide label name) = LabelFits label × (is_name name ≡ true)
RemarkFits (view address name value) = (address < 2 ^ 32) × (is_name name ≡ true) × TermFits max_levels value
RemarkFits (hold address holder value) = (address < 2 ^ 32) × HolderFits holder × TermFits max_levels value
RemarkFits (know address name value) = (address < 2 ^ 32) × (is_name name ≡ true) × (value < 2 ^ 64)

-- the bytes are the line of the remark, with its LF
pub record SaysRemark (line : List ℕ) (remark : RemarkModel) : Type 0 where
  pub line_is : line ≡ remark_line remark
  pub fits : RemarkFits remark
