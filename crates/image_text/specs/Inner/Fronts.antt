-- What is read of an image text from its front, line by line.
use Rattle.std.specs.Prelude.{ℕ, ◌^◌, ◌≡◌, ◌==◌, ◌&&◌, nat_le, nat_lt, Bool, true, false, if◌then◌else◌, List, [], ◌∷◌, ◌++◌, length, Option, Some, None, Result, Ok, Err}
use Rattle.std.specs.List.{concat}
use Rattle.code_model.specs.declared.image.Image.{Image}
use Rattle.code_model.specs.declared.image.Mark.{Mark}
use Rattle.code_model.specs.declared.image.Place.{Place}
use Rattle.code_model.specs.declared.image.Word.{Word}
use Rattle.text_lines.specs.Digits.{bytes_of}
use Rattle.rec_bits.specs.declared.fault.ParseFault.{ParseFault}
use Rattle.rec_bits.specs.declared.fault.ParseFault.TheVariants as fault
use Rattle.text_lines.specs.Lines.{lines_of}
use Rattle.image_items.specs.declared.item.Item.{Item}
use Rattle.image_items.specs.declared.item.Item.TheVariants.{Size, Temps, Variable, Tree, Label, Code, Done}
use Rattle.image_items.specs.Reading.{item_of}
use Rattle.code_model.specs.declared.limits.Limits.{Limits}
use Rattle.image_text.specs.declared.front.Front.{Front}
use Rattle.image_text.specs.declared.front.Front.TheVariants.{Nothing, Sized, Open, Whole}
use Rattle.text_lines.specs.Fields.{◌>>=◌}

abbrev pub no_items : {A : Type 0} → List A → Bool
no_items xs = length xs == 0

abbrev pub has_number : Option ℕ → Bool
has_number None = false
has_number (Some tree) = true

abbrev pub may_follow : Option Mark → Mark → Bool
may_follow None mark = true
may_follow (Some last) mark = nat_lt last.address mark.address && has_number last.label

-- the last mark
abbrev pub last_mark : Option Mark → List Mark → Option Mark
last_mark last [] = last
last_mark last (mark ∷ marks) = last_mark (Some mark) marks

abbrev pub opened : Limits → ℕ → Image
opened limits temps = record { bits = limits.bits; temps = temps; places = []; costs = []; marks = []; words = [] }

unfoldable pub with_size : Limits → ℕ → ℕ → Option Front
with_size limits bits count = if bits == limits.bits && nat_le count limits.words then Some (Sized count) else None

unfoldable pub with_place : ℕ → Image → Place → Option Front
with_place count image place =
    if no_items image.costs && no_items image.marks && no_items image.words
    then Some (Open count (record image { places = image.places ++ (place ∷ []) }))
    else None

unfoldable pub with_cost : ℕ → Image → ℕ × ℕ → Option Front
with_cost count image cost =
    if no_items image.marks && no_items image.words
    then Some (Open count (record image { costs = image.costs ++ (cost ∷ []) }))
    else None

unfoldable pub with_mark : ℕ → Image → Mark → Option Front
with_mark count image mark =
    if no_items image.words && may_follow (last_mark None image.marks) mark
    then Some (Open count (record image { marks = image.marks ++ (mark ∷ []) }))
    else None

unfoldable pub with_word : Limits → ℕ → Image → ℕ → Word → Option Front
with_word limits count image address code =
    if address == length image.words && nat_lt address count && nat_lt code.word (2 ^ limits.bits)
    then Some (Open count (record image { words = image.words ++ (code ∷ []) }))
    else None

unfoldable pub whole : ℕ → Image → Option Front
whole count image = if length image.words == count then Some (Whole image) else None

unfoldable pub with_item : Limits → ℕ → Image → Item → Option Front
with_item limits count image (Size bits n) = None
with_item limits count image (Temps temps) = None
with_item limits count image (Variable place) = with_place count image place
with_item limits count image (Tree cost) = with_cost count image cost
with_item limits count image (Label mark) = with_mark count image mark
with_item limits count image (Code address code) = with_word limits count image address code
with_item limits count image Done = whole count image

unfoldable pub after_nothing : Limits → Item → Option Front
after_nothing limits (Size bits count) = with_size limits bits count
after_nothing limits item = None

unfoldable pub after_size : Limits → ℕ → Item → Option Front
after_size limits count (Temps temps) = Some (Open count (opened limits temps))
after_size limits count item = None

unfoldable pub step : Limits → Front → Item → Option Front
step limits Nothing item = after_nothing limits item
step limits (Sized count) item = after_size limits count item
step limits (Open count image) item = with_item limits count image item
step limits (Whole image) item = None

unfoldable pub step_line : Limits → Front → List ℕ → Option Front
step_line limits front line = item_of (bytes_of limits.bits) line >>= step limits front

unfoldable pub reads : Limits → Front → List (List ℕ) → Option Front
reads limits front [] = Some front
reads limits front (line ∷ lines) = step_line limits front line >>= λ next. reads limits next lines

-- all lines of the bytes are read
pub record IsRead (limits : Limits) (bytes : List ℕ) (front : Front) : Type 0 where
  pub all : reads limits Nothing (lines_of bytes) ≡ Some front

-- reading stops at the line that begins at this byte
pub record StopsAt (limits : Limits) (bytes : List ℕ) (at : ℕ) : Type 0 where
  pub before : List (List ℕ)
  pub line : List ℕ
  pub after : List (List ℕ)
  pub front : Front
  pub lines : lines_of bytes ≡ before ++ (line ∷ after)
  pub read : reads limits Nothing before ≡ Some front
  pub stops : step_line limits front line ≡ None
  pub place : length (concat before) ≡ at

abbrev pub Stops : Limits → List ℕ → ParseFault → Type 0
Stops limits bytes (fault.Text at) = StopsAt limits bytes at
Stops limits bytes fault.Memory = Unit {0}

-- the image that was read, or a fault at the end
abbrev pub IsWholeOf : Front → ℕ → Result Image ParseFault → Type 0
IsWholeOf front end (Ok image) = front ≡ Whole image
IsWholeOf front end (Err e) = (e ≡ fault.Text end) × ((image : Image) → front ≡ Whole image → ⊥)
