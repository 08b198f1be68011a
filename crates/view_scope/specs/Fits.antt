-- Which remarks fit a netlist's storages and an image, where a cell has so many bits. The names of
-- variables are those of the image's places, and a mark of the image is spoken of. What is hidden is
-- hidden at a label that some mark has, and none at address 0. A view's term is one over registers and
-- cells, of any width; a holding's is one over variables, as wide as the register, the temporary cell or
-- the cell of the file; and a known number has room in a cell, and is that of a variable of one cell.
use Rattle.std.specs.Prelude.{ℕ, ◌^◌, ◌==◌, ◌&&◌, not, nat_lt, if◌then◌else◌, Bool, true, false, List, [], ◌∷◌, Option, None, Some, position}
use Rattle.std.specs.List.{list_any}
use Rattle.std.specs.Str.{bytes_eq}
use Rattle.net_model.specs.declared.hardware.Cells.{Cells}
use Rattle.net_model.specs.declared.hardware.Storage.{Storage}
use Rattle.net_model.specs.declared.hardware.Storage.TheVariants.{Register, Memory, File}
use Rattle.code_model.specs.declared.image.Image.{Image}
use Rattle.code_model.specs.declared.image.Mark.{Mark}
use Rattle.code_model.specs.declared.image.Place.{Place}
use Rattle.text_lines.specs.Fields.{◌>>=◌}
use Rattle.view_lines.specs.declared.remark.Holder.{Holder}
use Rattle.view_lines.specs.declared.remark.Holder.TheVariants.{Register as OfRegister, Cell as OfCell}
use Rattle.view_lines.specs.Remarks.{RemarkModel, hide, view, hold, know}
use Rattle.view_terms.specs.Terms.{TermModel}
use Rattle.view_scope.specs.declared.fitting.Spot.{Spot}
use Rattle.view_scope.specs.declared.turn.HolderSpace.{HolderSpace}
use Rattle.view_scope.specs.declared.turn.HolderSpace.TheVariants.{Registers, File as InFile, Memory as InMemory}
use Rattle.view_scope.specs.declared.turn.Turn.{Turn}
use Rattle.view_scope.specs.declared.turn.Turn.TheVariants.{HideAtTest, HideAtEnd, View, Hold, Know}
use Rattle.view_scope.specs.Turns.{may_follow}
use Rattle.view_scope.specs.Widths.{part_width, register_width, tree_width}

-- ---- marks and places

abbrev pub same_label : Option ℕ → Option ℕ → Bool
same_label (Some one) (Some other) = one == other
same_label None None = true
same_label _ _ = false

abbrev pub has_label : List Mark → Option ℕ → Bool
has_label marks label = list_any (λ mark. same_label mark.label label) marks

abbrev pub starts_labelled : List Mark → Option ℕ → Bool
starts_labelled marks label = list_any (λ mark. mark.address == 0 && same_label mark.label label) marks

-- one of the marks has the label, and none at address 0
abbrev pub is_hideable : List Mark → Option ℕ → Bool
is_hideable marks label = has_label marks label && not (starts_labelled marks label)

abbrev pub is_marked : List Mark → ℕ → Bool
is_marked marks address = list_any (λ mark. mark.address == address) marks

-- the number of the place of a name, and of one that has one cell
abbrev pub place_index : List Place → List ℕ → Option ℕ
place_index places name = position (λ place. bytes_eq place.name name) places

abbrev pub plain_index : List Place → List ℕ → Option ℕ
plain_index places name = position (λ place. bytes_eq place.name name && place.len == 1) places

-- ---- what holds a value

abbrev pub is_register_named : List ℕ → Storage → Bool
is_register_named name (Register own width input when) = bytes_eq own name
is_register_named name (Memory cells) = false
is_register_named name (File cells) = false

unfoldable pub register_spot : List Storage → List ℕ → Option Spot
register_spot storages name =
    position (is_register_named name) storages >>= λ index. register_width storages name >>= λ width.
    Some (record { space = Registers; index = index; width = width })

-- one of the first cells, of which so many may hold values
abbrev pub cell : Cells → HolderSpace → ℕ → ℕ → Option Spot
cell cells space at count =
    if nat_lt at count && nat_lt at cells.size then Some (record { space = space; index = at; width = cells.width })
    else None

-- a temporary cell of the memory of this name, or a cell of the file
abbrev pub cell_spot : List Storage → ℕ → List ℕ → ℕ → Option Spot
cell_spot [] temps name at = None
cell_spot (Register own width input when ∷ storages) temps name at = cell_spot storages temps name at
cell_spot (Memory cells ∷ storages) temps name at =
    if bytes_eq cells.name name then cell cells InMemory at temps else cell_spot storages temps name at
cell_spot (File cells ∷ storages) temps name at =
    if bytes_eq cells.name name then cell cells InFile at cells.size else cell_spot storages temps name at

abbrev pub holder_spot : List Storage → Image → Holder → Option Spot
holder_spot storages image (OfRegister name) = register_spot storages name
holder_spot storages image (OfCell cells at) = cell_spot storages image.temps cells at

-- ---- where a remark stands, if it fits

abbrev pub hidden_turn : Option ℕ → ℕ → Turn
hidden_turn (Some test) index = HideAtTest test index
hidden_turn None index = HideAtEnd index

unfoldable pub hide_turn : Image → Option ℕ → List ℕ → Option Turn
hide_turn image label name =
    if is_hideable image.marks label then (place_index image.places name >>= λ index. Some (hidden_turn label index))
    else None

unfoldable pub view_turn : List Storage → Image → ℕ → List ℕ → TermModel → Option Turn
view_turn storages image at name value =
    place_index image.places name >>= λ index. part_width storages value >>= λ width.
    Some (View at index)

unfoldable pub hold_turn : List Storage → Image → ℕ → ℕ → Holder → TermModel → Option Turn
hold_turn storages image word at holder value =
    if is_marked image.marks at then
    (holder_spot storages image holder >>= λ spot. tree_width image.places word value >>= λ width.
    if width == spot.width then Some (Hold at spot.space spot.index) else None)
    else None

unfoldable pub know_turn : Image → ℕ → ℕ → List ℕ → ℕ → Option Turn
know_turn image word at name value =
    if is_marked image.marks at && nat_lt value (2 ^ word) then
    (plain_index image.places name >>= λ index. Some (Know at index))
    else None

abbrev pub turn_of : List Storage → Image → ℕ → RemarkModel → Option Turn
turn_of storages image word (hide label name) = hide_turn image label name
turn_of storages image word (view at name value) = view_turn storages image at name value
turn_of storages image word (hold at holder value) = hold_turn storages image word at holder value
turn_of storages image word (know at name value) = know_turn image word at name value

-- that of a remark which may follow the one before
unfoldable pub accepts : List Storage → Image → ℕ → Option Turn → RemarkModel → Option Turn
accepts storages image word last remark =
    turn_of storages image word remark >>= λ turn. if may_follow last turn then Some turn else None
