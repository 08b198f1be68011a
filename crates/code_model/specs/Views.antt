-- Variables that are seen through views, and variables that are hidden. A view says that at a mark
-- a variable is the value of an expression over registers, cells of a register file among them,
-- whatever its place holds. The store that
-- is *seen* in a state: of each variable with a view at the program counter's address the view's
-- value, of all others the cells at their places. Views are *plain* where each is one of a variable
-- of one cell, over registers, cells of the register file at literal addresses and numbers alone,
-- and as wide as a cell, at the mark of a test that
-- isn't at address 0, and no variable has two at one mark; so at the start and at the end all is
-- seen in the places. A variable may be *hidden* at all marks of a label. The store that is *shown*
-- in a state is the one that is seen, with zeros in place of each variable that is hidden at the
-- mark; and the checkpoints of a source are masked by the same zeros at the same labels.
use Rattle.std.specs.Prelude.{ℕ, ◌≡◌, ◌<◌, ◌==◌, ◌&&◌, Bool, true, false, if◌then◌else◌, List, [], ◌∷◌, ◌++◌, take, drop, Option, Some, None, map, replicate}
use Rattle.net_model.specs.declared.hardware.Netlist.{Netlist}
use Rattle.net_model.specs.declared.hardware.Space.TheVariants.{Memory as InMemory, File as InFile}
use Rattle.net_model.specs.declared.states.State.{State}
use Rattle.net_model.specs.Clock.{counter_in}
use Rattle.net_model.specs.Exprs.{ExprModel, word, reg, const, read, un, bin, slice, cat, zext, sext, select, expr_width, model_of_expr}
use Rattle.net_model.specs.Meaning.{mean}
use Rattle.net_model.specs.Nets.{memory_width}
use Rattle.rec_bits.specs.Faults.{same_name}
use Rattle.src_model.specs.declared.checkpoint.Checkpoint.{Checkpoint}
use Rattle.src_model.specs.declared.checkpoint.Checkpoint.TheVariants.{At, End}
use Rattle.src_model.specs.Ways.{Passed}
use Rattle.code_model.specs.declared.image.Image.{Image}
use Rattle.code_model.specs.declared.image.Place.{Place}
use Rattle.code_model.specs.declared.views.Hidden.{Hidden}
use Rattle.code_model.specs.declared.views.View.{View}
use Rattle.code_model.specs.declared.views.Viewed.{Viewed}
use Rattle.code_model.specs.Places.{label_at}

-- an image without views in which nothing is hidden
abbrev pub unviewed : Image → Viewed
unviewed image = record { image = image; views = []; hidden = [] }

-- ---- what is seen

-- the expression that is the view of a variable at an address, if it has one there: its first
abbrev pub view_at : List View → ℕ → List ℕ → Option ExprModel
view_at [] address name = None
view_at (view ∷ views) address name =
    if (view.address == address) && same_name view.name name then Some (model_of_expr view.value)
    else view_at views address name

-- the cells of a variable: its view's value, or those at its place
abbrev pub seen_cells : Option ExprModel → Place → State → List ℕ
seen_cells None place s = take place.len (drop place.address s.cells)
seen_cells (Some value) place s = mean value s 0 ∷ []

-- those of all variables, where each name may have a view
abbrev pub seen_through : (List ℕ → Option ExprModel) → List Place → State → List ℕ
seen_through view [] s = []
seen_through view (place ∷ places) s = seen_cells (view place.name) place s ++ seen_through view places s

-- the store that is seen in a state
abbrev pub viewed_store : Netlist → Viewed → State → List ℕ
viewed_store netlist viewed s =
    seen_through (view_at viewed.views (counter_in netlist s)) viewed.image.places s

-- ---- what is hidden

-- whether a mark has this label, that of a test's number or, without one, of the end
abbrev pub is_labelled : Option ℕ → Option Checkpoint → Bool
is_labelled label None = false
is_labelled (Some tree) (Some (At other)) = tree == other
is_labelled (Some tree) (Some End) = false
is_labelled None (Some (At other)) = false
is_labelled None (Some End) = true

-- the names of the variables that are hidden at the marks of a label
abbrev pub hidden_at : List Hidden → Option Checkpoint → List (List ℕ)
hidden_at [] label = []
hidden_at (one ∷ hidden) label =
    if is_labelled one.label label then one.name ∷ hidden_at hidden label else hidden_at hidden label

-- whether a name is among these
abbrev pub is_one_of : List (List ℕ) → List ℕ → Bool
is_one_of [] name = false
is_one_of (other ∷ names) name = if same_name other name then true else is_one_of names name

-- those of the mark at an address
abbrev pub hidden_in : Viewed → ℕ → List (List ℕ)
hidden_in viewed address = hidden_at viewed.hidden (label_at viewed.image.marks address)

-- a variable's cells, or as many zeros where it is hidden
abbrev pub unless_hidden : Bool → ℕ → List ℕ → List ℕ
unless_hidden true len cells = replicate len 0
unless_hidden false len cells = cells

-- a store of the variables at these places, one behind the other, with zeros for those of these names
abbrev pub mask_store : List (List ℕ) → List Place → List ℕ → List ℕ
mask_store names [] store = store
mask_store names (place ∷ places) store =
    unless_hidden (is_one_of names place.name) place.len (take place.len store)
    ++ mask_store names places (drop place.len store)

-- the checkpoints of a source, each with zeros for what is hidden at its label
abbrev pub masked_passed : Viewed → Passed → Passed
masked_passed viewed p = record {
  label = p.label;
  cells = mask_store (hidden_at viewed.hidden (Some p.label)) viewed.image.places p.cells;
}

abbrev pub masked : Viewed → List Passed → List Passed
masked viewed ps = map (masked_passed viewed) ps

-- those that a source's trace gives
abbrev pub masked_trace : Viewed → (List ℕ → ℕ → List Passed) → List ℕ → ℕ → List Passed
masked_trace viewed trace cells m = masked viewed (trace cells m)

-- the cells of all variables as they are seen, with zeros for those of these names
abbrev pub shown_through : List (List ℕ) → (List ℕ → Option ExprModel) → List Place → State → List ℕ
shown_through names view [] s = []
shown_through names view (place ∷ places) s =
    unless_hidden (is_one_of names place.name) place.len (seen_cells (view place.name) place s)
    ++ shown_through names view places s

-- the store that is shown in a state
abbrev pub shown_store : Netlist → Viewed → State → List ℕ
shown_store netlist viewed s =
    shown_through (hidden_in viewed (counter_in netlist s)) (view_at viewed.views (counter_in netlist s))
    viewed.image.places s

-- ---- plain views

-- a number
abbrev pub is_literal : ExprModel → Bool
is_literal (const w v) = true
is_literal _ = false

-- an expression over registers, cells of the register file at literal addresses and numbers, without
-- memory and without instruction bits
abbrev pub is_of_registers : ExprModel → Bool
is_of_registers (word w) = false
is_of_registers (reg r w) = true
is_of_registers (const w v) = true
is_of_registers (read InMemory a w) = false
is_of_registers (read InFile a w) = is_literal a
is_of_registers (un o a) = is_of_registers a
is_of_registers (bin o a b) = is_of_registers a && is_of_registers b
is_of_registers (slice a hi lo) = is_of_registers a
is_of_registers (cat a b) = is_of_registers a && is_of_registers b
is_of_registers (zext a w) = is_of_registers a
is_of_registers (sext a w) = is_of_registers a
is_of_registers (select c a b) = is_of_registers c && (is_of_registers a && is_of_registers b)

-- the place of a variable
abbrev pub place_named : List Place → List ℕ → Option Place
place_named [] name = None
place_named (place ∷ places) name = if same_name place.name name then Some place else place_named places name

-- at the mark of a test, and not at the first word, of a variable of one cell, over registers, and as
-- wide as a cell
pub record IsPlainView (netlist : Netlist) (image : Image) (view : View) : Type 0 where
  pub tree : ℕ
  pub marked : label_at image.marks view.address ≡ Some (At tree)
  pub later : 0 < view.address
  pub place : Place
  pub named : place_named image.places view.name ≡ Some place
  pub one : place.len ≡ 1
  pub registers : is_of_registers (model_of_expr view.value) ≡ true
  pub wide : expr_width (model_of_expr view.value) ≡ memory_width netlist.storages

-- none of these views is of the same variable at the same mark
abbrev pub IsOnly : View → List View → Type 0
IsOnly view [] = Unit {0}
IsOnly view (other ∷ views) =
    (((view.address == other.address) && same_name view.name other.name) ≡ false) × IsOnly view views

-- all are plain, and none is of the same variable and mark as another
abbrev pub ArePlainViews : Netlist → Image → List View → Type 0
ArePlainViews netlist image [] = Unit {0}
ArePlainViews netlist image (view ∷ views) =
    IsPlainView netlist image view × IsOnly view views × ArePlainViews netlist image views
