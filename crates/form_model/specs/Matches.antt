-- What a form takes of a tree. What a form takes of a tree, none where it doesn't match: the bits
-- of the word that are settled, and what is left open (*leaves*) from left to right, operands and
-- cuts. An operand is in its *home*, a register or a cell of the register file that a field shape
-- names, and takes any subtree of its width; a cut is in a temporary cell. Operators and widths
-- are equal; a field shape is matched as a whole, a sum too, and takes a number of its width that
-- it shows; a read of the memory at a field shape takes a read at a number, or a cut where the
-- shape shows every temporary address. What is *whole*, the root of a job or the number that is a
-- read's address, is no cut.
use Rattle.std.specs.Prelude.{ℕ, Bool, true, false, ◌==◌, ◌&&◌, not, bit_or, if◌then◌else◌, List, [], ◌∷◌, ◌++◌, Option, Some, None}
use Rattle.rec_bits.specs.declared.operator.Op1.{Op1}
use Rattle.rec_bits.specs.declared.operator.Op2.{Op2}
use Rattle.rec_bits.specs.contracts.operator.Op1PartialEq.TheImpl.{ghosts as op1_eq}
use Rattle.rec_bits.specs.contracts.operator.Op2PartialEq.TheImpl.{ghosts as op2_eq}
use Rattle.net_model.specs.declared.hardware.Space.TheVariants.{Memory as InMemory, File as InFile}
use Rattle.net_model.specs.Exprs.{ExprModel, word, reg, const, read, un, bin, slice, cat, zext, sext, select, expr_width}
use Rattle.form_model.specs.Trees.{is_number, is_cell}
use Rattle.form_model.specs.Shapes.{is_shape, shape_setting, shows_below}
use Rattle.form_model.specs.Forms.{FormModel, GoalModel, into_reg, into_memory, into_file, branches, DestinationModel, into, filed, cell, stored, temporary, tested}

-- where an operand waits for the form that takes it: in a register, or in a cell of the file, which
-- this field shape names
pub data HomeModel : Type 0 where
  in_register : (id : ℕ) → HomeModel
  in_file : (shape : ExprModel) → HomeModel

-- what a match leaves open: an operand, which another form has to put into its home, and a cut,
-- which has to be in a temporary cell before, where the read's address is this field shape. An
-- operand that is whole can't be a cut itself: it is the tree of a job, or the number that is a
-- read's address
pub data LeafModel : Type 0 where
  operand : (home : HomeModel) → (tree : ExprModel) → (whole : Bool) → LeafModel
  cut : (shape : ExprModel) → (tree : ExprModel) → LeafModel

-- a match: the bits of the word that it settles, with 0 in those that will name a temporary cell
-- or a cell of the file, and its leaves from left to right
pub record MatchModel : Type 0 where
  pub setting : ℕ
  pub leaves : List LeafModel

-- a match that settles bits and leaves nothing open
abbrev pub settled : Option ℕ → Option MatchModel
settled None = None
settled (Some setting) = Some (record { setting = setting; leaves = [] })

-- a match that settles no bits and leaves one leaf open, where a test holds
abbrev pub open_if : Bool → LeafModel → Option MatchModel
open_if b leaf = if b then Some (record { setting = 0; leaves = leaf ∷ [] }) else None

-- two matches together
abbrev pub both : Option MatchModel → Option MatchModel → Option MatchModel
both None b = None
both (Some f) None = None
both (Some f) (Some g) = Some (record { setting = bit_or f.setting g.setting; leaves = f.leaves ++ g.leaves })

-- a field shape takes a number of its width that it shows
abbrev pub shape_match : ExprModel → ExprModel → Option MatchModel
shape_match shape (const w v) = if w == expr_width shape then settled (shape_setting shape v) else None
shape_match shape _ = None

-- the address of a read at a number
abbrev pub literal_match : ExprModel → ExprModel → Option MatchModel
literal_match addr (read InMemory a w) = shape_match addr a
literal_match addr _ = None

-- a read at a field shape takes a read at a number that the shape shows, or a cut, where it shows
-- every temporary address
abbrev pub cell_match : ℕ → ExprModel → ℕ → ExprModel → Bool → Option MatchModel
cell_match temps addr width tree whole =
    if width == expr_width tree then (if is_cell tree then literal_match addr tree
    else open_if (not whole && shows_below addr temps) (cut addr tree)) else None

-- the operators are one
abbrev pub same_op1 : Op1 → Op1 → Bool
same_op1 a b = op1_eq.eq a b

abbrev pub same_op2 : Op2 → Op2 → Bool
same_op2 a b = op2_eq.eq a b

-- the operands of operators, where f and g say what the operands of the form's expression take
abbrev pub read_match : (ExprModel → Bool → Option MatchModel) → ℕ → ExprModel → Option MatchModel
read_match f width (read InMemory a w) = if w == width then f a (is_number a) else None
read_match f width _ = None

abbrev pub un_match : (ExprModel → Bool → Option MatchModel) → Op1 → ExprModel → Option MatchModel
un_match f op (un o a) = if same_op1 o op then f a false else None
un_match f op _ = None

abbrev pub bin_match : (ExprModel → Bool → Option MatchModel) → (ExprModel → Bool → Option MatchModel) → Op2 → ExprModel → Option MatchModel
bin_match f g op (bin o a b) = if same_op2 o op then both (f a false) (g b false) else None
bin_match f g op _ = None

abbrev pub slice_match : (ExprModel → Bool → Option MatchModel) → ℕ → ℕ → ℕ → ExprModel → Option MatchModel
slice_match f width hi lo (slice a h l) =
    if (expr_width a == width) && ((h == hi) && (l == lo)) then f a false else None
slice_match f width hi lo _ = None

abbrev pub zext_match : (ExprModel → Bool → Option MatchModel) → ℕ → ℕ → ExprModel → Option MatchModel
zext_match f from width (zext a w) = if (expr_width a == from) && (w == width) then f a false else None
zext_match f from width _ = None

abbrev pub sext_match : (ExprModel → Bool → Option MatchModel) → ℕ → ℕ → ExprModel → Option MatchModel
sext_match f from width (sext a w) = if (expr_width a == from) && (w == width) then f a false else None
sext_match f from width _ = None

-- what an expression of a form takes of a tree, for so many temporary cells. A field shape is
-- matched as a whole
abbrev pub matched : ℕ → ExprModel → ExprModel → Bool → Option MatchModel
matched temps (word w) tree whole = shape_match (word w) tree
matched temps (const w v) tree whole = shape_match (const w v) tree
matched temps (reg r w) tree whole = open_if (w == expr_width tree) (operand (in_register r) tree whole)
matched temps (read InMemory a w) tree whole =
    if is_shape a then cell_match temps a w tree whole else read_match (matched temps a) w tree
matched temps (read InFile a w) tree whole = open_if (w == expr_width tree) (operand (in_file a) tree whole)
matched temps (un o a) tree whole = un_match (matched temps a) o tree
matched temps (bin o a b) tree whole =
    if is_shape (bin o a b) then shape_match (bin o a b) tree
    else bin_match (matched temps a) (matched temps b) o tree
matched temps (slice a hi lo) tree whole =
    if is_shape (slice a hi lo) then shape_match (slice a hi lo) tree
    else slice_match (matched temps a) (expr_width a) hi lo tree
matched temps (cat a b) tree whole = None
matched temps (zext a w) tree whole =
    if is_shape (zext a w) then shape_match (zext a w) tree
    else zext_match (matched temps a) (expr_width a) w tree
matched temps (sext a w) tree whole =
    if is_shape (sext a w) then shape_match (sext a w) tree
    else sext_match (matched temps a) (expr_width a) w tree
matched temps (select c a b) tree whole = None

-- ---- whole forms

-- the address of a write of the memory, at the address of the destination
abbrev pub address_match : ℕ → Option ExprModel → DestinationModel → Option MatchModel
address_match temps None destination = None
address_match temps (Some addr) (cell address) = if is_shape addr then settled (shape_setting addr address) else None
address_match temps (Some addr) (stored address) = matched temps addr address false
address_match temps (Some addr) temporary = if is_shape addr && shows_below addr temps then settled (Some 0) else None
address_match temps (Some addr) (into id) = None
address_match temps (Some addr) filed = None
address_match temps (Some addr) tested = None

-- what a form with this goal takes of a tree that goes to a destination
abbrev pub goal_match : ℕ → FormModel → GoalModel → DestinationModel → ExprModel → Bool → Option MatchModel
goal_match temps form (into_reg r) (into id) tree whole = if r == id then matched temps form.value tree whole else None
goal_match temps form into_file filed tree whole = matched temps form.value tree whole
goal_match temps form into_memory (cell address) tree whole =
    both (address_match temps form.addr (cell address)) (matched temps form.value tree true)
goal_match temps form into_memory (stored address) tree whole =
    both (address_match temps form.addr (stored address)) (matched temps form.value tree false)
goal_match temps form into_memory temporary tree whole =
    both (address_match temps form.addr temporary) (matched temps form.value tree false)
goal_match temps form (branches when_one to) tested tree whole = matched temps form.value tree true
goal_match temps form _ _ tree whole = None

-- what a form takes of a tree that goes to a destination. `whole` tells of an operand alone: the
-- tree of a cell or of a test is whole, and that of a store or of a temporary cell isn't
abbrev pub taken : ℕ → FormModel → DestinationModel → ExprModel → Bool → Option MatchModel
taken temps form destination tree whole = goal_match temps form form.goal destination tree whole
