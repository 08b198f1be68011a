-- What the steps of covers need of the forms: that each does what it says, under any setting of
-- its bits. What is asked of forms, each with its pattern: the form means and reads what its
-- pattern does, no instruction bit occurs twice in it (`IsOnce`, with *whole word* for all bits),
-- and what a form of a register writes is among its clobbers. Each address of the file is a field
-- shape that shows every cell, and a tied operand is read at the address that is written
-- (`IsTied`).
use Rattle.std.specs.Prelude.{ℕ, ◌<◌, ◌≡◌, true, false, if◌then◌else◌, List, [], ◌∷◌, ◌++◌, Option, Some, None, slice_get}
use Rattle.std.specs.Int.{bit_at}
use Rattle.net_model.specs.declared.states.State.{State}
use Rattle.net_model.specs.declared.hardware.Space.TheVariants.{Memory as InMemory, File as InFile}
use Rattle.net_model.specs.Exprs.{ExprModel, word, reg, const, read, un, bin, slice, cat, zext, sext, select, write, write_at}
use Rattle.net_model.specs.Meaning.{mean}
use Rattle.net_model.specs.Patterns.{Pattern}
use Rattle.form_model.specs.Bits.{uses}
use Rattle.form_model.specs.Forms.{FormModel, GoalModel, into_reg, into_memory, into_file, jumps, branches}
use Rattle.form_model.specs.Matches.{HomeModel, in_register, in_file}
use Rattle.form_model.specs.Shapes.{is_shape, shows_below}
use Rattle.form_model.specs.Effects.{register, space_in, expr_reads}

-- ---- linear: no bit of the word occurs twice

-- no bit occurs in both
abbrev pub BitsApart : ExprModel → ExprModel → Type 0
BitsApart a b = (k : ℕ) → uses a k ≡ true → uses b k ≡ false

-- no bit occurs twice
abbrev pub IsOnce : ExprModel → Type 0
IsOnce (word w) = Unit {0}
IsOnce (reg r w) = Unit {0}
IsOnce (const w v) = Unit {0}
IsOnce (read space a w) = IsOnce a
IsOnce (un o a) = IsOnce a
IsOnce (bin o a b) = IsOnce a × IsOnce b × BitsApart a b × BitsApart b a
IsOnce (slice a hi lo) = IsOnce a
IsOnce (cat a b) = IsOnce a × IsOnce b × BitsApart a b × BitsApart b a
IsOnce (zext a w) = IsOnce a
IsOnce (sext a w) = IsOnce a
IsOnce (select c a b) = IsOnce c × IsOnce a × IsOnce b × BitsApart c a × BitsApart a b × BitsApart b c

-- ---- reads of the file

-- the address of each read of the file is a field shape that shows each of so many cells
abbrev pub CellsShown : ℕ → ExprModel → Type 0
CellsShown size (word w) = Unit {0}
CellsShown size (reg r w) = Unit {0}
CellsShown size (const w v) = Unit {0}
CellsShown size (read InMemory a w) = CellsShown size a
CellsShown size (read InFile a w) = (is_shape a ≡ true) × (shows_below a size ≡ true)
CellsShown size (un o a) = CellsShown size a
CellsShown size (bin o a b) = CellsShown size a × CellsShown size b
CellsShown size (slice a hi lo) = CellsShown size a
CellsShown size (cat a b) = CellsShown size a × CellsShown size b
CellsShown size (zext a w) = CellsShown size a
CellsShown size (sext a w) = CellsShown size a
CellsShown size (select c a b) = CellsShown size c × CellsShown size a × CellsShown size b

-- the homes of the operands that an expression takes, from left to right
abbrev pub homes_in : ExprModel → List HomeModel
homes_in (word w) = []
homes_in (reg r w) = in_register r ∷ []
homes_in (const w v) = []
homes_in (read InMemory a w) = if is_shape a then [] else homes_in a
homes_in (read InFile a w) = in_file a ∷ []
homes_in (un o a) = homes_in a
homes_in (bin o a b) = homes_in a ++ homes_in b
homes_in (slice a hi lo) = if is_shape (slice a hi lo) then [] else homes_in a
homes_in (cat a b) = homes_in a ++ homes_in b
homes_in (zext a w) = if is_shape (zext a w) then [] else homes_in a
homes_in (sext a w) = if is_shape (sext a w) then [] else homes_in a
homes_in (select c a b) = homes_in c ++ (homes_in a ++ homes_in b)

-- ---- a form and its pattern

-- an expression with the operands of operators swapped
pub record MeansAlike (a b : ExprModel) : Type 0 where
  pub means : (s : State) (i : ℕ) → mean a s i ≡ mean b s i
  pub reads : (i r : ℕ) → expr_reads i a (register r) ≡ expr_reads i b (register r)

-- a form that writes a register, one of so many, beside a file of so many cells
pub record IsIntoReg (patterns : List Pattern) (count size : ℕ) (form : FormModel) (r : ℕ) : Type 0 where
  pub value : ExprModel
  pub is : slice_get patterns form.pattern ≡ Some (record { storage = r; move = write value })
  pub alike : MeansAlike form.value value
  pub once : IsOnce form.value
  pub shown : CellsShown size form.value
  pub clobbered : bit_at form.clobbers r ≡ 1
  pub below : r < count

-- a form that writes the memory
pub record IsIntoMemory (file : Option ℕ) (patterns : List Pattern) (size : ℕ) (form : FormModel) : Type 0 where
  pub storage : ℕ
  pub addr : ExprModel
  pub value : ExprModel
  pub is : slice_get patterns form.pattern ≡ Some (record { storage = storage; move = write_at addr value })
  pub other : space_in file storage ≡ InMemory
  pub at : ExprModel
  pub has : form.addr ≡ Some at
  pub alike_addr : MeansAlike at addr
  pub alike_value : MeansAlike form.value value
  pub once_addr : IsOnce at
  pub once_value : IsOnce form.value
  pub shown_addr : CellsShown size at
  pub shown_value : CellsShown size form.value
  pub apart : BitsApart at form.value
  pub apart_back : BitsApart form.value at

-- the form has no tied operand, and no bit of its address occurs in its value, or the tied operand is
-- read at this address
abbrev pub IsTied : Option ℕ → ExprModel → ExprModel → Type 0
IsTied None at value = BitsApart at value × BitsApart value at
IsTied (Some place) at value = slice_get (homes_in value) place ≡ Some (in_file at)

-- a form that writes the file
pub record IsIntoFile (file : Option ℕ) (patterns : List Pattern) (size : ℕ) (form : FormModel) : Type 0 where
  pub storage : ℕ
  pub addr : ExprModel
  pub value : ExprModel
  pub is : slice_get patterns form.pattern ≡ Some (record { storage = storage; move = write_at addr value })
  pub own : space_in file storage ≡ InFile
  pub at : ExprModel
  pub has : form.addr ≡ Some at
  pub alike_addr : MeansAlike at addr
  pub alike_value : MeansAlike form.value value
  pub shape : is_shape at ≡ true
  pub shown_addr : shows_below at size ≡ true
  pub once_value : IsOnce form.value
  pub shown_value : CellsShown size form.value
  pub tied : IsTied form.tied at form.value

abbrev pub IsFormed : Option ℕ → List Pattern → ℕ → ℕ → FormModel → GoalModel → Type 0
IsFormed file patterns count size form (into_reg r) = IsIntoReg patterns count size form r
IsFormed file patterns count size form into_memory = IsIntoMemory file patterns size form
IsFormed file patterns count size form into_file = IsIntoFile file patterns size form
IsFormed file patterns count size form (jumps reach) = Unit {0}
IsFormed file patterns count size form (branches when_one to) = IsOnce form.value × CellsShown size form.value

-- each form of the list is made of the pattern that it names, where the file, if there is one, has
-- this number and so many cells
abbrev pub AreFormed : Option ℕ → List Pattern → ℕ → ℕ → List FormModel → Type 0
AreFormed file patterns count size forms =
    (k : ℕ) (form : FormModel) → slice_get forms k ≡ Some form → IsFormed file patterns count size form form.goal
