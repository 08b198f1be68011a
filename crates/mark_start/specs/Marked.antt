-- What hints say of a state and of the cells of the program.
use Rattle.std.specs.Prelude.{ℕ, ◌+◌, ◌<◌, ◌≤◌, ◌≡◌, ◌⊎◌, true, false, List, [], ◌∷◌, Option, Some, None, slice_index}
use Rattle.net_model.specs.declared.states.State.{State}
use Rattle.net_model.specs.Exprs.{ExprModel, word, reg, const, read, un, bin, slice, cat, zext, sext, select}
use Rattle.net_model.specs.Meaning.{mean}
use Rattle.form_model.specs.declared.trees.Tree.{Tree}
use Rattle.form_model.specs.declared.trees.Tree.TheVariants.{Lit, Read', Un', Bin', Slice', Zext', Sext'}
use Rattle.follow.specs.Safe.{base_in}
use Rattle.src_trees.specs.Doing.{done}
use Rattle.src_trees.specs.Lowered.{JobModel}
use Rattle.form_model.specs.Forms.{DestinationModel, into, cell, filed, stored, temporary, tested}
use Rattle.form_model.specs.Trees.{model_of_tree}
use Rattle.src_trees.specs.Seen.{tree_value}
use Rattle.sym_expr.specs.declared.pool.Node.{Node}
use Rattle.sym_expr.specs.Pools.{expr_of_id}
use Rattle.mark_start.specs.declared.hints.Hint.{Hint}
use Rattle.mark_start.specs.declared.hints.Holding.{Holding}
use Rattle.mark_start.specs.declared.hints.Numbered.{Numbered}
use Rattle.mark_start.specs.declared.hints.Spot.{Spot}

-- ---- variables

-- a variable is seen in its cells, or, if it is one cell, through an expression
abbrev pub SeenBy : List Node → Option ℕ → ℕ → ℕ → State → List ℕ → Type 0
SeenBy pool None address len s cells = (k : ℕ) → k < len →
    slice_index s.cells (address + k) ≡ slice_index cells (address + k)
SeenBy pool (Some id) address len s cells = (len ≡ 1) × (mean (expr_of_id pool id) s 0 ≡ slice_index cells address)

abbrev pub IsSpotSeen : List Node → Spot → State → List ℕ → Type 0
IsSpotSeen pool spot s cells = SeenBy pool spot.view spot.address spot.len s cells

-- and so it is, if it isn't hidden
abbrev pub IsSpotShown : List Node → Spot → State → List ℕ → Type 0
IsSpotShown pool spot s cells = spot.hidden ≡ false → IsSpotSeen pool spot s cells

abbrev pub SpotsSeen : List Node → List Spot → State → List ℕ → Type 0
SpotsSeen pool [] s cells = Unit {0}
SpotsSeen pool (spot ∷ spots) s cells = IsSpotShown pool spot s cells × SpotsSeen pool spots s cells

-- their cells are some of so many, behind the temporary ones
abbrev pub SpotsWithin : ℕ → List Spot → Type 0
SpotsWithin n [] = Unit {0}
SpotsWithin n (spot ∷ spots) = (spot.address + spot.len ≤ n) × SpotsWithin n spots

-- wherever all variables that aren't hidden are seen, the cell of this address is
abbrev pub IsKeptIn : List Spot → ℕ → Type 0
IsKeptIn spots a = (pool : List Node) (s : State) (cells : List ℕ) → SpotsSeen pool spots s cells →
    slice_index s.cells a ≡ slice_index cells a

-- and wherever this one is
abbrev pub IsKeptBy : Spot → ℕ → Type 0
IsKeptBy spot a = (pool : List Node) (s : State) (cells : List ℕ) → IsSpotShown pool spot s cells →
    slice_index s.cells a ≡ slice_index cells a

-- an array has the cell of this address
pub record IsInArray (spot : Spot) (a : ℕ) : Type 0 where
  pub array : spot.is_array ≡ true
  pub behind : spot.address ≤ a
  pub within : a < spot.address + spot.len

abbrev pub IsInArrays : List Spot → ℕ → Type 0
IsInArrays [] a = ⊥
IsInArrays (spot ∷ spots) a = IsInArray spot a ⊎ IsInArrays spots a

-- so has the array whose first cell has this one
abbrev pub IsInArrayAt : List Spot → ℕ → ℕ → Type 0
IsInArrayAt [] base a = ⊥
IsInArrayAt (spot ∷ spots) base a = (IsInArray spot a × (spot.address ≡ base)) ⊎ IsInArrayAt spots base a

-- no array has a view, and none is hidden
abbrev pub IsViewless : Spot → Type 0
IsViewless spot = spot.is_array ≡ true → (spot.hidden ≡ false) × (spot.view ≡ None)

abbrev pub AreViewless : List Spot → Type 0
AreViewless [] = Unit {0}
AreViewless (spot ∷ spots) = IsViewless spot × AreViewless spots

-- ---- trees

-- an address is a literal or that of a cell of the array to whose first cell the index is added
abbrev pub IsAddress : List Spot → List ℕ → ExprModel → Type 0
IsAddress spots now (const w v) = Unit {0}
IsAddress spots now (word w) = IsInArrayAt spots 0 0
IsAddress spots now (reg r w) = IsInArrayAt spots 0 (tree_value now (reg r w))
IsAddress spots now (read space a w) = IsInArrayAt spots 0 (tree_value now (read space a w))
IsAddress spots now (un o a) = IsInArrayAt spots 0 (tree_value now (un o a))
IsAddress spots now (bin o a b) = IsInArrayAt spots (base_in b) (tree_value now (bin o a b))
IsAddress spots now (slice a hi lo) = IsInArrayAt spots (base_in a) (tree_value now (slice a hi lo))
IsAddress spots now (cat a b) = IsInArrayAt spots 0 (tree_value now (cat a b))
IsAddress spots now (zext a w) = IsInArrayAt spots 0 (tree_value now (zext a w))
IsAddress spots now (sext a w) = IsInArrayAt spots 0 (tree_value now (sext a w))
IsAddress spots now (select c a b) = IsInArrayAt spots 0 (tree_value now (select c a b))

-- the tree reads literal addresses and arrays alone
abbrev pub ReadsArrays : List Spot → List ℕ → ExprModel → Type 0
ReadsArrays spots now (word w) = Unit {0}
ReadsArrays spots now (reg r w) = Unit {0}
ReadsArrays spots now (const w v) = Unit {0}
ReadsArrays spots now (read space a w) = ReadsArrays spots now a × IsAddress spots now a
ReadsArrays spots now (un o a) = ReadsArrays spots now a
ReadsArrays spots now (bin o a b) = ReadsArrays spots now a × ReadsArrays spots now b
ReadsArrays spots now (slice a hi lo) = ReadsArrays spots now a
ReadsArrays spots now (cat a b) = ReadsArrays spots now a × ReadsArrays spots now b
ReadsArrays spots now (zext a w) = ReadsArrays spots now a
ReadsArrays spots now (sext a w) = ReadsArrays spots now a
ReadsArrays spots now (select c a b) = ReadsArrays spots now c × ReadsArrays spots now a × ReadsArrays spots now b

abbrev pub AllReadArrays : List Spot → List ℕ → List ExprModel → Type 0
AllReadArrays spots now [] = Unit {0}
AllReadArrays spots now (t ∷ trees) = ReadsArrays spots now t × AllReadArrays spots now trees

-- a destination whose address isn't a literal is an array's cell
abbrev pub GoesIn : List Spot → List ℕ → DestinationModel → Type 0
GoesIn spots now (cell address) = Unit {0}
GoesIn spots now (stored address) = ReadsArrays spots now address × IsAddress spots now address
GoesIn spots now (into id) = Unit {0}
GoesIn spots now temporary = Unit {0}
GoesIn spots now filed = Unit {0}
GoesIn spots now tested = Unit {0}

-- so it is with a job
abbrev pub IsInPlace : List Spot → List ℕ → JobModel → Type 0
IsInPlace spots now job = AllReadArrays spots now job.trees × GoesIn spots now job.destination

-- and with jobs one after the other
abbrev pub AreReads : List Spot → List ℕ → List JobModel → Type 0
AreReads spots now [] = Unit {0}
AreReads spots now (job ∷ later) = IsInPlace spots now job × AreReads spots (done job now) later

-- a tree that is no literal
abbrev pub IsComputed : Tree → Type 0
IsComputed (Lit w v) = ⊥
IsComputed (Read' p a w) = Unit {0}
IsComputed (Un' o p a) = Unit {0}
IsComputed (Bin' o p a q b) = Unit {0}
IsComputed (Slice' p a hi lo) = Unit {0}
IsComputed (Zext' p a w) = Unit {0}
IsComputed (Sext' p a w) = Unit {0}

-- ---- hints

-- a place has the value of a tree
abbrev pub IsHeld : List Node → Holding → State → List ℕ → Type 0
IsHeld pool holding s cells = mean (expr_of_id pool holding.place) s 0 ≡ tree_value cells (model_of_tree holding.tree)

abbrev pub AllHeld : List Node → List Holding → State → List ℕ → Type 0
AllHeld pool [] s cells = Unit {0}
AllHeld pool (holding ∷ holdings) s cells = IsHeld pool holding s cells × AllHeld pool holdings s cells

-- a cell has its number
abbrev pub IsNumbered : Numbered → List ℕ → Type 0
IsNumbered one cells = slice_index cells one.address ≡ one.number

abbrev pub AllNumbered : List Numbered → List ℕ → Type 0
AllNumbered [] cells = Unit {0}
AllNumbered (one ∷ numbers) cells = IsNumbered one cells × AllNumbered numbers cells

-- a state and cells are as the hint says
pub record IsAsHinted (pool : List Node) (hint : Hint) (s : State) (cells : List ℕ) : Type 0 where
  pub seen : SpotsSeen pool hint.spots s cells
  pub holds : AllHeld pool hint.holdings s cells
  pub numbers : AllNumbered hint.numbers cells

-- a hint that says nothing but where the variables stand, at the first word
pub record IsFirst (hint : Hint) : Type 0 where
  pub here : hint.address ≡ 0
  pub holdings : hint.holdings ≡ []
  pub numbers : hint.numbers ≡ []
