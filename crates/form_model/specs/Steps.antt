-- The steps of a cover: first those that put its cuts into temporary cells, each cell its own, then
-- those of its operands in their order, then the form's own step. What a form writes into the file
-- goes into the cell of an operand that it takes from there, or into a free cell.
use Rattle.std.specs.Prelude.{ℕ, ◌+◌, ◌==◌, ◌^◌, if◌then◌else◌, suc, zero, Bool, true, false, List, [], ◌∷◌, ◌++◌, Option, Some, None, slice_get, slice_index, remove, insert, bit_or, drop}
use Rattle.std.specs.Int.{bit_at}
use Rattle.net_model.specs.Exprs.{ExprModel, const}
use Rattle.form_model.specs.declared.forms.Step.{Step}
use Rattle.form_model.specs.Shapes.{shape_setting}
use Rattle.form_model.specs.Forms.{FormModel, into_memory, DestinationModel, filed, temporary, tested}
use Rattle.form_model.specs.Matches.{HomeModel, in_register, in_file, LeafModel, operand, cut, MatchModel, taken}
use Rattle.form_model.specs.CoverModels.{CoverModel, use_form, CoverOperandsModel, no_operands, operand_then, CoverCutsModel, no_cuts, cut_then}
use Rattle.form_model.specs.Covers.{StockModel, Operand, operands_of, home_destination, cells_of_goal}

-- ---- cuts are numbered in the order of the tree from left to right, a cut after those inside it,
-- and their numbers are their cells

-- how many cuts a cover has, inner ones among them
abbrev mutual
  pub cut_count : CoverModel → ℕ
  cut_count (use_form k ps cs) = operands_count ps + cuts_count cs

  pub operands_count : CoverOperandsModel → ℕ
  operands_count no_operands = 0
  operands_count (operand_then i p ps) = cut_count p + operands_count ps

  pub cuts_count : CoverCutsModel → ℕ
  cuts_count no_cuts = 0
  cuts_count (cut_then p cs) = cut_count p + 1 + cuts_count cs

-- the operands' numbers of cuts, from left to right
abbrev pub operand_counts : CoverOperandsModel → List ℕ
operand_counts no_operands = []
operand_counts (operand_then i p ps) = insert (operand_counts ps) i (cut_count p)

-- for each of the form's own cuts, from left to right, how many are inside it
abbrev pub cut_counts : CoverCutsModel → List ℕ
cut_counts no_cuts = []
cut_counts (cut_then p cs) = cut_count p ∷ cut_counts cs

-- an operand, with the cells of the cuts inside it: from the first up to the one past the last
pub record OperandCellsModel : Type 0 where
  pub operand : Operand
  pub first : ℕ
  pub past : ℕ

-- a cut, with the shape that names its cell, the first cell of the cuts inside it, and its own
-- cell, which comes after those
pub record CutCellsModel : Type 0 where
  pub shape : ExprModel
  pub tree : ExprModel
  pub first : ℕ
  pub cell : ℕ

-- the operands from left to right, where n is the first cell, ks are the operands' numbers of cuts
-- and ls those inside the form's own cuts
abbrev pub operand_cells : List LeafModel → List ℕ → List ℕ → ℕ → List OperandCellsModel
operand_cells [] ks ls n = []
operand_cells (operand home tree whole ∷ leaves) ks ls n =
    record {
      operand = record { home = home; tree = tree; whole = whole };
      first = n;
      past = n + slice_index ks 0;
    }
    ∷ operand_cells leaves (drop 1 ks) ls (n + slice_index ks 0)
operand_cells (cut shape tree ∷ leaves) ks ls n = operand_cells leaves ks (drop 1 ls) (n + slice_index ls 0 + 1)

-- and the form's own cuts
abbrev pub cut_cells : List LeafModel → List ℕ → List ℕ → ℕ → List CutCellsModel
cut_cells [] ks ls n = []
cut_cells (operand home tree whole ∷ leaves) ks ls n = cut_cells leaves (drop 1 ks) ls (n + slice_index ks 0)
cut_cells (cut shape tree ∷ leaves) ks ls n =
    record { shape = shape; tree = tree; first = n; cell = n + slice_index ls 0 }
    ∷ cut_cells leaves ks (drop 1 ls) (n + slice_index ls 0 + 1)

abbrev pub cover_operand_cells : List LeafModel → CoverOperandsModel → CoverCutsModel → ℕ → List OperandCellsModel
cover_operand_cells leaves ps cs n = operand_cells leaves (operand_counts ps) (cut_counts cs) n

abbrev pub cover_cut_cells : List LeafModel → CoverOperandsModel → CoverCutsModel → ℕ → List CutCellsModel
cover_cut_cells leaves ps cs n = cut_cells leaves (operand_counts ps) (cut_counts cs) n

-- ---- cells of the file. A set of cells is a number, as a set of registers is

-- the least number up to n that isn't in the set
abbrev pub free_cell : ℕ → ℕ → ℕ
free_cell held zero = 0
free_cell held (suc n) = if bit_at held (free_cell held n) == 0 then free_cell held n else suc n

-- the set with the cell of an operand, where it is in the file
abbrev pub holding : ℕ → Option ℕ → ℕ
holding held None = held
holding held (Some c) = bit_or held (2 ^ c)

abbrev pub some_or : Option ℕ → Option ℕ → Option ℕ
some_or None other = other
some_or (Some c) other = Some c

-- the cell of the tied operand, from those of all operands from left to right
abbrev pub cell_in : Option (Option ℕ) → Option ℕ
cell_in None = None
cell_in (Some c) = c

abbrev pub tied_cell : Option ℕ → List (Option ℕ) → Option ℕ
tied_cell None cells = None
tied_cell (Some place) cells = cell_in (slice_get cells place)

abbrev pub cell_or : Option ℕ → ℕ → ℕ
cell_or None c = c
cell_or (Some c) other = c

-- the cell that a form writes, if it writes the file: the tied operand's, or else that of the first
-- operand in the order that is in the file, or else the least that holds no operand
abbrev pub form_cell : Option FormModel → List (Option ℕ) → Option ℕ → ℕ → Option ℕ
form_cell None cells first free = None
form_cell (Some form) cells first free =
    if cells_of_goal form.goal == 1 then Some (cell_or (some_or (tied_cell form.tied cells) first) free) else None

abbrev mutual
  -- the cell of the file in which a cover leaves its value, if it leaves it there; `held` are the
  -- cells of the operands that wait meanwhile
  pub cell_of : StockModel → CoverModel → ℕ → Option ℕ
  cell_of stock (use_form k ps cs) held =
      form_cell (slice_get stock.forms k) (operand_homes stock ps held) (first_home stock ps held)
      (free_cell held stock.file)

  -- the operands' cells, from left to right
  pub operand_homes : StockModel → CoverOperandsModel → ℕ → List (Option ℕ)
  operand_homes stock no_operands held = []
  operand_homes stock (operand_then i p ps) held =
      insert (operand_homes stock ps (holding held (cell_of stock p held))) i (cell_of stock p held)

  -- the cell of the first operand in the order that is in the file
  pub first_home : StockModel → CoverOperandsModel → ℕ → Option ℕ
  first_home stock no_operands held = None
  first_home stock (operand_then i p ps) held =
      some_or (cell_of stock p held) (first_home stock ps (holding held (cell_of stock p held)))

-- ---- the setting of a form

abbrev pub form_or_none : Option FormModel → FormModel
form_or_none None = record { pattern = 0; goal = into_memory; addr = None; value = const 0 0; fields = 0; clobbers = 0; tied = None }
form_or_none (Some form) = form

abbrev pub match_or_none : Option MatchModel → MatchModel
match_or_none None = record { setting = 0; leaves = [] }
match_or_none (Some found) = found

abbrev pub operand_cells_or_none : Option OperandCellsModel → OperandCellsModel
operand_cells_or_none None =
    record { operand = record { home = in_register 0; tree = const 0 0; whole = false }; first = 0; past = 0 }
operand_cells_or_none (Some cells) = cells

abbrev pub cut_cells_or_none : Option CutCellsModel → CutCellsModel
cut_cells_or_none None = record { shape = const 0 0; tree = const 0 0; first = 0; cell = 0 }
cut_cells_or_none (Some cells) = cells

abbrev pub bits_or_none : Option ℕ → ℕ
bits_or_none None = 0
bits_or_none (Some bits) = bits

-- the form at this place in the list, and its match
abbrev pub form_at : StockModel → ℕ → FormModel
form_at stock k = form_or_none (slice_get stock.forms k)

abbrev pub match_at : StockModel → ℕ → DestinationModel → ExprModel → Bool → MatchModel
match_at stock k destination tree whole = match_or_none (taken stock.temps (form_at stock k) destination tree whole)

-- the bits that name the cells of cuts
abbrev pub cells_setting : List CutCellsModel → ℕ
cells_setting [] = 0
cells_setting (first ∷ rest) = bit_or (bits_or_none (shape_setting first.shape first.cell)) (cells_setting rest)

-- the bits that name the cells of the operands in the file, which are given from left to right
abbrev pub home_setting : HomeModel → Option ℕ → ℕ
home_setting (in_file shape) (Some c) = bits_or_none (shape_setting shape c)
home_setting _ _ = 0

abbrev pub homes_setting : List Operand → List (Option ℕ) → ℕ
homes_setting (o ∷ os) (c ∷ cs) = bit_or (home_setting o.home c) (homes_setting os cs)
homes_setting _ _ = 0

-- the bits that name the temporary cell that is written, or the cell of the file
abbrev pub address_setting : Option ExprModel → ℕ → ℕ
address_setting None own = 0
address_setting (Some addr) own = bits_or_none (shape_setting addr own)

abbrev pub own_setting : DestinationModel → Option ExprModel → ℕ → Option ℕ → ℕ
own_setting temporary addr own cell = address_setting addr own
own_setting filed addr own (Some c) = address_setting addr c
own_setting destination addr own cell = 0

-- the bits that name cells of cuts and of operands
abbrev pub open_setting : List Operand → List CutCellsModel → List (Option ℕ) → ℕ
open_setting operands cuts homes = bit_or (cells_setting cuts) (homes_setting operands homes)

-- the bits of the match, of the cells that it leaves open, and of the cell that is written
abbrev pub whole_setting : FormModel → DestinationModel → MatchModel → List CutCellsModel → List (Option ℕ) → ℕ → Option ℕ → ℕ
whole_setting form destination found cuts homes own cell =
    bit_or (bit_or found.setting (open_setting (operands_of found.leaves) cuts homes))
    (own_setting destination form.addr own cell)

-- the setting of the form at the root of a cover whose cuts have the cells from n on, while these
-- cells of the file are held
abbrev pub cover_setting : StockModel → CoverModel → ℕ → ℕ → DestinationModel → ExprModel → Bool → ℕ
cover_setting stock (use_form k ps cs) n held destination tree whole =
    whole_setting (form_at stock k) destination (match_at stock k destination tree whole)
    (cover_cut_cells (match_at stock k destination tree whole).leaves ps cs n) (operand_homes stock ps held)
    (n + cut_count (use_form k ps cs)) (cell_of stock (use_form k ps cs) held)

-- ---- steps

-- the form's own step; the branch word of a test is no step
abbrev pub form_step : FormModel → DestinationModel → ℕ → List Step
form_step form tested setting = []
form_step form destination setting = record { pattern = form.pattern; setting = setting } ∷ []

abbrev mutual
  -- the operands' steps in order of evaluation, and the form's own
  pub own_steps : StockModel → CoverModel → ℕ → ℕ → DestinationModel → ExprModel → Bool → List Step
  own_steps stock (use_form k ps cs) n held destination tree whole =
      operand_steps stock ps (cover_operand_cells (match_at stock k destination tree whole).leaves ps cs n) held
      ++ form_step (form_at stock k) destination (cover_setting stock (use_form k ps cs) n held destination tree whole)

  pub operand_steps : StockModel → CoverOperandsModel → List OperandCellsModel → ℕ → List Step
  operand_steps stock no_operands left held = []
  operand_steps stock (operand_then i p ps) left held =
      own_steps stock p (operand_cells_or_none (slice_get left i)).first held
      (home_destination (operand_cells_or_none (slice_get left i)).operand.home)
      (operand_cells_or_none (slice_get left i)).operand.tree (operand_cells_or_none (slice_get left i)).operand.whole
      ++ operand_steps stock ps (remove left i) (holding held (cell_of stock p held))

abbrev pub first_or_none : List (List Step) → List Step
first_or_none [] = []
first_or_none (steps ∷ rest) = steps

-- the steps for the operands and those for the form's own cuts, joined in the order of the leaves
abbrev pub woven : List LeafModel → List (List Step) → List (List Step) → List Step
woven [] for_operands for_cuts = []
woven (operand home tree whole ∷ leaves) for_operands for_cuts =
    first_or_none for_operands ++ woven leaves (drop 1 for_operands) for_cuts
woven (cut shape tree ∷ leaves) for_operands for_cuts =
    first_or_none for_cuts ++ woven leaves for_operands (drop 1 for_cuts)

abbrev mutual
  -- the steps that put the cuts of a cover into the cells from n on
  pub cut_steps : StockModel → CoverModel → ℕ → DestinationModel → ExprModel → Bool → List Step
  cut_steps stock (use_form k ps cs) n destination tree whole =
      woven (match_at stock k destination tree whole).leaves
      (inside_operands stock ps (cover_operand_cells (match_at stock k destination tree whole).leaves ps cs n))
      (into_cells stock cs (cover_cut_cells (match_at stock k destination tree whole).leaves ps cs n))

  -- for each operand, from left to right, the steps for the cuts inside it
  pub inside_operands : StockModel → CoverOperandsModel → List OperandCellsModel → List (List Step)
  inside_operands stock no_operands left = []
  inside_operands stock (operand_then i p ps) left =
      insert (inside_operands stock ps (remove left i)) i
      (cut_steps stock p (operand_cells_or_none (slice_get left i)).first
      (home_destination (operand_cells_or_none (slice_get left i)).operand.home)
      (operand_cells_or_none (slice_get left i)).operand.tree
      (operand_cells_or_none (slice_get left i)).operand.whole)

  -- for each of the form's own cuts, the steps for those inside it, and then its own
  pub into_cells : StockModel → CoverCutsModel → List CutCellsModel → List (List Step)
  into_cells stock no_cuts cuts = []
  into_cells stock (cut_then p cs) cuts =
      (cut_steps stock p (cut_cells_or_none (slice_get cuts 0)).first temporary
      (cut_cells_or_none (slice_get cuts 0)).tree false
      ++ own_steps stock p (cut_cells_or_none (slice_get cuts 0)).first 0 temporary
      (cut_cells_or_none (slice_get cuts 0)).tree false)
      ∷ into_cells stock cs (drop 1 cuts)

-- the steps of an orderly cover of a tree that goes to a destination
abbrev pub cover_steps : StockModel → DestinationModel → ExprModel → CoverModel → List Step
cover_steps stock destination tree cover =
    cut_steps stock cover 0 destination tree true ++ own_steps stock cover 0 0 destination tree true

-- the setting of the bits of a branch's condition
abbrev pub branch_setting : StockModel → ExprModel → CoverModel → ℕ
branch_setting stock tree cover = cover_setting stock cover 0 0 tested tree true
