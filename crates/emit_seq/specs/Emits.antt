-- What is made of a cover: the form at its root with what its match leaves open, and the steps.
use Rattle.std.specs.Prelude.{ℕ, ◌≡◌, List, Bool, true, Option, Some, None, slice_get, remove}
use Rattle.net_model.specs.Exprs.{ExprModel}
use Rattle.form_model.specs.Forms.{DestinationModel, tested}
use Rattle.form_model.specs.CoverModels.{CoverModel, use_form, CoverOperandsModel, CoverCutsModel}
use Rattle.form_model.specs.Covers.{StockModel, JobCoverModel}
use Rattle.form_model.specs.Steps.{OperandCellsModel, form_at, match_at, cover_operand_cells, cover_cut_cells, cover_setting, cover_steps}
use Rattle.tree_grammar.specs.Leaves.{models_of_leaves}
use Rattle.emit_seq.specs.declared.emits.Emitted.{Emitted}
use Rattle.emit_seq.specs.declared.roots.Root.{Root}
use Rattle.emit_seq.specs.Models.{models_of_operand_cells, models_of_cut_cells}

-- the form at the root of a cover whose cuts have the cells from n on, while these cells of the file
-- are held: its match, its operands and
-- cuts, and its step
pub record IsFormAtRoot (stock : StockModel) (k : ℕ) (ps : CoverOperandsModel) (cs : CoverCutsModel) (n held : ℕ)
    (destination : DestinationModel) (tree : ExprModel) (whole : Bool) (root : Root) : Type 0 where
  pub parts : models_of_leaves root.parts.items ≡ (match_at stock k destination tree whole).leaves
  pub operands : models_of_operand_cells root.operands.items
      ≡ cover_operand_cells (match_at stock k destination tree whole).leaves ps cs n
  pub cuts : models_of_cut_cells root.cuts.items ≡ cover_cut_cells (match_at stock k destination tree whole).leaves ps cs n
  pub pattern : root.step.pattern ≡ (form_at stock k).pattern
  pub setting : root.step.setting ≡ cover_setting stock (use_form k ps cs) n held destination tree whole

abbrev pub IsRoot : StockModel → CoverModel → ℕ → ℕ → DestinationModel → ExprModel → Bool → Root → Type 0
IsRoot stock (use_form k ps cs) n held destination tree whole root =
    IsFormAtRoot stock k ps cs n held destination tree whole root

-- an operand is taken out of a list
pub record IsTakenOut (old : List OperandCellsModel) (i : ℕ) (cells : OperandCellsModel) (new : List OperandCellsModel) : Type 0 where
  pub at : slice_get old i ≡ Some cells
  pub rest : new ≡ remove old i

-- the setting of a test's branch; nothing else has a branch
abbrev pub setting_of_test : DestinationModel → ℕ → Option ℕ
setting_of_test tested setting = Some setting
setting_of_test destination setting = None

abbrev pub branch_of : StockModel → DestinationModel → ExprModel → CoverModel → Option ℕ
branch_of stock destination tree cover = setting_of_test destination (cover_setting stock cover 0 0 destination tree true)

-- the steps of the tree that the cover names, and for a test the setting of the bits of its
-- branch's condition
pub record IsEmitted (stock : StockModel) (destination : DestinationModel) (trees : List ExprModel)
    (choice : JobCoverModel) (e : Emitted) : Type 0 where
  pub tree : ExprModel
  pub used : slice_get trees choice.which ≡ Some tree
  pub steps : e.steps ≡ cover_steps stock destination tree choice.cover
  pub branch : e.branch ≡ branch_of stock destination tree choice.cover
