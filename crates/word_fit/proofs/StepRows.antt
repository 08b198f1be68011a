-- What the steps of a table write.
use Rattle.std.proofs.Common.{◌≡◌, ℕ, ◌&&◌, false, List, Option, None, Some, refl, ◌∙◌, ap}
use Rattle.std.specs.List.{slice_get}
use Rattle.std.proofs.lemmas.Option.{slice_get-map}
use Rattle.net_model.specs.Patterns.{Pattern}
use Rattle.sym_expr.specs.declared.pool.Node.{Node}
use Rattle.transfer_set.specs.Rows.{row_pattern}
use Rattle.transfer_set.specs.Entries.{ids_transfer}
use Rattle.transfer_set.specs.Tables.{PatternTable}
use Rattle.transfer_set.specs.declared.row.Row.{Row}
use Rattle.form_model.specs.declared.forms.Step.{Step}
use Rattle.net_model.specs.declared.hardware.Space.{Space}
use Rattle.form_model.specs.Effects.{Operation, is_store, operation_or_none, same_space, space_in}
use Rattle.net_model.specs.Exprs.{TransferModel, keep, write, write_at}
use Rattle.word_fit.specs.Fits.{stores_in}
use Rattle.word_fit.specs.Steps.{step_operation}
use Rattle.word_fit.specs.declared.writing.Written.{Written}
use Rattle.word_fit.specs.declared.writing.Written.TheVariants.{Cells}
use Rattle.word_fit.specs.Writing.{address_written, operation_written, transfer_written, row_written}

-- a step's transfer, by its row, where the file has this number among the storages
abbrev pub row_operation : Option ℕ → List Node → Option Row → ℕ → Operation
row_operation file pool None setting = operation_or_none file None setting
row_operation file pool (Some row) setting =
    record { storage = row.storage; space = space_in file row.storage; move = ids_transfer pool row.addr row.value; setting = setting }

pub operation_is : (pool : List Node) (table : PatternTable) (step : Step) → step_operation pool table step ≡ row_operation table.file pool (slice_get table.rows step.pattern) step.setting
operation_is pool table step = ap (λ (o : Option Pattern). operation_or_none table.file o step.setting) (slice_get-map (row_pattern pool) table.rows step.pattern) ∙ by (slice_get table.rows step.pattern)
  where
    by : (o : Option Row) → operation_or_none table.file (elim o as (λ _. Option Pattern) [ None ↦ None | Some row ↦ Some (row_pattern pool row) ]) step.setting ≡ row_operation table.file pool o step.setting
    by None = refl
    by (Some row) = refl

by_address : (file : Option ℕ) (pool : List Node) (storage value : ℕ) (addr : Option ℕ) → transfer_written storage (space_in file storage) (ids_transfer pool addr value) ≡ address_written file storage addr
by_address file pool storage value None = refl
by_address file pool storage value (Some addr) = refl

by_row : (file : Option ℕ) (pool : List Node) (o : Option Row) (setting : ℕ) → operation_written (row_operation file pool o setting) ≡ row_written file o
by_row file pool None setting = refl
by_row file pool (Some row) setting = by_address file pool row.storage row.value row.addr

pub written_is : (pool : List Node) (table : PatternTable) (step : Step) → operation_written (step_operation pool table step) ≡ row_written table.file (slice_get table.rows step.pattern)
written_is pool table step = ap operation_written (operation_is pool table step) ∙ by_row table.file pool (slice_get table.rows step.pattern) step.setting

-- ---- what a step writes

cells_in : (storage : ℕ) (space other : Space) (move : TransferModel) (w : Written) → w ≡ transfer_written storage space move → (own : Space) → w ≡ Cells own → same_space own other ≡ (is_store move && same_space space other)
cells_in storage space other keep w e own k = absurd (cc)
cells_in storage space other (write v) w e own k = absurd (cc)
cells_in storage space other (write_at a v) w e own k = (let same : own ≡ space = cc in ap (λ z. same_space z other) same)

-- of cells of its own space
pub stores_own : (d : Operation) (space : Space) (w : Written) → w ≡ operation_written d → (own : Space) → w ≡ Cells own → same_space own space ≡ stores_in space d
stores_own d space w e own k = cells_in d.storage d.space space d.move w e own k

none_in : (storage : ℕ) (space other : Space) (move : TransferModel) (w : Written) → w ≡ transfer_written storage space move → ((own : Space) → w ≡ Cells own → ⊥) → false ≡ (is_store move && same_space space other)
none_in storage space other keep w e n = refl
none_in storage space other (write v) w e n = refl
none_in storage space other (write_at a v) w e n = absurd (n space e)

pub stores_none : (d : Operation) (space : Space) (w : Written) → w ≡ operation_written d → ((own : Space) → w ≡ Cells own → ⊥) → false ≡ stores_in space d
stores_none d space w e n = none_in d.storage d.space space d.move w e n
