-- What a step writes.
use Rattle.std.specs.Prelude.{ℕ, Option, None, Some}
use Rattle.net_model.specs.declared.hardware.Space.{Space}
use Rattle.net_model.specs.Exprs.{TransferModel, keep, write, write_at}
use Rattle.transfer_set.specs.declared.row.Row.{Row}
use Rattle.form_model.specs.Effects.{Operation, space_in}
use Rattle.word_fit.specs.declared.writing.Written.{Written}
use Rattle.word_fit.specs.declared.writing.Written.TheVariants.{Register, Cells, Nothing}

abbrev pub transfer_written : ℕ → Space → TransferModel → Written
transfer_written storage space keep = Nothing
transfer_written storage space (write e) = Register storage
transfer_written storage space (write_at a e) = Cells space

-- the register that a step writes, or the memory or the file
abbrev pub operation_written : Operation → Written
operation_written d = transfer_written d.storage d.space d.move

-- the same by an address of a row, where the file has this number among the storages
abbrev pub address_written : Option ℕ → ℕ → Option ℕ → Written
address_written file storage None = Register storage
address_written file storage (Some addr) = Cells (space_in file storage)

-- and by the row
abbrev pub row_written : Option ℕ → Option Row → Written
row_written file None = Nothing
row_written file (Some row) = address_written file row.storage row.addr
