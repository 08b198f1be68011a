-- What the code has of widths.
use Rattle.net_model.specs.TextWidths.{MemoryWidthsModel, SeenModel, nothing_yet, seen, broken_already}
use Rattle.net_rules.specs.declared.widths.MemoryWidths.{MemoryWidths}
use Rattle.net_rules.specs.declared.widths.Seen.{Seen}
use Rattle.net_rules.specs.declared.widths.Seen.TheVariants.{Nothing, Width, Broken}

abbrev pub model_of_memory_widths : MemoryWidths → MemoryWidthsModel
model_of_memory_widths cells = record { cell = cells.cell; address = cells.address }

abbrev pub model_of_seen : Seen → SeenModel
model_of_seen Nothing = nothing_yet
model_of_seen (Width width) = seen width
model_of_seen Broken = broken_already
