-- What the code asks of a pattern's words, one set after the other.
use Rattle.std.specs.Prelude.{◌≡◌, ◌≢◌, ℕ}
use Rattle.net_model.specs.declared.hardware.Netlist.{Netlist}
use Rattle.net_model.specs.Nets.{memory_id}
use Rattle.net_model.specs.Patterns.{IsWordOf, Pattern}
use Rattle.net_model.specs.Exprs.{keep}
use Rattle.net_model.specs.Transfers.{StepsOn, memory_transfer}

-- the word is in the pattern's set and steps
abbrev pub StepsTo : Netlist → Pattern → ℕ → Type 0
StepsTo netlist pattern word = IsWordOf netlist pattern word × StepsOn netlist word

-- and it keeps the data memory unless that is the pattern's storage
abbrev pub KeepsMemory : Netlist → Pattern → ℕ → Type 0
KeepsMemory netlist pattern word =
    StepsTo netlist pattern word × (pattern.storage ≢ memory_id netlist.storages → memory_transfer netlist word ≡ keep)
