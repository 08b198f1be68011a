-- A netlist with its patterns, as code is made for it.
use Rattle.std.specs.Prelude.{List}
use Rattle.bit_bdd.specs.Diagrams.{Diagrams}
use Rattle.net_model.specs.declared.hardware.Netlist.{Netlist}
use Rattle.net_model.specs.Patterns.{Pattern}
use Rattle.transfer_set.specs.Ready.{IsReady}
use Rattle.transfer_set.specs.Rows.{row_patterns}
use Rattle.transfer_set.specs.declared.machine.Machine.{Machine}

abbrev pub machine_netlist : Machine → Netlist
machine_netlist machine = machine.checked.now.netlist

abbrev pub machine_patterns : Machine → List Pattern
machine_patterns machine = row_patterns machine.pool.now machine.patterns.now.rows

-- the patterns are the netlist's, with their sets in the book and their expressions in the pool
abbrev pub IsReadyFor : Machine → Diagrams → Type 0
IsReadyFor machine book = IsReady machine.checked.now.netlist book machine.pool.now machine.patterns.now
