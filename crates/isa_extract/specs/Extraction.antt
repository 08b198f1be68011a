-- What is extracted from a netlist: its patterns and its words without clash, over one book and one
-- pool.
use Rattle.std.specs.Prelude.{List}
use Rattle.std.specs.List.{AllZip}
use Rattle.net_model.specs.declared.hardware.Netlist.{Netlist}
use Rattle.net_model.specs.CheckedRules.{Ordered}
use Rattle.net_model.specs.Patterns.{ArePatterns}
use Rattle.transfer_set.specs.Rows.{row_patterns}
use Rattle.transfer_set.specs.Ready.{IsReady}
use Rattle.isa_extract.specs.Sets.{IsCleanSet}
use Rattle.isa_extract.specs.declared.netlists.Isa.{Isa}

-- the patterns are the netlist's, over the book and the pool, and the set is that of its words
-- without clash
pub record IsExtractedFrom (netlist : Netlist) (isa : Isa) : Type 0 where
  pub ready : IsReady netlist isa.book isa.pool isa.patterns
  pub legal : IsCleanSet netlist isa.book isa.legal

-- so it is of each netlist of a list
abbrev pub AreExtractedFrom : List Ordered → List Isa → Type 0
AreExtractedFrom bases isas = AllZip (λ (base : Ordered) (isa : Isa). IsExtractedFrom base.netlist isa) bases isas

-- and its patterns are all of the netlist's, in their order
pub record IsIsaOf (netlist : Netlist) (isa : Isa) : Type 0 where
  pub extracted : IsExtractedFrom netlist isa
  pub patterns : ArePatterns netlist (row_patterns isa.pool isa.patterns.rows)

abbrev pub AreIsas : List Ordered → List Isa → Type 0
AreIsas bases isas = AllZip (λ (base : Ordered) (isa : Isa). IsIsaOf base.netlist isa) bases isas
