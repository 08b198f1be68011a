-- Which rule of netlist texts is broken first, and where.
use Rattle.std.specs.Prelude.{ℕ, List, Option}
use Rattle.rec_bits.specs.Faults.{least}
use Rattle.net_model.specs.declared.fault.NetFault.{NetFault}
use Rattle.net_model.specs.declared.fault.NetFault.TheVariants.{Duplicate, Unknown, Width, Driver}
use Rattle.net_model.specs.Written.{UnitModel}
use Rattle.net_model.specs.NameRules.{duplicates, unknowns}
use Rattle.net_model.specs.WidthRules.{misfits}
use Rattle.net_model.specs.DriverRules.{undrivens}
use Rattle.net_model.specs.LimitRules.{limit_fault}
use Rattle.rec_bits.specs.Faults.{or_else}
use Rattle.rec_bits.specs.Faults.{fault_at}

-- the first of the rules N1 to N4 and N11 that items of an edition break
abbrev pub first_fault : ℕ → List UnitModel → Option NetFault
first_fault edition text =
    or_else (fault_at Duplicate (least (duplicates text)))
    (or_else (fault_at Unknown (least (unknowns text)))
    (or_else (fault_at Width (least (misfits text)))
    (or_else (fault_at Driver (least (undrivens text))) (limit_fault edition text))))
