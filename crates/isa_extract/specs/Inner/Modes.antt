-- What is known of netlists before their routes are traced.
use Rattle.std.specs.Prelude.{◌≡◌, List}
use Rattle.std.specs.List.{AllZip}
use Rattle.ctl_bdd.specs.Controls.{IsControl}
use Rattle.net_model.specs.declared.fault.CheckFault.{CheckFault}
use Rattle.net_model.specs.declared.fault.CheckFault.TheVariants.{Fault as Broken, Memory as CheckMemory}
use Rattle.net_model.specs.declared.fault.NetFault.{NetFault}
use Rattle.net_model.specs.declared.fault.NetFault.TheVariants.{AlwaysClash, PatternLarge, TooMany}
use Rattle.net_model.specs.declared.hardware.Netlist.{Netlist}
use Rattle.net_model.specs.CheckedRules.{Ordered}
use Rattle.net_model.specs.Nets.{word_width}
use Rattle.isa_extract.specs.Extracts.{BreaksRoutes}
use Rattle.isa_extract.specs.declared.netlists.Controlled.{Controlled}

-- the control bits are the netlist's, over a book of its words
pub record IsControlledIn (netlist : Netlist) (controlled : Controlled) : Type 0 where
  pub word : controlled.book.bits ≡ word_width netlist
  pub controls : IsControl netlist controlled.book controlled.controls

abbrev pub AreControlledIn : List Ordered → List Controlled → Type 0
AreControlledIn bases list = AllZip (λ (base : Ordered) (one : Controlled). IsControlledIn base.netlist one) bases list

-- why a netlist has no control bits: it breaks N10; nothing is said where memory ran out
abbrev pub BreaksClash : Netlist → NetFault → Type 0
BreaksClash netlist AlwaysClash = BreaksRoutes netlist AlwaysClash
BreaksClash netlist _ = ⊥

abbrev pub IsClashRefusal : Netlist → CheckFault → Type 0
IsClashRefusal netlist (Broken fault) = BreaksClash netlist fault
IsClashRefusal netlist CheckMemory = Unit {0}

-- why nothing is extracted from its control bits: it breaks N12 or N13
abbrev pub BreaksLimits : Netlist → NetFault → Type 0
BreaksLimits netlist (PatternLarge offset) = BreaksRoutes netlist (PatternLarge offset)
BreaksLimits netlist (TooMany offset) = BreaksRoutes netlist (TooMany offset)
BreaksLimits netlist _ = ⊥

abbrev pub IsLimitRefusal : Netlist → CheckFault → Type 0
IsLimitRefusal netlist (Broken fault) = BreaksLimits netlist fault
IsLimitRefusal netlist CheckMemory = Unit {0}
