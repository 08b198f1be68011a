-- The rules on the nets that stand in control places.
use Rattle.std.specs.Prelude.{ℕ, ◌≡◌, Bool}
use Rattle.net_model.specs.declared.hardware.Netlist.{Netlist}
use Rattle.net_model.specs.Symbolic.{is_static}
use Rattle.net_model.specs.CheckedRules.{is_control, is_plain, HasStaticEnables, HasPlainControl, HasNarrowSelectors, HasStaticFileAddrs}
use Rattle.net_model.specs.Control.{is_selector}
use Rattle.net_model.specs.Flags.{flag_at}
use Rattle.net_check.specs.declared.control.Flags.{Flags}
use Rattle.net_check.specs.declared.control.Rule.{Rule}
use Rattle.net_check.specs.declared.control.Rule.TheVariants.{Enable, ControlOp, WideSelect}

-- whether a net that stands in a place of the rule keeps it
abbrev pub passes : Rule → Netlist → ℕ → Bool
passes Enable netlist n = is_static netlist n
passes ControlOp netlist n = is_plain netlist n
passes WideSelect netlist n = is_selector netlist n

-- the flags tell what they are said to
pub record HasFlags (netlist : Netlist) (flags : Flags) : Type 0 where
  pub statics : (n : ℕ) → flag_at flags.statics n ≡ is_static netlist n
  pub controls : (n : ℕ) → flag_at flags.controls n ≡ is_control netlist n

-- N7 to N9
pub record KeepsControl (netlist : Netlist) : Type 0 where
  pub enables : HasStaticEnables netlist
  pub control : HasPlainControl netlist
  pub selectors : HasNarrowSelectors netlist

-- N7 to N9 and N14
pub record KeepsStatics (netlist : Netlist) : Type 0 where
  pub places : KeepsControl netlist
  pub addresses : HasStaticFileAddrs netlist
