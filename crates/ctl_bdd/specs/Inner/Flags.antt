-- Flags of nets that tell of control.
use Rattle.std.specs.Prelude.{◌≡◌, ℕ, ◌<◌, List, length, Bool, true}
use Rattle.net_model.specs.declared.hardware.Netlist.{Netlist}
use Rattle.net_model.specs.CheckedRules.{is_control}
use Rattle.net_model.specs.Depends.{named_by}
use Rattle.net_model.specs.Flags.{flag_at}
use Rattle.net_model.specs.Symbolic.{all_nets}

-- what has its flag set is computed by control's gates from nets that have it too
pub record IsClosed (netlist : Netlist) (flags : List Bool) : Type 0 where
  pub long : length flags ≡ length netlist.nets
  pub control : (n : ℕ) → n < length netlist.nets → flag_at flags n ≡ true → is_control netlist n ≡ true
  pub closed : (n : ℕ) → n < length netlist.nets → flag_at flags n ≡ true →
      all_nets (flag_at flags) (named_by netlist n) ≡ true
