use Rattle.std.proofs.Common.{◌≡◌, map, take}
use Rattle.net_rules.specs.Inner.Modules.{item_ports}
use Rattle.net_rules.proofs.text.Text.new.Given as goal

abbrev pub invariant-loop-unit : goal.invariant-loop-unit
invariant-loop-unit l = l.modules ≡ map item_ports (take l.unit-index l.unit-items)
