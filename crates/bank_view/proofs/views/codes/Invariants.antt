use Rattle.std.proofs.Common.{◌≡◌, take, map}
use Rattle.bank_view.specs.Views.{renamed_code}
use Rattle.bank_view.proofs.views.codes.Given as goal

abbrev pub invariant-loop-code : goal.invariant-loop-code
invariant-loop-code l = l.made ≡ map (renamed_code l.netlist) (take l.code-index l.code-items)
