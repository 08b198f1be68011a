use Rattle.std.proofs.Common.{◌≡◌, take}
use Rattle.bank_view.specs.Views.{renamed_drivers}
use Rattle.bank_view.specs.Inner.Numbers.{number_in}
use Rattle.bank_view.proofs.views.renamed_drivers.Given as goal

abbrev pub invariant-loop-value : goal.invariant-loop-value
invariant-loop-value l = l.made ≡ renamed_drivers (number_in l.numbers) (take l.value-index l.drivers)
