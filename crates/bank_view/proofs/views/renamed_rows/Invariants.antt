use Rattle.std.proofs.Common.{◌≡◌, take}
use Rattle.bank_view.specs.Views.{renamed_rows}
use Rattle.bank_view.specs.Inner.Numbers.{number_in}
use Rattle.bank_view.proofs.views.renamed_rows.Given as goal

abbrev pub invariant-loop-key : goal.invariant-loop-key
invariant-loop-key l = l.made ≡ renamed_rows (number_in l.numbers) (take l.key-index l.rows)
