use Rattle.net_rules.proofs.RowNumbers.{too_few}
use Rattle.std.proofs.Common.{ap, ◌∙◌, sym}
use Rattle.net_rules.specs.Inner.Cases.{is_all}
use Rattle.net_rules.proofs.cases.is_all.Goals as goal

pub returns-in_default : goal.returns-in_default
returns-in_default c = too_few c.args.count c.in-Some.width c.ranges.count.fits c.if-width-lt64.false ∙ ap (λ s. is_all s c.args.count) (sym c.in-Some.is)
