use Rattle.net_rules.proofs.Bits.{fits_wide, fits_shifted}
use Rattle.std.proofs.Common.{sym}
use Rattle.net_rules.proofs.widths.is_below.Goals as goal

pub returns-then-width-ge-GREATEST_WIDTH : goal.returns-then-width-ge-GREATEST_WIDTH
returns-then-width-ge-GREATEST_WIDTH c = sym (fits_wide c.args.n c.args.width c.ranges.n.fits c.if-width-ge-GREATEST_WIDTH.true)

pub returns-else-width-ge-GREATEST_WIDTH : goal.returns-else-width-ge-GREATEST_WIDTH
returns-else-width-ge-GREATEST_WIDTH c = fits_shifted c.args.n c.args.width
