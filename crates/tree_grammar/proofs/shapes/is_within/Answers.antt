use Rattle.std.proofs.Math.Facts.{Fits-lt-pow}
use Rattle.std.proofs.Common.{sym}
use Rattle.tree_grammar.proofs.ShapeLemmas.{always_below}
use Rattle.tree_grammar.proofs.shapes.is_within.Goals as goal

pub returns-else-width-lt64 : goal.returns-else-width-lt64
returns-else-width-lt64 c = sym (always_below c.args.value c.args.width (Fits-lt-pow c.ranges.value) c.if-width-lt64.false)
