use Rattle.std.proofs.Math.Facts.{Fits-lt-pow}
use Rattle.std.proofs.Common.{◌∙◌, ◌<◌, ◌≤◌, arith}
use Rattle.tree_grammar.proofs.ExtensionLemmas.{extension_short, extension_wide}
use Rattle.tree_grammar.proofs.shapes.is_extension.Goals as goal

pub returns-then-from : goal.returns-then-from
returns-then-from c =
    let short : c.args.to < c.args.from = omega (arith, c.from.ensures, c.if-from.true) in
    c.is_within.ensures ∙ extension_short c.args.value c.args.from c.args.to short

pub returns-then-to-gt64 : goal.returns-then-to-gt64
returns-then-to-gt64 c =
    let one : 1 ≤ c.args.from = omega (arith, c.if-from-eq0.false) in
    let order : c.args.from ≤ c.args.to = omega (arith, c.from.ensures, c.if-from.false) in
    c.is_within-then-to-gt64.ensures ∙ extension_wide c.args.value c.args.from c.args.to (Fits-lt-pow c.ranges.value) one order c.if-to-gt64.true
