use Rattle.std.proofs.Common.{slice_index}
use Rattle.tree_laws.specs.Classes.{tree_at}
use Rattle.tree_laws.specs.Rules.{part_exprs}
use Rattle.tree_laws.proofs.Standing.{part_stands, sides_one}
use Rattle.tree_laws.proofs.classes.Classes.join_sides.Goals as goal

pub join-requires : goal.join-requires
join-requires c =
    let self = c.args.self.now in
    let rule = c.args.rule.now in
    let trees = c.args.choice.now.classes.items in
    let numbers = c.args.choice.now.numbers.items in
    let exprs = part_exprs (tree_at self trees) (slice_index numbers) rule.parts.now in
    let found = c.in-Some-Some in
    sides_one self rule trees numbers found.from found.to c.requires.law (c.all_hold.ensures c.if-not-all_hold.false)
    (part_stands self exprs c.args.classes.now rule.from found.from c.requires.stand found.ensures.0 found.ensures.1)
    (part_stands self exprs c.args.classes.now rule.to found.to c.requires.stand found.ensures'.0 found.ensures'.1)
