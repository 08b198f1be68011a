use Rattle.std.proofs.Common.{◌∙◌, ap}
use Rattle.std.specs.Prelude.{option_map}
use Rattle.form_set.specs.Inner.PatternIds.{pattern_in}
use Rattle.form_set.proofs.Looking.{known_everywhere, told_at}
use Rattle.form_set.proofs.pattern_ids.known_ids.Goals as goal

pub returns-clause-ids : goal.returns-clause-ids
returns-clause-ids c =
    known_everywhere c.args.machine.now c.netlist-netlist.ensures.kept c.len-len.ensures.fits c.args.number c.ids_at.result c.ids_at.ensures

pub returns-clause-pattern : goal.returns-clause-pattern
returns-clause-pattern c =
    ap (option_map (pattern_in c.args.machine.now)) c.ids_at.ensures
    ∙ told_at c.args.machine.now.pool.now c.args.machine.now.patterns.now.rows c.args.number
