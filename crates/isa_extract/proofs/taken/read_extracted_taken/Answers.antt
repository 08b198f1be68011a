use Rattle.std.proofs.Common.{rules}
use Rattle.net_model.specs.Written.{model_of_units}
use Rattle.isa_extract.proofs.Extracting.{patterns_of_text}
use Rattle.net_front.specs.Taken.{IsLater, added_role}
use Rattle.isa_extract.proofs.RoutedTaken.{of_checked_routes, of_front, taken_net}
use Rattle.isa_extract.proofs.taken.read_extracted_taken.Goals as goal

pub returns-clause-netlist : goal.returns-clause-netlist
returns-clause-netlist c =
    taken_net c.args.newest c.args.bytes.now (model_of_units c.in_ok-checked.field-0-0) c.in_ok-checked.ensures.found c.in_ok-checked.ensures.taken c.requires.alone
    c.in_ok-checked.checked c.in_ok-checked.ensures.netlist c.in_ok-extracted.ensures.kept

pub returns-clause-patterns : goal.returns-clause-patterns
returns-clause-patterns c =
    patterns_of_text c.args.bytes.now (model_of_units c.in_ok-checked.field-0-0) c.in_ok-checked.ensures.found c.in_ok-checked.checked c.in_ok-checked.ensures.netlist
    c.in_ok-extracted.extracted.book c.in_ok-extracted.extracted.pool c.in_ok-extracted.extracted.patterns c.in_ok-extracted.ensures.extracted.ready.patterns

pub returns-in_err-checked-clause-refused : goal.returns-in_err-checked-clause-refused
returns-in_err-checked-clause-refused c =
    let refused = of_front (IsLater c.args.newest) added_role c.args.bytes.now c.in_err-checked.field-0.0 c.in_err-checked.ensures.refused in
    search rules

pub returns-in_err-extracted-clause-refused : goal.returns-in_err-extracted-clause-refused
returns-in_err-extracted-clause-refused c =
    let refused = of_checked_routes c.args.newest c.args.bytes.now (model_of_units c.in_ok-checked.field-0-0) c.in_ok-checked.ensures.found c.in_ok-checked.ensures.taken c.requires.alone
    c.in_ok-checked.checked c.in_ok-checked.ensures.netlist c.in_err-extracted.field-0.0 c.in_err-extracted.ensures.refused in
    search rules
