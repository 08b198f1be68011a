use Rattle.ctl_bdd.proofs.CallerLemmas.{control_later}
use Rattle.isa_extract.proofs.routed.patterns_of.Goals as goal

pub collect_patterns-requires-clause-controls : goal.collect_patterns-requires-clause-controls
collect_patterns-requires-clause-controls c =
    control_later c.args.checked.now.netlist c.args.book.now c.routes_of.new.book c.in_ok-routes.ensures.book c.args.controls.now c.requires.controls
