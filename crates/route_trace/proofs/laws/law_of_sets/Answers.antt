use Rattle.net_model.specs.Symbolic.{sym_of}
use Rattle.transfer_set.specs.Routes.{routes_at}
use Rattle.transfer_set.proofs.Exact.{exact}
use Rattle.route_trace.proofs.laws.law_of_sets.Goals as goal

pub returns : goal.returns
returns c netlist book pool legal nets one routes n lt place route at =
    exact book pool legal (λ word. sym_of netlist word n) (routes_at nets n) one (routes.tables n) (routes.gives n lt) place route at
