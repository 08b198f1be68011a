use Rattle.std.proofs.Common.{ap, ◌∙◌}
use Rattle.net_model.specs.Symbolic.{sym_of}
use Rattle.net_model.specs.Meaning.{mean}
use Rattle.net_model.proofs.Meanings.{value_is_mean}
use Rattle.transfer_set.specs.Routes.{routes_at}
use Rattle.transfer_set.proofs.Exact.{exact}
use Rattle.route_trace.proofs.laws.law_of_meaning.Goals as goal

pub returns : goal.returns
returns c netlist s book pool legal nets typed controlled state one routes n lt place route at word fits word_fits holds =
    let is = (exact book pool legal (λ word. sym_of netlist word n) (routes_at nets n) one (routes.tables n) (routes.gives n lt) place route at word fits).0 holds in
    ap (λ e. mean e s word) is.1 ∙ value_is_mean netlist s word typed controlled state word_fits n
