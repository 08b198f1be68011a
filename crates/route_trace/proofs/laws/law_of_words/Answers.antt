use Rattle.net_model.specs.Symbolic.{sym_of}
use Rattle.transfer_set.specs.Routes.{routes_at}
use Rattle.transfer_set.proofs.Collecting.{set_at}
use Rattle.route_trace.proofs.Exact.{every}
use Rattle.route_trace.proofs.laws.law_of_words.Goals as goal

pub returns : goal.returns
returns c netlist book pool legal nets routes n lt = (
  λ word fits is. (let e = every book pool legal (λ word. sym_of netlist word n) (routes_at nets n) (routes.gives n lt) word fits is in record { expr = e.0; only = e.1; is = e.2 }),
  λ place route at. set_at book (routes_at nets n) place route at (routes.tables n).right.sets,
)
