use Rattle.code_model.proofs.Unviewed.{traces_unviewed, unviewed_traces}
use Rattle.code_model.proofs.laws.law_of_no_views.Goals as goal

pub returns : goal.returns
returns c = λ netlist image trace. (unviewed_traces netlist image trace, traces_unviewed netlist image trace)
