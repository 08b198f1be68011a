use Rattle.std.proofs.Common.{◌∙◌, ap, unwrap_or}
use Rattle.std.proofs.lemmas.Option.{unwrap_or-slice_get}
use Rattle.checkpoint_watch.proofs.line.value_at.Goals as goal

pub returns : goal.returns
returns c = c.unwrap_or.ensures ∙ ap (λ o. unwrap_or o 0) c.cell.ensures ∙ unwrap_or-slice_get c.args.sim.now.state.cells c.args.address 0
