use Rattle.std.proofs.Common.{ℕ, Option, ap, ◌∙◌}
use Rattle.std.specs.Prelude.{unwrap_or}
use Rattle.std.proofs.lemmas.Option.{unwrap_or-slice_get}
use Rattle.make_command.proofs.summary.value_at.Goals as goal

pub returns : goal.returns
returns c = c.unwrap_or.ensures ∙ ap (λ (o : Option ℕ). unwrap_or o 0) c.cell.ensures ∙ unwrap_or-slice_get c.args.sim.now.state.cells c.args.place.now.address 0
