use Rattle.std.proofs.Common.{◌∙◌}
use Rattle.net_model.proofs.Memories.{width_found}
use Rattle.net_model.proofs.checked.Checked.width.Goals as goal

pub returns : goal.returns
returns c = c.bits_of.ensures ∙ rw (c.storage.ensures, c.place.ensures, ← c.self.view_is) (width_found c.args.space c.self.inside.netlist.storages)
