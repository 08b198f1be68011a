use Rattle.std.proofs.Common.{◌∙◌}
use Rattle.net_model.proofs.Memories.{size_found}
use Rattle.net_model.proofs.checked.Checked.size.Goals as goal

pub returns : goal.returns
returns c = c.size_of.ensures ∙ rw (c.storage.ensures, c.place.ensures, ← c.self.view_is) (size_found c.args.space c.self.inside.netlist.storages)
