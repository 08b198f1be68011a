use Rattle.std.proofs.Common.{◌≡◌, ◌∙◌, subst, sym}
use Rattle.net_model.specs.Nets.{memory_width}
use Rattle.rec_bits.specs.Operators.{IsWidth}
use Rattle.net_model.proofs.Memories.{memory_wide, memory_width_of}
use Rattle.net_model.proofs.checked.Checked.memory_width.Goals as goal

pub returns-clause-width : goal.returns-clause-width
returns-clause-width c = c.bits_of.ensures ∙ rw (c.storage.ensures, c.memory.ensures, ← c.self.view_is) (memory_wide c.self.inside.netlist.storages)

pub returns-clause-within : goal.returns-clause-within
returns-clause-within c =
    let same : c.bits_of.result ≡ memory_width c.self.inside.netlist.storages = c.bits_of.ensures ∙ rw (c.storage.ensures, c.memory.ensures, ← c.self.view_is) (memory_wide c.self.inside.netlist.storages) in
    subst IsWidth (sym same) (memory_width_of _ _ c.self.invariant)
