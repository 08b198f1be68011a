use Rattle.std.proofs.Common.{◌≡◌}
use Rattle.isa_extract.specs.Extracts.{AreTextsBelow}
use Rattle.isa_extract.proofs.texts.mode_texts.Given as goal

-- the texts of the modes so far
abbrev pub invariant-loop-isa : goal.invariant-loop-isa
invariant-loop-isa l = (l.mode ≡ l.isa-index) × AreTextsBelow l.modes.netlist l.mode l.text.items
