use Rattle.std.proofs.Common.{◌∙◌, sym}
use Rattle.segment.proofs.rounds.Source.are_one.Goals as goal

pub are_one_by-requires : goal.are_one_by-requires
are_one_by-requires c = c.rounds_over-rounds.ensures ∙ sym (c.has_cells.ensures.bits c.if-not-has_cells.false)
