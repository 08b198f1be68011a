use Rattle.std.proofs.Common.{◌∙◌, ap}
use Rattle.net_model.specs.Nets.{word_width}
use Rattle.row_texts.proofs.words.word_bits.Goals as goal

pub returns : goal.returns
returns c = c.word_width.ensures ∙ ap word_width c.netlist.ensures.value
