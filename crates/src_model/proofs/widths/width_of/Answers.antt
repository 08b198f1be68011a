use Rattle.std.proofs.Common.{sym, subst}
use Rattle.src_model.specs.Written.{model_of_src_node}
use Rattle.src_model.proofs.FittingLemmas.{width_wide}
use Rattle.rec_bits.specs.Operators.{IsWidth}
use Rattle.src_model.proofs.Narrow.{small}
use Rattle.src_model.proofs.widths.width_of.Goals as goal

pub written_width-requires : goal.written_width-requires
written_width-requires c = small c.args.word c.args.asked (model_of_src_node c.args.e.now.node) c.requires.word c.requires.asked c.requires.fitting

pub returns-clause-wide : goal.returns-clause-wide
returns-clause-wide c = subst IsWidth (sym c.written_width.ensures) (width_wide c.args.word c.args.asked (model_of_src_node c.args.e.now.node) c.requires.word c.requires.asked c.requires.fitting)
