use Rattle.std.proofs.Common.{ap}
use Rattle.net_model.specs.Exprs.{model_of_expr}
use Rattle.tree_grammar.proofs.ExtensionLemmas.{shape_of_slice, shape_of_word, shape_of_zext}
use Rattle.tree_grammar.proofs.shapes.plain_bits.Goals as goal

pub returns-in-Zext : goal.returns-in-Zext
returns-in-Zext c =
    shape_of_zext c.field_bits.result _ (model_of_expr c.in-Zext.a.value) _ _ _ (ap model_of_expr c.in-Zext.is) (ap model_of_expr c.deref.ensures) c.requires c.field_bits.ensures

pub returns-in-Word : goal.returns-in-Word
returns-in-Word c = shape_of_word c.field_bits-in-Word.result _ _ _ (ap model_of_expr c.in-Word.is) c.requires c.field_bits-in-Word.ensures

pub returns-in-Slice : goal.returns-in-Slice
returns-in-Slice c = shape_of_slice c.field_bits-in-Slice.result _ _ _ _ _ (ap model_of_expr c.in-Slice.is) c.requires c.field_bits-in-Slice.ensures
