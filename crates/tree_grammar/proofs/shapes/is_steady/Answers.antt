use Rattle.std.proofs.Common.{sym, subst}
use Rattle.net_model.specs.Exprs.{model_of_expr}
use Rattle.tree_grammar.specs.Inner.Settings.{IsSteady}
use Rattle.tree_grammar.proofs.ShapeLemmas.{word_steady, part_steady, zext_steady}
use Rattle.tree_grammar.proofs.shapes.is_steady.Goals as goal

pub returns-in-Word : goal.returns-in-Word
returns-in-Word c = subst (λ x. IsSteady (model_of_expr x)) (sym c.in-Word.is) (word_steady _)

pub returns-in-Slice : goal.returns-in-Slice
returns-in-Slice c = subst (λ x. IsSteady (model_of_expr x)) (sym c.in-Slice.is) (part_steady _ _ _)

pub returns-in-Zext : goal.returns-in-Zext
returns-in-Zext c = subst (λ x. IsSteady (model_of_expr x)) (sym c.in-Zext.is) (zext_steady _ 0)
