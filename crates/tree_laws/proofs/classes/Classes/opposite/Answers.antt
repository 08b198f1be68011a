use Rattle.std.proofs.Common.{sym, ◌∙◌}
use Rattle.rec_bits.specs.declared.operator.Op1.TheVariants.{Not}
use Rattle.form_model.specs.Trees.{model_of_tree}
use Rattle.tree_laws.proofs.Standing.{if_some, un_node}
use Rattle.tree_laws.proofs.classes.Classes.opposite.Goals as goal

pub returns-clause-stands : goal.returns-clause-stands
returns-clause-stands c =
    if_some c.find.result _ _
    (λ k g. (
      un_node c.args.self.now Not (model_of_tree c.args.test.now) c.in_ok-class.class c.in_ok-class.ensures.stands k g,
      (λ cells regs m. (c.in_ok-class.ensures.stands cells regs m).width ∙ sym c.in_ok-width.ensures.1 ∙ c.if-branch-ne1.false),
    )) c.find.ensures.stands
