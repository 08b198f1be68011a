use Rattle.std.proofs.Common.{ap, ◌∙◌, arith}
use Rattle.src_model.specs.Written.{model_of_program}
use Rattle.src_model.specs.declared.sizes.Sizes.{Sizes}
use Rattle.src_model.proofs.Measures.{list_measured}
use Rattle.src_model.proofs.Bounds.{few_temps}
use Rattle.src_model.proofs.typed.Typed.temps.Goals as goal

pub overflow_cast-result : goal.overflow_cast-result
overflow_cast-result c =
    let few = few_temps c.args.self.now.width (model_of_program c.args.self.now.program) c.args.self.now.kept in
    let is = ap (λ (sizes : Sizes). sizes.temps) (c.block_sizes.ensures ∙ (λ j. list_measured (c.from.ensures j) (c.deref.ensures.value j))) in
    omega (arith, few, is)

pub returns : goal.returns
returns c =
    let few = few_temps c.args.self.now.width (model_of_program c.args.self.now.program) c.args.self.now.kept in
    let is = ap (λ (sizes : Sizes). sizes.temps) (c.block_sizes.ensures ∙ (λ j. list_measured (c.from.ensures j) (c.deref.ensures.value j))) in
    omega (arith, few, is)
