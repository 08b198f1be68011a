use Rattle.grammar.proofs.Passing.{gives_too}
use Rattle.src_parser.proofs.Declarations.{from_either_side}
use Rattle.src_parser.proofs.declaration.bracketed.Goals as goal

pub returns : goal.returns
returns c = gives_too (λ x. (x.0, x.1.now)) from_either_side c.number_between.result c.number_between.ensures
