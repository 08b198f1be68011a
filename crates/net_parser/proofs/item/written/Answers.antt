use Rattle.std.proofs.lemmas.Result.{err_from_is_err_and}
use Rattle.grammar.proofs.Passing.{beyond, gives_too, never_apart, stuck}
use Rattle.net_model.specs.Written.{model_of_net_expr, when_of}
use Rattle.net_parser.proofs.ItemParts.{there_written}
use Rattle.net_parser.proofs.item.written.Goals as goal

pub returns-in_err-rest : goal.returns-in_err-rest
returns-in_err-rest c =
    let p = err_from_is_err_and c.from_residual.result c.from_residual.ensures.1 in
    rw (p.1, p.2) (stuck (λ u. there_written) c.in_err-rest.ensures)

pub returns : goal.returns
returns c =
    gives_too (λ x. ((model_of_net_expr x.0.0, (model_of_net_expr x.0.1.0, when_of x.0.1.1)), x.1.now)) (beyond never_apart c.in_ok-rest.ensures) c.stored.result c.stored.ensures
