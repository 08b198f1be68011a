use Rattle.std.proofs.lemmas.Result.{err_from_is_err_and}
use Rattle.grammar.proofs.Steps.{return_reads}
use Rattle.grammar.proofs.Passing.{there_return, there_bind, on, past, stuck}
use Rattle.grammar.proofs.Tokens.{there_number, there_behind}
use Rattle.net_model.specs.Grammar.{no_write}
use Rattle.net_parser.proofs.ItemParts.{there_maybe_written}
use Rattle.net_parser.proofs.item.bank.Goals as goal

pub returns-in_err-name : goal.returns-in_err-name
returns-in_err-name c =
    let p = err_from_is_err_and c.from_residual.result c.from_residual.ensures.1 in
    rw (p.1, p.2) (stuck (λ x. there_bind (there_behind there_number) (λ y. there_bind (there_behind there_number) (λ z. there_bind (there_maybe_written (no_write x.1 z)) (λ w. there_return)))) c.in_err-name.ensures)

pub returns-in_err-size : goal.returns-in_err-size
returns-in_err-size c =
    let p = err_from_is_err_and c.from_residual-in_err-size.result c.from_residual-in_err-size.ensures.1 in
    rw (p.1, p.2) (past c.in_ok-name.ensures (stuck (λ y. there_bind (there_behind there_number) (λ z. there_bind (there_maybe_written (no_write c.in_ok-name.width z)) (λ w. there_return))) c.in_err-size.ensures))

pub returns-in_err-addr_width : goal.returns-in_err-addr_width
returns-in_err-addr_width c =
    let p = err_from_is_err_and c.from_residual-in_err-addr_width.result c.from_residual-in_err-addr_width.ensures.1 in
    rw (p.1, p.2) (past c.in_ok-name.ensures (past c.in_ok-size.ensures (stuck (λ z. there_bind (there_maybe_written (no_write c.in_ok-name.width z)) (λ w. there_return)) c.in_err-addr_width.ensures)))

pub returns-in_err-value : goal.returns-in_err-value
returns-in_err-value c =
    let p = err_from_is_err_and c.from_residual-in_err-value.result c.from_residual-in_err-value.ensures.1 in
    rw (p.1, p.2) (past c.in_ok-name.ensures (past c.in_ok-size.ensures (past c.in_ok-addr_width.ensures (stuck (λ x. there_return) c.in_err-value.ensures))))

pub returns : goal.returns
returns c = on c.in_ok-name.ensures (on c.in_ok-size.ensures (on c.in_ok-addr_width.ensures (on c.in_ok-value.ensures return_reads)))
