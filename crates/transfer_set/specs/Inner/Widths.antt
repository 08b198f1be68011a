-- Transfers whose operators get operands of the widths that they ask for.
use Rattle.net_model.specs.Exprs.{TransferModel, keep, write, write_at}
use Rattle.sym_expr.specs.Pools.{ExprFits}

-- the operators of a transfer do
abbrev pub TransferFits : TransferModel → Type 0
TransferFits keep = Unit {0}
TransferFits (write e) = ExprFits e
TransferFits (write_at a e) = ExprFits a × ExprFits e
