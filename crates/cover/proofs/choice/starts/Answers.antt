use Rattle.std.proofs.Common.{refl}
use Rattle.std.proofs.lemmas.Option.{slice_get_read}
use Rattle.least_costs.specs.Searches.{search_stock, open_operand, open_operands}
use Rattle.least_costs.proofs.NodeLemmas.{input_get}
use Rattle.least_costs.proofs.InputLemmas.{inputs_at}
use Rattle.cover.proofs.ChoiceLemmas.{first_of_sum}
use Rattle.cover.proofs.choice.starts.Goals as goal

pub operand_cost-requires-clause-number : goal.operand_cost-requires-clause-number
operand_cost-requires-clause-number c = input_get _ _ c.args.i _ c.requires.at (slice_get_read _ _ _ _ refl c.requires.place c.index-ops-i.is)

pub returns-clause-starts : goal.returns-clause-starts
returns-clause-starts c =
    let got = slice_get_read _ _ _ _ refl c.requires.place c.index-ops-i.is in
    let get = inputs_at c.args.ops.now c.args.i c.index-ops-i.result got in
    first_of_sum (search_stock c.args.search.now) c.args.limits (open_operands c.args.ops.now) c.args.n c.requires.least c.args.i (open_operand c.index-ops-i.result) c.in_ok-m.m c.in_ok-others.others c.if_sum.result get c.in_ok-m.ensures.least
    (c.in_ok-others.ensures.least (open_operand c.index-ops-i.result) get) c.if_sum.ensures.yes c.if_sum.ensures.no
