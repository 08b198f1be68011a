use Rattle.std.proofs.Common.{sym, subst}
use Rattle.form_model.specs.Covers.{operands_of}
use Rattle.tree_grammar.specs.Leaves.{models_of_leaves}
use Rattle.least_costs.specs.Least.{IsLeastOrder, IsLeastCut}
use Rattle.least_costs.specs.Searches.{search_stock, search_nodes, open_operands, open_cuts, OperandsAt, CutsAt, AreParts}
use Rattle.least_costs.proofs.FloorLemmas.{floor_none}
use Rattle.least_costs.proofs.FitLemmas.{fit_inputs, fit_stored, fit_few}
use Rattle.least_costs.proofs.PartLemmas.{parts_operands, parts_cuts}
use Rattle.least_costs.proofs.search.Search.fit_parts.Goals as goal

pub orders-requires-clause-at : goal.orders-requires-clause-at
orders-requires-clause-at c =
    subst (OperandsAt (search_nodes c.args.self.now)) (sym c.deref.ensures.value)
    (parts_operands (search_nodes c.args.self.now) c.in_ok-operands.operands.items _ _ c.requires.few c.in_ok-operands.ensures.operands (c.in_ok-operands.ensures.at (search_nodes c.args.self.now) c.requires.at))

pub orders-requires-clause-floor : goal.orders-requires-clause-floor
orders-requires-clause-floor c = floor_none (search_stock c.args.self.now) c.args.limits (open_operands c.deref.result.now)

pub cuts_cost-requires-clause-at : goal.cuts_cost-requires-clause-at
cuts_cost-requires-clause-at c =
    subst (CutsAt (search_nodes c.args.self.now)) (sym c.deref-2.ensures.value)
    (parts_cuts (search_nodes c.args.self.now) c.in_ok-cuts.cuts.items _ _ c.requires.few c.in_ok-cuts.ensures.cuts (c.in_ok-cuts.ensures.at (search_nodes c.args.self.now) c.requires.at))

pub returns-clause-fit : goal.returns-clause-fit
returns-clause-fit c = (
  c.in_ok-operands.operands.items,
  c.in_ok-cuts.cuts.items,
  c.in_ok-a.a,
  c.in_ok-b.b,
  c.in_ok-operands.ensures.operands,
  c.in_ok-cuts.ensures.cuts,
  subst (λ l. IsLeastOrder (search_stock c.args.self.now) c.args.limits (open_operands l) c.in_ok-a.a) c.deref.ensures.value c.in_ok-a.ensures.least,
  subst (λ l. IsLeastCut (search_stock c.args.self.now) (open_cuts l) c.in_ok-b.b) c.deref-2.ensures.value c.in_ok-b.ensures.least,
  c.fit_of.ensures,
)

pub returns-clause-at : goal.returns-clause-at
returns-clause-at c =
    fit_inputs (OperandsAt (search_nodes c.args.self.now)) _ _ _ _ _ c.fit_of.ensures
    (parts_operands (search_nodes c.args.self.now) c.in_ok-operands.operands.items _ _ c.requires.few c.in_ok-operands.ensures.operands (c.in_ok-operands.ensures.at (search_nodes c.args.self.now) c.requires.at))

pub returns-clause-cuts_at : goal.returns-clause-cuts_at
returns-clause-cuts_at c =
    fit_stored (CutsAt (search_nodes c.args.self.now)) _ _ _ _ _ c.fit_of.ensures
    (parts_cuts (search_nodes c.args.self.now) c.in_ok-cuts.cuts.items _ _ c.requires.few c.in_ok-cuts.ensures.cuts (c.in_ok-cuts.ensures.at (search_nodes c.args.self.now) c.requires.at))

pub returns-clause-few : goal.returns-clause-few
returns-clause-few c =
    fit_few c.args.self.now c.args.limits c.in_ok-operands.operands.items c.in_ok-cuts.cuts.items c.in_ok-a.a c.in_ok-b.b c.fit_of.result c.requires.right.few
    (subst (λ l. AreParts (search_nodes c.args.self.now) l (open_cuts c.in_ok-cuts.cuts.items)) (sym c.in_ok-operands.ensures.operands)
    (subst (AreParts (search_nodes c.args.self.now) (operands_of (models_of_leaves c.args.parts.now))) (sym c.in_ok-cuts.ensures.cuts) c.requires.few))
    (subst (λ l. IsLeastOrder (search_stock c.args.self.now) c.args.limits (open_operands l) c.in_ok-a.a) c.deref.ensures.value c.in_ok-a.ensures.least)
    (subst (λ l. IsLeastCut (search_stock c.args.self.now) (open_cuts l) c.in_ok-b.b) c.deref-2.ensures.value c.in_ok-b.ensures.least) c.fit_of.ensures
