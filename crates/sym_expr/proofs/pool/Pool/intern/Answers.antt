use Rattle.std.proofs.Common.{◌≡◌, ℕ, true, false, ◌++◌, ◌∷◌, [], List, length, slice_get, is_some, Some, None, Option, true≢false, refl, sym, ap, subst, ◌∙◌}
use Rattle.std.specs.Map.{keys_of}
use Rattle.indexmap.specs.IndexMap.{get}
use Rattle.indexmap.proofs.CallerLemmas.{insert_entry-new}
use Rattle.sym_expr.specs.declared.pool.Node.{Node}
use Rattle.sym_expr.specs.declared.pool.Node.TheVariants.{Word}
use Rattle.sym_expr.specs.contracts.pool.NodePartialEq.TheImpl.{ghosts as node_eq}
use Rattle.sym_expr.specs.Pools.{AllBelow, HeadFits, node_expr, children_of, expr_of_id}
use Rattle.sym_expr.specs.Measures.{IsMeasure, IsMeasuredPool}
use Rattle.sym_expr.proofs.Keys.{exact_node, alike_node}
use Rattle.sym_expr.proofs.Lists.{position_some, position_none, position_none_len}
use Rattle.sym_expr.proofs.Trees.{expr_of_id-node, expr_of_id-push}
use Rattle.sym_expr.proofs.Growth.{grows_push}
use Rattle.sym_expr.proofs.Measured.{push_measured, keys-push}
use Rattle.sym_expr.proofs.pool.Pool.intern.Goals as goal

-- ---- the node is there

found : (keys : List Node) (node : Node) (place : ℕ) → (x : Node) × (slice_get keys place ≡ Some x) × (node_eq.eq node x ≡ true) → slice_get keys place ≡ Some node
found keys node place w = w.1 ∙ ap Some (sym (exact_node node w.0 w.2))

pub returns-in-Some-clause-expr : goal.returns-in-Some-clause-expr
returns-in-Some-clause-expr c =
    let keys = keys_of c.self.inside.nodes.entries in
    let at = found keys c.args.node c.in-Some.place (position_some (node_eq.eq c.args.node) keys (Word 0) c.in-Some.place (sym c.get_index_of.ensures.index ∙ c.in-Some.is)) in
    rw (← c.self.view_is) (expr_of_id-node keys c.in-Some.place c.args.node at (c.self.invariant.pool.below c.in-Some.place c.args.node at))

-- ---- the node is new

none_from : {X : Type 0} (o : Option X) → false ≡ is_some o → o ≡ None
none_from None h = refl
none_from (Some x) h = absurd (true≢false (sym h))

absent : (c : goal.In_ok-place) → (i : ℕ) → slice_get (keys_of c.self.inside.nodes.entries) i ≡ Some c.args.node → ⊥
absent c i at =
    true≢false (sym (alike_node c.args.node) ∙ position_none (node_eq.eq c.args.node) (keys_of c.self.inside.nodes.entries) (sym c.get_index_of.ensures.index ∙ c.in_default.is) i c.args.node at)

entries : (c : goal.In_ok-place) → c.insert_full.new.self.entries ≡ c.self.inside.nodes.entries ++ (c.args.node, c.measure-measure.result) ∷ []
entries c =
    let none : get node_eq.eq c.self.inside.nodes c.args.node ≡ None = none_from _ (sym (ap is_some c.in_default.is) ∙ c.get_index_of.ensures.found) in
    c.in_ok-place.ensures.entries ∙ insert_entry-new node_eq.eq c.self.inside.nodes c.args.node c.measure-measure.result none

keys : (c : goal.In_ok-place) → keys_of c.insert_full.new.self.entries ≡ keys_of c.self.inside.nodes.entries ++ c.args.node ∷ []
keys c = ap keys_of (entries c) ∙ keys-push c.self.inside.nodes.entries c.args.node c.measure-measure.result

below : (c : goal.In_ok-place) → AllBelow (length (keys_of c.self.inside.nodes.entries)) (children_of c.args.node)
below c = subst (λ (l : List Node). AllBelow (length l) (children_of c.args.node)) (sym c.self.view_is) c.requires.parts

fits : (c : goal.In_ok-place) → HeadFits (node_expr c.args.node (expr_of_id (keys_of c.self.inside.nodes.entries)))
fits c = subst (λ (l : List Node). HeadFits (node_expr c.args.node (expr_of_id l))) (sym c.self.view_is) c.requires.fits

known : (c : goal.In_ok-place) → IsMeasure (node_expr c.args.node (expr_of_id (keys_of c.self.inside.nodes.entries))) c.measure-measure.result
known c = subst (λ (l : List Node). IsMeasure (node_expr c.args.node (expr_of_id l)) c.measure-measure.result) (sym c.self.view_is) c.measure-measure.ensures

-- the new id is the number of those before
place : (c : goal.In_ok-place) → c.in_ok-place.place ≡ length (keys_of c.self.inside.nodes.entries)
place c = c.in_ok-place.ensures.index ∙ position_none_len (node_eq.eq c.args.node) (keys_of c.self.inside.nodes.entries) (sym c.get_index_of.ensures.index ∙ c.in_default.is)

pub invariant_of-self-2 : goal.invariant_of-self-2
invariant_of-self-2 c =
    subst IsMeasuredPool (sym (entries c))
    (push_measured c.self.inside.nodes.entries c.self.invariant c.args.node c.measure-measure.result (below c) (fits c) (absent c) (known c))

pub returns-clause-grows : goal.returns-clause-grows
returns-clause-grows c = rw (keys c, ← c.self.view_is) (grows_push (keys_of c.self.inside.nodes.entries) c.args.node)

pub returns-clause-expr : goal.returns-clause-expr
returns-clause-expr c = rw (keys c, ← c.self.view_is) (expr_of_id-push (keys_of c.self.inside.nodes.entries) c.args.node c.in_ok-place.place (place c))
