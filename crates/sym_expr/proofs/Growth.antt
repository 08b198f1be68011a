-- A pool stays one when a node is added.
use Rattle.std.proofs.Common.{◌≡◌, ℕ, ◌<◌, List, [], ◌∷◌, ◌++◌, length, slice_get, Some, inl, inr, refl, sym, ap, subst, ◌∙◌, length-append, append_assoc, arith}
use Rattle.std.proofs.lemmas.List.{append-nil}
use Rattle.std.proofs.lemmas.Bool.{cases_lt}
use Rattle.sym_expr.specs.declared.pool.Node.{Node}
use Rattle.sym_expr.specs.Pools.{node_expr, children_of, AllBelow, expr_of_id, ExprFits, HeadFits, IsPool, Grows, KeepsExprs}
use Rattle.rec_bits.proofs.Lists.{pushed_at}
use Rattle.sym_expr.proofs.Trees.{expr_of_id-append, expr_of_id-push}
use Rattle.sym_expr.proofs.Fits.{all_fit, whole_fits}

pub grows_refl : (l : List Node) → Grows l l
grows_refl l = record { more = []; nodes = sym (append-nil l); longer = omega arith }

pub grows_trans : (a b c : List Node) → Grows a b → Grows b c → Grows a c
grows_trans a b c f g = record {
  more = f.more ++ g.more;
  nodes = g.nodes ∙ ap (λ l. l ++ g.more) f.nodes ∙ append_assoc a f.more g.more;
  longer = omega (arith, f.longer, g.longer);
}

grows_by : (old new : List Node) → ((more : List Node) × (new ≡ old ++ more)) → Grows old new
grows_by old new w = record {
  more = w.0;
  nodes = w.1;
  longer = (let e = ap length w.1 in let l = length-append old w.0 in omega (arith, e, l));
}

-- a growing pool changes no old id's expression
pub same_expr : (old new : List Node) → Grows old new → (id : ℕ) → id < length old → expr_of_id new id ≡ expr_of_id old id
same_expr old new g id h = ap (λ l. expr_of_id l id) g.nodes ∙ expr_of_id-append old g.more id h

module _ (nodes : List Node) (pool : IsPool nodes) (node : Node) (below : AllBelow (length nodes) (children_of node)) (fits : HeadFits (node_expr node (expr_of_id nodes))) where
  pub push_pool : ((i : ℕ) → slice_get nodes i ≡ Some node → ⊥) → IsPool (nodes ++ node ∷ [])
  push_pool absent = record {
    below = λ place x at. elim (pushed_at nodes node place x at) [
      | inl w ↦ pool.below place x w.1
      | inr w ↦
          (let e : node ≡ x = w.1 in
          subst (λ (p : ℕ × Node). AllBelow p.0 (children_of p.1)) (λ j. (sym w.0 j, e j)) below)
    ];
    fits = λ id less. elim (cases_lt id (length nodes)) [
      | inl h ↦ subst ExprFits (sym (expr_of_id-append nodes (node ∷ []) id h)) (pool.fits id h)
      | inr h ↦
          (let l = length-append nodes (node ∷ []) in
          let e : id ≡ length nodes = omega (arith, h, less, l) in
          subst ExprFits (sym (expr_of_id-push nodes node id e)) (whole_fits node (expr_of_id nodes) fits (all_fit (expr_of_id nodes) (length nodes) pool.fits (children_of node) below)))
    ];
    distinct = λ i j n at_i at_j. elim (pushed_at nodes node i n at_i) [
      | inl v ↦ elim (pushed_at nodes node j n at_j) [
        | inl w ↦ pool.distinct i j n v.1 w.1
        | inr w ↦ absurd (absent i (v.1 ∙ ap Some (sym w.1)))
      ]
      | inr v ↦ elim (pushed_at nodes node j n at_j) [
        | inl w ↦ absurd (absent j (w.1 ∙ ap Some (sym v.1)))
        | inr w ↦ v.0 ∙ sym w.0
      ]
    ];
  }

-- the pool with one more node
pub grows_push : (nodes : List Node) (node : Node) → Grows nodes (nodes ++ node ∷ [])
grows_push nodes node = grows_by nodes (nodes ++ node ∷ []) (node ∷ [], refl)

pub keeps : (old new : List Node) → Grows old new → KeepsExprs old new
keeps old new g = λ id h. same_expr old new g id h
