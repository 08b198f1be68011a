-- What a pool keeps beside its nodes, while a node is added.
use Rattle.std.proofs.Common.{◌≡◌, ℕ, ◌<◌, List, [], ◌∷◌, ◌++◌, length, slice_get, Some, inl, inr, sym, ap, subst, ◌∙◌, arith}
use Rattle.std.specs.Map.{keys_of, values_of}
use Rattle.std.proofs.lemmas.List.{map-append}
use Rattle.std.proofs.lemmas.Map.Entries.{length-keys_of, length-values_of}
use Rattle.sym_expr.specs.declared.pool.Node.{Node}
use Rattle.sym_expr.specs.declared.pool.Measure.{Measure}
use Rattle.sym_expr.specs.Pools.{node_expr, children_of, AllBelow, expr_of_id, HeadFits, IsPool}
use Rattle.sym_expr.specs.Measures.{IsMeasure, IsMeasuredPool}
use Rattle.rec_bits.proofs.Lists.{pushed_at}
use Rattle.sym_expr.proofs.Trees.{expr_of_id-append, expr_of_id-push}
use Rattle.sym_expr.proofs.Growth.{push_pool}

module _ (es : List (Node × Measure)) (p : IsMeasuredPool es) (node : Node) (m : Measure) where
  keys : keys_of (es ++ (node, m) ∷ []) ≡ keys_of es ++ node ∷ []
  keys = map-append (λ e. e.0) es ((node, m) ∷ [])

  values : values_of (es ++ (node, m) ∷ []) ≡ values_of es ++ m ∷ []
  values = map-append (λ e. e.1) es ((node, m) ∷ [])

  module _ (below : AllBelow (length (keys_of es)) (children_of node)) (fits : HeadFits (node_expr node (expr_of_id (keys_of es))))
      (absent : (i : ℕ) → slice_get (keys_of es) i ≡ Some node → ⊥) (known : IsMeasure (node_expr node (expr_of_id (keys_of es))) m) where
    measure_at : (id : ℕ) (n : Measure) → slice_get (values_of es ++ m ∷ []) id ≡ Some n → IsMeasure (expr_of_id (keys_of es ++ node ∷ []) id) n
    measure_at id n at =
        elim (pushed_at (values_of es) m id n at) as (λ _. IsMeasure (expr_of_id (keys_of es ++ node ∷ []) id) n) [
          | inl w ↦
              let less : id < length (keys_of es) = omega (arith, w.0, length-values_of es, length-keys_of es) in
              subst (λ t. IsMeasure t n) (sym (expr_of_id-append (keys_of es) (node ∷ []) id less)) (p.measures id n w.1)
          | inr w ↦
              let last : id ≡ length (keys_of es) = omega (arith, w.0, length-values_of es, length-keys_of es) in
              subst (λ k. IsMeasure (expr_of_id (keys_of es ++ node ∷ []) id) k) w.1
              (subst (λ t. IsMeasure t m) (sym (expr_of_id-push (keys_of es) node id last)) known)
        ]

    pub push_measured : IsMeasuredPool (es ++ (node, m) ∷ [])
    push_measured = record {
      pool = subst IsPool (sym keys) (push_pool (keys_of es) p.pool node below fits absent);
      measures = λ id n at. subst (λ ks. IsMeasure (expr_of_id ks id) n) (sym keys) (measure_at id n (sym (ap (λ vs. slice_get vs id) values) ∙ at));
    }

pub keys-push : (es : List (Node × Measure)) (node : Node) (m : Measure) → keys_of (es ++ (node, m) ∷ []) ≡ keys_of es ++ node ∷ []
keys-push es node m = map-append (λ e. e.0) es ((node, m) ∷ [])
