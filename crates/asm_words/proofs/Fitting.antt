-- Slices of expressions are bits of a word.
use Rattle.std.proofs.Common.{◌≡◌, ℕ, ◌-◌, ◌<◌, Bool, true, false, cond, List, [], ◌∷◌, ◌++◌, length, slice_get, Option, None, Some, option_map, refl, sym, ap, subst, arith}
use Rattle.std.proofs.lemmas.List.Elements.{All-append, All-cons, All-head, All-tail}
use Rattle.std.proofs.lemmas.Option.{get_or_from_slice_get, same_Some, slice_get_within}
use Rattle.std.specs.List.{All, filter, flat_map}
use Rattle.net_model.specs.Exprs.{ExprModel, word, reg, const, read, un, bin, slice, cat, zext, sext, select}
use Rattle.sym_expr.specs.declared.pool.Node.{Node}
use Rattle.sym_expr.specs.Pools.{ExprFits, expr_of_id}
use Rattle.transfer_set.specs.Entries.{IsAddrKnown, ids_transfer}
use Rattle.transfer_set.specs.Tables.{PatternTable}
use Rattle.transfer_set.specs.declared.row.Row.{Row}
use Rattle.asm_words.specs.Slices.{is_other, transfer_slices, once, slices}
use Rattle.asm_words.specs.Tables.{HasExprs}
use Rattle.asm_words.specs.Inner.Given.{SliceFits, row_slices}
use Rattle.asm_words.specs.declared.slices.Slice.{Slice}

none : All SliceFits []
none = λ i d h. absurd (omega (arith, h))

one : (s : Slice) → SliceFits s → All SliceFits (s ∷ [])
one s h = All-cons SliceFits s [] h none

pub slices_fit : (t : ExprModel) → ExprFits t → All SliceFits (slices t)
slices_fit (word w) f = one (record { hi = w - 1; lo = 0 }) (record { order = omega arith; within = omega (arith, f.0, f.1) })
slices_fit (reg r w) f = none
slices_fit (const w v) f = none
slices_fit (read space a w) f = slices_fit a f.0
slices_fit (un o a) f = slices_fit a f
slices_fit (bin o a b) f = All-append SliceFits (slices a) (slices b) (slices_fit a f.0) (slices_fit b f.1)
slices_fit (slice (word w) hi lo) f = one (record { hi = hi; lo = lo }) (record { order = f.1.0; within = omega (arith, f.0.1, f.1.1) })
slices_fit (slice (reg r w) hi lo) f = none
slices_fit (slice (const w v) hi lo) f = none
slices_fit (slice (read space a w) hi lo) f = slices_fit (read space a w) f.0
slices_fit (slice (un o a) hi lo) f = slices_fit (un o a) f.0
slices_fit (slice (bin o a b) hi lo) f = slices_fit (bin o a b) f.0
slices_fit (slice (slice a k l) hi lo) f = slices_fit (slice a k l) f.0
slices_fit (slice (cat a b) hi lo) f = slices_fit (cat a b) f.0
slices_fit (slice (zext a w) hi lo) f = slices_fit (zext a w) f.0
slices_fit (slice (sext a w) hi lo) f = slices_fit (sext a w) f.0
slices_fit (slice (select c a b) hi lo) f = slices_fit (select c a b) f.0
slices_fit (cat a b) f = All-append SliceFits (slices a) (slices b) (slices_fit a f.0) (slices_fit b f.1)
slices_fit (zext a w) f = slices_fit a f.0
slices_fit (sext a w) f = slices_fit a f.0
slices_fit (select c a b) f =
    All-append SliceFits (slices c) (slices a ++ slices b) (slices_fit c f.0) (All-append SliceFits (slices a) (slices b) (slices_fit a f.1) (slices_fit b f.2))

-- ---- of rows

module _ (pool : List Node) (table : PatternTable) (has : HasExprs pool table) where
  -- what a row's ids are
  pub expr_told : (n : ℕ) (addr : Option ℕ) (value : ℕ) → ◌≡◌ {A = Option (Option ℕ × ℕ)} (Some (addr, value)) (option_map (λ (row : Row). (row.addr, row.value)) (slice_get table.rows n)) →
      IsAddrKnown (length pool) addr × (value < length pool) × (row_slices pool (slice_get table.rows n) ≡ transfer_slices (ids_transfer pool addr value))
  expr_told n addr value e = by (slice_get table.rows n) refl e
    where
      by : (o : Option Row) → slice_get table.rows n ≡ o → ◌≡◌ {A = Option (Option ℕ × ℕ)} (Some (addr, value)) (option_map (λ (row : Row). (row.addr, row.value)) o) →
          IsAddrKnown (length pool) addr × (value < length pool) × (row_slices pool o ≡ transfer_slices (ids_transfer pool addr value))
      by None at e = cc
      by (Some row) at e =
          let within = slice_get_within table.rows n row at in
          let here = get_or_from_slice_get table.rows n row row at in
          let same : ◌≡◌ {A = Option ℕ × ℕ} (addr, value) (row.addr, row.value) = same_Some _ _ e in
          let a : addr ≡ row.addr = ap (λ (p : Option ℕ × ℕ). p.0) same in
          let v : value ≡ row.value = ap (λ (p : Option ℕ × ℕ). p.1) same in (
            subst (IsAddrKnown (length pool)) (sym a) (subst (λ (r : Row). IsAddrKnown (length pool) r.addr) here (has.addrs n row within)),
            subst (λ (i : ℕ). i < length pool) (sym v) (subst (λ (r : Row). r.value < length pool) here (has.values n row within)),
            (λ j. transfer_slices (ids_transfer pool (sym a j) (sym v j))),
          )

module _ (pool : List Node) (table : PatternTable) (has : HasExprs pool table) (fits : (id : ℕ) → id < length pool → ExprFits (expr_of_id pool id)) where
  ids_fit : (addr : Option ℕ) (value : ℕ) → IsAddrKnown (length pool) addr → value < length pool → All SliceFits (transfer_slices (ids_transfer pool addr value))
  ids_fit None value a v = slices_fit (expr_of_id pool value) (fits value v)
  ids_fit (Some addr) value a v =
      All-append SliceFits (slices (expr_of_id pool addr)) (slices (expr_of_id pool value)) (slices_fit (expr_of_id pool addr) (fits addr a)) (slices_fit (expr_of_id pool value) (fits value v))

  row_fits : (n : ℕ) (o : Option Row) → slice_get table.rows n ≡ o → All SliceFits (row_slices pool o)
  row_fits n None e = none
  row_fits n (Some row) e =
      let within = slice_get_within table.rows n row e in
      let here = get_or_from_slice_get table.rows n row row e in
      ids_fit row.addr row.value
      (subst (λ (r : Row). IsAddrKnown (length pool) r.addr) here (has.addrs n row within))
      (subst (λ (r : Row). r.value < length pool) here (has.values n row within))

  pub rows_fit : (numbers : List ℕ) → All SliceFits (flat_map (λ n. row_slices pool (slice_get table.rows n)) numbers)
  rows_fit [] = none
  rows_fit (n ∷ ns) =
      All-append SliceFits (row_slices pool (slice_get table.rows n)) (flat_map (λ n. row_slices pool (slice_get table.rows n)) ns) (row_fits n (slice_get table.rows n) refl) (rows_fit ns)

-- ---- each once

others_fit : (s : Slice) (ss : List Slice) → All SliceFits ss → All SliceFits (filter (is_other s) ss)
others_fit s [] h = none
others_fit s (x ∷ xs) h = by (is_other s x) (All-head SliceFits x xs h) (others_fit s xs (All-tail SliceFits x xs h))
  where
    by : (b : Bool) → SliceFits x → All SliceFits (filter (is_other s) xs) → All SliceFits (cond b (x ∷ filter (is_other s) xs) (filter (is_other s) xs))
    by true f g = All-cons SliceFits x (filter (is_other s) xs) f g
    by false f g = g

pub once_fit : (ss : List Slice) → All SliceFits ss → All SliceFits (once ss)
once_fit [] h = none
once_fit (s ∷ ss) h =
    All-cons SliceFits s (filter (is_other s) (once ss)) (All-head SliceFits s ss h) (others_fit s (once ss) (once_fit ss (All-tail SliceFits s ss h)))
