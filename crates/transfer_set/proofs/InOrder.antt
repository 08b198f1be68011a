-- Rows that were sorted are in the order of patterns.
use Rattle.std.proofs.Common.{◌≡◌, inl, inr, ◌<◌, ◌≤◌, true≢false, false, List, slice_index_or, refl, sym, arith}
use Rattle.std.specs.Cmp.{IsTotalOrder, then_total, on_total, nat_cmp_total, ranked}
use Rattle.std.specs.Cmp.Lexicographic.{lists_total, options_total, slice_cmp}
use Rattle.std.specs.Option.{option_cmp}
use Rattle.std.specs.Ordering.{MatchOrdering, is_lt, nat_cmp, ordering_then}
use Rattle.std.specs.declared.cmp.Ordering.{Ordering}
use Rattle.std.specs.declared.cmp.Ordering.TheVariants.{Less, Equal, Greater}
use Rattle.std.specs.List.Sorted.{IsSorted}
use Rattle.std.proofs.lemmas.List.MinMax.{ranks_by}
use Rattle.std.proofs.lemmas.List.Sorted.{sorted_far}
use Rattle.transfer_set.specs.Rows.{AreSorted, IsNotAfter}
use Rattle.transfer_set.specs.declared.row.Row.{Row}

-- the derived order: field by field, as the fields stand
abbrev row_cmp : Row → Row → Ordering
row_cmp a b =
    ordering_then (nat_cmp a.storage b.storage)
    (ordering_then (slice_cmp nat_cmp a.text.items b.text.items)
    (ordering_then (option_cmp nat_cmp a.addr b.addr)
    (ordering_then (nat_cmp a.value b.value)
    (ordering_then (nat_cmp a.set b.set) (nat_cmp a.fields b.fields)))))

rows_total : IsTotalOrder row_cmp
rows_total =
    then_total (on_total (λ r. r.storage) nat_cmp_total)
    (then_total (on_total (λ r. r.text.items) (lists_total nat_cmp_total))
    (then_total (on_total (λ r. r.addr) (options_total nat_cmp_total))
    (then_total (on_total (λ r. r.value) nat_cmp_total)
    (then_total (on_total (λ r. r.set) nat_cmp_total) (on_total (λ r. r.fields) nat_cmp_total)))))

-- a text that is less makes the whole less
less_then : (o p : Ordering) → is_lt (ordering_then o p) ≡ false → o ≡ Less → ⊥
less_then Less p e h = true≢false e
less_then Equal p e h = absurd (cc)
less_then Greater p e h = absurd (cc)

not_after : (a b : Row) → is_lt (row_cmp b a) ≡ false → IsNotAfter a b
not_after a b e = by (nat_cmp b.storage a.storage) (ranked b.storage a.storage (nat_cmp b.storage a.storage) refl) e
  where
    by : (o : Ordering) → MatchOrdering o (b.storage < a.storage) (b.storage ≡ a.storage) (a.storage < b.storage)
        → is_lt (ordering_then o
        (ordering_then (slice_cmp nat_cmp b.text.items a.text.items)
        (ordering_then (option_cmp nat_cmp b.addr a.addr)
        (ordering_then (nat_cmp b.value a.value)
        (ordering_then (nat_cmp b.set a.set) (nat_cmp b.fields a.fields)))))) ≡ false
        → IsNotAfter a b
    by Less h e = absurd (true≢false e)
    by Equal h e = inr (sym h, less_then (slice_cmp nat_cmp b.text.items a.text.items) _ e)
    by Greater h e = inl h

pub in_order : (rows : List Row) → IsSorted row_cmp rows → AreSorted rows
in_order rows sorted i j d less within =
    let le : i ≤ j = omega (arith, less) in
    not_after (slice_index_or rows i d) (slice_index_or rows j d) (sorted_far _ (ranks_by rows_total (λ r. r)) rows sorted i j d le within)
