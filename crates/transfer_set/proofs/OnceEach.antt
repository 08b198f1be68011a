-- No pattern is told twice, and texts tell patterns apart.
use Rattle.std.proofs.Common.{◌≡◌, inl, inr, ℕ, ◌+◌, ◌<◌, ◌≤◌, ◌==◌, ◌&&◌, Bool, true, false, if◌then◌else◌, List, [], ◌∷◌, ◌++◌, length, slice_index_or, IsPermutation, refl, sym, ap, ◌∙◌, arith}
use Rattle.std.specs.List.{sum_by}
use Rattle.std.specs.Cmp.{ranked}
use Rattle.std.specs.Cmp.Lexicographic.{slice_cmp}
use Rattle.std.specs.Ordering.{MatchOrdering, nat_cmp, ordering_then}
use Rattle.std.specs.declared.cmp.Ordering.{Ordering}
use Rattle.std.specs.declared.cmp.Ordering.TheVariants.{Less, Equal, Greater}
use Rattle.std.proofs.lemmas.Bool.{eq-eqb}
use Rattle.std.proofs.lemmas.List.Sums.{sum_by-cons}
use Rattle.std.proofs.lemmas.List.Sorted.{sum_by-IsPermutation}
use Rattle.bit_bdd.specs.Diagrams.{Diagrams, has_word}
use Rattle.net_model.specs.Patterns.{IsTextBefore}
use Rattle.net_model.specs.Exprs.{TransferModel, keep, write, write_at}
use Rattle.sym_expr.specs.declared.pool.Node.{Node}
use Rattle.transfer_set.specs.Inner.Entries.{entry_transfer, list_if, transfers_under}
use Rattle.transfer_set.specs.Rows.{entries_of, entry_of}
use Rattle.transfer_set.specs.Inner.Sources.{changes}
use Rattle.transfer_set.specs.declared.row.Row.{Row}
use Rattle.transfer_set.proofs.Moved.{two_count}

-- whether a row is the storage's and has the word, as a number
abbrev pub counts : Diagrams → ℕ → ℕ → Row → ℕ
counts book id word row = if (row.storage == id) && has_word book row.set word then 1 else 0

held_count : (book : Diagrams) (pool : List Node) (rows : List Row) (id word : ℕ) → length (transfers_under book pool (entries_of rows) id word) ≡ sum_by (counts book id word) rows
held_count book pool [] id word = refl
held_count book pool (row ∷ rows) id word =
    by (entry_transfer pool (entry_of row)) ((row.storage == id) && has_word book row.set word) (held_count book pool rows id word)
    ∙ sym (sum_by-cons (counts book id word) row rows)
  where
    by : (m : TransferModel) (b : Bool) → length (transfers_under book pool (entries_of rows) id word) ≡ sum_by (counts book id word) rows
        → length (list_if b (m ∷ []) ++ transfers_under book pool (entries_of rows) id word) ≡ (if b then 1 else 0) + sum_by (counts book id word) rows
    by m true e = omega (arith, e)
    by m false e = omega (arith, e)

few_changes : (m : TransferModel) → length (changes m) ≤ 1
few_changes keep = omega arith
few_changes (write e) = omega arith
few_changes (write_at a e) = omega arith

few_given : (l : Bool) (m : TransferModel) → length (list_if l (changes m)) ≤ 1
few_given true m = few_changes m
few_given false m = omega arith

-- at most one of a storage's rows has the word
pub once_held : (book : Diagrams) (pool : List Node) (listed rows : List Row) → IsPermutation listed rows → (id word : ℕ) (l : Bool) (m : TransferModel)
    → transfers_under book pool (entries_of listed) id word ≡ list_if l (changes m) → sum_by (counts book id word) rows ≤ 1
once_held book pool listed rows p id word l m e =
    let few = few_given l m in
    let same = sum_by-IsPermutation (counts book id word) listed rows p in
    let count = held_count book pool listed id word in
    let long : length (transfers_under book pool (entries_of listed) id word) ≡ length (list_if l (changes m)) = ap length e in
    omega (arith, few, same, count, long)

-- so two rows of a storage don't have it
pub never_both : (book : Diagrams) (rows : List Row) (id word : ℕ) → sum_by (counts book id word) rows ≤ 1 → (i j : ℕ) (d : Row) → i < j → j < length rows
    → (slice_index_or rows i d).storage ≡ id → has_word book (slice_index_or rows i d).set word ≡ true
    → (slice_index_or rows j d).storage ≡ id → has_word book (slice_index_or rows j d).set word ≡ true → ⊥
never_both book rows id word few i j d less lt si hi sj hj =
    let two = two_count (counts book id word) rows i j d less lt in
    let a = one (slice_index_or rows i d) si hi in
    let b = one (slice_index_or rows j d) sj hj in
    omega (arith, few, two, a, b)
  where
    one : (row : Row) → row.storage ≡ id → has_word book row.set word ≡ true → counts book id word row ≡ 1
    one row s h = (λ k. if eq-eqb row.storage id s k && h k then 1 else 0)

-- a text that is neither after another nor the same is before it
pub text_before : (xs ys : List ℕ) → (slice_cmp nat_cmp ys xs ≡ Less → ⊥) → (xs ≡ ys → ⊥) → IsTextBefore xs ys
text_before [] [] n d = d refl
text_before [] (y ∷ ys) n d = tt
text_before (x ∷ xs) [] n d = absurd (n refl)
text_before (x ∷ xs) (y ∷ ys) n d = by (nat_cmp y x) (ranked y x (nat_cmp y x) refl) n (λ h k. text_before xs ys h k)
  where
    by : (o : Ordering) → MatchOrdering o (y < x) (y ≡ x) (x < y) → (ordering_then o (slice_cmp nat_cmp ys xs) ≡ Less → ⊥)
        → ((slice_cmp nat_cmp ys xs ≡ Less → ⊥) → (xs ≡ ys → ⊥) → IsTextBefore xs ys) → IsTextBefore (x ∷ xs) (y ∷ ys)
    by Less h n rest = absurd (n refl)
    by Equal h n rest = inr (sym h, rest n (λ e. d (λ k. sym h k ∷ e k)))
    by Greater h n rest = inl h
