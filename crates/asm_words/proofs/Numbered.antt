-- The numbers of the patterns that a word gives.
use Rattle.std.proofs.Common.{◌≡◌, ℕ, zero, suc, ◌+◌, ◌^◌, ◌<◌, ◌≤◌, Bool, true, false, if◌then◌else◌, List, [], ◌∷◌, ◌++◌, map, length, drop, append_assoc, slice_get, Option, None, Some, option_map, refl, sym, ap, subst, ◌∙◌, arith, add-zero}
use Rattle.std.proofs.lemmas.Bool.{true≢false}
use Rattle.std.proofs.lemmas.List.{append-nil, drop_all}
use Rattle.std.proofs.lemmas.Option.{get_or_from_slice_get, slice_get-map, slice_get_within}
use Rattle.rec_bits.proofs.Faults.{drop_item}
use Rattle.rec_bits.proofs.Lists.{none_within}
use Rattle.std.proofs.lemmas.List.Elements.{All-weaker}
use Rattle.std.proofs.lemmas.List.Kept.{AllPairs-cons}
use Rattle.std.specs.List.{All, AllByRecursion, AllPairs, Contains, flat_map}
use Rattle.bit_bdd.specs.Diagrams.{Diagrams, has_word}
use Rattle.net_model.specs.declared.hardware.Netlist.{Netlist}
use Rattle.net_model.specs.Patterns.{Pattern}
use Rattle.net_model.specs.Transfers.{IsClean}
use Rattle.sym_expr.specs.declared.pool.Node.{Node}
use Rattle.transfer_set.specs.Ready.{IsReady}
use Rattle.transfer_set.specs.Rows.{row_pattern, row_patterns}
use Rattle.transfer_set.specs.Tables.{PatternTable}
use Rattle.transfer_set.specs.declared.row.Row.{Row}
use Rattle.transfer_set.proofs.ReadyLaws.{row_set_at}
use Rattle.asm_text.specs.declared.line.Item.{Item}
use Rattle.asm_words.specs.Asked.{Gives}
use Rattle.asm_words.specs.Shown.{ShowsLine, item_of}
use Rattle.asm_words.specs.Slices.{line_slices, once, pattern_slices}
use Rattle.asm_words.specs.Inner.Given.{numbers_in, row_holds, row_slices}
use Rattle.asm_words.specs.declared.slices.Slice.{Slice}

drop_at : (rows : List Row) (i : ℕ) (row : Row) → slice_get rows i ≡ Some row → drop i rows ≡ row ∷ drop (i + 1) rows
drop_at rows i row e =
    drop_item rows i row (slice_get_within rows i row e) (sym (get_or_from_slice_get rows i row row e))

contains-cons : (xs : List ℕ) (x n : ℕ) → Contains xs n → Contains (x ∷ xs) n
contains-cons xs x n c = (suc c.0, omega (arith, c.1), c.2)

-- ---- in order

low : (book : Diagrams) (rows : List Row) (k word : ℕ) → All (λ (n : ℕ). k ≤ n) (numbers_in book rows k word)
low book [] k word = λ i d h. absurd (omega arith)
low book (row ∷ rows) k word = by (has_word book row.set word) (All-weaker (λ (n : ℕ). k + 1 ≤ n) (λ (n : ℕ). k ≤ n) (λ n h. omega (arith, h)) (numbers_in book rows (k + 1) word) (low book rows (k + 1) word))
  where
    by : (b : Bool) → All (λ (n : ℕ). k ≤ n) (numbers_in book rows (k + 1) word) → All (λ (n : ℕ). k ≤ n) ((if b then k ∷ [] else []) ++ numbers_in book rows (k + 1) word)
    by true h zero d lt = omega arith
    by true h (suc i) d lt = h i d (omega arith)
    by false h i d lt = h i d lt

pub ascend : (book : Diagrams) (rows : List Row) (k word : ℕ) → AllPairs (λ (m : ℕ) (n : ℕ). m < n) (numbers_in book rows k word)
ascend book [] k word = λ i j d h l. absurd (omega arith)
ascend book (row ∷ rows) k word = by (has_word book row.set word) (ascend book rows (k + 1) word)
  where
    by : (b : Bool) → AllPairs (λ (m : ℕ) (n : ℕ). m < n) (numbers_in book rows (k + 1) word) → AllPairs (λ (m : ℕ) (n : ℕ). m < n) ((if b then k ∷ [] else []) ++ numbers_in book rows (k + 1) word)
    by true h =
        AllPairs-cons (λ (m : ℕ) (n : ℕ). m < n) k (numbers_in book rows (k + 1) word)
        (All-weaker (λ (n : ℕ). k + 1 ≤ n) (λ (n : ℕ). k < n) (λ n l. omega (arith, l)) (numbers_in book rows (k + 1) word) (low book rows (k + 1) word)) h
    by false h = h

module _ (netlist : Netlist) (book : Diagrams) (pool : List Node) (table : PatternTable) (ready : IsReady netlist book pool table) (word : ℕ) (lt : word < 2 ^ book.bits) where
  -- rows that stand in the table from a place on
  abbrev Stand : List Row → ℕ → Type 0
  Stand rows k = (i : ℕ) → slice_get rows i ≡ slice_get table.rows (k + i)

  stand_on : (row : Row) (rows : List Row) (k : ℕ) → Stand (row ∷ rows) k → Stand rows (k + 1)
  stand_on row rows k s i = s (suc i) ∙ ap (slice_get table.rows) (let e : k + suc i ≡ k + 1 + i = omega arith in e)

  first_at : (row : Row) (rows : List Row) (k : ℕ) → Stand (row ∷ rows) k → slice_get table.rows k ≡ Some row
  first_at row rows k s = sym (s 0 ∙ ap (slice_get table.rows) (add-zero k))

  pattern_at : (k : ℕ) (row : Row) → slice_get table.rows k ≡ Some row → slice_get (row_patterns pool table.rows) k ≡ Some (row_pattern pool row)
  pattern_at k row e = slice_get-map (row_pattern pool) table.rows k ∙ ap (option_map (row_pattern pool)) e

  given : (rows : List Row) (k : ℕ) → Stand rows k → AllByRecursion (λ n. Gives netlist word (slice_get (row_patterns pool table.rows) n)) (numbers_in book rows k word)
  given [] k s = tt
  given (row ∷ rows) k s = by (has_word book row.set word) refl (given rows (k + 1) (stand_on row rows k s))
    where
      by : (b : Bool) → has_word book row.set word ≡ b → AllByRecursion (λ n. Gives netlist word (slice_get (row_patterns pool table.rows) n)) (numbers_in book rows (k + 1) word) →
          AllByRecursion (λ n. Gives netlist word (slice_get (row_patterns pool table.rows) n)) ((if b then k ∷ [] else []) ++ numbers_in book rows (k + 1) word)
      by true e h =
          (let w = (row_set_at netlist book pool table ready k row (first_at row rows k s) word lt).0 e in
          (subst (λ (o : Option Pattern). Gives netlist word o) (sym (pattern_at k row (first_at row rows k s))) w.gives, h))
      by false e h = h

  found_at : (clean : IsClean netlist word) (rows : List Row) (k i n : ℕ) → Stand rows k → n ≡ k + i → i < length rows → Gives netlist word (slice_get (row_patterns pool table.rows) n) → Contains (numbers_in book rows k word) n
  found_at clean [] k i n s e l g = absurd (omega arith)
  found_at clean (row ∷ rows) k zero n s e l g = by (has_word book row.set word) holds
    where
      holds : has_word book row.set word ≡ true
      holds =
          (row_set_at netlist book pool table ready k row (first_at row rows k s) word lt).1
          (record { clean = clean; gives = subst (λ (o : Option Pattern). Gives netlist word o) (ap (slice_get (row_patterns pool table.rows)) (let q : n ≡ k = omega arith in q) ∙ pattern_at k row (first_at row rows k s)) g })

      by : (b : Bool) → b ≡ true → Contains ((if b then k ∷ [] else []) ++ numbers_in book rows (k + 1) word) n
      by true t = (0, omega arith, (let q : k ≡ n = omega arith in q))
      by false t = absurd (true≢false (sym t))
  found_at clean (row ∷ rows) k (suc i) n s e l g = by (has_word book row.set word) (found_at clean rows (k + 1) i n (stand_on row rows k s) (omega arith) (omega arith) g)
    where
      by : (b : Bool) → Contains (numbers_in book rows (k + 1) word) n → Contains ((if b then k ∷ [] else []) ++ numbers_in book rows (k + 1) word) n
      by true c = contains-cons (numbers_in book rows (k + 1) word) k n c
      by false c = c

  short : (n : ℕ) → Gives netlist word (slice_get (row_patterns pool table.rows) n) → n < length table.rows
  short n g = by table.rows n (subst (λ (o : Option Pattern). Gives netlist word o) (slice_get-map (row_pattern pool) table.rows n) g)
    where
      by : (rows : List Row) (i : ℕ) → Gives netlist word (option_map (row_pattern pool) (slice_get rows i)) → i < length rows
      by [] i g = absurd g
      by (row ∷ rows) zero g = omega arith
      by (row ∷ rows) (suc i) g = omega (arith, by rows i g)

  -- the slices in rows are those in their patterns
  slices_of : (o : Option Row) → row_slices pool o ≡ pattern_slices (option_map (row_pattern pool) o)
  slices_of None = refl
  slices_of (Some row) = refl

  pub same_slices : (ns : List ℕ) → flat_map (λ n. row_slices pool (slice_get table.rows n)) ns ≡ line_slices (row_patterns pool table.rows) ns
  same_slices [] = refl
  same_slices (n ∷ ns) =
      let one : row_slices pool (slice_get table.rows n) ≡ pattern_slices (slice_get (row_patterns pool table.rows) n) = slices_of (slice_get table.rows n) ∙ ap pattern_slices (sym (slice_get-map (row_pattern pool) table.rows n)) in
      let more = same_slices ns in
      (λ j. one j ++ more j)

  pub shows : IsClean netlist word → (numbers : List ℕ) (found : List Slice) (items : List Item) → numbers ≡ numbers_in book table.rows 0 word →
      found ≡ once (flat_map (λ n. row_slices pool (slice_get table.rows n)) numbers) → items ≡ map (item_of word) found → ShowsLine netlist (row_patterns pool table.rows) word numbers items
  shows clean numbers found items e f g = record {
    clean = clean;
    ascend = subst (AllPairs (λ (m : ℕ) (n : ℕ). m < n)) (sym e) (ascend book table.rows 0 word);
    gives = subst (AllByRecursion (λ n. Gives netlist word (slice_get (row_patterns pool table.rows) n))) (sym e) (given table.rows 0 from_start);
    all = λ n gives. subst (λ (ns : List ℕ). Contains ns n) (sym e) (found_at clean table.rows 0 n n from_start (omega arith) (short n gives) gives);
    bits = g ∙ ap (λ (ss : List Slice). map (item_of word) ss) (f ∙ ap once (same_slices numbers));
  }
    where
      from_start : Stand table.rows 0
      from_start i = ap (slice_get table.rows) (let e : i ≡ 0 + i = omega arith in e)

-- ---- one row further

pub numbers_more : (book : Diagrams) (rows : List Row) (word i : ℕ) (found more : List ℕ) → i < length rows → numbers_in book rows 0 word ≡ found ++ numbers_in book (drop i rows) i word → (holds : Bool) → holds ≡ row_holds book word (slice_get rows i) → more ≡ (if holds then found ++ i ∷ [] else found) → numbers_in book rows 0 word ≡ more ++ numbers_in book (drop (i + 1) rows) (i + 1) word
numbers_more book rows word i found more lt e holds h f = by (slice_get rows i) refl (f ∙ ap (λ (b : Bool). if b then found ++ i ∷ [] else found) h)
  where
    by : (o : Option Row) → slice_get rows i ≡ o → more ≡ (if row_holds book word o then found ++ i ∷ [] else found) → numbers_in book rows 0 word ≡ more ++ numbers_in book (drop (i + 1) rows) (i + 1) word
    by None at f = absurd (none_within rows i lt at)
    by (Some row) at f =
        e ∙ ap (λ (rs : List Row). found ++ numbers_in book rs i word) (drop_at rows i row at)
        ∙ sides (has_word book row.set word) f
      where
        later : List ℕ
        later = numbers_in book (drop (i + 1) rows) (i + 1) word

        sides : (b : Bool) → more ≡ (if b then found ++ i ∷ [] else found) → found ++ ((if b then i ∷ [] else []) ++ later) ≡ more ++ later
        sides true f = sym (append_assoc found (i ∷ []) later) ∙ ap (λ (xs : List ℕ). xs ++ later) (sym f)
        sides false f = ap (λ (xs : List ℕ). xs ++ later) (sym f)

pub numbers_end : (book : Diagrams) (rows : List Row) (word i : ℕ) (found : List ℕ) → length rows ≤ i → numbers_in book rows 0 word ≡ found ++ numbers_in book (drop i rows) i word → found ≡ numbers_in book rows 0 word
numbers_end book rows word i found all e =
    sym (e ∙ ap (λ (rs : List Row). found ++ numbers_in book rs i word) (drop_all i rows all) ∙ append-nil found)
