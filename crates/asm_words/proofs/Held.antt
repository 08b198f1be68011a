-- Words that the wanted sets hold are those that do a line.
use Rattle.std.proofs.Common.{◌≡◌, inl, inr, ℕ, zero, suc, ◌+◌, ◌^◌, ◌<◌, ◌||◌, Bool, true, false, List, [], ◌∷◌, ◌++◌, map, length, slice_get, if◌then◌else◌, Option, None, Some, option_map, refl, sym, ap, subst, ◌∙◌, add-one, append_assoc, arith}
use Rattle.std.proofs.lemmas.Bool.{and_from, and_parts, cases_lt, true≢false}
use Rattle.std.proofs.lemmas.Option.{slice_get-map}
use Rattle.std.specs.List.{AllByRecursion}
use Rattle.rec_bits.proofs.Lists.{none_within}
use Rattle.bit_bdd.specs.Diagrams.{Diagrams, has_word}
use Rattle.net_model.specs.declared.hardware.Netlist.{Netlist}
use Rattle.net_model.specs.Patterns.{Pattern}
use Rattle.net_model.specs.Transfers.{IsClean, Keeps}
use Rattle.sym_expr.specs.declared.pool.Node.{Node}
use Rattle.transfer_set.specs.Ready.{IsReady}
use Rattle.transfer_set.specs.Rows.{row_pattern, row_patterns}
use Rattle.transfer_set.specs.Tables.{PatternTable}
use Rattle.transfer_set.specs.declared.row.Row.{Row}
use Rattle.transfer_set.proofs.ReadyLaws.{keep_set_at, row_set_at}
use Rattle.nop_synth.specs.Wanted.{all_hold, option_list, row_set}
use Rattle.nop_synth.proofs.HeldSteps.{hold_both, hold_parts}
use Rattle.asm_words.specs.Asked.{Gives, is_named, is_of}
use Rattle.asm_words.specs.Inner.Wanted.{is_row_of, kept_set, kept_sets, line_sets, number_set, row_named}

module _ (netlist : Netlist) (book : Diagrams) (pool : List Node) (table : PatternTable) (ready : IsReady netlist book pool table) (empty : (word : ℕ) → has_word book 0 word ≡ false) where
  abbrev patterns : List Pattern
  patterns = row_patterns pool table.rows

  -- ---- the patterns of a line

  pub at_row : (n : ℕ) → slice_get patterns n ≡ option_map (row_pattern pool) (slice_get table.rows n)
  at_row n = slice_get-map (row_pattern pool) table.rows n

  given : (n word : ℕ) (o : Option Row) → slice_get table.rows n ≡ o → word < 2 ^ book.bits → has_word book (row_set o) word ≡ true → IsClean netlist word × Gives netlist word (option_map (row_pattern pool) o)
  given n word None e lt h = absurd (true≢false (sym h ∙ empty word))
  given n word (Some row) e lt h = (let w = (row_set_at netlist book pool table ready n row e word lt).0 h in (w.clean, w.gives))

  pub gives : (numbers : List ℕ) (word : ℕ) → word < 2 ^ book.bits → all_hold book (map (number_set table) numbers) word ≡ true → AllByRecursion (λ n. Gives netlist word (slice_get patterns n)) numbers
  gives [] word lt h = tt
  gives (n ∷ ns) word lt h =
      let p : (has_word book (number_set table n) word ≡ true) × (all_hold book (map (number_set table) ns) word ≡ true) = and_parts _ _ h in
      (subst (λ (o : Option Pattern). Gives netlist word o) (sym (at_row n)) (given n word (slice_get table.rows n) refl lt p.0).1, gives ns word lt p.1)

  held_one : (n word : ℕ) (o : Option Row) → slice_get table.rows n ≡ o → word < 2 ^ book.bits → IsClean netlist word → Gives netlist word (option_map (row_pattern pool) o) → has_word book (row_set o) word ≡ true
  held_one n word None e lt clean g = absurd g
  held_one n word (Some row) e lt clean g = (row_set_at netlist book pool table ready n row e word lt).1 (record { clean = clean; gives = g })

  pub held : (numbers : List ℕ) (word : ℕ) → word < 2 ^ book.bits → IsClean netlist word → AllByRecursion (λ n. Gives netlist word (slice_get patterns n)) numbers → all_hold book (map (number_set table) numbers) word ≡ true
  held [] word lt clean g = refl
  held (n ∷ ns) word lt clean g =
      and_from _ _ (held_one n word (slice_get table.rows n) refl lt clean (subst (λ (o : Option Pattern). Gives netlist word o) (at_row n) g.0)) (held ns word lt clean g.1)

  -- ---- the storages that they name

  of_row : (storage : ℕ) (o : Option Row) → is_of storage (option_map (row_pattern pool) o) ≡ is_row_of storage o
  of_row storage None = refl
  of_row storage (Some row) = refl

  pub named : (numbers : List ℕ) (storage : ℕ) → is_named patterns numbers storage ≡ row_named table numbers storage
  named [] storage = refl
  named (n ∷ ns) storage =
      let one : is_of storage (slice_get patterns n) ≡ is_row_of storage (slice_get table.rows n) = ap (is_of storage) (at_row n) ∙ of_row storage (slice_get table.rows n) in
      let more = named ns storage in
      (λ j. one j || more j)

  -- ---- the storages that are to keep

  kept_by : (storage word : ℕ) (o : Option ℕ) → slice_get table.keeps storage ≡ o → word < 2 ^ book.bits → storage < length table.keeps → all_hold book (option_list o) word ≡ true → Keeps netlist storage word
  kept_by storage word None e lt n h = absurd (none_within table.keeps storage n e)
  kept_by storage word (Some set) e lt n h =
      (let p : (has_word book set word ≡ true) × (true ≡ true) = and_parts _ _ h in
      ((keep_set_at netlist book pool table ready storage set e).words word lt).0 p.0)

  held_by : (storage word : ℕ) (o : Option ℕ) → slice_get table.keeps storage ≡ o → word < 2 ^ book.bits → Keeps netlist storage word → all_hold book (option_list o) word ≡ true
  held_by storage word None e lt k = refl
  held_by storage word (Some set) e lt k = and_from _ _ (((keep_set_at netlist book pool table ready storage set e).words word lt).1 k) refl

  one_kept : (b : Bool) (storage word : ℕ) → word < 2 ^ book.bits → storage < length table.keeps → all_hold book (if b then [] else option_list (slice_get table.keeps storage)) word ≡ true → b ≡ false → Keeps netlist storage word
  one_kept true storage word lt n h e = absurd (true≢false e)
  one_kept false storage word lt n h e = kept_by storage word (slice_get table.keeps storage) refl lt n h

  pub keeps : (numbers : List ℕ) (count word storage : ℕ) → word < 2 ^ book.bits → all_hold book (kept_sets table numbers count) word ≡ true → storage < count → storage < length table.keeps → row_named table numbers storage ≡ false → Keeps netlist storage word
  unfolding kept_sets
  keeps numbers zero word storage lt h p q e = absurd (omega arith)
  keeps numbers (suc count) word storage lt h p q e =
      let k = hold_parts book (kept_sets table numbers count) (kept_set table numbers count) word h in
      elim (cases_lt storage count) as (λ _. Keeps netlist storage word) [
        | inl u ↦ keeps numbers count word storage lt k.0 u q e
        | inr u ↦
            (let same : count ≡ storage = omega arith in
            one_kept (row_named table numbers storage) storage word lt q (subst (λ (i : ℕ). all_hold book (kept_set table numbers i) word ≡ true) same k.1) e)
      ]

  one_held : (b : Bool) (storage word : ℕ) → word < 2 ^ book.bits → (b ≡ false → Keeps netlist storage word) → all_hold book (if b then [] else option_list (slice_get table.keeps storage)) word ≡ true
  one_held true storage word lt h = refl
  one_held false storage word lt h = held_by storage word (slice_get table.keeps storage) refl lt (h refl)

  pub all_kept : (numbers : List ℕ) (count word : ℕ) → word < 2 ^ book.bits → ((storage : ℕ) → row_named table numbers storage ≡ false → Keeps netlist storage word) → all_hold book (kept_sets table numbers count) word ≡ true
  unfolding kept_sets
  all_kept numbers zero word lt h = refl
  all_kept numbers (suc count) word lt h =
      hold_both book (kept_sets table numbers count) (kept_set table numbers count) word
      (all_kept numbers count word lt h) (one_held (row_named table numbers count) count word lt (h count))

  -- ---- some set makes the word clean

  pub clean : (numbers : List ℕ) (count word : ℕ) → word < 2 ^ book.bits → 0 < count → count ≡ length table.keeps → all_hold book (line_sets table numbers count) word ≡ true → IsClean netlist word
  clean [] count word lt some e h = (keeps [] count word 0 lt h some (omega (arith, some, e)) refl).clean
  clean (n ∷ ns) count word lt some e h =
      (let p : (has_word book (number_set table n) word ≡ true) × (all_hold book (map (number_set table) ns ++ kept_sets table (n ∷ ns) count) word ≡ true) = and_parts _ _ h in
      (given n word (slice_get table.rows n) refl lt p.0).0)

-- ---- one storage further

pub kept_more : (table : PatternTable) (numbers : List ℕ) (count : ℕ) (front sets more : List ℕ) → sets ≡ front ++ kept_sets table numbers count → more ≡ sets ++ kept_set table numbers count → more ≡ front ++ kept_sets table numbers (count + 1)
unfolding kept_sets
kept_more table numbers count front sets more e f =
    f ∙ ap (λ (xs : List ℕ). xs ++ kept_set table numbers count) e ∙ append_assoc front (kept_sets table numbers count) (kept_set table numbers count)
    ∙ ap (λ (n : ℕ). front ++ kept_sets table numbers n) (sym (add-one count))
