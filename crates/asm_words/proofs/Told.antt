-- The set of a line's words is that of the words that do the line.
use Rattle.std.proofs.Common.{◌≡◌, ◌↔◌, inl, inr, ℕ, zero, suc, ◌^◌, ◌<◌, ◌&&◌, Bool, true, false, List, [], ◌∷◌, map, length, slice_get, if◌then◌else◌, Option, None, Some, refl, sym, ap, subst, ◌∙◌, arith}
use Rattle.std.proofs.lemmas.Bool.{and_from, and_parts, cases_lt}
use Rattle.std.proofs.lemmas.Option.{get_or_from_slice_get, slice_get_within}
use Rattle.std.specs.List.{All}
use Rattle.word_fit.proofs.FilePlaces.{past_keeps}
use Rattle.bit_bdd.specs.Diagrams.{Diagrams, has_word}
use Rattle.net_model.specs.declared.hardware.Netlist.{Netlist}
use Rattle.net_model.specs.Exprs.{keep}
use Rattle.net_model.specs.Transfers.{transfer_at}
use Rattle.sym_expr.specs.declared.pool.Node.{Node}
use Rattle.transfer_set.specs.Ready.{IsReady}
use Rattle.transfer_set.specs.Rows.{row_patterns}
use Rattle.transfer_set.specs.Tables.{PatternTable}
use Rattle.transfer_set.specs.declared.row.Row.{Row}
use Rattle.nop_synth.specs.declared.meet.FieldValue.{FieldValue}
use Rattle.nop_synth.specs.Wanted.{AllBelow, all_hold, has_fields, option_list, row_set}
use Rattle.nop_synth.proofs.HeldSteps.{below-append, hold_both, hold_parts}
use Rattle.asm_text.specs.declared.line.Item.{Item}
use Rattle.asm_text.specs.Lines.{ItemFits}
use Rattle.asm_words.specs.Asked.{DoesLine}
use Rattle.asm_words.specs.Tables.{HasSets}
use Rattle.asm_words.specs.Inner.Wanted.{item_fields, kept_set, kept_sets, line_sets, number_set, row_named}
use Rattle.asm_words.proofs.Bits.{items_have, items_held}
use Rattle.asm_words.proofs.Held.{all_kept, clean, gives, keeps, named}
use Rattle.asm_words.proofs.Held as sets

-- ---- the sets are the book's

module _ (book : Diagrams) (table : PatternTable) (has : HasSets book table) (some : 0 < length book.nodes) where
  row_below : (n : ℕ) (o : Option Row) → slice_get table.rows n ≡ o → row_set o < length book.nodes
  row_below n None e = some
  row_below n (Some row) e =
      subst (λ (r : Row). r.set < length book.nodes) (get_or_from_slice_get table.rows n row row e) (has.rows n row (slice_get_within table.rows n row e))

  numbers_below : (numbers : List ℕ) → AllBelow book (map (number_set table) numbers)
  numbers_below [] = tt
  numbers_below (n ∷ ns) = (row_below n (slice_get table.rows n) refl, numbers_below ns)

  keep_below : (storage : ℕ) (o : Option ℕ) → slice_get table.keeps storage ≡ o → AllBelow book (option_list o)
  keep_below storage None e = tt
  keep_below storage (Some set) e =
      (subst (λ (s : ℕ). s < length book.nodes) (get_or_from_slice_get table.keeps storage set set e) (has.keeps storage set (slice_get_within table.keeps storage set e)), tt)

  one_below : (b : Bool) (storage : ℕ) → AllBelow book (if b then [] else option_list (slice_get table.keeps storage))
  one_below true storage = tt
  one_below false storage = keep_below storage (slice_get table.keeps storage) refl

  kept_below : (numbers : List ℕ) (count : ℕ) → AllBelow book (kept_sets table numbers count)
  unfolding kept_sets
  kept_below numbers zero = tt
  kept_below numbers (suc count) =
      below-append book (kept_sets table numbers count) (kept_set table numbers count) (kept_below numbers count) (one_below (row_named table numbers count) count)

  pub sets_below : (numbers : List ℕ) (count : ℕ) → AllBelow book (line_sets table numbers count)
  sets_below numbers count =
      below-append book (map (number_set table) numbers) (kept_sets table numbers count) (numbers_below numbers) (kept_below numbers count)

-- ---- what they hold

module _ (netlist : Netlist) (book : Diagrams) (pool : List Node) (table : PatternTable) (ready : IsReady netlist book pool table) (empty : (word : ℕ) → has_word book 0 word ≡ false) (numbers : List ℕ) (items : List Item) (count : ℕ) (some : 0 < count) (long : length table.keeps ≡ count) (fits : All (ItemFits book.bits) items) (word : ℕ) (lt : word < 2 ^ book.bits) where
  does : all_hold book (line_sets table numbers count) word ≡ true → has_fields (item_fields items) word ≡ true → DoesLine netlist (row_patterns pool table.rows) numbers items word
  does h f =
      let p = hold_parts book (map (number_set table) numbers) (kept_sets table numbers count) word h in
      record {
        clean = clean netlist book pool table ready empty numbers count word lt some (sym long) h;
        gives = gives netlist book pool table ready empty numbers word lt p.0;
        keeps = λ storage out.
            elim (cases_lt storage count) as (λ _. transfer_at netlist word storage ≡ keep) [
              | inl u ↦ (keeps netlist book pool table ready empty numbers count word storage lt p.1 u (omega (arith, u, long)) (sym (named netlist book pool table ready empty numbers storage) ∙ out)).keeps
              | inr u ↦ past_keeps netlist word storage (omega (arith, u, long, ready.patterns.storages))
            ];
        bits = items_have book.bits word items fits f;
      }

  done : DoesLine netlist (row_patterns pool table.rows) numbers items word → (all_hold book (line_sets table numbers count) word ≡ true) × (has_fields (item_fields items) word ≡ true)
  done d = (
    hold_both book (map (number_set table) numbers) (kept_sets table numbers count) word
        (sets.held netlist book pool table ready empty numbers word lt d.clean d.gives)
        (all_kept netlist book pool table ready empty numbers count word lt
        (λ storage out. record { clean = d.clean; keeps = d.keeps storage (named netlist book pool table ready empty numbers storage ∙ out) })),
    items_held book.bits word items fits d.bits,
  )

  -- for the set that is left of all words
  pub told : (sets : List ℕ) (fields : List FieldValue) → sets ≡ line_sets table numbers count → fields ≡ item_fields items → (n l : Bool) → n ≡ (l && (all_hold book sets word && has_fields fields word)) → l ≡ true → (n ≡ true) ↔ DoesLine netlist (row_patterns pool table.rows) numbers items word
  told sets fields same_sets same_fields n l e full =
      let whole : n ≡ (l && (all_hold book (line_sets table numbers count) word && has_fields (item_fields items) word)) = e
      ∙ ap (λ (xs : List ℕ). l && (all_hold book xs word && has_fields fields word)) same_sets
      ∙ ap (λ (fs : List FieldValue). l && (all_hold book (line_sets table numbers count) word && has_fields fs word)) same_fields in (
        λ h.
            (let p = and_parts l (all_hold book (line_sets table numbers count) word && has_fields (item_fields items) word) (sym whole ∙ h) in
            let q = and_parts (all_hold book (line_sets table numbers count) word) (has_fields (item_fields items) word) p.1 in
            does q.0 q.1),
        λ d.
            (let p = done d in
            whole ∙ and_from _ _ full (and_from _ _ p.0 p.1)),
      )
