-- The sets of words that are chosen for a pattern.
use Rattle.std.proofs.Common.{◌≡◌, ◌↔◌, ◌≢◌, ℕ, ◌^◌, ◌<◌, ◌≤◌, ◌&&◌, nat_lt, if◌then◌else◌, Bool, true, false, true≢false, List, Some, None, length, slice_get, slice_index, refl, sym, ap, subst, ◌∙◌}
use Rattle.std.specs.Prelude.{bit_or}
use Rattle.bit_bdd.specs.Diagrams.{Diagrams, Extends, has_word}
use Rattle.net_model.specs.declared.hardware.Netlist.{Netlist}
use Rattle.net_model.specs.declared.hardware.Space.TheVariants.{File as InFile}
use Rattle.net_model.specs.declared.hardware.Storage.{Storage}
use Rattle.net_model.specs.Nets.{file_place, memory_id, place_in}
use Rattle.net_model.specs.Patterns.{IsWordOf, Pattern}
use Rattle.sym_expr.specs.declared.pool.Node.{Node}
use Rattle.net_model.specs.Transfers.{Keeps, StepsOn}
use Rattle.transfer_set.specs.Tables.{PatternTable}
use Rattle.form_set.specs.declared.pattern_ids.PatternIds.{PatternIds}
use Rattle.form_set.specs.Inner.PatternIds.{InSet, ArePatternIds, ids_pattern}
use Rattle.transfer_set.specs.Ready.{IsReady}
use Rattle.form_set.specs.Words.{CanJump, ForEachSetting, CanKeep, IsSetOf, Joins, joins, fails, none, WordKeepsMemory, KeepsOthers, is_register_storage, with, CanTurn, WordKeepsBoth}
use Rattle.form_set.proofs.Registers.{no_register, register_is}
use Rattle.form_set.proofs.Holding.{and_set, each_is, keep_is, memory_kept, mode_kept, no_file, one_more, other_file, other_memory, own_file, own_memory, step_is}
use Rattle.form_set.specs.Inner.Holds.{KeepsMemory, StepsTo}
use Rattle.std.proofs.lemmas.Bool.{ltb-true, ltb-false}

-- where the file's storage is told to be
file_where : (storages : List Storage) (id : ℕ) → Some id ≡ file_place storages → (id ≡ place_in InFile storages) × (place_in InFile storages < length storages)
file_where storages id = by (nat_lt (place_in InFile storages) (length storages)) refl
  where
    by : (b : Bool) → nat_lt (place_in InFile storages) (length storages) ≡ b → Some id ≡ (if b then Some (place_in InFile storages) else None) → (id ≡ place_in InFile storages) × (place_in InFile storages < length storages)
    by true e h = (cc, ltb-true _ _ e)
    by false e h = absurd (cc)

file_past : (storages : List Storage) → None ≡ file_place storages → length storages ≤ place_in InFile storages
file_past storages = by (nat_lt (place_in InFile storages) (length storages)) refl
  where
    by : (b : Bool) → nat_lt (place_in InFile storages) (length storages) ≡ b → None ≡ (if b then Some (place_in InFile storages) else None) → length storages ≤ place_in InFile storages
    by true e h = absurd (cc)
    by false e h = ltb-false _ _ e

-- a set has the words of which the same holds in other words
same_set : (book : Diagrams) (P Q : ℕ → Type 0) (set : ℕ) → IsSetOf book P set → ((word : ℕ) → P word ↔ Q word) → IsSetOf book Q set
same_set book P Q set h same = record {
  within = h.within;
  words = λ word lt. ((λ e. (same word).0 ((h.words word lt).0 e)), λ q. (h.words word lt).1 ((same word).1 q));
}

module _ (netlist : Netlist) (old new : Diagrams) (pool : List Node) (table : PatternTable) (ready : IsReady netlist old pool table) where
  -- the words that keep the memory
  memory_set : memory_id netlist.storages < length netlist.storages → (id : ℕ) → id ≡ table.memory → (set : ℕ) → set ≡ slice_index table.keeps id → IsSetOf old (Keeps netlist (memory_id netlist.storages)) set
  memory_set within id ei set es =
      let e : id ≡ memory_id netlist.storages = ei ∙ ready.patterns.memory in
      let k = keep_is netlist old (memory_id netlist.storages) _ (ready.patterns.keeps (memory_id netlist.storages) within) in
      subst (IsSetOf old (Keeps netlist (memory_id netlist.storages))) (sym (es ∙ ap (slice_index table.keeps) e)) k

  pub jump_set : (ids : PatternIds) → ArePatternIds netlist old pool ids → (id : ℕ) → id ≡ table.memory → (keeps : ℕ) → keeps ≡ slice_index table.keeps id
      → (set : ℕ) → Extends old new → set < length new.nodes → ((word : ℕ) → has_word new set word ≡ (has_word old ids.set word && has_word old keeps word))
      → IsSetOf new (WordKeepsMemory netlist (ids_pattern pool ids)) set
  jump_set ids p id ei keeps ek set grows within words =
      and_set old new (IsWordOf netlist (ids_pattern pool ids)) (Keeps netlist (memory_id netlist.storages)) (WordKeepsMemory netlist (ids_pattern pool ids))
      ids.set keeps set grows p.set (memory_set p.memory id ei keeps ek) within words (memory_kept netlist (ids_pattern pool ids))

  pub turn_set : (p : Pattern) (set : ℕ) → IsSetOf old (WordKeepsMemory netlist p) set → (id : ℕ) → id < length netlist.storages → (keeps : ℕ) → keeps ≡ slice_index table.keeps id
      → (more : ℕ) → Extends old new → more < length new.nodes → ((word : ℕ) → has_word new more word ≡ (has_word old set word && has_word old keeps word))
      → IsSetOf new (WordKeepsBoth netlist p id) more
  turn_set p set h id lt keeps ek more grows within words =
      let k = keep_is netlist old id _ (ready.patterns.keeps id lt) in
      and_set old new (WordKeepsMemory netlist p) (Keeps netlist id) (WordKeepsBoth netlist p id)
      set keeps more grows h (subst (IsSetOf old (Keeps netlist id)) (sym ek) k) within words (mode_kept netlist p id)

  pub more_set : (p : Pattern) (registers set : ℕ) → IsSetOf old (KeepsOthers netlist p registers) set → (id : ℕ) → id < length netlist.storages
      → (one : ℕ) → one ≡ 2 ^ id → (keeps : ℕ) → keeps ≡ slice_index table.keeps id
      → (more : ℕ) → Extends old new → more < length new.nodes → ((word : ℕ) → has_word new more word ≡ (has_word old set word && has_word old keeps word))
      → IsSetOf new (KeepsOthers netlist p (bit_or registers one)) more
  more_set p registers set h id lt one eo keeps ek more grows within words =
      let k = keep_is netlist old id _ (ready.patterns.keeps id lt) in
      subst (λ b. IsSetOf new (KeepsOthers netlist p (bit_or registers b)) more) (sym eo)
      (and_set old new (KeepsOthers netlist p registers) (Keeps netlist id) (KeepsOthers netlist p (with registers id))
      set keeps more grows h (subst (IsSetOf old (Keeps netlist id)) (sym ek) k) within words (one_more netlist p registers id))

  -- those that step
  pub steps_set : (ids : PatternIds) → ArePatternIds netlist old pool ids → (step : ℕ) → step ≡ table.step
      → (set : ℕ) → Extends old new → set < length new.nodes → ((word : ℕ) → has_word new set word ≡ (has_word old ids.set word && has_word old step word))
      → IsSetOf new (StepsTo netlist (ids_pattern pool ids)) set
  steps_set ids p step es set grows within words =
      and_set old new (IsWordOf netlist (ids_pattern pool ids)) (StepsOn netlist) (StepsTo netlist (ids_pattern pool ids))
      ids.set step set grows p.set (subst (IsSetOf old (StepsOn netlist)) (sym es) (step_is netlist old table.step ready.patterns.step)) within words
      (λ word. ((λ h. h), λ h. h))

  -- those that keep the memory, where it is the pattern's own storage, and where it isn't
  pub own_memory_set : (ids : PatternIds) (set id : ℕ) → id ≡ table.memory → ids.storage ≡ id → IsSetOf old (StepsTo netlist (ids_pattern pool ids)) set → IsSetOf old (KeepsMemory netlist (ids_pattern pool ids)) set
  own_memory_set ids set id ei here h = same_set old (StepsTo netlist (ids_pattern pool ids)) (KeepsMemory netlist (ids_pattern pool ids)) set h
      (own_memory netlist (ids_pattern pool ids) (here ∙ ei ∙ ready.patterns.memory))

  pub other_memory_set : (ids : PatternIds) → ArePatternIds netlist old pool ids → (set id : ℕ) → id ≡ table.memory → ids.storage ≢ id → IsSetOf old (StepsTo netlist (ids_pattern pool ids)) set
      → (keeps : ℕ) → keeps ≡ slice_index table.keeps id → (both : ℕ) → Extends old new → both < length new.nodes → ((word : ℕ) → has_word new both word ≡ (has_word old set word && has_word old keeps word))
      → IsSetOf new (KeepsMemory netlist (ids_pattern pool ids)) both
  other_memory_set ids p set id ei n h keeps ek both grows within words =
      and_set old new (StepsTo netlist (ids_pattern pool ids)) (Keeps netlist (memory_id netlist.storages)) (KeepsMemory netlist (ids_pattern pool ids))
      set keeps both grows h (memory_set p.memory id ei keeps ek) within words
      (other_memory netlist (ids_pattern pool ids) (λ e. n (e ∙ sym (ei ∙ ready.patterns.memory))))

  -- and the file
  file_set : (id : ℕ) → Some id ≡ table.file → (keeps : ℕ) → keeps ≡ slice_index table.keeps id → IsSetOf old (Keeps netlist (place_in InFile netlist.storages)) keeps
  file_set id ef keeps ek =
      let told : Some id ≡ file_place netlist.storages = ef ∙ ready.patterns.file in
      let p = file_where netlist.storages id told in
      let k = keep_is netlist old (place_in InFile netlist.storages) _ (ready.patterns.keeps (place_in InFile netlist.storages) p.1) in
      subst (IsSetOf old (Keeps netlist (place_in InFile netlist.storages))) (sym (ek ∙ ap (slice_index table.keeps) p.0)) k

  pub own_file_set : (ids : PatternIds) (set id : ℕ) → Some id ≡ table.file → ids.storage ≡ id → IsSetOf old (KeepsMemory netlist (ids_pattern pool ids)) set → IsSetOf old (KeepsOthers netlist (ids_pattern pool ids) 0) set
  own_file_set ids set id ef here h = same_set old (KeepsMemory netlist (ids_pattern pool ids)) (KeepsOthers netlist (ids_pattern pool ids) 0) set h
      (own_file netlist (ids_pattern pool ids) (here ∙ (file_where netlist.storages id (ef ∙ ready.patterns.file)).0))

  pub no_file_set : (ids : PatternIds) (set : ℕ) → None ≡ table.file → IsSetOf old (KeepsMemory netlist (ids_pattern pool ids)) set → IsSetOf old (KeepsOthers netlist (ids_pattern pool ids) 0) set
  no_file_set ids set ef h = same_set old (KeepsMemory netlist (ids_pattern pool ids)) (KeepsOthers netlist (ids_pattern pool ids) 0) set h
      (no_file netlist (ids_pattern pool ids) (file_past netlist.storages (ef ∙ ready.patterns.file)))

  pub other_file_set : (ids : PatternIds) (set id : ℕ) → Some id ≡ table.file → ids.storage ≢ id → IsSetOf old (KeepsMemory netlist (ids_pattern pool ids)) set
      → (keeps : ℕ) → keeps ≡ slice_index table.keeps id → (both : ℕ) → Extends old new → both < length new.nodes → ((word : ℕ) → has_word new both word ≡ (has_word old set word && has_word old keeps word))
      → IsSetOf new (KeepsOthers netlist (ids_pattern pool ids) 0) both
  other_file_set ids set id ef n h keeps ek both grows within words =
      and_set old new (KeepsMemory netlist (ids_pattern pool ids)) (Keeps netlist (place_in InFile netlist.storages)) (KeepsOthers netlist (ids_pattern pool ids) 0)
      set keeps both grows h (file_set id ef keeps ek) within words
      (other_file netlist (ids_pattern pool ids) (λ e. n (e ∙ sym (file_where netlist.storages id (ef ∙ ready.patterns.file)).0)))

-- ---- what is decided of them

told : (book : Diagrams) (P : ℕ → Type 0) (set f g : ℕ) (b : Bool) → (b ≡ true) ↔ ForEachSetting f (InSet book set) → f ≡ g → IsSetOf book P set
    → ((word : ℕ) → P word → word < 2 ^ book.bits) → (b ≡ true) ↔ ForEachSetting g P
told book P set f g b h e s small =
    let k = each_is book P set f s small in
    subst (λ n. (b ≡ true) ↔ ForEachSetting n P) e ((λ t. k.0 (h.0 t)), λ t. h.1 (k.1 t))

module _ (netlist : Netlist) (book : Diagrams) (pool : List Node) (table : PatternTable) (ready : IsReady netlist book pool table) (ids : PatternIds) (p : ArePatternIds netlist book pool ids) where
  pub keep_told : (registers set : ℕ) → IsSetOf book (KeepsOthers netlist (ids_pattern pool ids) registers) set → (b : Bool) → (b ≡ true) ↔ ForEachSetting ids.fields (InSet book set)
      → (b ≡ true) ↔ CanKeep netlist (ids_pattern pool ids) registers
  keep_told registers set s b h = told book (KeepsOthers netlist (ids_pattern pool ids) registers) set ids.fields _ b h p.fields s
      (λ word k. p.clean word k.given.clean)

  pub jump_told : (set : ℕ) → IsSetOf book (WordKeepsMemory netlist (ids_pattern pool ids)) set → (b : Bool) → (b ≡ true) ↔ ForEachSetting ids.fields (InSet book set)
      → (b ≡ true) ↔ CanJump netlist (ids_pattern pool ids)
  jump_told set s b h = told book (WordKeepsMemory netlist (ids_pattern pool ids)) set ids.fields _ b h p.fields s
      (λ word k. p.clean word k.given.clean)

  pub turn_told : (mode set : ℕ) → IsSetOf book (WordKeepsBoth netlist (ids_pattern pool ids) mode) set → (b : Bool) → (b ≡ true) ↔ ForEachSetting ids.fields (InSet book set)
      → (b ≡ true) ↔ CanTurn netlist (ids_pattern pool ids) mode
  turn_told mode set s b h = told book (WordKeepsBoth netlist (ids_pattern pool ids) mode) set ids.fields _ b h p.fields s
      (λ word k. p.clean word k.given.clean)

-- a register that doesn't join
pub fails_is : (netlist : Netlist) (p : Pattern) (id kept more : ℕ) (ok : Bool) → is_register_storage (slice_get netlist.storages id) ≡ true → more ≡ with kept id
    → (ok ≡ true) ↔ CanKeep netlist p more → ok ≡ false → Joins netlist p id kept kept
fails_is netlist p id kept more ok r e h n = fails ((register_is _).0 r) (λ k. true≢false (sym (h.1 (subst (CanKeep netlist p) (sym e) k)) ∙ n)) refl

pub joins_is : (netlist : Netlist) (p : Pattern) (id kept more : ℕ) (ok : Bool) → is_register_storage (slice_get netlist.storages id) ≡ true → more ≡ with kept id
    → (ok ≡ true) ↔ CanKeep netlist p more → ok ≡ true → Joins netlist p id kept more
joins_is netlist p id kept more ok r e h y = joins ((register_is _).0 r) (subst (CanKeep netlist p) e (h.0 y)) e

pub none_is : (netlist : Netlist) (p : Pattern) (id kept : ℕ) → is_register_storage (slice_get netlist.storages id) ≡ false → Joins netlist p id kept kept
none_is netlist p id kept n = none (no_register _ n) refl
