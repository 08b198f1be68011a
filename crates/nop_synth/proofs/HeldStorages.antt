-- Words that the sets of kept storages hold keep these storages.
use Rattle.std.proofs.Common.{◌≡◌, ℕ, zero, suc, ◌<◌, ◌^◌, inl, inr, ◌⊎◌, Bool, true, false, List, [], length, if◌then◌else◌, Option, Some, None, refl, sym, ◌∙◌, ap, arith, subst}
use Rattle.std.specs.List.{slice_get}
use Rattle.std.proofs.lemmas.Bool.{true≢false, and_from, cases_lt}
use Rattle.std.proofs.lemmas.Option.{slice_get_within}
use Rattle.rec_bits.proofs.Lists.{none_within}
use Rattle.bit_bdd.specs.Diagrams.{Diagrams}
use Rattle.net_model.specs.declared.hardware.Netlist.{Netlist}
use Rattle.net_model.specs.Exprs.{keep}
use Rattle.net_model.specs.declared.hardware.Space.{Space}
use Rattle.net_model.specs.declared.hardware.Space.TheVariants.{Memory as InMemory, File as InFile}
use Rattle.net_model.specs.Nets.{place_in}
use Rattle.net_model.specs.Transfers.{IsClean, transfer_at, space_transfer}
use Rattle.sym_expr.specs.declared.pool.Node.{Node}
use Rattle.transfer_set.specs.Ready.{IsReady}
use Rattle.transfer_set.specs.Sets.{IsKeepSet}
use Rattle.transfer_set.specs.Tables.{PatternTable}
use Rattle.transfer_set.proofs.ReadyLaws.{keep_set_at}
use Rattle.form_model.specs.Live.{Regs}
use Rattle.nop_synth.specs.Wanted.{all_hold, AllBelow, keep_at, option_list, place_of, space_sets, is_wanted, register_sets}
use Rattle.word_fit.proofs.FilePlaces.{file_at, file_told, past_keeps}
use Rattle.nop_synth.proofs.HeldSteps.{below-append, hold_both, hold_parts, one_hold}

module _ (netlist : Netlist) (book : Diagrams) (pool : List Node) (table : PatternTable) (ready : IsReady netlist book pool table) where
  -- ---- storages that are kept

  keep_within : (id set : ℕ) → slice_get table.keeps id ≡ Some set → id < length netlist.storages
  keep_within id set e = subst (λ n. id < n) ready.patterns.storages (slice_get_within table.keeps id set e)

  keep_is : (id set : ℕ) → slice_get table.keeps id ≡ Some set → IsKeepSet netlist book id set
  keep_is id set e = keep_set_at netlist book pool table ready id set e

  keep_some : (id : ℕ) → id < length netlist.storages → slice_get table.keeps id ≡ None → ⊥
  keep_some id lt e = none_within table.keeps id (subst (λ n. id < n) (sym ready.patterns.storages) lt) e

  -- words that the set holds keep the storage
  kept_by : (id word : ℕ) (o : Option ℕ) → slice_get table.keeps id ≡ o → word < 2 ^ book.bits → id < length netlist.storages → all_hold book (option_list o) word ≡ true → transfer_at netlist word id ≡ keep
  kept_by id word None e lt n h = absurd (keep_some id n e)
  kept_by id word (Some set) e lt n h = (((keep_is id set e).words word lt).0 (one_hold book set word h)).keeps

  held_by : (id word : ℕ) (o : Option ℕ) → slice_get table.keeps id ≡ o → word < 2 ^ book.bits → IsClean netlist word → (id < length netlist.storages → transfer_at netlist word id ≡ keep) → all_hold book (option_list o) word ≡ true
  held_by id word None e lt clean h = refl
  held_by id word (Some set) e lt clean h =
      and_from _ _ (((keep_is id set e).words word lt).1 (record { clean = clean; keeps = h (keep_within id set e) })) refl

  below_by : (id : ℕ) (o : Option ℕ) → slice_get table.keeps id ≡ o → AllBelow book (option_list o)
  below_by id None e = tt
  below_by id (Some set) e = ((keep_is id set e).within, tt)

  -- ---- the memory and the file

  -- the words that keep a storage, where it is there
  at_below : (o : Option ℕ) → AllBelow book (keep_at table o)
  at_below None = tt
  at_below (Some id) = below_by id (slice_get table.keeps id) refl

  at_kept : (o : Option ℕ) (id word : ℕ) → o ≡ Some id → word < 2 ^ book.bits → id < length netlist.storages → all_hold book (keep_at table o) word ≡ true → transfer_at netlist word id ≡ keep
  at_kept None id word e lt n h = absurd (cc)
  at_kept (Some k) id word e lt n h =
      let same : k ≡ id = cc in
      kept_by id word (slice_get table.keeps id) refl lt n (subst (λ j. all_hold book (option_list (slice_get table.keeps j)) word ≡ true) same h)

  at_held : (o : Option ℕ) (word : ℕ) → word < 2 ^ book.bits → IsClean netlist word → ((id : ℕ) → o ≡ Some id → id < length netlist.storages → transfer_at netlist word id ≡ keep) → all_hold book (keep_at table o) word ≡ true
  at_held None word lt clean h = refl
  at_held (Some id) word lt clean h = held_by id word (slice_get table.keeps id) refl lt clean (h id refl)

  pub space_below : (space : Space) (stored : Bool) → AllBelow book (space_sets table space stored)
  space_below space true = tt
  space_below space false = at_below (place_of table space)

  -- where a space's storage is told to be
  placed : (space : Space) (id : ℕ) → place_of table space ≡ Some id → id ≡ place_in space netlist.storages
  placed InMemory id e = (let same : table.memory ≡ id = cc in sym same ∙ ready.patterns.memory)
  placed InFile id e = file_at netlist.storages id (sym ready.patterns.file ∙ e)

  -- a space's storage that is there is told, and one that isn't keeps
  told_or_kept : (space : Space) (word : ℕ) → table.memory < length netlist.storages → (place_of table space ≡ Some (place_in space netlist.storages)) × (place_in space netlist.storages < length netlist.storages) ⊎ (space_transfer netlist space word ≡ keep)
  told_or_kept InMemory word n = inl (ap Some ready.patterns.memory, subst (λ k. k < length netlist.storages) ready.patterns.memory n)
  told_or_kept InFile word n =
      elim (cases_lt (place_in InFile netlist.storages) (length netlist.storages)) as (λ _. (table.file ≡ Some (place_in InFile netlist.storages)) × (place_in InFile netlist.storages < length netlist.storages) ⊎ (space_transfer netlist InFile word ≡ keep)) [
        | inl lt ↦ inl (ready.patterns.file ∙ file_told netlist.storages lt, lt)
        | inr ge ↦ inr (past_keeps netlist word (place_in InFile netlist.storages) ge)
      ]

  pub space_kept : (space : Space) (stored : Bool) (word : ℕ) → word < 2 ^ book.bits → table.memory < length netlist.storages → all_hold book (space_sets table space stored) word ≡ true → stored ≡ false → space_transfer netlist space word ≡ keep
  space_kept space true word lt n h e = absurd (true≢false e)
  space_kept space false word lt n h e =
      elim (told_or_kept space word n) as (λ _. space_transfer netlist space word ≡ keep) [
        | inl p ↦ at_kept (place_of table space) (place_in space netlist.storages) word p.0 lt p.1 h
        | inr k ↦ k
      ]

  pub space_held : (space : Space) (stored : Bool) (word : ℕ) → word < 2 ^ book.bits → IsClean netlist word → (stored ≡ false → space_transfer netlist space word ≡ keep) → all_hold book (space_sets table space stored) word ≡ true
  space_held space true word lt clean h = refl
  space_held space false word lt clean h =
      at_held (place_of table space) word lt clean (λ id e n. subst (λ k. transfer_at netlist word k ≡ keep) (sym (placed space id e)) (h refl))

  -- ---- registers

  choice_below : (b : Bool) (r : ℕ) → AllBelow book (if b then option_list (slice_get table.keeps r) else [])
  choice_below true r = below_by r (slice_get table.keeps r) refl
  choice_below false r = tt

  pub registers_below : (live written : Regs) (n : ℕ) → AllBelow book (register_sets table live written n)
  unfolding register_sets
  registers_below live written zero = tt
  registers_below live written (suc r) =
      below-append book (register_sets table live written r) (if is_wanted table live written r then option_list (slice_get table.keeps r) else [])
      (registers_below live written r) (choice_below (is_wanted table live written r) r)

  choice_kept : (b : Bool) (r word : ℕ) → word < 2 ^ book.bits → r < length netlist.storages → all_hold book (if b then option_list (slice_get table.keeps r) else []) word ≡ true → b ≡ true → transfer_at netlist word r ≡ keep
  choice_kept true r word lt n h e = kept_by r word (slice_get table.keeps r) refl lt n h
  choice_kept false r word lt n h e = absurd (true≢false (sym e))

  pub registers_kept : (live written : Regs) (n word r : ℕ) → word < 2 ^ book.bits → all_hold book (register_sets table live written n) word ≡ true → r < n → r < length netlist.storages → is_wanted table live written r ≡ true → transfer_at netlist word r ≡ keep
  unfolding register_sets
  registers_kept live written zero word r lt h p q e = absurd (omega arith)
  registers_kept live written (suc n) word r lt h p q e =
      let k = hold_parts book (register_sets table live written n) (if is_wanted table live written n then option_list (slice_get table.keeps n) else []) word h in
      elim (cases_lt r n) as (λ _. transfer_at netlist word r ≡ keep) [
        | inl u ↦ registers_kept live written n word r lt k.0 u q e
        | inr u ↦
            (let same : n ≡ r = omega arith in
            choice_kept (is_wanted table live written r) r word lt q
            (subst (λ i. all_hold book (if is_wanted table live written i then option_list (slice_get table.keeps i) else []) word ≡ true) same k.1) e)
      ]

  choice_held : (b : Bool) (r word : ℕ) → word < 2 ^ book.bits → IsClean netlist word → (b ≡ true → r < length netlist.storages → transfer_at netlist word r ≡ keep) → all_hold book (if b then option_list (slice_get table.keeps r) else []) word ≡ true
  choice_held true r word lt clean h = held_by r word (slice_get table.keeps r) refl lt clean (h refl)
  choice_held false r word lt clean h = refl

  pub registers_held : (live written : Regs) (n word : ℕ) → word < 2 ^ book.bits → IsClean netlist word → ((r : ℕ) → is_wanted table live written r ≡ true → r < length netlist.storages → transfer_at netlist word r ≡ keep) → all_hold book (register_sets table live written n) word ≡ true
  unfolding register_sets
  registers_held live written zero word lt clean h = refl
  registers_held live written (suc n) word lt clean h =
      hold_both book (register_sets table live written n) (if is_wanted table live written n then option_list (slice_get table.keeps n) else []) word
      (registers_held live written n word lt clean h) (choice_held (is_wanted table live written n) n word lt clean (h n))
