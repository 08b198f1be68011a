-- The storages that a line names, and what it asks of them.
use Rattle.std.proofs.Common.{◌≡◌, ◌==◌, ◌||◌, ℕ, zero, suc, ◌<◌, Bool, true, false, List, [], ◌∷◌, map, length, slice_get, slice_index_or, Option, None, Some, refl, sym, ap, subst, ◌∙◌, arith}
use Rattle.std.proofs.lemmas.Bool.{eq-eqb, eqb-true, true≢false}
use Rattle.std.specs.List.{AllByRecursion}
use Rattle.rec_bits.proofs.Booleans.{or_left, or_right}
use Rattle.net_model.specs.declared.hardware.Netlist.{Netlist}
use Rattle.net_model.specs.Patterns.{IsPattern, Pattern}
use Rattle.net_model.specs.Exprs.{TransferModel, keep, write, write_at}
use Rattle.net_model.specs.Transfers.{transfer_at}
use Rattle.asm_text.specs.declared.line.Item.{Item}
use Rattle.asm_words.specs.Asked.{DoesLine, Gives, HasItem, is_named, is_of}
use Rattle.asm_words.specs.Laws.{HasAll}
use Rattle.asm_words.specs.Shown.{ShowsLine, item_of}
use Rattle.asm_words.specs.Slices.{line_slices, transfer_slices, once, pattern_slices}
use Rattle.asm_words.specs.declared.slices.Slice.{Slice}
use Rattle.asm_words.proofs.Alike.{AllAlike, all_left, all_right, once_enough}

-- a number that stands at a place, in patterns and in a line
at_place : (patterns : List Pattern) (k : ℕ) (p : Pattern) → k < length patterns → slice_index_or patterns k p ≡ p → slice_get patterns k ≡ Some p
at_place [] k p lt e = absurd (omega arith)
at_place (x ∷ xs) zero p lt e = ap Some e
at_place (x ∷ xs) (suc k) p lt e = at_place xs k p (omega arith) e

named_at : (patterns : List Pattern) (numbers : List ℕ) (id k n : ℕ) → k < length numbers → slice_index_or numbers k n ≡ n → is_of id (slice_get patterns n) ≡ true → is_named patterns numbers id ≡ true
named_at patterns [] id k n lt e h = absurd (omega arith)
named_at patterns (m ∷ ms) id zero n lt e h = or_left _ _ (subst (λ (i : ℕ). is_of id (slice_get patterns i) ≡ true) (sym e) h)
named_at patterns (m ∷ ms) id (suc k) n lt e h = or_right _ _ (named_at patterns ms id k n (omega arith) e h)

module _ (netlist : Netlist) (patterns : List Pattern) (all : HasAll netlist patterns) (word : ℕ) (numbers : List ℕ) (items : List Item) (shown : ShowsLine netlist patterns word numbers items) where
  -- a storage that the line doesn't name keeps

  changing : (id : ℕ) (move : TransferModel) → transfer_at netlist word id ≡ move → (move ≡ keep → ⊥) → is_named patterns numbers id ≡ false → ⊥
  changing id move e change out =
      let p : Pattern = record { storage = id; move = move } in
      let is : IsPattern netlist p = record { changes = change; word = word; given = record { clean = shown.clean; gives = e } } in
      let in_all = all p is in
      let here : slice_get patterns in_all.0 ≡ Some p = at_place patterns in_all.0 p in_all.1 in_all.2 in
      let listed = shown.all in_all.0 (subst (λ (o : Option Pattern). Gives netlist word o) (sym here) e) in
      let of : is_of id (slice_get patterns in_all.0) ≡ true = ap (is_of id) here ∙ eq-eqb id id refl in
      true≢false (sym (named_at patterns numbers id listed.0 in_all.0 listed.1 listed.2 of) ∙ out)

  pub unnamed_keeps : (id : ℕ) → is_named patterns numbers id ≡ false → transfer_at netlist word id ≡ keep
  unnamed_keeps id out = by (transfer_at netlist word id) refl
    where
      by : (move : TransferModel) → transfer_at netlist word id ≡ move → transfer_at netlist word id ≡ keep
      by keep e = e
      by (write v) e = absurd (changing id (write v) e (λ q. cc) out)
      by (write_at a v) e = absurd (changing id (write_at a v) e (λ q. cc) out)

  own_items : (ss : List Slice) → AllByRecursion (HasItem word) (map (item_of word) ss)
  own_items [] = tt
  own_items (s ∷ ss) = (refl, own_items ss)

  -- the word is one of the line's
  pub lies : DoesLine netlist patterns numbers items word
  lies = record {
    clean = shown.clean;
    gives = shown.gives;
    keeps = unnamed_keeps;
    bits = subst (AllByRecursion (HasItem word)) (sym shown.bits) (own_items (once (line_slices patterns numbers)));
  }

  -- ---- another word of the line

  module _ (other : ℕ) (does : DoesLine netlist patterns numbers items other) where
    -- what is told of a storage: both words give it one transfer, and are alike in its slices
    pub record Same (id : ℕ) : Type 0 where
      pub move : transfer_at netlist other id ≡ transfer_at netlist word id
      pub alike : AllAlike other word (transfer_slices (transfer_at netlist word id))

    alike_items : (ss : List Slice) → AllByRecursion (HasItem other) (map (item_of word) ss) → AllAlike other word ss
    alike_items [] h = tt
    alike_items (s ∷ ss) h = (h.0, alike_items ss h.1)

    alike : AllAlike other word (line_slices patterns numbers)
    alike =
        once_enough other word (line_slices patterns numbers)
        (alike_items (once (line_slices patterns numbers)) (subst (AllByRecursion (HasItem other)) shown.bits does.bits))

    named_same : (id : ℕ) (ns : List ℕ) → is_named patterns ns id ≡ true → AllByRecursion (λ n. Gives netlist word (slice_get patterns n)) ns → AllByRecursion (λ n. Gives netlist other (slice_get patterns n)) ns → AllAlike other word (line_slices patterns ns) → Same id
    named_same id [] e g h a = absurd (true≢false (sym e))
    named_same id (n ∷ ns) e g h a =
        by (slice_get patterns n) e g.0 h.0 (all_left other word (pattern_slices (slice_get patterns n)) (line_slices patterns ns) a)
        (λ k. named_same id ns k g.1 h.1 (all_right other word (pattern_slices (slice_get patterns n)) (line_slices patterns ns) a))
      where
        by : (o : Option Pattern) → (is_of id o || is_named patterns ns id) ≡ true → Gives netlist word o → Gives netlist other o → AllAlike other word (pattern_slices o) → (is_named patterns ns id ≡ true → Same id) → Same id
        by None e p q a rest = absurd p
        by (Some pattern) e p q a rest = step (pattern.storage == id) refl e
          where
            step : (t : Bool) → (pattern.storage == id) ≡ t → (t || is_named patterns ns id) ≡ true → Same id
            step true s e =
                let same : pattern.storage ≡ id = eqb-true pattern.storage id s in
                subst Same same (record { move = q ∙ sym p; alike = subst (λ (m : TransferModel). AllAlike other word (transfer_slices m)) (sym p) a })
            step false s e = rest e

    pub same_at : (id : ℕ) → Same id
    same_at id = by (is_named patterns numbers id) refl
      where
        by : (t : Bool) → is_named patterns numbers id ≡ t → Same id
        by true e = named_same id numbers e shown.gives does.gives alike
        by false e =
            let kept = unnamed_keeps id e in
            record {
              move = does.keeps id e ∙ sym kept;
              alike = subst (λ (m : TransferModel). AllAlike other word (transfer_slices m)) (sym kept) tt;
            }
