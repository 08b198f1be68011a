-- The words that no transfer of a storage has are those that keep it.
use Rattle.std.proofs.Common.{◌≡◌, ◌↔◌, ℕ, zero, suc, ◌+◌, ◌<◌, ◌==◌, ◌&&◌, not, Bool, true, false, true≢false, List, [], ◌∷◌, ◌++◌, take, length, Some, slice_get, slice_index, add-one, refl, sym, ap, subst, ◌∙◌, arith}
use Rattle.std.proofs.lemmas.Bool.{eqb-true}
use Rattle.std.proofs.lemmas.List.{get_or_append_left, get_or_push, length_push}
use Rattle.rec_bits.proofs.Booleans.{and-true, and_assoc}
use Rattle.bit_bdd.specs.Diagrams.{Diagrams, Extends, has_word}
use Rattle.bit_bdd.proofs.CallerLemmas.{same_words}
use Rattle.net_model.specs.Exprs.{TransferModel, keep, write, write_at}
use Rattle.sym_expr.specs.declared.pool.Node.{Node}
use Rattle.transfer_set.specs.declared.entries.Entry.{Entry}
use Rattle.transfer_set.specs.Routes.{IsSet}
use Rattle.transfer_set.specs.Inner.Entries.{HaveWords, AreLeft, entry_transfer, list_if, keeps_all, transfers_under}
use Rattle.transfer_set.specs.Inner.Sources.{changes}

pub entry_at : (book : Diagrams) (entries : List Entry) (i : ℕ) (entry : Entry) → slice_get entries i ≡ Some entry → HaveWords book entries → IsSet book entry.set
entry_at book [] i entry at h = absurd (cc)
entry_at book (x ∷ entries) zero entry at h = (let e : x ≡ entry = cc in subst (λ (y : Entry). IsSet book y.set) e h.0)
entry_at book (x ∷ entries) (suc i) entry at h = entry_at book entries i entry at h.1

keeps_suc : (book : Diagrams) (entries : List Entry) (i : ℕ) (entry : Entry) → slice_get entries i ≡ Some entry → (storage word : ℕ)
    → keeps_all book (take (suc i) entries) storage word ≡ (keeps_all book (take i entries) storage word && not ((entry.storage == storage) && has_word book entry.set word))
keeps_suc book [] i entry at storage word = absurd (cc)
keeps_suc book (x ∷ entries) zero entry at storage word =
    and-true (not ((x.storage == storage) && has_word book x.set word))
    ∙ (let e : x ≡ entry = cc in λ j. not (((e j).storage == storage) && has_word book (e j).set word))
keeps_suc book (x ∷ entries) (suc i) entry at storage word =
    ap (λ b. not ((x.storage == storage) && has_word book x.set word) && b) (keeps_suc book entries i entry at storage word)
    ∙ sym (and_assoc (not ((x.storage == storage) && has_word book x.set word)) (keeps_all book (take i entries) storage word) (not ((entry.storage == storage) && has_word book entry.set word)))

-- one entry more
pub keeps_more : (book : Diagrams) (entries : List Entry) (i : ℕ) (entry : Entry) → slice_get entries i ≡ Some entry → (storage word : ℕ) (legal left now one : Bool)
    → left ≡ (legal && keeps_all book (take i entries) storage word) → one ≡ has_word book entry.set word → now ≡ (left && not ((entry.storage == storage) && one))
    → now ≡ (legal && keeps_all book (take (i + 1) entries) storage word)
keeps_more book entries i entry at storage word legal left now one el eo en =
    en ∙ (λ j. el j && not ((entry.storage == storage) && eo j))
    ∙ and_assoc legal (keeps_all book (take i entries) storage word) (not ((entry.storage == storage) && has_word book entry.set word))
    ∙ ap (λ b. legal && b) (sym (rw (add-one i) (keeps_suc book entries i entry at storage word)))

-- ---- what is left

-- whether a list of transfers is empty
abbrev pub is_none : List TransferModel → Bool
is_none [] = true
is_none (m ∷ ms) = false

-- no set of the storage's transfers has the word where none of its transfers is held
pub none_held : (book : Diagrams) (pool : List Node) (entries : List Entry) (storage word : ℕ) → keeps_all book entries storage word ≡ is_none (transfers_under book pool entries storage word)
none_held book pool [] storage word = refl
none_held book pool (x ∷ entries) storage word = by ((x.storage == storage) && has_word book x.set word) (none_held book pool entries storage word)
  where
    by : (b : Bool) → keeps_all book entries storage word ≡ is_none (transfers_under book pool entries storage word)
        → (not b && keeps_all book entries storage word) ≡ is_none (list_if b (entry_transfer pool x ∷ []) ++ transfers_under book pool entries storage word)
    by true e = refl
    by false e = e

-- the words that are left are those under which the storage keeps
pub keeps_when : (m : TransferModel) (l k : Bool) (held : List TransferModel) → held ≡ list_if l (changes m) → k ≡ is_none held → ((l && k) ≡ true) ↔ ((l ≡ true) × (m ≡ keep))
keeps_when m true k held is e = (λ q. (refl, only m (sym (ap is_none is) ∙ sym e ∙ q)), λ q. e ∙ ap is_none (is ∙ ap changes q.1))
  where
    only : (m : TransferModel) → is_none (changes m) ≡ true → m ≡ keep
    only keep q = refl
    only (write t) q = absurd (true≢false (sym q))
    only (write_at a t) q = absurd (true≢false (sym q))
keeps_when m false k held is e = (λ q. absurd (true≢false (sym q)), λ q. absurd (true≢false (sym q.0)))

-- ---- all storages

keeps_later : (old new : Diagrams) → Extends old new → (entries : List Entry) → HaveWords old entries → (storage word : ℕ) → keeps_all new entries storage word ≡ keeps_all old entries storage word
keeps_later old new e [] h storage word = refl
keeps_later old new e (x ∷ entries) h storage word =
    (let same = same_words old new e x.set h.0.within word in λ j. not ((x.storage == storage) && same j) && keeps_later old new e entries h.1 storage word j)

-- one storage more
pub left_push : (old mid new : Diagrams) → Extends old mid → Extends mid new → (legal : ℕ) → legal < length old.nodes → (entries : List Entry) → HaveWords old entries → (count : ℕ) (sets : List ℕ) (set : ℕ)
    → AreLeft old mid legal entries count sets → set < length new.nodes → ((word : ℕ) → has_word new set word ≡ (has_word mid legal word && keeps_all mid entries count word))
    → AreLeft old new legal entries (count + 1) (sets ++ set ∷ [])
left_push old mid new before after legal lt entries held count sets set left within words = record {
  long = simp length_push (omega (arith, left.long));
  within = λ storage h. at storage h (λ s. s < length new.nodes) (λ e. within) (λ q. omega (arith, left.within storage q, after.longer));
  words = λ storage word h.
      at storage h (λ s. has_word new s word ≡ (has_word old legal word && keeps_all old entries storage word))
      (λ e. words word ∙ (λ j. same_words old mid before legal lt word j && keeps_later old mid before entries held (sym e j) word j))
      (λ q. same_words mid new after (slice_index sets storage) (left.within storage q) word ∙ left.words storage word q);
}
  where
    below : (storage : ℕ) → (storage == count) ≡ false → storage < count + 1 → storage < count
    below storage e h = grind (arith, e, h)

    at : (storage : ℕ) → storage < count + 1 → (P : ℕ → Type 0) → (storage ≡ count → P set) → (storage < count → P (slice_index sets storage)) → P (slice_index (sets ++ set ∷ []) storage)
    at storage h P one rest = by (storage == count) refl
      where
        by : (b : Bool) → (storage == count) ≡ b → P (slice_index (sets ++ set ∷ []) storage)
        by true e = (let q = eqb-true storage count e in subst P (sym (get_or_push sets set 0 storage (left.long ∙ sym q))) (one q))
        by false e = (let q = below storage e h in subst P (sym (get_or_append_left sets (set ∷ []) 0 storage (omega (arith, left.long, q)))) (rest q))
