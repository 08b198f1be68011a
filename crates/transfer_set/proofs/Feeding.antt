-- What feeds a storage gives its transfers.
use Rattle.std.proofs.Common.{◌≡◌, ℕ, ◌+◌, ◌^◌, ◌<◌, ◌≤◌, ◌==◌, ◌&&◌, nat_lt, Bool, true, false, if◌then◌else◌, List, [], ◌∷◌, ◌++◌, length, Option, None, Some, slice_get, refl, sym, ap, subst, ◌∙◌, arith}
use Rattle.std.proofs.lemmas.List.{append-nil}
use Rattle.std.proofs.lemmas.Bool.{ltb-true, ltb-false}
use borrow.Author.Tests.{eqb-true, eqb-false}
use Rattle.rec_bits.proofs.Booleans.{both}
use Rattle.rec_bits.proofs.Lists.{slice_get_past}
use Rattle.bit_bdd.specs.Diagrams.{Diagrams, has_word, Extends}
use Rattle.bit_bdd.proofs.CallerLemmas.{same_words}
use Rattle.ctl_bdd.specs.declared.ControlBits.{ControlBits}
use Rattle.net_model.specs.declared.hardware.Netlist.{Netlist}
use Rattle.net_model.specs.declared.hardware.Storage.{Storage}
use Rattle.net_model.specs.declared.hardware.Storage.TheVariants.{Register, Memory, File}
use Rattle.net_model.specs.declared.hardware.Cells.{Cells}
use Rattle.net_model.specs.Symbolic.{no_state, sym_of}
use Rattle.net_model.specs.Exprs.{ExprModel, TransferModel, keep, write, write_at}
use Rattle.net_model.specs.Clock.{is_enabled}
use Rattle.net_model.specs.Transfers.{transfer_at, same_reg, array_transfer, storage_transfer, transfer_of}
use Rattle.net_model.specs.Value.{value_of}
use Rattle.net_model.specs.Widths.{ArrayFits, StorageFits}
use Rattle.sym_expr.specs.declared.pool.Node.{Node}
use Rattle.sym_expr.specs.Pools.{expr_of_id, IsOneEach}
use Rattle.transfer_set.specs.declared.route.Route.{Route}
use Rattle.transfer_set.specs.Routes.{RouteIs, models_under, routes_at}
use Rattle.transfer_set.specs.Inner.Entries.{ArePairs, AreWrites, each, list_if, memory_transfers, register_transfers}
use Rattle.transfer_set.specs.Inner.Sources.{IsArray, memory, file, IsOnSet, AreSources, IsStorageKnown, IsWhenKnown, changes, when_set}
use Rattle.transfer_set.proofs.Collecting.{sets_later, models_later}
use Rattle.transfer_set.proofs.Exact.{exact}

-- ---- a book that grows

on_later : (netlist : Netlist) (old new : Diagrams) → Extends old new → (set : ℕ) (when : Option ℕ) → IsOnSet netlist old set when → IsOnSet netlist new set when
on_later netlist old new e set when h = record {
  within = omega (arith, h.within, e.longer);
  words = λ word fits. same_words old new e set h.within word ∙ h.words word (subst (λ b. word < 2 ^ b) e.bits fits);
}

known_later : (netlist : Netlist) (old new : Diagrams) → Extends old new → (bits : List (ℕ × List ℕ)) (storage : Option Storage) → IsStorageKnown netlist old bits storage → IsStorageKnown netlist new bits storage
known_later netlist old new e bits None h = tt
known_later netlist old new e bits (Some (Register name width input when)) h = (h.0, on_later netlist old new e (when_set bits when) when h.1)
known_later netlist old new e bits (Some (Memory cells)) h = (h.0, on_later netlist old new e (when_set bits cells.when) cells.when h.1)
known_later netlist old new e bits (Some (File cells)) h = (h.0, on_later netlist old new e (when_set bits cells.when) cells.when h.1)

pub source_later : (netlist : Netlist) (old new : Diagrams) → Extends old new → (pool : List Node) (controls : ControlBits) (nets : List (List Route)) → AreSources netlist old pool controls nets → AreSources netlist new pool controls nets
source_later netlist old new e pool controls nets s = record {
  routes = record {
    long = s.routes.long;
    tables = λ n. record {
      right = record { sets = sets_later old new e (routes_at nets n) (s.routes.tables n).right.sets; apart = (s.routes.tables n).right.apart };
      exprs = (s.routes.tables n).exprs;
    };
    gives = λ n lt word fits.
        models_later old new e pool (routes_at nets n) (s.routes.tables n).right.sets word
        ∙ s.routes.gives n lt word (subst (λ b. word < 2 ^ b) e.bits fits)
        ∙ ap (λ b. if b then sym_of netlist word n ∷ [] else []) (sym (same_words old new e controls.legal s.within word));
  };
  within = omega (arith, s.within, e.longer);
  legal = λ word fits.
      let h = s.legal word (subst (λ b. word < 2 ^ b) e.bits fits) in
      let w = same_words old new e controls.legal s.within word in
      (λ k. h.0 (sym w ∙ k), λ k. w ∙ h.1 k);
  storages = λ id. known_later netlist old new e controls.bits (slice_get netlist.storages id) (s.storages id);
}

-- ---- a storage with cells, of either space

array_known : (netlist : Netlist) (book : Diagrams) (bits : List (ℕ × List ℕ)) (cells : Cells) (storage : Storage) → IsArray cells storage → IsStorageKnown netlist book bits (Some storage) → IsWhenKnown netlist book bits cells.when
array_known netlist book bits cells _ memory h = h
array_known netlist book bits cells _ file h = h

array_fits : (netlist : Netlist) (cells : Cells) (storage : Storage) → IsArray cells storage → StorageFits netlist storage → ArrayFits netlist cells
array_fits netlist cells _ memory h = h
array_fits netlist cells _ file h = h

array_moves : (t : ℕ → ExprModel) (u : ℕ → ℕ) (id : ℕ) (cells : Cells) (storage : Storage) → IsArray cells storage → storage_transfer t u id storage ≡ array_transfer t u cells
array_moves t u id cells _ memory = refl
array_moves t u id cells _ file = refl

-- ---- one storage

module _ (netlist : Netlist) (book : Diagrams) (pool : List Node) (controls : ControlBits) (nets : List (List Route)) (source : AreSources netlist book pool controls nets) (one : IsOneEach pool) where
  route_is : (n : ℕ) → n < length netlist.nets → (place : ℕ) (route : Route) → slice_get (routes_at nets n) place ≡ Some route → RouteIs book pool controls.legal (λ word. sym_of netlist word n) route
  route_is n lt place route at = exact book pool controls.legal (λ word. sym_of netlist word n) (routes_at nets n) one (source.routes.tables n) (source.routes.gives n lt) place route at

  module _ (id : ℕ) (name : List ℕ) (width input : ℕ) (when : Option ℕ) (at : slice_get netlist.storages id ≡ Some (Register name width input when)) (fit : StorageFits netlist (Register name width input when)) where
    pub register_known : IsWhenKnown netlist book controls.bits when
    register_known = subst (IsStorageKnown netlist book controls.bits) at (source.storages id)

    on : IsOnSet netlist book (when_set controls.bits when) when
    on = register_known.1

    register_is : (word : ℕ) → transfer_at netlist word id ≡ (if is_enabled (value_of netlist no_state word) when then (if same_reg (sym_of netlist word input) id then keep else write (sym_of netlist word input)) else keep)
    register_is word = ap (transfer_of netlist word id) at

    pub register_whole : AreWrites netlist pool book id (when_set controls.bits when) (routes_at nets input)
    register_whole place route there other word fits = (
      λ h.
          let b = both (has_word book (when_set controls.bits when) word) (has_word book route.set word) h in
          let r = (route_is input fit.0.0 place route there word fits).0 b.1 in
          record {
            clean = (source.legal word fits).0 r.0;
            gives = register_is word
                ∙ ap (λ o. if o then (if same_reg (sym_of netlist word input) id then keep else write (sym_of netlist word input)) else keep) (sym (on.words word fits) ∙ b.0)
                ∙ ap (λ t. if same_reg t id then keep else write t) (sym r.1)
                ∙ ap (λ s. if s then keep else write (expr_of_id pool route.expr)) other;
          },
      λ q. back (is_enabled (value_of netlist no_state word) when) (same_reg (sym_of netlist word input) id) (on.words word fits) ((source.legal word fits).1 q.clean) (sym (register_is word) ∙ q.gives),
    )
      where
        back : (o s : Bool) → has_word book (when_set controls.bits when) word ≡ o → has_word book controls.legal word ≡ true
            → (if o then (if s then keep else write (sym_of netlist word input)) else keep) ≡ write (expr_of_id pool route.expr)
            → (has_word book (when_set controls.bits when) word && has_word book route.set word) ≡ true
        back true true eo l e = absurd (cc)
        back true false eo l e =
            let t : sym_of netlist word input ≡ expr_of_id pool route.expr = cc in
            let h = (route_is input fit.0.0 place route there word fits).1 (l, sym t) in
            (λ j. eo j && h j)
        back false s eo l e = absurd (cc)

    pub register_gives : (n word : ℕ) → word < 2 ^ book.bits
        → list_if ((id == n) && has_word book (when_set controls.bits when) word) (each (register_transfers id) (models_under book pool (routes_at nets input) word))
        ≡ list_if ((id == n) && has_word book controls.legal word) (changes (transfer_at netlist word id))
    register_gives n word fits =
        (let o = on.words word fits in
        let f = source.routes.gives input fit.0.0 word fits in
        λ j. list_if ((id == n) && o j) (each (register_transfers id) (f j)))
        ∙ by (id == n) (is_enabled (value_of netlist no_state word) when) (has_word book controls.legal word) (same_reg (sym_of netlist word input) id) refl
        ∙ ap (λ m. list_if ((id == n) && has_word book controls.legal word) (changes m)) (sym (register_is word))
      where
        by : (k o l s : Bool) → same_reg (sym_of netlist word input) id ≡ s
            → list_if (k && o) (each (register_transfers id) (if l then sym_of netlist word input ∷ [] else []))
            ≡ list_if (k && l) (changes (if o then (if same_reg (sym_of netlist word input) id then keep else write (sym_of netlist word input)) else keep))
        by false o l s e = refl
        by true false true s e = refl
        by true false false s e = refl
        by true true false s e = refl
        by true true true true e = rw e
        by true true true false e = rw e

  module _ (id : ℕ) (cells : Cells) (storage : Storage) (has : IsArray cells storage) (at : slice_get netlist.storages id ≡ Some storage) (fit : StorageFits netlist storage) where
    pub memory_known : IsWhenKnown netlist book controls.bits cells.when
    memory_known = array_known netlist book controls.bits cells storage has (subst (IsStorageKnown netlist book controls.bits) at (source.storages id))

    fit_array : ArrayFits netlist cells
    fit_array = array_fits netlist cells storage has fit

    on_memory : IsOnSet netlist book (when_set controls.bits cells.when) cells.when
    on_memory = memory_known.1

    memory_is : (word : ℕ) → transfer_at netlist word id ≡ (if is_enabled (value_of netlist no_state word) cells.when then write_at (sym_of netlist word cells.addr) (sym_of netlist word cells.value) else keep)
    memory_is word = ap (transfer_of netlist word id) at ∙ array_moves (sym_of netlist word) (value_of netlist no_state word) id cells storage has

    pub memory_whole : ArePairs netlist pool book id (when_set controls.bits cells.when) (routes_at nets cells.addr) (routes_at nets cells.value)
    memory_whole place a there i v here word fits = (
      λ h.
          let b = both (has_word book (when_set controls.bits cells.when) word && has_word book a.set word) (has_word book v.set word) h in
          let d = both (has_word book (when_set controls.bits cells.when) word) (has_word book a.set word) b.0 in
          let r = (route_is cells.addr fit_array.1.0 place a there word fits).0 d.1 in
          let s = (route_is cells.value fit_array.0.0 i v here word fits).0 b.1 in
          record {
            clean = (source.legal word fits).0 r.0;
            gives = memory_is word
                ∙ ap (λ o. if o then write_at (sym_of netlist word cells.addr) (sym_of netlist word cells.value) else keep) (sym (on_memory.words word fits) ∙ d.0)
                ∙ (λ j. write_at (sym r.1 j) (sym s.1 j));
          },
      λ q. back (is_enabled (value_of netlist no_state word) cells.when) (on_memory.words word fits) ((source.legal word fits).1 q.clean) (sym (memory_is word) ∙ q.gives),
    )
      where
        back : (o : Bool) → has_word book (when_set controls.bits cells.when) word ≡ o → has_word book controls.legal word ≡ true
            → (if o then write_at (sym_of netlist word cells.addr) (sym_of netlist word cells.value) else keep) ≡ write_at (expr_of_id pool a.expr) (expr_of_id pool v.expr)
            → ((has_word book (when_set controls.bits cells.when) word && has_word book a.set word) && has_word book v.set word) ≡ true
        back true eo l e =
            let f : sym_of netlist word cells.addr ≡ expr_of_id pool a.expr = cc in
            let g : sym_of netlist word cells.value ≡ expr_of_id pool v.expr = cc in
            let h = (route_is cells.addr fit_array.1.0 place a there word fits).1 (l, sym f) in
            let k = (route_is cells.value fit_array.0.0 i v here word fits).1 (l, sym g) in
            (λ j. (eo j && h j) && k j)
        back false eo l e = absurd (cc)

    pub memory_gives : (n word : ℕ) → word < 2 ^ book.bits
        → list_if ((id == n) && has_word book (when_set controls.bits cells.when) word) (each (λ (a : ExprModel). each (memory_transfers a) (models_under book pool (routes_at nets cells.value) word)) (models_under book pool (routes_at nets cells.addr) word))
        ≡ list_if ((id == n) && has_word book controls.legal word) (changes (transfer_at netlist word id))
    memory_gives n word fits =
        (let o = on_memory.words word fits in
        let f = source.routes.gives cells.addr fit_array.1.0 word fits in
        let g = source.routes.gives cells.value fit_array.0.0 word fits in
        λ j. list_if ((id == n) && o j) (each (λ (a : ExprModel). each (memory_transfers a) (g j)) (f j)))
        ∙ by (id == n) (is_enabled (value_of netlist no_state word) cells.when) (has_word book controls.legal word)
        ∙ ap (λ m. list_if ((id == n) && has_word book controls.legal word) (changes m)) (sym (memory_is word))
      where
        f : ExprModel
        f = sym_of netlist word cells.addr

        g : ExprModel
        g = sym_of netlist word cells.value

        by : (k o l : Bool) → list_if (k && o) (each (λ (a : ExprModel). each (memory_transfers a) (if l then sym_of netlist word cells.value ∷ [] else [])) (if l then sym_of netlist word cells.addr ∷ [] else []))
            ≡ list_if (k && l) (changes (if o then write_at (sym_of netlist word cells.addr) (sym_of netlist word cells.value) else keep))
        by true true true = refl
        by true true false = refl
        by true false true = refl
        by true false false = refl
        by false o l = refl

-- ---- all storages

pub upto : {X : Type 0} (i n : ℕ) (l : Bool) (xs : ℕ → List X) → list_if (nat_lt n i && l) (xs n) ++ list_if ((i == n) && l) (xs i) ≡ list_if (nat_lt n (i + 1) && l) (xs n)
upto i n l xs = by (nat_lt n i) (i == n) (nat_lt n (i + 1)) refl refl refl
  where
    by : (a b d : Bool) → nat_lt n i ≡ a → (i == n) ≡ b → nat_lt n (i + 1) ≡ d → list_if (a && l) (xs n) ++ list_if (b && l) (xs i) ≡ list_if (d && l) (xs n)
    by true true d ea eb ed = absurd (omega (arith, ltb-true n i ea, eqb-true i n eb))
    by true false true ea eb ed = append-nil (list_if l (xs n))
    by true false false ea eb ed = absurd (omega (arith, ltb-true n i ea, ltb-false n (i + 1) ed))
    by false true true ea eb ed = ap (λ m. list_if l (xs m)) (eqb-true i n eb)
    by false true false ea eb ed = absurd (omega (arith, eqb-true i n eb, ltb-false n (i + 1) ed))
    by false false true ea eb ed = (let e : i ≡ n = omega (arith, ltb-false n i ea, ltb-true n (i + 1) ed) in absurd (eqb-false i n eb e))
    by false false false ea eb ed = refl

-- past the last storage nothing changes
pub past : (netlist : Netlist) (word n i : ℕ) (l : Bool) → length netlist.storages ≤ i → list_if (nat_lt n i && l) (changes (transfer_at netlist word n)) ≡ list_if l (changes (transfer_at netlist word n))
past netlist word n i l long = by (nat_lt n i) refl
  where
    none : (l : Bool) → list_if {X = TransferModel} l [] ≡ []
    none true = refl
    none false = refl

    gone : length netlist.storages ≤ n → changes (transfer_at netlist word n) ≡ []
    gone h = ap (λ s. changes (transfer_of netlist word n s)) (slice_get_past netlist.storages n h)

    by : (b : Bool) → nat_lt n i ≡ b → list_if (b && l) (changes (transfer_at netlist word n)) ≡ list_if l (changes (transfer_at netlist word n))
    by true e = refl
    by false e = (let f = ltb-false n i e in sym (ap (λ m. list_if l m) (gone (omega (arith, f, long))) ∙ none l))
