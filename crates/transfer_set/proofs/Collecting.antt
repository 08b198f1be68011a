-- Entries that are added one after the other, over a book that grows.
use Rattle.std.proofs.Common.{◌≡◌, ℕ, zero, suc, ◌+◌, ◌^◌, ◌<◌, ◌==◌, ◌&&◌, Bool, true, false, if◌then◌else◌, List, [], ◌∷◌, ◌++◌, map, take, Some, slice_get, refl, sym, ap, subst, ◌∙◌, append_assoc, true≢false, add-one, arith}
use Rattle.std.proofs.lemmas.List.{append-nil}
use Rattle.bit_bdd.specs.Diagrams.{Diagrams, has_word, Extends}
use Rattle.bit_bdd.proofs.CallerLemmas.{same_words}
use Rattle.net_model.specs.declared.hardware.Netlist.{Netlist}
use Rattle.net_model.specs.Exprs.{TransferModel}
use Rattle.sym_expr.specs.declared.pool.Node.{Node}
use Rattle.sym_expr.specs.Pools.{expr_of_id}
use Rattle.transfer_set.specs.declared.route.Route.{Route}
use Rattle.transfer_set.specs.declared.entries.Entry.{Entry}
use Rattle.transfer_set.specs.Routes.{exprs_under, models_under, IsSet, AllSets, AllExprs}
use Rattle.transfer_set.specs.Entries.{IsAddrKnown, IsWordsOf}
use Rattle.transfer_set.specs.Inner.Entries.{list_if, each, entry_transfer, transfers_under, HaveWords, AreKnown, AreWhole}

-- ---- sets of a book that grows

pub set_later : (old new : Diagrams) → Extends old new → (set : ℕ) → IsSet old set → IsSet new set
set_later old new e set s = record {
  within = omega (arith, s.within, e.longer);
  word = s.word;
  fits = subst (λ b. s.word < 2 ^ b) (sym e.bits) s.fits;
  holds = same_words old new e set s.within s.word ∙ s.holds;
}

pub held_entries_later : (old new : Diagrams) → Extends old new → (entries : List Entry) → HaveWords old entries → HaveWords new entries
held_entries_later old new e [] h = tt
held_entries_later old new e (x ∷ entries) h = (set_later old new e x.set h.0, held_entries_later old new e entries h.1)

pub held_entries_push : (book : Diagrams) (entries : List Entry) (x : Entry) → HaveWords book entries → IsSet book x.set → HaveWords book (entries ++ x ∷ [])
held_entries_push book [] x h s = (s, tt)
held_entries_push book (y ∷ entries) x h s = (h.0, held_entries_push book entries x h.1 s)

pub known_push : (size : ℕ) (entries : List Entry) (x : Entry) → AreKnown size entries → IsAddrKnown size x.addr → x.value < size → AreKnown size (entries ++ x ∷ [])
known_push size [] x h a v = ((a, v), tt)
known_push size (y ∷ entries) x h a v = (h.0, known_push size entries x h.1 a v)

pub moves_later : (old new : Diagrams) → Extends old new → (pool : List Node) (entries : List Entry) → HaveWords old entries → (id word : ℕ) → transfers_under new pool entries id word ≡ transfers_under old pool entries id word
moves_later old new e pool [] h id word = refl
moves_later old new e pool (x ∷ entries) h id word =
    let p = same_words old new e x.set h.0.within word in
    let q = moves_later old new e pool entries h.1 id word in
    (λ j. list_if ((x.storage == id) && p j) (entry_transfer pool x ∷ []) ++ q j)

pub moves_push : (book : Diagrams) (pool : List Node) (entries : List Entry) (x : Entry) (id word : ℕ)
    → transfers_under book pool (entries ++ x ∷ []) id word ≡ transfers_under book pool entries id word ++ list_if ((x.storage == id) && has_word book x.set word) (entry_transfer pool x ∷ [])
moves_push book pool [] x id word = append-nil (list_if ((x.storage == id) && has_word book x.set word) (entry_transfer pool x ∷ []))
moves_push book pool (y ∷ entries) x id word =
    ap (λ l. list_if ((y.storage == id) && has_word book y.set word) (entry_transfer pool y ∷ []) ++ l) (moves_push book pool entries x id word)
    ∙ sym (append_assoc (list_if ((y.storage == id) && has_word book y.set word) (entry_transfer pool y ∷ [])) (transfers_under book pool entries id word) (list_if ((x.storage == id) && has_word book x.set word) (entry_transfer pool x ∷ [])))

-- sets that hold the same words of the same book's width
pub words_same : (netlist : Netlist) (bits bits' storage : ℕ) (move : TransferModel) (f g : ℕ → Bool) → bits' ≡ bits → ((word : ℕ) → g word ≡ f word) → IsWordsOf netlist bits storage move f → IsWordsOf netlist bits' storage move g
words_same netlist bits bits' storage move f g eb e w word fits =
    let h = w word (subst (λ b. word < 2 ^ b) eb fits) in
    (λ k. h.0 (sym (e word) ∙ k), λ k. e word ∙ h.1 k)

pub whole_later : (old new : Diagrams) → Extends old new → (netlist : Netlist) (pool : List Node) (entries : List Entry) → HaveWords old entries → AreWhole netlist pool old entries → AreWhole netlist pool new entries
whole_later old new e netlist pool [] h w = tt
whole_later old new e netlist pool (x ∷ entries) h w = (
  words_same netlist old.bits new.bits x.storage (entry_transfer pool x) (λ word. has_word old x.set word) (λ word. has_word new x.set word) e.bits (λ word. same_words old new e x.set h.0.within word) w.0,
  whole_later old new e netlist pool entries h.1 w.1,
)

pub whole_push : (netlist : Netlist) (pool : List Node) (book : Diagrams) (entries : List Entry) (x : Entry) → AreWhole netlist pool book entries
    → IsWordsOf netlist book.bits x.storage (entry_transfer pool x) (λ word. has_word book x.set word) → AreWhole netlist pool book (entries ++ x ∷ [])
whole_push netlist pool book [] x h w = (w, tt)
whole_push netlist pool book (y ∷ entries) x h w = (h.0, whole_push netlist pool book entries x h.1 w)

-- ---- routes

pub set_at : (book : Diagrams) (routes : List Route) (i : ℕ) (route : Route) → slice_get routes i ≡ Some route → AllSets book routes → IsSet book route.set
set_at book [] i route at h = absurd (cc)
set_at book (r ∷ routes) zero route at h = (let e : r ≡ route = cc in subst (λ (x : Route). IsSet book x.set) e h.0)
set_at book (r ∷ routes) (suc i) route at h = set_at book routes i route at h.1

pub expr_at : (size : ℕ) (routes : List Route) (i : ℕ) (route : Route) → slice_get routes i ≡ Some route → AllExprs size routes → route.expr < size
expr_at size [] i route at h = absurd (cc)
expr_at size (r ∷ routes) zero route at h = (let e : r ≡ route = cc in subst (λ (x : Route). x.expr < size) e h.0)
expr_at size (r ∷ routes) (suc i) route at h = expr_at size routes i route at h.1

pub sets_later : (old new : Diagrams) → Extends old new → (routes : List Route) → AllSets old routes → AllSets new routes
sets_later old new e [] h = tt
sets_later old new e (r ∷ routes) h = (set_later old new e r.set h.0, sets_later old new e routes h.1)

pub held_later : (old new : Diagrams) → Extends old new → (routes : List Route) → AllSets old routes → (word : ℕ) → exprs_under new routes word ≡ exprs_under old routes word
held_later old new e [] h word = refl
held_later old new e (r ∷ routes) h word =
    let p = same_words old new e r.set h.0.within word in
    let q = held_later old new e routes h.1 word in
    (λ j. (if p j then r.expr ∷ [] else []) ++ q j)

pub models_later : (old new : Diagrams) → Extends old new → (pool : List Node) (routes : List Route) → AllSets old routes → (word : ℕ) → models_under new pool routes word ≡ models_under old pool routes word
models_later old new e pool routes h word = ap (map (expr_of_id pool)) (held_later old new e routes h word)

models_step : (book : Diagrams) (pool : List Node) (route : Route) (rest : List ℕ) (word : ℕ) (b : Bool) → map (expr_of_id pool) ((if b then route.expr ∷ [] else []) ++ rest) ≡ list_if b (expr_of_id pool route.expr ∷ []) ++ map (expr_of_id pool) rest
models_step book pool route rest word true = refl
models_step book pool route rest word false = refl

models_suc : (book : Diagrams) (pool : List Node) (routes : List Route) (i : ℕ) (route : Route) → slice_get routes i ≡ Some route → (word : ℕ)
    → models_under book pool (take (suc i) routes) word ≡ models_under book pool (take i routes) word ++ list_if (has_word book route.set word) (expr_of_id pool route.expr ∷ [])
models_suc book pool [] i route at word = absurd (cc)
models_suc book pool (r ∷ routes) zero route at word =
    models_step book pool r [] word (has_word book r.set word) ∙ append-nil (list_if (has_word book r.set word) (expr_of_id pool r.expr ∷ []))
    ∙ (let e : r ≡ route = cc in λ j. list_if (has_word book (e j).set word) (expr_of_id pool (e j).expr ∷ []))
models_suc book pool (r ∷ routes) (suc i) route at word =
    models_step book pool r (exprs_under book (take (suc i) routes) word) word (has_word book r.set word)
    ∙ ap (λ l. list_if (has_word book r.set word) (expr_of_id pool r.expr ∷ []) ++ l) (models_suc book pool routes i route at word)
    ∙ sym (append_assoc (list_if (has_word book r.set word) (expr_of_id pool r.expr ∷ [])) (models_under book pool (take i routes) word) (list_if (has_word book route.set word) (expr_of_id pool route.expr ∷ [])))
    ∙ ap (λ l. l ++ list_if (has_word book route.set word) (expr_of_id pool route.expr ∷ [])) (sym (models_step book pool r (exprs_under book (take i routes) word) word (has_word book r.set word)))

pub models_more : (book : Diagrams) (pool : List Node) (routes : List Route) (i : ℕ) (route : Route) → slice_get routes i ≡ Some route → (word : ℕ)
    → models_under book pool (take (i + 1) routes) word ≡ models_under book pool (take i routes) word ++ list_if (has_word book route.set word) (expr_of_id pool route.expr ∷ [])
models_more book pool routes i route at word = rw (add-one i) (models_suc book pool routes i route at word)

-- ---- a turn of a loop over routes

each-append : {X Y : Type 0} (f : X → List Y) (xs ys : List X) → each f (xs ++ ys) ≡ each f xs ++ each f ys
each-append f [] ys = refl
each-append f (x ∷ xs) ys = ap (λ l. f x ++ l) (each-append f xs ys) ∙ sym (append_assoc (f x) (each f xs) (each f ys))

turn_by : {X Y : Type 0} (f : X → List Y) (x : X) (done : List X) (before : List Y) (k b s : Bool)
    → (before ++ list_if (k && b) (each f done)) ++ list_if (k && (b && s)) (f x) ≡ before ++ list_if (k && b) (each f (done ++ list_if s (x ∷ [])))
turn_by f x done before true true true =
    append_assoc before (each f done) (f x) ∙ ap (λ l. before ++ (each f done ++ l)) (sym (append-nil (f x))) ∙ ap (λ l. before ++ l) (sym (each-append f done (x ∷ [])))
turn_by f x done before true true false = append-nil (before ++ each f done) ∙ ap (λ l. before ++ each f l) (sym (append-nil done))
turn_by f x done before true false s = append-nil (before ++ [])
turn_by f x done before false b s = append-nil (before ++ [])

-- what was added for the routes so far, and what is added for this one
pub turn : {X Y : Type 0} (f : X → List Y) (x : X) (done more : List X) (before now after add : List Y) (k b s c d : Bool)
    → now ≡ before ++ list_if (k && b) (each f done)
    → c ≡ b → d ≡ s → add ≡ f x
    → after ≡ now ++ list_if (k && (c && d)) add
    → more ≡ done ++ list_if s (x ∷ [])
    → after ≡ before ++ list_if (k && b) (each f more)
turn f x done more before now after add k b s c d en ec ed ea e em =
    e ∙ (λ j. en j ++ list_if (k && (ec j && ed j)) (ea j)) ∙ turn_by f x done before k b s ∙ ap (λ l. before ++ list_if (k && b) (each f l)) (sym em)

-- nothing is added for no words
pub nothing : {X : Type 0} (xs ys : List X) (k b : Bool) → b ≡ false → xs ≡ xs ++ list_if (k && b) ys
nothing xs ys true true e = absurd (true≢false e)
nothing xs ys true false e = sym (append-nil xs)
nothing xs ys false b e = sym (append-nil xs)

pub changed : {X : Type 0} (xs zs : List X) (ys us : List X) (k : Bool) → xs ≡ zs ++ list_if k ys → ys ≡ us → xs ≡ zs ++ list_if k us
changed xs zs ys us k e f = e ∙ ap (λ l. zs ++ list_if k l) f
