-- Items and their parts.
use Rattle.std.proofs.Common.{◌≡◌, ℕ, zero, suc, Bool, true, false, IsTrue, ◌↔◌, List, [], ◌∷◌, ◌++◌, length, Option, Some, map, refl, sym, ap, subst, ◌∙◌}
use Rattle.grammar.specs.declared.stop.ParseStop.TheVariants.{At as StopsAt}
use Rattle.grammar.specs.Reading.{Return, Bind, without, with_one, ListOf, head, Stops, never, Reads, FailsAs, Leads}
use Rattle.grammar.proofs.Steps.{fails_here}
use Rattle.grammar.proofs.Passing.{There, there_token, there_bind, there_return, there_maybe, there_many, Apart, Starts, starts_bind, starts_inner, starts_apart, stops_at, returned}
use Rattle.grammar.proofs.Repeats.{Repeated}
use Rattle.grammar.specs.declared.words.Ident.{Ident}
use Rattle.net_model.specs.declared.units.Port.{Port}
use Rattle.net_model.specs.Editions.{Lexed, Word}
use Rattle.net_model.specs.Grammar.{LeafBehind, ExprBehind, IsExpr, IsSized, IsWhen, IsFed, IsWrite, IsWritten, WriteBehind, IsDirection, IsDriver, IsDrivers, IsBinding, IsBindings, IsEquation, IsLinks, IsPort, IsPorts, ItemByWord, IsItem, direction}
use Rattle.grammar.specs.declared.words.Word.TheVariants.{Name, Number, Symbol as Shows, Key as Keyed}
use Rattle.net_model.specs.declared.words.Key.TheVariants.{Item as Begins, Operator as Operates}
use Rattle.net_model.specs.declared.words.ItemWord.{ItemWord}
use Rattle.net_model.specs.declared.words.ItemWord.TheVariants.{Code}
use Rattle.net_model.specs.declared.words.Symbol.{Symbol}
use Rattle.net_model.specs.declared.words.Symbol.TheVariants.{Semicolon, Comma, In, Out, When, Write}
use Rattle.net_model.specs.Written.{NetExprModel, UnitModel}
use Rattle.grammar.specs.Tokens.{Behind, Before, ByWord, IsName, BeginsSo}
use Rattle.net_parser.specs.Inner.Steps.{HasNoItem, expr_word, first_word, name_word, when_word, link_word, item_word, after_expr, after_when, after_drivers, after_equations, after_links, after_list, after_items}
use Rattle.grammar.proofs.Tokens.{Shown, begun, there_name, there_number, there_behind, there_before, there_word}
use Rattle.net_parser.proofs.Expressions.{there_expr}

pub there_sized : There IsSized
there_sized = there_bind there_name (λ n. there_bind (there_behind there_number) (λ w. there_return))

pub there_when_end : There (Before IsWhen Semicolon)
there_when_end = there_before there_maybe

pub there_fed : {s : Symbol} → There (IsFed s)
there_fed = there_bind (there_behind (there_expr 64)) (λ i. there_bind there_when_end (λ w. there_return))

pub there_written : There IsWritten
there_written = there_bind (there_expr 64) (λ v. there_bind there_fed (λ f. there_return))

pub there_write : There IsWrite
there_write = there_behind there_written

pub there_maybe_written : (none : NetExprModel × (NetExprModel × Option NetExprModel)) → There (ByWord (WriteBehind none))
there_maybe_written none = there_word (WriteBehind none) (Shows Semicolon) 0 there_return

-- behind the sizes of a bank there is a write or the end
pub no_write_word : (none : NetExprModel × (NetExprModel × Option NetExprModel)) (w : Word) → (w ≡ Shows Semicolon → ⊥) → (w ≡ Shows Write → ⊥) → (at : ℕ) (x : List Lexed) (v : NetExprModel × (NetExprModel × Option NetExprModel)) → WriteBehind none w at x v → ⊥
no_write_word none (Shows Semicolon) f g at x v h = f refl
no_write_word none (Shows Write) f g at x v h = g refl
no_write_word none _ f g at x v h = absurd h

pub there_driver : There IsDriver
there_driver = there_bind (there_expr 64) (λ v. there_bind (there_before (there_behind (there_expr 64))) (λ e. there_return))

pub there_drivers : There IsDrivers
there_drivers = there_bind there_driver (λ f. there_bind there_many (λ o. there_return))

pub there_binding : There IsBinding
there_binding = there_bind there_name (λ n. there_bind (there_behind (there_expr 64)) (λ v. there_return))

pub there_links : There IsLinks
there_links = there_bind there_maybe (λ o. there_return)

pub there_direction : There IsDirection
there_direction = there_token (record { word = Shows In; at = 0 }) false refl

pub there_port : There IsPort
there_port = there_bind there_direction (λ o. there_bind there_sized (λ s. there_return))

pub there_ports : There IsPorts
there_ports = there_bind there_port (λ f. there_bind there_many (λ o. there_return))

pub there_item : There IsItem
there_item = there_word ItemByWord (Keyed (Begins Code)) 0 (there_bind there_sized (λ s. there_bind (there_behind there_number) (λ n. there_bind (there_before (there_behind there_name)) (λ c. there_return))))

-- ---- what they begin with

starts_when : Starts (λ t. expr_word t.word ≡ false) (Before IsWhen Semicolon)
starts_when = record {
  at = λ x v r. elim r.first [
    | without e n ↦ (let s = r.second.first in (s.token, r.second.back, r.parts ∙ ap (λ y. y ++ r.back) e ∙ r.second.parts ∙ ap (λ y. y ++ r.second.back) s.parts, ap expr_word s.is))
    | with_one a b n ↦ (let s = b.first in (s.token, b.back ++ r.back, r.parts ∙ ap (λ y. y ++ r.back) (b.parts ∙ ap (λ y. y ++ b.back) s.parts), ap expr_word s.is))
  ];
}

pub when_apart : {U W : Type 0} {B : U → List Lexed → Option NetExprModel → List Lexed → W → Type 0} {more : Lexed → Bool} → Apart after_expr (λ a. Bind (Before IsWhen Semicolon) (B a)) more
when_apart = starts_apart (λ a. starts_inner starts_when) (λ t h. h)

leaf_first : (w : Word) (at : ℕ) (x : List Lexed) (v : NetExprModel) → LeafBehind w at x v → first_word w ≡ true
leaf_first (Name n) at x v h = refl
leaf_first (Number n) at x v h = refl
leaf_first _ at x v h = absurd h

expr_first : (E : List Lexed → NetExprModel → Type 0) (w : Word) (at : ℕ) (x : List Lexed) (v : NetExprModel) → ExprBehind E w at x v → first_word w ≡ true
expr_first E (Keyed (Operates o)) at x v h = refl
expr_first E (Name n) at x v h = refl
expr_first E (Number n) at x v h = refl
expr_first E _ at x v h = absurd h

abbrev First : Lexed → Type 0
First t = first_word t.word ≡ true

by_word : {V : Type 0} {B : Word → ℕ → List Lexed → V → Type 0} → ((w : Word) (at : ℕ) (x : List Lexed) (v : V) → B w at x v → first_word w ≡ true) → Starts First (ByWord B)
by_word f = record { at = λ x v r. (r.first.token, r.back, r.parts ∙ ap (λ y. y ++ r.back) r.first.parts, subst First r.first.is (f r.value.word r.value.at r.back v r.second)) }

starts_expr : (d : ℕ) → Starts First (IsExpr d)
unfolding IsExpr
starts_expr zero = by_word leaf_first
starts_expr (suc d) = by_word (expr_first (IsExpr d))

pub driven : Repeated First IsDriver never after_drivers
driven = record { starts = starts_inner (starts_expr 64); opens = λ t h. h; apart = λ t h. refl; wider = λ t h. refl }

abbrev Named : Lexed → Type 0
Named t = name_word t.word ≡ true

starts_name : {W : Type 0} {B : List Lexed → Ident → List Lexed → W → Type 0} → Starts Named (Bind IsName B)
starts_name = starts_bind (λ t i h. ap (λ (l : Lexed). name_word l.word) h)

pub starts_bindings : Starts Named IsBindings
starts_bindings = starts_inner starts_name

pub equated : Repeated Named IsEquation never after_equations
equated = record { starts = starts_inner starts_name; opens = λ t h. h; apart = λ t h. refl; wider = λ t h. refl }

link_goes_on : (w : Word) → link_word w ≡ false → expr_word w ≡ false
link_goes_on (Name n) e = absurd cc
link_goes_on (Shows Comma) e = absurd cc
link_goes_on (Shows s) e = e
link_goes_on _ e = refl

pub linked : Repeated (Shown Comma) (Behind Comma IsBinding) after_expr after_links
linked = record { starts = begun; opens = λ t h. ap link_word h; apart = λ t h. ap expr_word h; wider = λ t h. link_goes_on t.word h }

pub named_link : (w : Word) → name_word w ≡ true → link_word w ≡ true
named_link (Name n) e = refl
named_link _ e = absurd cc

when_goes_on : (w : Word) → when_word w ≡ false → expr_word w ≡ false
when_goes_on (Shows When) e = absurd cc
when_goes_on (Shows s) e = e
when_goes_on _ e = refl

pub when_narrow : (c : List Lexed) → Stops after_when c → Stops after_expr c
when_narrow [] h = tt
when_narrow (t ∷ c) h = when_goes_on t.word h

pub itemed : Repeated (λ t. (i : ItemWord) × (t.word ≡ Keyed (Begins i))) IsItem never after_items
itemed = record { starts = item_starts; opens = λ t h. ap item_word h.1; apart = λ t h. refl; wider = λ t h. refl }
  where
    item_words : (w : Word) (at : ℕ) (x : List Lexed) (v : UnitModel) → ItemByWord w at x v → (i : ItemWord) × (w ≡ Keyed (Begins i))
    item_words (Keyed (Begins i)) at x v h = (i, refl)
    item_words _ at x v h = absurd h

    item_starts : Starts (λ t. (i : ItemWord) × (t.word ≡ Keyed (Begins i))) IsItem
    item_starts = record {
      at = λ x v r. (
        r.first.token,
        r.back,
        r.parts ∙ ap (λ y. y ++ r.back) r.first.parts,
        (let k = item_words r.value.word r.value.at r.back v r.second in (k.0, ap (λ (t : Lexed). t.word) (sym r.first.is) ∙ k.1)),
      );
    }

pub no_item : {more : Lexed → Bool} {ts : List Lexed} → HasNoItem ts → FailsAs IsItem more ts (StopsAt (length ts))
no_item none_here = stops_at (fails_here there_item.text there_item.value there_item.is (λ x w c r st e.
    let f = itemed.starts.at x w r in
    none_here.never_so f.0 (sym e ∙ ap (λ y. head (y ++ c)) f.2) f.3.0 f.3.1))

-- ---- the first token by a test

pub not_so : {b : Bool} {test : Word → Bool} {ts : List Lexed} → (IsTrue b ↔ BeginsSo test ts) → b ≡ false → (t : Lexed) → head ts ≡ Some t → test t.word ≡ true → ⊥
not_so {b = b} {test = test} {ts = ts} f e t h is = absurd (clash (f.1 (so ts h)))
  where
    clash : IsTrue b → ⊥
    clash g = (let k : b ≡ true = g in cc)

    so : (us : List Lexed) → head us ≡ Some t → BeginsSo test us
    so [] e2 = absurd cc
    so (u ∷ us) e2 = record { token = u; rest = us; parts = refl; is = (let ut : u ≡ t = cc in ap (λ (l : Lexed). test l.word) ut ∙ is) }

-- ---- the loops

pub list_start : {V Y : Type 0} (see : Y → V) {X : List Lexed → V → Type 0} {more : Lexed → Bool} {y : Y} {ys : List Y} {ts : List Lexed} → ys ≡ y ∷ []
    → Leads (λ vs. map see ys ++ vs) (ListOf X) more ts (Bind (ListOf X) (λ _ vs. Return (see y ∷ vs))) more ts
list_start see {X = X} {more = more} {y = y} {ts = ts} e = subst (λ ys. Leads (λ vs. map see ys ++ vs) (ListOf X) more ts (Bind (ListOf X) (λ _ vs. Return (see y ∷ vs))) more ts) (sym e) returned

map_same : {A : Type 0} (xs : List A) → map (λ x. x) xs ≡ xs
map_same [] = refl
map_same (x ∷ xs) = ap (λ ys. x ∷ ys) (map_same xs)

pub ports_end : {ts rest : List Lexed} {xs : List Port} → Reads IsPorts after_list ts (map (λ p. p) xs) rest → Reads IsPorts after_list ts xs rest
ports_end {ts = ts} {rest = rest} {xs = xs} r = subst (λ y. Reads IsPorts after_list ts y rest) (map_same xs) r

-- ---- directions

pub direction_one : (t : Lexed) (v w : Bool) → t.word ≡ Shows (direction v) → t.word ≡ Shows (direction w) → w ≡ v
direction_one t true true e f = refl
direction_one t false false e f = refl
direction_one t true false e f = (let g : Shows Out ≡ Shows In = sym e ∙ f in absurd cc)
direction_one t false true e f = (let g : Shows In ≡ Shows Out = sym e ∙ f in absurd cc)

pub no_direction : (t : Lexed) → (t.word ≡ Shows Out → ⊥) → (t.word ≡ Shows In → ⊥) → (w : Bool) → t.word ≡ Shows (direction w) → ⊥
no_direction t f g true h = f h
no_direction t f g false h = g h

pub not_true : {b : Bool} {P : Type 0} → (IsTrue b ↔ P) → b ≡ false → P → ⊥
not_true {b = b} f e p = (let k : b ≡ true = f.1 p in absurd cc)
