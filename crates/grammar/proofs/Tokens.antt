-- Single tokens, and what tells by a first token.
use Rattle.std.proofs.Common.{◌≡◌, ◌↔◌, IsTrue, ℕ, Bool, true, false, List, [], ◌∷◌, ◌++◌, length, Some, refl, sym, ap, subst, ◌∙◌}
use Rattle.grammar.specs.declared.stop.ParseStop.TheVariants.{At}
use Rattle.grammar.specs.declared.words.Ident.{Ident}
use Rattle.grammar.specs.declared.words.Lexed.{Lexed}
use Rattle.grammar.specs.declared.words.Word.{Word}
use Rattle.grammar.specs.declared.words.Word.TheVariants.{Name, Number, Symbol}
use Rattle.grammar.specs.Reading.{Return, Bind, head, FailsAs, Leads}
use Rattle.grammar.specs.Tokens.{Sign, IsName, IsNumber, ByWord, BeginsWith}
use Rattle.grammar.proofs.Steps.{token_reads, fails_here}
use Rattle.grammar.proofs.Passing.{There, there_token, there_bind, there_return, Apart, Starts, starts_bind, starts_apart, beyond, never_apart, stops_at}

pub there_sign : {S K : Type 0} {s : S} → There (Sign {K = K} s)
there_sign {s = s} = there_token (record { word = Symbol s; at = 0 }) tt refl

pub there_name : {S K : Type 0} → There (IsName {S = S} {K = K})
there_name = there_token (record { word = Name []; at = 0 }) (record { name = []; at = 0 }) refl

pub there_number : {S K : Type 0} → There (IsNumber {S = S} {K = K})
there_number = there_token (record { word = Number 0; at = 0 }) 0 refl

pub there_behind : {S K V : Type 0} {s : S} {X : List (Lexed S K) → V → Type 0} → There X → There (Bind (Sign s) (λ _ u. X))
there_behind x = there_bind there_sign (λ u. x)

pub there_before : {S K V : Type 0} {s : S} {X : List (Lexed S K) → V → Type 0} → There X → There (Bind X (λ _ v. Bind (Sign s) (λ _ u. Return v)))
there_before x = there_bind x (λ v. there_bind there_sign (λ u. there_return))

-- ---- names

pub name_token : {S K : Type 0} (t : Lexed S K) (n : List ℕ) → t.word ≡ Name n → t ≡ record { word = Name n; at = t.at }
name_token {S = S} {K = K} t n e = ap (λ (w : Word S K). let l : Lexed S K = record { word = w; at = t.at } in l) e

abbrev pub named_word : {S K : Type 0} → Ident → Word S K
named_word i = Name i.name

abbrev pub named_token : {S K : Type 0} → Ident → Lexed S K
named_token i = record { word = named_word i; at = i.at }

pub same_name : {S K : Type 0} (v w : Ident) → named_token {S = S} {K = K} v ≡ named_token w → w ≡ v
same_name {S = S} {K = K} v w e =
    let n : named_word {S = S} {K = K} v ≡ named_word w = ap (λ (t : Lexed S K). t.word) e in
    let m : w.name ≡ v.name = cc in
    let k : w.at ≡ v.at = sym (ap (λ (t : Lexed S K). t.at) e) in
    ap (λ (x : List ℕ). let l : Ident = record { name = x; at = w.at } in l) m ∙ ap (λ (x : ℕ). let l : Ident = record { name = v.name; at = x } in l) k

-- ---- a symbol that is there, or not

pub not_there : {S K : Type 0} {b : Bool} {s : S} {ts : List (Lexed S K)} → (IsTrue b ↔ BeginsWith s ts) → b ≡ false → (t : Lexed S K) → head ts ≡ Some t → t.word ≡ Symbol s → ⊥
not_there {S = S} {K = K} {b = b} {s = s} {ts = ts} f e t h is = absurd (clash (f.1 (begun ts h)))
  where
    clash : IsTrue b → ⊥
    clash g = (let k : b ≡ true = g in cc)

    begun : (us : List (Lexed S K)) → head us ≡ Some t → BeginsWith s us
    begun [] e2 = absurd cc
    begun (u ∷ us) e2 = record { token = u; rest = us; parts = refl; is = (let ut : u ≡ t = cc in ap (λ (l : Lexed S K). l.word) ut ∙ is) }

-- ---- what begins with a symbol

abbrev pub Shown : {S K : Type 0} → S → Lexed S K → Type 0
Shown s t = t.word ≡ Symbol s

pub begun : {S K W : Type 0} {s : S} {B : List (Lexed S K) → Unit {0} → List (Lexed S K) → W → Type 0} → Starts (Shown s) (Bind (Sign s) B)
begun = starts_bind (λ t u h. h)

pub ends : {S K : Type 0} (g : Word S K → Bool) → {V W : Type 0} {s : S} {B : V → List (Lexed S K) → W → Type 0} {more_b : Lexed S K → Bool} → ((a : V) → Starts (Shown s) (B a)) → g (Symbol s) ≡ false → Apart (λ t. g t.word) B more_b
ends g starts e = starts_apart starts (λ t h. ap g h ∙ e)

-- ---- by the first word

module _ {S K V : Type 0} (B : Word S K → ℕ → List (Lexed S K) → V → Type 0) where
  pub word_leads : {more : Lexed S K → Bool} {ts rest : List (Lexed S K)} {t : Lexed S K} {w : Word S K} → ts ≡ t ∷ rest → t.word ≡ w → Leads (λ v. v) (B w t.at) more rest (ByWord B) more ts
  word_leads {more = more} {ts = ts} {rest = rest} {t = t} e is = subst (λ w. Leads (λ v. v) (B w t.at) more rest (ByWord B) more ts) is (beyond never_apart (token_reads e refl (λ w h. h)))

  pub there_word : (w : Word S K) (at : ℕ) → There (B w at) → There (ByWord B)
  there_word w at there = record {
    text = record { word = w; at = at } ∷ there.text;
    value = there.value;
    is = record { front = record { word = w; at = at } ∷ []; back = there.text; value = record { word = w; at = at }; parts = refl; first = record { token = record { word = w; at = at }; parts = refl; is = refl }; second = there.is };
  }

  pub word_ended : {more : Lexed S K → Bool} {ts : List (Lexed S K)} → There (ByWord B) → ts ≡ [] → FailsAs (ByWord B) more ts (At 0)
  word_ended {more = more} there e = subst (λ y. FailsAs (ByWord B) more y (At 0)) (sym e) (stops_at (fails_here there.text there.value there.is (λ x w c r stops h.
      let k : Some r.first.token ≡ head [] = ap (λ y. head (y ++ c)) (sym (r.parts ∙ ap (λ y. y ++ r.back) r.first.parts)) ∙ h in
      absurd cc)))

  pub word_missed : {more : Lexed S K → Bool} {ts rest : List (Lexed S K)} {t : Lexed S K} → There (ByWord B) → ts ≡ t ∷ rest → ((x : List (Lexed S K)) (v : V) → B t.word t.at x v → ⊥) → FailsAs (ByWord B) more ts (At (length ts))
  word_missed {t = t} there e miss = stops_at (fails_here there.text there.value there.is (λ x w c r stops h.
      let k : Some r.first.token ≡ Some t = ap (λ y. head (y ++ c)) (sym (r.parts ∙ ap (λ y. y ++ r.back) r.first.parts)) ∙ h ∙ ap head e in
      let same : r.value ≡ t = r.first.is ∙ cc in
      miss r.back w (subst (λ (u : Lexed S K). B u.word u.at r.back w) same r.second)))
