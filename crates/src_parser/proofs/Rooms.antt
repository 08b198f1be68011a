-- Texts with a limit on their tokens, step by step.
use Rattle.std.proofs.Common.{◌≡◌, ℕ, ◌-◌, ◌+◌, ◌≤◌, Bool, true, List, [], ◌∷◌, ◌++◌, length, Option, Some, None, refl, sym, ap, subst, ◌∙◌, arith}
use Rattle.std.proofs.lemmas.List.{append-nil, length-append}
use Rattle.grammar.specs.declared.stop.ParseStop.{ParseStop}
use Rattle.grammar.specs.declared.stop.ParseStop.TheVariants.{At}
use Rattle.grammar.specs.Reading.{Return, Token, Bind, Within, Maybe, without, with_one, head, never, Stops, Reads, FailsAs, Leads}
use Rattle.grammar.proofs.Steps.{leads_as, token_reads, fails_here, never_stops}
use Rattle.grammar.proofs.Passing.{Apart, never_apart, then_leads, stops_at, maybe_leads}
use Rattle.grammar.proofs.Limits.{limited, limited_fails, within_reads, within_made, used_length}
use Rattle.src_model.specs.Grammar.{Lexed, Word}
use Rattle.grammar.specs.Tokens.{ByWord}

-- a text of at most so many tokens
pub record Short {T V : Type 0} (n : ℕ) (R : List T → V → Type 0) : Type 0 where
  pub text : List T
  pub value : V
  pub is : R text value
  pub fits : length text ≤ n

-- no text is shorter, or longer
pub record AtLeast {T V : Type 0} (n : ℕ) (R : List T → V → Type 0) : Type 0 where
  pub at : (x : List T) (v : V) → R x v → n ≤ length x

pub record AtMost {T V : Type 0} (n : ℕ) (R : List T → V → Type 0) : Type 0 where
  pub at : (x : List T) (v : V) → R x v → length x ≤ n

-- where all texts fit, the limit is none
pub within_all : {T V : Type 0} {R : List T → V → Type 0} {more : T → Bool} {ts : List T} {room : ℕ} → AtMost room R → Leads (λ v. v) R more ts (Within room R) more ts
within_all fits = leads_as (λ x w r. record { text = r; fits = fits.at x w r }) (λ x w c e st r. r.text) (λ c st. st)

-- a value that is made at the end
pub within_returned : {T V W : Type 0} {make : V → W} {R : List T → V → Type 0} {more : T → Bool} {ts : List T} {room : ℕ} → Leads make (Within room R) more ts (Within room (Bind R (λ _ v. Return (make v)))) more ts
within_returned {make = make} {R = R} {room = room} = then_leads within_made (leads_as
    (λ x w m. record { text = record { front = x; back = []; value = m.text.value; parts = sym (append-nil x); first = m.text.first; second = record { empty = refl; same = m.text.made } }; fits = m.fits })
    (λ x w c e st b.
    let same = b.text.parts ∙ ap (λ z. b.text.front ++ z) b.text.second.empty ∙ append-nil b.text.front in
    record { text = record { value = b.text.value; first = subst (λ z. R z b.text.value) (sym same) b.text.first; made = b.text.second.same }; fits = b.fits })
    (λ c st. st))

-- the same of what cannot go on
pub within_closed : {T V W : Type 0} {make : V → W} {R : List T → V → Type 0} {more : T → Bool} {ts : List T} {room : ℕ} → Leads make (Within room R) never ts (Within room (Bind R (λ _ v. Return (make v)))) more ts
within_closed {make = make} = then_leads (leads_as (λ x w r. r) (λ x w c e st r. r) (λ c st. never_stops c)) within_returned

-- a first text of so many tokens was read
pub fixed_leads : {T V W : Type 0} {A : List T → V → Type 0} {B : V → List T → W → Type 0} {more : T → Bool} {room : ℕ} (n : ℕ) {ts m : List T} {a : V} → Reads A never ts a m → length ts - length m ≡ n → n ≤ room
    → Leads (λ v. v) (Within (room - n) (B a)) more m (Within room (Bind A (λ _ a. B a))) more ts
fixed_leads {A = A} {B = B} {more = more} {room = room} n {ts = ts} {m = m} {a = a} p e fits =
    subst (λ k. Leads (λ v. v) (Within (room - k) (B a)) more m (Within room (Bind A (λ _ a. B a))) more ts) e
    (limited never_apart room 0 (λ a y w b. omega arith) (within_reads (omega arith) p))

-- by the first word
pub word_within : {V : Type 0} (B : Word → ℕ → List Lexed → V → Type 0) {more : Lexed → Bool} {room : ℕ} {ts rest : List Lexed} {t : Lexed} → 1 ≤ room → ts ≡ t ∷ rest
    → Leads (λ v. v) (Within (room - 1) (B t.word t.at)) more rest (Within room (ByWord B)) more ts
word_within B {ts = ts} {rest = rest} {t = t} long e = fixed_leads {B = λ (t : Lexed). B t.word t.at} 1 (token_reads e refl (λ w h. h)) (omega (arith, ap length e)) long

pub word_ends : {V : Type 0} (B : Word → ℕ → List Lexed → V → Type 0) {more : Lexed → Bool} {room : ℕ} {ts : List Lexed} → Short room (ByWord B) → ts ≡ [] → FailsAs (Within room (ByWord B)) more ts (At 0)
word_ends B {more = more} {room = room} there e = subst (λ y. FailsAs (Within room (ByWord B)) more y (At 0)) (sym e) (stops_at (fails_here there.text there.value (record { text = there.is; fits = there.fits }) (λ x w c r stops h.
    let b = r.text in
    let k : Some b.first.token ≡ head [] = ap (λ y. head (y ++ c)) (sym (b.parts ∙ ap (λ y. y ++ b.back) b.first.parts)) ∙ h in
    absurd cc)))

pub word_misses : {V : Type 0} (B : Word → ℕ → List Lexed → V → Type 0) {more : Lexed → Bool} {room : ℕ} {ts rest : List Lexed} {t : Lexed} → Short room (ByWord B) → ts ≡ t ∷ rest
    → ((x : List Lexed) (v : V) → B t.word t.at x v → 1 + length x ≤ room → ⊥) → FailsAs (Within room (ByWord B)) more ts (At (length ts))
word_misses B {room = room} {t = t} there e miss = stops_at (fails_here there.text there.value (record { text = there.is; fits = there.fits }) (λ x w c r stops h.
    let b = r.text in
    let parts = b.parts ∙ ap (λ y. y ++ b.back) b.first.parts in
    let k : Some b.first.token ≡ Some t = ap (λ y. head (y ++ c)) (sym parts) ∙ h ∙ ap head e in
    let same : b.value ≡ t = b.first.is ∙ cc in
    let m : length x ≤ room = r.fits in
    miss b.back w (subst (λ (u : Lexed). B u.word u.at b.back w) same b.second) (omega (arith, ap length parts))))

-- ---- [ X ]

pub none_within : {T V : Type 0} {X : List T → V → Type 0} {more : T → Bool} {ts : List T} {room : ℕ} → ((x : List T) (v : V) (c : List T) → X x v → length x ≤ room → head (x ++ c) ≡ head ts → ⊥)
    → Reads (Within room (Maybe X)) more ts None ts
none_within {room = room} not_here = record {
  used = [];
  parts = refl;
  is = record { text = without refl refl; fits = omega arith };
  only = λ x w c r st agrees. elim r.text [
    | without e n ↦ (e, n)
    | with_one v q n ↦ absurd (not_here x v c q r.fits (ap head agrees.parts ∙ agrees.same))
  ];
}

pub maybe_within : {T V : Type 0} {X : List T → V → Type 0} {more_x more : T → Bool} {ts rest : List T} {t : T} {room : ℕ} → ts ≡ t ∷ rest → more t ≡ true → ((c : List T) → Stops more c → Stops more_x c)
    → Leads (λ v. Some v) (Within room X) more_x ts (Within room (Maybe X)) more ts
maybe_within {X = X} {room = room} at opens narrow = then_leads (maybe_leads at opens narrow) (leads_as
    (λ x w m. into x w m)
    (λ x w c e st m. back x w m.text m.fits)
    (λ c st. st))
  where
    into : (x : List _) (w : Option _) → Maybe (Within room X) x w → Within room (Maybe X) x w
    into x w (without e n) = record { text = without e n; fits = omega (arith, ap length e) }
    into x w (with_one a q n) = record { text = with_one a q.text n; fits = q.fits }

    back : (x : List _) (w : Option _) → Maybe X x w → length x ≤ room → Maybe (Within room X) x w
    back x w (without e n) f = without e n
    back x w (with_one a q n) f = with_one a (record { text = q; fits = f }) n

-- ---- how many tokens a text has

pub token_least : {T V : Type 0} {has : T → V → Type 0} → AtLeast 1 (Token has)
token_least = record { at = λ x v r. omega (arith, ap length r.parts) }

pub token_most : {T V : Type 0} {has : T → V → Type 0} {room : ℕ} → 1 ≤ room → AtMost room (Token has)
token_most long = record { at = λ x v r. omega (arith, ap length r.parts) }

pub token_length : {T V : Type 0} {has : T → V → Type 0} {more : T → Bool} {ts m : List T} {v : V} → Reads (Token has) more ts v m → length ts - length m ≡ 1
token_length {m = m} p = omega (arith, ap length p.parts, ap length p.is.parts, length-append p.used m)

pub return_most : {T V : Type 0} {v : V} → AtMost 0 (Return {T = T} v)
return_most = record { at = λ x v r. omega (arith, ap length r.empty) }

pub any_least : {T V : Type 0} {R : List T → V → Type 0} → AtLeast 0 R
any_least = record { at = λ x v r. omega arith }

pub bind_least : {T V W : Type 0} {A : List T → V → Type 0} {B : V → List T → W → Type 0} (m n : ℕ) → AtLeast m A → ((a : V) → AtLeast n (B a)) → AtLeast (m + n) (Bind A (λ _ a. B a))
bind_least m n la lb = record { at = λ x w b. omega (arith, ap length b.parts, length-append b.front b.back, la.at b.front b.value b.first, (lb b.value).at b.back w b.second) }

pub bind_most : {T V W : Type 0} {A : List T → V → Type 0} {B : V → List T → W → Type 0} (m n : ℕ) → AtMost m A → ((a : V) → AtMost n (B a)) → AtMost (m + n) (Bind A (λ _ a. B a))
bind_most m n la lb = record { at = λ x w b. omega (arith, ap length b.parts, length-append b.front b.back, la.at b.front b.value b.first, (lb b.value).at b.back w b.second) }

pub short_token : {T V : Type 0} {has : T → V → Type 0} (t : T) (v : V) → has t v → Short 1 (Token has)
short_token t v h = record { text = t ∷ []; value = v; is = record { token = t; parts = refl; is = h }; fits = omega arith }

pub short_return : {T V : Type 0} {v : V} → Short 0 (Return {T = T} v)
short_return {v = v} = record { text = []; value = v; is = record { empty = refl; same = refl }; fits = omega arith }

pub short_bind : {T V W : Type 0} {A : List T → V → Type 0} {B : V → List T → W → Type 0} (m n : ℕ) → Short m A → ((a : V) → Short n (B a)) → Short (m + n) (Bind A (λ _ a. B a))
short_bind m n a b =
    let c = b a.value in
    let f : length a.text ≤ m = a.fits in
    let g : length c.text ≤ n = c.fits in
    record { text = a.text ++ c.text; value = c.value; is = record { front = a.text; back = c.text; value = a.value; parts = refl; first = a.is; second = c.is }; fits = omega (arith, length-append a.text c.text) }

-- ---- a second text of so many tokens

module _ {T V W : Type 0} {A : List T → V → Type 0} {B : V → List T → W → Type 0} {more_a more_b : T → Bool} (apart : Apart more_a B more_b) (room least : ℕ) (long : least ≤ room) (short : (a : V) → AtLeast least (B a)) where
  pub first_fails : {ts : List T} {stop : ParseStop} → ((a : V) → Short least (B a)) → FailsAs (Within (room - least) A) more_a ts stop → FailsAs (Within room (Bind A (λ _ a. B a))) more_b ts stop
  first_fails there f = limited_fails apart room least (λ a y w b. (short a).at y w b) long (λ a. (let s = there a in (s.text, s.value, s.is, s.fits))) f

  pub second_leads : {ts m : List T} {a : V} → AtMost least (B a) → Reads (Within (room - least) A) more_a ts a m → Leads (λ v. v) (B a) more_b m (Within room (Bind A (λ _ a. B a))) more_b ts
  second_leads {ts = ts} {m = m} most p = then_leads (within_all (record { at = λ x w b. (let f : length p.used ≤ room - least = p.is.fits in omega (arith, used_length p, most.at x w b)) })) (limited apart room least (λ a y w b. (short a).at y w b) p)
