-- The steps of a parser: what it owes at each of its exits follows from what the steps before gave.
use Rattle.std.proofs.Common.{◌≡◌, ℕ, List, [], ◌∷◌, ◌++◌, length, Bool, true, false, Option, Some, None, Result, Ok, Err, refl, sym, ap, subst, ◌∙◌}
use Rattle.grammar.specs.declared.stop.ParseStop.{ParseStop}
use Rattle.grammar.specs.declared.stop.ParseStop.TheVariants.{At}
use Rattle.grammar.specs.Reading.{Return, Token, Bind, Maybe, without, with_one, Many, none, head, Stops, never, Agrees, Reads, Fails, FailsAs, Gives, Leads}
use Rattle.grammar.proofs.Steps.{never_stops, return_reads, token_fails, bind_reads, bind_fails_first, bind_fails_second, Agrees-head}

-- ---- answers

pub stops_at : {T V : Type 0} {R : List T → V → Type 0} {more : T → Bool} {ts : List T} {n : ℕ} → Fails R more ts n → FailsAs R more ts (At n)
stops_at {R = R} {more = more} {ts = ts} f = record { fails = λ left h. (let e : _ ≡ left = cc in subst (λ k. Fails R more ts k) e f) }

pub fails_too : {T V W : Type 0} {make : V → W} {R : List T → V → Type 0} {m : T → Bool} {ts : List T} {S : List T → W → Type 0} {n : T → Bool} {us : List T} {stop : ParseStop}
    → Leads make R m ts S n us → FailsAs R m ts stop → FailsAs S n us stop
fails_too l f = record { fails = λ left h. l.fails left (f.fails left h) }

pub gives_too : {T V X : Type 0} (see : X → V × List T) {R : List T → V → Type 0} {m : T → Bool} {ts : List T} {S : List T → V → Type 0} {n : T → Bool} {us : List T}
    → Leads (λ v. v) R m ts S n us → (r : Result X ParseStop) → Gives see R m ts r → Gives see S n us r
gives_too see l (Ok x) g = l.reads _ _ g
gives_too see l (Err e) g = fails_too l g

pub same_leads : {T V : Type 0} {R : List T → V → Type 0} {m : T → Bool} {ts : List T} → Leads (λ v. v) R m ts R m ts
same_leads = record { reads = λ v s r. r; fails = λ left r. r }

pub then_leads : {T U V W : Type 0} {f : U → V} {g : V → W} {Q : List T → U → Type 0} {m : T → Bool} {ts : List T} {R : List T → V → Type 0} {n : T → Bool} {us : List T} {S : List T → W → Type 0} {o : T → Bool} {vs : List T}
    → Leads f Q m ts R n us → Leads g R n us S o vs → Leads (λ u. g (f u)) Q m ts S o vs
then_leads p q = record { reads = λ v s r. q.reads _ s (p.reads v s r); fails = λ left r. q.fails left (p.fails left r) }

pub leads_made : {T V W : Type 0} {f g : V → W} {R : List T → V → Type 0} {m : T → Bool} {ts : List T} {S : List T → W → Type 0} {n : T → Bool} {us : List T}
    → ((v : V) → f v ≡ g v) → Leads f R m ts S n us → Leads g R m ts S n us
leads_made {S = S} {n = n} {us = us} e l = record { reads = λ v s r. subst (λ w. Reads S n us w s) (e v) (l.reads v s r); fails = l.fails }

-- ---- texts that are there

pub record There {T V : Type 0} (R : List T → V → Type 0) : Type 0 where
  pub text : List T
  pub value : V
  pub is : R text value

pub there_return : {T V : Type 0} {v : V} → There (Return {T = T} v)
there_return {v = v} = record { text = []; value = v; is = record { empty = refl; same = refl } }

pub there_token : {T V : Type 0} {has : T → V → Type 0} (t : T) (v : V) → has t v → There (Token has)
there_token t v h = record { text = t ∷ []; value = v; is = record { token = t; parts = refl; is = h } }

pub there_bind : {T V W : Type 0} {A : List T → V → Type 0} {B : V → List T → W → Type 0} → There A → ((a : V) → There (B a)) → There (Bind A (λ _ a. B a))
there_bind a b =
    let c = b a.value in
    record { text = a.text ++ c.text; value = c.value; is = record { front = a.text; back = c.text; value = a.value; parts = refl; first = a.is; second = c.is } }

pub there_maybe : {T V : Type 0} {X : List T → V → Type 0} → There (Maybe X)
there_maybe = record { text = []; value = None; is = without refl refl }

pub there_many : {T V W : Type 0} {X : List T → V → Type 0} {last : W} {add : V → W → W} → There (Many X last add)
there_many {last = last} = record { text = []; value = last; is = none }

-- ---- one after the other

-- what may stand behind a word of the first keeps it from going on
pub record Apart {T V W : Type 0} (more_a : T → Bool) (B : V → List T → W → Type 0) (more_b : T → Bool) : Type 0 where
  pub stops : (a : V) (y : List T) (w : W) (c : List T) → B a y w → Stops more_b c → Stops more_a (y ++ c)

pub never_apart : {T V W : Type 0} {B : V → List T → W → Type 0} {more_b : T → Bool} → Apart never B more_b
never_apart = record { stops = λ a y w c b st. never_stops (y ++ c) }

module _ {T V W : Type 0} {A : List T → V → Type 0} {B : V → List T → W → Type 0} {more_a more_b : T → Bool} (apart : Apart more_a B more_b) where
  -- the first was read: what the second reads
  pub beyond : {ts m : List T} {a : V} → Reads A more_a ts a m → Leads (λ v. v) (B a) more_b m (Bind A (λ _ a. B a)) more_b ts
  beyond {ts = ts} {m = m} {a = a} p = record {
    reads = λ v s r. bind_reads A (λ _ a. B a) more_a more_b (λ x a y w c p q st. apart.stops a y w c q st) ts m s a v p r;
    fails = λ left r. bind_fails_second A (λ _ a. B a) more_a more_b (λ x a y w c p q st. apart.stops a y w c q st) ts m a left p r;
  }

  pub beyond_reads : {ts m s : List T} {a : V} {w : W} → Reads A more_a ts a m → Reads (B a) more_b m w s → Reads (Bind A (λ _ a. B a)) more_b ts w s
  beyond_reads {ts = ts} {m = m} {s = s} {a = a} {w = w} p r = bind_reads A (λ _ a. B a) more_a more_b (λ x a y w c p q st. apart.stops a y w c q st) ts m s a w p r

  pub beyond_fails : {ts m : List T} {a : V} {stop : ParseStop} → Reads A more_a ts a m → FailsAs (B a) more_b m stop → FailsAs (Bind A (λ _ a. B a)) more_b ts stop
  beyond_fails {ts = ts} {m = m} {a = a} p f = record { fails = λ left h. bind_fails_second A (λ _ a. B a) more_a more_b (λ x a y w c p q st. apart.stops a y w c q st) ts m a left p (f.fails left h) }

  -- the first was not read
  pub short_of : {ts : List T} {stop : ParseStop} → ((a : V) → There (B a)) → FailsAs A more_a ts stop → FailsAs (Bind A (λ _ a. B a)) more_b ts stop
  short_of {ts = ts} there f = record { fails = λ left h. bind_fails_first A (λ _ a. B a) more_a more_b (λ x a y w c p q st. apart.stops a y w c q st) ts left (λ x a p. (let t = there a in (t.text, t.value, t.is))) (f.fails left h) }

-- the same behind what cannot go on
module _ {T V W : Type 0} {A : List T → V → Type 0} {B : V → List T → W → Type 0} {more_b : T → Bool} where
  pub on : {ts m s : List T} {a : V} {w : W} → Reads A never ts a m → Reads (B a) more_b m w s → Reads (Bind A (λ _ a. B a)) more_b ts w s
  on p r = beyond_reads never_apart p r

  pub past : {ts m : List T} {a : V} {stop : ParseStop} → Reads A never ts a m → FailsAs (B a) more_b m stop → FailsAs (Bind A (λ _ a. B a)) more_b ts stop
  past p f = beyond_fails never_apart p f

  pub stuck : {ts : List T} {stop : ParseStop} → ((a : V) → There (B a)) → FailsAs A never ts stop → FailsAs (Bind A (λ _ a. B a)) more_b ts stop
  stuck there f = short_of never_apart there f

-- ---- by the first token

pub record Starts {T V : Type 0} (begins : T → Type 0) (R : List T → V → Type 0) : Type 0 where
  pub at : (x : List T) (v : V) → R x v → (t : T) × (rest : List T) × (x ≡ t ∷ rest) × begins t

pub starts_bind : {T U W : Type 0} {has : T → U → Type 0} {begins : T → Type 0} {B : List T → U → List T → W → Type 0} → ((t : T) (u : U) → has t u → begins t) → Starts begins (Bind (Token has) B)
starts_bind of = record { at = λ x w b. (b.first.token, b.back, b.parts ∙ ap (λ y. y ++ b.back) b.first.parts, of b.first.token b.value b.first.is) }

pub starts_inner : {T V W : Type 0} {begins : T → Type 0} {A : List T → V → Type 0} {B : List T → V → List T → W → Type 0} → Starts begins A → Starts begins (Bind A B)
starts_inner s = record { at = λ x w b. (let f = s.at b.front b.value b.first in (f.0, f.1 ++ b.back, b.parts ∙ ap (λ y. y ++ b.back) f.2, f.3)) }

pub start_head : {T V : Type 0} {begins : T → Type 0} {R : List T → V → Type 0} → Starts begins R → (x : List T) (v : V) (c : List T) → R x v → (t : T) × (head (x ++ c) ≡ Some t) × begins t
start_head s x v c r = let f = s.at x v r in (f.0, ap (λ y. head (y ++ c)) f.2, f.3)

pub starts_stops : {T V : Type 0} {begins : T → Type 0} {more : T → Bool} {R : List T → V → Type 0} → Starts begins R → ((t : T) → begins t → more t ≡ false) → (y : List T) (w : V) (c : List T) → R y w → Stops more (y ++ c)
starts_stops {more = more} s ends y w c r = let f = s.at y w r in subst (λ z. Stops more (z ++ c)) (sym f.2) (ends f.0 f.3)

pub starts_apart : {T V W : Type 0} {begins : T → Type 0} {more_a more_b : T → Bool} {B : V → List T → W → Type 0} → ((a : V) → Starts begins (B a)) → ((t : T) → begins t → more_a t ≡ false) → Apart more_a B more_b
starts_apart s ends = record { stops = λ a y w c b st. starts_stops (s a) ends y w c b }

-- what is nothing, or begins with a token that ends the first
pub maybe_apart : {T U V W : Type 0} {begins : T → Type 0} {X : List T → V → Type 0} {more_a more_b : T → Bool} → Starts begins X → ((t : T) → begins t → more_a t ≡ false) → ((t : T) → more_b t ≡ false → more_a t ≡ false)
    → {B : U → Option V → List T → W → Type 0} → ((a : U) (o : Option V) → (x : List T) (w : W) → B a o x w → x ≡ []) → Apart more_a (λ a. Bind (Maybe X) (λ _ o. B a o)) more_b
maybe_apart {T = T} {more_a = more_a} {more_b = more_b} s ends wider empty = record {
  stops = λ a y w c b st. elim b.first [
    | without e n ↦ subst (λ z. Stops more_a (z ++ c)) (sym (b.parts ∙ ap (λ z. z ++ b.back) e ∙ empty a b.value b.back w b.second)) (narrow c st)
    | with_one v r n ↦ (let f = s.at b.front v r in subst (λ z. Stops more_a (z ++ c)) (sym (b.parts ∙ ap (λ z. z ++ b.back) f.2)) (ends f.0 f.3))
  ];
}
  where
    narrow : (c : List T) → Stops more_b c → Stops more_a c
    narrow [] h = tt
    narrow (t ∷ c) h = wider t h

-- ---- [ X ]

-- a token that can go on a text and stands behind it
clash_head : {T : Type 0} (more : T → Bool) (t : T) → more t ≡ true → (c : List T) → head c ≡ Some t → Stops more c → ⊥
clash_head more t m [] e st = absurd cc
clash_head more t m (y ∷ c) e st =
    let yt : y ≡ t = cc in
    let k : more y ≡ false = st in
    cc

pub maybe_none : {T V : Type 0} {begins : T → Type 0} {X : List T → V → Type 0} {more : T → Bool} {ts : List T} → Starts begins X → ((t : T) → head ts ≡ Some t → begins t → ⊥) → Reads (Maybe X) more ts None ts
maybe_none s not_here = record {
  used = [];
  parts = refl;
  is = without refl refl;
  only = λ x w c r st agrees. elim r [
    | without e n ↦ (e, n)
    | with_one v q n ↦
        let f = start_head s x v c q in
        absurd (not_here f.0 (sym agrees.same ∙ sym (ap head agrees.parts) ∙ f.1) f.2)
  ];
}

pub maybe_leads : {T V : Type 0} {X : List T → V → Type 0} {more_x more : T → Bool} {ts rest : List T} {t : T} → ts ≡ t ∷ rest → more t ≡ true → ((c : List T) → Stops more c → Stops more_x c) → Leads (λ v. Some v) X more_x ts (Maybe X) more ts
maybe_leads {X = X} {more = more} {ts = ts} {t = t} at opens narrow = record {
  reads = λ v s r. record {
    used = r.used;
    parts = r.parts;
    is = with_one v r.is refl;
    only = λ x w c q st agrees. elim q [
      | without e n ↦ absurd (empty x c r.used s r.parts e st agrees)
      | with_one a p n ↦ (let f = r.only x a c p (narrow c st) agrees in (f.0, n ∙ ap (λ y. Some y) f.1))
    ];
  };
  fails = λ left r. record {
    used = r.used;
    rest = r.rest;
    parts = r.parts;
    left_is = r.left_is;
    end = r.end;
    value = Some r.value;
    begins = with_one r.value r.begins refl;
    none = λ x w c q st agrees. elim q [
      | without e n ↦ empty x c r.used r.rest r.parts e st agrees
      | with_one a p n ↦ r.none x a c p (narrow c st) agrees
    ];
  };
}
  where
    empty : (x c u s : List _) → ts ≡ u ++ s → x ≡ [] → Stops more c → Agrees (x ++ c) u s → ⊥
    empty x c u s e n st agrees = clash_head more t opens c (ap (λ y. head (y ++ c)) (sym n) ∙ Agrees-head (x ++ c) u s agrees ∙ ap head (sym e) ∙ ap head at) st

-- ---- a token that is not there

pub token_ended : {T V : Type 0} {has : T → V → Type 0} {more : T → Bool} {ts : List T} → There (Token has) → ts ≡ [] → FailsAs (Token has) more ts (At 0)
token_ended {has = has} {more = more} there e = subst (λ y. FailsAs (Token has) more y (At 0)) (sym e) (stops_at (token_fails there.is.token there.value there.is.is (λ u w h. absurd (clash h))))
  where
    clash : {A : Type 0} {u : A} → head [] ≡ Some u → ⊥
    clash h = cc

pub token_missed : {T V : Type 0} {has : T → V → Type 0} {more : T → Bool} {ts rest : List T} {t : T} → There (Token has) → ts ≡ t ∷ rest → ((w : V) → has t w → ⊥) → FailsAs (Token has) more ts (At (length ts))
token_missed {has = has} {ts = ts} {t = t} there e miss = stops_at (token_fails there.is.token there.value there.is.is (λ u w h k.
    let g : Some t ≡ Some u = ap head (sym e) ∙ h in
    let ut : u ≡ t = cc in
    miss w (subst (λ y. has y w) ut k)))

-- ---- a value that is made at the end

pub return_apart : {T V W : Type 0} {make : V → W} {more : T → Bool} → Apart more (λ v. Return (make v)) more
return_apart {more = more} = record { stops = λ a y w c b st. subst (λ z. Stops more (z ++ c)) (sym b.empty) st }

pub returned : {T V W : Type 0} {make : V → W} {R : List T → V → Type 0} {more : T → Bool} {ts : List T} → Leads make R more ts (Bind R (λ _ v. Return (make v))) more ts
returned = record {
  reads = λ v s r. beyond_reads return_apart r return_reads;
  fails = λ left f. ((short_of return_apart (λ a. there_return) (stops_at f)).fails left refl);
}

pub returned_reads : {T V W : Type 0} {make : V → W} {R : List T → V → Type 0} {more : T → Bool} {ts rest : List T} {v : V} → Reads R more ts v rest → Reads (Bind R (λ _ v. Return (make v))) more ts (make v) rest
returned_reads r = beyond_reads return_apart r return_reads

-- ---- [ X ], where it begins

pub maybe_reads : {T V : Type 0} {X : List T → V → Type 0} {more_x more : T → Bool} {ts rest s : List T} {t : T} {v : V} → ts ≡ t ∷ rest → more t ≡ true → ((c : List T) → Stops more c → Stops more_x c) → Reads X more_x ts v s → Reads (Maybe X) more ts (Some v) s
maybe_reads {s = s} {v = v} at opens narrow r = (maybe_leads at opens narrow).reads v s r

pub maybe_fails : {T V : Type 0} {X : List T → V → Type 0} {more_x more : T → Bool} {ts rest : List T} {t : T} {stop : ParseStop} → ts ≡ t ∷ rest → more t ≡ true → ((c : List T) → Stops more c → Stops more_x c) → FailsAs X more_x ts stop → FailsAs (Maybe X) more ts stop
maybe_fails at opens narrow f = fails_too (maybe_leads at opens narrow) f

pub reads_too : {T V W : Type 0} {make : V → W} {R : List T → V → Type 0} {m : T → Bool} {ts rest : List T} {S : List T → W → Type 0} {n : T → Bool} {us : List T} {v : V} → Leads make R m ts S n us → Reads R m ts v rest → Reads S n us (make v) rest
reads_too {rest = rest} {v = v} l r = l.reads v rest r
