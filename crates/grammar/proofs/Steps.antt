-- How what is read follows from what is read of the parts.
use Rattle.std.proofs.Common.{◌≡◌, ℕ, List, [], ◌∷◌, ◌++◌, length, Bool, Some, refl, sym, ap, subst, ◌∙◌, append_assoc}
use Rattle.std.proofs.lemmas.List.{append_cancel_left}
use Rattle.grammar.specs.Reading.{Return, Token, Bind, head, Stops, never, Agrees, Reads, Fails, Leads}

-- ---- lists

head-append : {T : Type 0} (q x y : List T) → head x ≡ head y → head (q ++ x) ≡ head (q ++ y)
head-append [] x y e = e
head-append (t ∷ q) x y e = refl

-- what agrees with more agrees with its front
Agrees-front : {T : Type 0} (all u q s : List T) → Agrees all (u ++ q) s → Agrees all u (q ++ s)
Agrees-front all u q s a = record { tail = q ++ a.tail; parts = a.parts ∙ append_assoc u q a.tail; same = head-append q a.tail s a.same }

-- and behind that front with the others
Agrees-back : {T : Type 0} (all u q s : List T) → Agrees (u ++ all) (u ++ q) s → Agrees all q s
Agrees-back all u q s a = record { tail = a.tail; parts = append_cancel_left u all (q ++ a.tail) (a.parts ∙ append_assoc u q a.tail); same = a.same }

pub Agrees-head : {T : Type 0} (all u s : List T) → Agrees all u s → head all ≡ head (u ++ s)
Agrees-head all u s a = ap head a.parts ∙ head-append u a.tail s a.same

pub never_stops : {T : Type 0} (c : List T) → Stops never c
never_stops [] = tt
never_stops (t ∷ c) = refl

-- ---- other words for a relation

pub reads_as : {T V : Type 0} {R S : List T → V → Type 0} {more more_s : T → Bool} {ts : List T} {v : V} {rest : List T}
    → ((x : List T) (w : V) → R x w → S x w) → ((x : List T) (w : V) (c : List T) → head (x ++ c) ≡ head ts → Stops more_s c → S x w → R x w)
    → ((c : List T) → Stops more_s c → Stops more c) → Reads R more ts v rest → Reads S more_s ts v rest
reads_as {ts = ts} {v = v} {rest = rest} to from narrow r = record {
  used = r.used;
  parts = r.parts;
  is = to r.used v r.is;
  only = λ x w c s stops a. r.only x w c (from x w c (Agrees-head (x ++ c) r.used rest a ∙ ap head (sym r.parts)) stops s) (narrow c stops) a;
}

pub fails_as : {T V : Type 0} {R S : List T → V → Type 0} {more more_s : T → Bool} {ts : List T} {left : ℕ}
    → ((x : List T) (w : V) → R x w → S x w) → ((x : List T) (w : V) (c : List T) → head (x ++ c) ≡ head ts → Stops more_s c → S x w → R x w)
    → ((c : List T) → Stops more_s c → Stops more c) → Fails R more ts left → Fails S more_s ts left
fails_as {ts = ts} to from narrow r = record {
  used = r.used;
  rest = r.rest;
  parts = r.parts;
  left_is = r.left_is;
  end = r.end;
  value = r.value;
  begins = to (r.used ++ r.end) r.value r.begins;
  none = λ x w c s stops a. r.none x w c (from x w c (Agrees-head (x ++ c) r.used r.rest a ∙ ap head (sym r.parts)) stops s) (narrow c stops) a;
}

pub leads_as : {T V : Type 0} {R S : List T → V → Type 0} {more more_s : T → Bool} {ts : List T}
    → ((x : List T) (w : V) → R x w → S x w) → ((x : List T) (w : V) (c : List T) → head (x ++ c) ≡ head ts → Stops more_s c → S x w → R x w)
    → ((c : List T) → Stops more_s c → Stops more c) → Leads (λ v. v) R more ts S more_s ts
leads_as to from narrow = record { reads = λ v s r. reads_as to from narrow r; fails = λ left r. fails_as to from narrow r }

-- nothing begins so
pub fails_here : {T V : Type 0} {R : List T → V → Type 0} {more : T → Bool} {ts : List T} (end : List T) (value : V) → R end value
    → ((x : List T) (w : V) (c : List T) → R x w → Stops more c → head (x ++ c) ≡ head ts → ⊥) → Fails R more ts (length ts)
fails_here {ts = ts} end value is none = record {
  used = [];
  rest = ts;
  parts = refl;
  left_is = refl;
  end = end;
  value = value;
  begins = is;
  none = λ x w c r stops a. none x w c r stops (Agrees-head (x ++ c) [] ts a);
}

-- ---- nothing, and one token

pub return_reads : {T V : Type 0} {more : T → Bool} {ts : List T} {v : V} → Reads (Return v) more ts v ts
return_reads = record { used = []; parts = refl; is = record { empty = refl; same = refl }; only = λ x w c r st agrees. (r.empty, r.same) }

pub token_reads : {T V : Type 0} {has : T → V → Type 0} {more : T → Bool} {ts rest : List T} {t : T} {v : V}
    → ts ≡ t ∷ rest → has t v → ((w : V) → has t w → w ≡ v) → Reads (Token has) more ts v rest
token_reads {has = has} {t = t} {v = v} e h one = record {
  used = t ∷ [];
  parts = e;
  is = record { token = t; parts = refl; is = h };
  only = λ x w c r stops a.
      let e2 : r.token ∷ c ≡ t ∷ a.tail = ap (λ y. y ++ c) (sym r.parts) ∙ a.parts in
      let wt : r.token ≡ t = cc in
      (r.parts ∙ ap (λ y. y ∷ []) wt, one w (subst (λ y. has y w) wt r.is));
}

pub token_fails : {T V : Type 0} {has : T → V → Type 0} {more : T → Bool} {ts : List T} (t : T) (v : V) → has t v
    → ((u : T) (w : V) → head ts ≡ Some u → has u w → ⊥) → Fails (Token has) more ts (length ts)
token_fails t v h not_it = fails_here (t ∷ []) v (record { token = t; parts = refl; is = h })
    (λ x w c r stops e. not_it r.token w (sym (ap (λ y. head (y ++ c)) (sym r.parts) ∙ e)) r.is)

-- ---- one after the other

module _ {T V W : Type 0} (A : List T → V → Type 0) (B : List T → V → List T → W → Type 0) (more_a more_b : T → Bool)
    (stops : (x : List T) (a : V) (y : List T) (w : W) (c : List T) → A x a → B x a y w → Stops more_b c → Stops more_a (y ++ c)) where
  -- a text of both that agrees has the first text in front
  pub bind_first : (u m q s : List T) (a : V)
      → ((x : List T) (w : V) (c : List T) → A x w → Stops more_a c → Agrees (x ++ c) u m → (x ≡ u) × (w ≡ a))
      → m ≡ q ++ s → (z : List T) (w : W) (c : List T) → (b : Bind A B z w) → Stops more_b c → Agrees (z ++ c) (u ++ q) s
      → (b.front ≡ u) × (b.value ≡ a) × Agrees (b.back ++ c) q s
  bind_first u m q s a only split z w c b st agrees =
      let e : z ++ c ≡ b.front ++ (b.back ++ c) = ap (λ y. y ++ c) b.parts ∙ append_assoc b.front b.back c in
      let agrees2 : Agrees (b.front ++ (b.back ++ c)) (u ++ q) s = subst (λ y. Agrees y (u ++ q) s) e agrees in
      let agrees3 : Agrees (b.front ++ (b.back ++ c)) u m = subst (λ y. Agrees (b.front ++ (b.back ++ c)) u y) (sym split) (Agrees-front (b.front ++ (b.back ++ c)) u q s agrees2) in
      let same = only b.front b.value (b.back ++ c) b.first (stops b.front b.value b.back w c b.first b.second st) agrees3 in
      (same.0, same.1, Agrees-back (b.back ++ c) u q s (subst (λ y. Agrees (y ++ (b.back ++ c)) (u ++ q) s) same.0 agrees2))

  pub bind_reads : (ts m s : List T) (a : V) (w : W) (p : Reads A more_a ts a m) → Reads (B p.used a) more_b m w s → Reads (Bind A B) more_b ts w s
  bind_reads ts m s a w p r = record {
    used = p.used ++ r.used;
    parts = p.parts ∙ ap (λ y. p.used ++ y) r.parts ∙ sym (append_assoc p.used r.used s);
    is = record { front = p.used; back = r.used; value = a; parts = refl; first = p.is; second = r.is };
    only = λ z w2 c b st agrees.
        let f = bind_first p.used m r.used s a p.only r.parts z w2 c b st agrees in
        let second : B p.used a b.back w2 = subst (λ y. B p.used y b.back w2) f.1 (subst (λ y. B y b.value b.back w2) f.0 b.second) in
        let g = r.only b.back w2 c second st f.2 in
        (b.parts ∙ ap (λ y. y ++ b.back) f.0 ∙ ap (λ y. p.used ++ y) g.0, g.1);
  }

  pub bind_fails_second : (ts m : List T) (a : V) (left : ℕ) (p : Reads A more_a ts a m) → Fails (B p.used a) more_b m left → Fails (Bind A B) more_b ts left
  bind_fails_second ts m a left p r = record {
    used = p.used ++ r.used;
    rest = r.rest;
    parts = p.parts ∙ ap (λ y. p.used ++ y) r.parts ∙ sym (append_assoc p.used r.used r.rest);
    left_is = r.left_is;
    end = r.end;
    value = r.value;
    begins = record { front = p.used; back = r.used ++ r.end; value = a; parts = append_assoc p.used r.used r.end; first = p.is; second = r.begins };
    none = λ z w2 c b st agrees.
        let f = bind_first p.used m r.used r.rest a p.only r.parts z w2 c b st agrees in
        let second : B p.used a b.back w2 = subst (λ y. B p.used y b.back w2) f.1 (subst (λ y. B y b.value b.back w2) f.0 b.second) in
        r.none b.back w2 c second st f.2;
  }

  pub bind_fails_first : (ts : List T) (left : ℕ) → ((x : List T) (a : V) → A x a → (y : List T) × (w : W) × B x a y w) → Fails A more_a ts left → Fails (Bind A B) more_b ts left
  bind_fails_first ts left goes_on p =
      let g = goes_on (p.used ++ p.end) p.value p.begins in
      record {
        used = p.used;
        rest = p.rest;
        parts = p.parts;
        left_is = p.left_is;
        end = p.end ++ g.0;
        value = g.1;
        begins = record { front = p.used ++ p.end; back = g.0; value = p.value; parts = sym (append_assoc p.used p.end g.0); first = p.begins; second = g.2 };
        none = λ z w c b st agrees.
            let e : z ++ c ≡ b.front ++ (b.back ++ c) = ap (λ y. y ++ c) b.parts ∙ append_assoc b.front b.back c in
            p.none b.front b.value (b.back ++ c) b.first (stops b.front b.value b.back w c b.first b.second st) (subst (λ y. Agrees y p.used p.rest) e agrees);
      }
