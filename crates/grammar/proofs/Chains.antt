-- Chains of operands, grouped to the left, with a limit on their tokens.
use Rattle.std.proofs.Common.{◌≡◌, ℕ, ◌+◌, ◌-◌, ◌≤◌, List, [], ◌∷◌, ◌++◌, length, Bool, true, false, Option, Some, ◌⊎◌, inl, inr, refl, sym, ap, subst, ◌∙◌, append_assoc, arith}
use Rattle.std.proofs.lemmas.List.{length-append, append-nil}
use Rattle.grammar.specs.declared.stop.ParseStop.{ParseStop}
use Rattle.grammar.specs.Reading.{Within, Tail, done, step, Chain, head, Stops, Agrees, Reads, Fails, FailsAs, Leads}
use Rattle.grammar.proofs.Steps.{bind_first}
use Rattle.grammar.proofs.Passing.{Apart}
use Rattle.grammar.proofs.Limits.{used_length, limited, limited_fails}

-- the operators of a chain may go on behind it, and not behind one of its operands
pub record Chained {T V O : Type 0} (X : List T → V → Type 0) (op : T → Option O) (more_x more : T → Bool) : Type 0 where
  pub opens : (t : T) (o : O) → op t ≡ Some o → more t ≡ true
  pub closes : (t : T) (o : O) → op t ≡ Some o → more_x t ≡ false
  pub wider : (t : T) → more t ≡ false → more_x t ≡ false
  pub some : (us : List T) (b : V) → X us b → 1 ≤ length us

module _ {T V O : Type 0} {X : List T → V → Type 0} {op : T → Option O} {more_x more : T → Bool} (k : Chained X op more_x more) (join : V → O → V → V) where
  record Step (a : V) (x : List T) (v : V) : Type 0 where
    pub sign : T
    pub o : O
    pub us : List T
    pub b : V
    pub zs : List T
    pub parts : x ≡ sign ∷ (us ++ zs)
    pub is_op : op sign ≡ Some o
    pub operand : X us b
    pub others : Tail X op join (join a o b) zs v

  cases : (a : V) (x : List T) (v : V) → Tail X op join a x v → ((x ≡ []) × (v ≡ a)) ⊎ Step a x v
  cases a x v done = inl (refl, refl)
  cases a x v (step {t = t} {o = o} {us = us} {b = b} {zs = zs} e p q) = inr (record { sign = t; o = o; us = us; b = b; zs = zs; parts = refl; is_op = e; operand = p; others = q })

  wider_stops : (c : List T) → Stops more c → Stops more_x c
  wider_stops [] h = tt
  wider_stops (t ∷ c) h = k.wider t h

  -- what may follow an operand in a chain
  tail_stops : (a : V) (y : List T) (w : V) (c : List T) → Tail X op join a y w → Stops more c → Stops more_x (y ++ c)
  tail_stops a y w c done st = wider_stops c st
  tail_stops a y w c (step {t = t} {o = o} e p q) st = k.closes t o e

  clash : (t : T) (o : O) → op t ≡ Some o → (c : List T) → head c ≡ Some t → Stops more c → ⊥
  clash t o is_op [] e st = absurd cc
  clash t o is_op (y ∷ c) e st =
      let yt : y ≡ t = cc in
      let h : more t ≡ true = k.opens t o is_op in
      let f : more y ≡ false = st in
      cc

  -- no operator follows, or there is no room for one
  pub tail_ends : {room : ℕ} {ts : List T} {a : V} → ((t : T) (o : O) → head ts ≡ Some t → op t ≡ Some o → room ≤ 1) → Reads (Within room (Tail X op join a)) more ts a ts
  tail_ends {room = room} {ts = ts} {a = a} ends = record {
    used = [];
    parts = refl;
    is = record { text = done; fits = omega arith };
    only = λ x w c r st agrees. elim (cases a x w r.text) [
      | inl e ↦ (e.0, e.1)
      | inr s ↦
          let e : Some s.sign ≡ head ts = ap (λ y. head (y ++ c)) (sym s.parts) ∙ ap head agrees.parts ∙ agrees.same in
          let f : room ≤ 1 = ends s.sign s.o (sym e) s.is_op in
          let n : 1 ≤ length s.us = k.some s.us s.b s.operand in
          let m : length x ≤ room = r.fits in
          absurd (omega (arith, ap length s.parts, length-append s.us s.zs))
    ];
  }

  -- after an operator and an operand
  module _ (room : ℕ) (a : V) (t : T) (o : O) (is_op : op t ≡ Some o) (ts m : List T) (b : V) (p : Reads (Within (room - 1) X) more_x ts b m) where
    first_step : (x : List T) (w : V) (c : List T) (q s : List T) → m ≡ q ++ s → Within room (Tail X op join a) x w → Stops more c → Agrees (x ++ c) (t ∷ (p.used ++ q)) s
        → (zs : List T) × (x ≡ t ∷ (p.used ++ zs)) × Within (room - 1 - length p.used) (Tail X op join (join a o b)) zs w × Agrees (zs ++ c) q s
    first_step x w c q s split r st agrees = elim (cases a x w r.text) [
      | inl e ↦
          let e2 : head c ≡ Some t = ap (λ y. head (y ++ c)) (sym e.0) ∙ ap head agrees.parts in
          absurd (clash t o is_op c e2 st)
      | inr z ↦
          let e : z.sign ∷ ((z.us ++ z.zs) ++ c) ≡ t ∷ ((p.used ++ q) ++ agrees.tail) = ap (λ y. y ++ c) (sym z.parts) ∙ agrees.parts in
          let same_sign : z.sign ≡ t = cc in
          let tails : (z.us ++ z.zs) ++ c ≡ (p.used ++ q) ++ agrees.tail = cc in
          let e0 : op t ≡ Some z.o = ap op (sym same_sign) ∙ z.is_op in
          let same_o : z.o ≡ o = cc in
          let whole : Agrees ((z.us ++ z.zs) ++ c) (p.used ++ q) s = record { tail = agrees.tail; parts = tails; same = agrees.same } in
          let n : 1 + (length z.us + length z.zs) ≤ room = (let m1 : length x ≤ room = r.fits in omega (arith, ap length z.parts, length-append z.us z.zs)) in
          let f = bind_first (Within (room - 1) X) (λ _ b2 y w2. Tail X op join (join a z.o b2) y w2) more_x more (λ x2 a2 y2 w2 c2 h1 h2 h3. tail_stops (join a z.o a2) y2 w2 c2 h2 h3)
          p.used m q s b p.only split (z.us ++ z.zs) w c
          (record { front = z.us; back = z.zs; value = z.b; parts = refl; first = record { text = z.operand; fits = omega arith }; second = z.others }) st whole in
          let value : Tail X op join (join a o b) z.zs w = subst (λ y. Tail X op join (join a o y) z.zs w) f.1 (subst (λ y. Tail X op join (join a y z.b) z.zs w) same_o z.others) in
          let lens : length z.us ≡ length p.used = ap length f.0 in
          (z.zs, z.parts ∙ ap (λ y. y ∷ (z.us ++ z.zs)) same_sign ∙ ap (λ y. t ∷ (y ++ z.zs)) f.0, record { text = value; fits = omega arith }, f.2)
    ]

    tail_reads : (v : V) (s : List T) → Reads (Within (room - 1 - length p.used) (Tail X op join (join a o b))) more m v s → 1 ≤ room → Reads (Within room (Tail X op join a)) more (t ∷ ts) v s
    tail_reads v s r long = record {
      used = t ∷ (p.used ++ r.used);
      parts = ap (λ y. t ∷ y) (p.parts ∙ ap (λ y. p.used ++ y) r.parts ∙ sym (append_assoc p.used r.used s));
      is = record { text = step is_op p.is.text r.is.text; fits = (let h1 : length p.used ≤ room - 1 = p.is.fits in let h2 : length r.used ≤ room - 1 - length p.used = r.is.fits in omega (arith, length-append p.used r.used)) };
      only = λ x w c q st agrees.
          let f = first_step x w c r.used s r.parts q st agrees in
          let g = r.only f.0 w c f.2 st f.3 in
          (f.1 ∙ ap (λ y. t ∷ (p.used ++ y)) g.0, g.1);
    }

    tail_fails_later : (left : ℕ) → Fails (Within (room - 1 - length p.used) (Tail X op join (join a o b))) more m left → 1 ≤ room → Fails (Within room (Tail X op join a)) more (t ∷ ts) left
    tail_fails_later left r long = record {
      used = t ∷ (p.used ++ r.used);
      rest = r.rest;
      left_is = r.left_is;
      end = r.end;
      value = r.value;
      parts = ap (λ y. t ∷ y) (p.parts ∙ ap (λ y. p.used ++ y) r.parts ∙ sym (append_assoc p.used r.used r.rest));
      begins = subst (λ y. Within room (Tail X op join a) (t ∷ y) r.value) (sym (append_assoc p.used r.used r.end))
          (record { text = step is_op p.is.text r.begins.text; fits = (let h1 : length p.used ≤ room - 1 = p.is.fits in let h2 : length (r.used ++ r.end) ≤ room - 1 - length p.used = r.begins.fits in omega (arith, length-append p.used (r.used ++ r.end))) });
      none = λ x w c q st agrees.
          let f = first_step x w c r.used r.rest r.parts q st agrees in
          r.none f.0 w c f.2 st f.3;
    }

  pub tail_leads : {room : ℕ} {a b : V} {t : T} {o : O} {all ts m : List T} → all ≡ t ∷ ts → op t ≡ Some o → 1 ≤ room → Reads (Within (room - 1) X) more_x ts b m
      → Leads (λ v. v) (Within (room - 1 - (length ts - length m)) (Tail X op join (join a o b))) more m (Within room (Tail X op join a)) more all
  tail_leads {room = room} {a = a} {b = b} {t = t} {o = o} {all = all} {ts = ts} {m = m} parts is_op long p =
      subst (λ y. Leads (λ v. v) (Within (room - 1 - (length ts - length m)) (Tail X op join (join a o b))) more m (Within room (Tail X op join a)) more y) (sym parts)
      (subst (λ n. Leads (λ v. v) (Within (room - 1 - n) (Tail X op join (join a o b))) more m (Within room (Tail X op join a)) more (t ∷ ts)) (used_length p)
      (record { reads = λ v s r. tail_reads room a t o is_op ts m b p v s r long; fails = λ left r. tail_fails_later room a t o is_op ts m b p left r long }))

  -- an operator, and no operand
  pub tail_fails : {room : ℕ} {a : V} {t : T} {o : O} {all ts : List T} {stop : ParseStop} → all ≡ t ∷ ts → op t ≡ Some o → 1 ≤ room → FailsAs (Within (room - 1) X) more_x ts stop → FailsAs (Within room (Tail X op join a)) more all stop
  tail_fails {room = room} {a = a} {t = t} {o = o} {all = all} {ts = ts} parts is_op long f = record { fails = λ left h. subst (λ y. Fails (Within room (Tail X op join a)) more y left) (sym parts) (inside left (f.fails left h)) }
    where
      inside : (left : ℕ) → Fails (Within (room - 1) X) more_x ts left → Fails (Within room (Tail X op join a)) more (t ∷ ts) left
      inside left p = record {
        used = t ∷ p.used;
        rest = p.rest;
        left_is = p.left_is;
        end = p.end;
        value = join a o p.value;
        parts = ap (λ y. t ∷ y) p.parts;
        begins = subst (λ y. Within room (Tail X op join a) (t ∷ y) (join a o p.value)) (append-nil (p.used ++ p.end))
            (record { text = step is_op p.begins.text done; fits = (let h1 : length (p.used ++ p.end) ≤ room - 1 = p.begins.fits in omega (arith, length-append {A = T} (p.used ++ p.end) [])) });
        none = λ x w c r st agrees. elim (cases a x w r.text) [
          | inl e ↦
              let e2 : head c ≡ Some t = ap (λ y. head (y ++ c)) (sym e.0) ∙ ap head agrees.parts in
              clash t o is_op c e2 st
          | inr z ↦
              let e : z.sign ∷ ((z.us ++ z.zs) ++ c) ≡ t ∷ (p.used ++ agrees.tail) = ap (λ y. y ++ c) (sym z.parts) ∙ agrees.parts in
              let tails : (z.us ++ z.zs) ++ c ≡ p.used ++ agrees.tail = cc in
              let n : length z.us ≤ room - 1 = (let m1 : length x ≤ room = r.fits in omega (arith, ap length z.parts, length-append z.us z.zs)) in
              p.none z.us z.b (z.zs ++ c) (record { text = z.operand; fits = n }) (tail_stops (join a z.o z.b) z.zs w c z.others st) (record { tail = agrees.tail; parts = sym (append_assoc z.us z.zs c) ∙ tails; same = agrees.same })
        ];
      }

  chain_apart : Apart more_x (λ a. Tail X op join a) more
  chain_apart = record { stops = λ a y w c q st. tail_stops a y w c q st }

  no_length : (a : V) (y : List T) (w : V) → Tail X op join a y w → 0 ≤ length y
  no_length a y w t = omega arith

  -- the first operand was read
  pub chain_leads : {room : ℕ} {ts m : List T} {a : V} → Reads (Within room X) more_x ts a m → Leads (λ v. v) (Within (room - (length ts - length m)) (Tail X op join a)) more m (Within room (Chain X op join)) more ts
  chain_leads {room = room} {ts = ts} {m = m} {a = a} p = limited chain_apart room 0 no_length (subst (λ n. Reads (Within n X) more_x ts a m) (omega arith) p)

  pub chain_fails : {room : ℕ} {ts : List T} {stop : ParseStop} → FailsAs (Within room X) more_x ts stop → FailsAs (Within room (Chain X op join)) more ts stop
  chain_fails {room = room} {ts = ts} {stop = stop} f = limited_fails chain_apart room 0 no_length (omega arith) (λ a. ([], a, done, none_long)) (subst (λ n. FailsAs (Within n X) more_x ts stop) (omega arith) f)
    where
      none_long : 0 ≤ 0
      none_long = omega arith
