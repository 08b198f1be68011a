-- Texts with a limit on their tokens.
use Rattle.std.proofs.Common.{◌≡◌, ℕ, ◌-◌, ◌≤◌, List, length, Bool, refl, ap, subst, ◌∙◌, arith}
use Rattle.std.proofs.lemmas.List.{length-append}
use Rattle.grammar.specs.declared.stop.ParseStop.{ParseStop}
use Rattle.grammar.specs.Reading.{Bind, Made, Within, Reads, FailsAs, Leads}
use Rattle.grammar.proofs.Steps.{reads_as, fails_as, bind_reads, bind_fails_first, bind_fails_second}
use Rattle.grammar.proofs.Passing.{Apart}

pub used_length : {T V : Type 0} {R : List T → V → Type 0} {m : T → Bool} {ts rest : List T} {v : V} (p : Reads R m ts v rest) → length p.used ≡ length ts - length rest
used_length {rest = rest} p = omega (arith, ap length p.parts, length-append p.used rest)

-- what was read has few enough tokens
pub within_reads : {T V : Type 0} {R : List T → V → Type 0} {m : T → Bool} {ts rest : List T} {v : V} {room : ℕ} → length ts - length rest ≤ room → Reads R m ts v rest → Reads (Within room R) m ts v rest
within_reads fits r = record { used = r.used; parts = r.parts; is = record { text = r.is; fits = omega (arith, used_length r) }; only = λ x w c q st agrees. r.only x w c q.text st agrees }

pub within_made : {T V W : Type 0} {make : V → W} {R : List T → V → Type 0} {room : ℕ} {more : T → Bool} {ts : List T} → Leads make (Within room R) more ts (Within room (Made make R)) more ts
within_made {make = make} = record {
  reads = λ v s r. record {
    used = r.used;
    parts = r.parts;
    is = record { text = record { value = v; first = r.is.text; made = refl }; fits = r.is.fits };
    only = λ x w c m st agrees. let f = r.only x m.text.value c (record { text = m.text.first; fits = m.fits }) st agrees in (f.0, m.text.made ∙ ap make f.1);
  };
  fails = λ left r. record {
    used = r.used;
    rest = r.rest;
    parts = r.parts;
    left_is = r.left_is;
    end = r.end;
    value = make r.value;
    begins = record { text = record { value = r.value; first = r.begins.text; made = refl }; fits = r.begins.fits };
    none = λ x w c m st agrees. r.none x m.text.value c (record { text = m.text.first; fits = m.fits }) st agrees;
  };
}

-- ---- one after the other: least is the fewest tokens of the second

module _ {T V W : Type 0} (A : List T → V → Type 0) (B : V → List T → W → Type 0) (room least : ℕ) (short : (a : V) (y : List T) (w : W) → B a y w → least ≤ length y) where
  abbrev First : List T → V → Type 0
  First = Within (room - least) A

  abbrev Second : List T → V → List T → W → Type 0
  Second x a = Within (room - length x) (B a)

  to : (x : List T) (w : W) → Bind First Second x w → Within room (Bind A (λ _ a. B a)) x w
  to x w b =
      let h1 : length b.front ≤ room - least = b.first.fits in
      let h2 : length b.back ≤ room - length b.front = b.second.fits in
      record {
        text = record { front = b.front; back = b.back; value = b.value; parts = b.parts; first = b.first.text; second = b.second.text };
        fits = omega (arith, ap length b.parts, length-append b.front b.back, short b.value b.back w b.second.text);
      }

  from : (x : List T) (w : W) → Within room (Bind A (λ _ a. B a)) x w → Bind First Second x w
  from x w r =
      let b = r.text in
      let h : length x ≤ room = r.fits in
      let s : least ≤ length b.back = short b.value b.back w b.second in
      record {
        front = b.front;
        back = b.back;
        value = b.value;
        parts = b.parts;
        first = record { text = b.first; fits = omega (arith, ap length b.parts, length-append b.front b.back) };
        second = record { text = b.second; fits = omega (arith, ap length b.parts, length-append b.front b.back) };
      }

module _ {T V W : Type 0} {A : List T → V → Type 0} {B : V → List T → W → Type 0} {more_a more_b : T → Bool} (apart : Apart more_a B more_b) (room least : ℕ)
    (short : (a : V) (y : List T) (w : W) → B a y w → least ≤ length y) where
  -- the first was read: the second has what is left of the room
  pub limited : {ts m : List T} {a : V} → Reads (Within (room - least) A) more_a ts a m → Leads (λ v. v) (Within (room - (length ts - length m)) (B a)) more_b m (Within room (Bind A (λ _ a. B a))) more_b ts
  limited {ts = ts} {m = m} {a = a} p = subst (λ n. Leads (λ v. v) (Within (room - n) (B a)) more_b m (Within room (Bind A (λ _ a. B a))) more_b ts) (used_length p) (record {
    reads = λ v s r. reads_as (to A B room least short) (λ x w c e st q. from A B room least short x w q) (λ c st. st)
        (bind_reads (First A B room least short) (Second A B room least short) more_a more_b (λ x a y w c f q st. apart.stops a y w c q.text st) ts m s a v p r);
    fails = λ left r. fails_as (to A B room least short) (λ x w c e st q. from A B room least short x w q) (λ c st. st)
        (bind_fails_second (First A B room least short) (Second A B room least short) more_a more_b (λ x a y w c f q st. apart.stops a y w c q.text st) ts m a left p r);
  })

  -- the first was not read, and a second would fit behind it
  pub limited_fails : {ts : List T} {stop : ParseStop} → least ≤ room → ((a : V) → (y : List T) × (w : W) × B a y w × (length y ≤ least)) → FailsAs (Within (room - least) A) more_a ts stop → FailsAs (Within room (Bind A (λ _ a. B a))) more_b ts stop
  limited_fails {ts = ts} fits goes_on f = record {
    fails = λ left h. fails_as (to A B room least short) (λ x w c e st q. from A B room least short x w q) (λ c st. st)
        (bind_fails_first (First A B room least short) (Second A B room least short) more_a more_b (λ x a y w c f q st. apart.stops a y w c q.text st) ts left
        (λ x a p. let g = goes_on a in let k : length x ≤ room - least = p.fits in let j : length g.0 ≤ least = g.3 in (g.0, g.1, record { text = g.2; fits = omega arith })) (f.fails left h));
  }
