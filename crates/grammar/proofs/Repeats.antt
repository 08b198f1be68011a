-- Repetitions.
use Rattle.std.proofs.Common.{◌≡◌, ℕ, List, [], ◌∷◌, ◌++◌, Bool, true, false, Some, ◌⊎◌, inl, inr, map, refl, sym, ap, subst, ◌∙◌, append_assoc}
use Rattle.std.proofs.lemmas.List.{append-nil, map-append}
use Rattle.grammar.specs.declared.stop.ParseStop.{ParseStop}
use Rattle.grammar.specs.Reading.{Return, Bind, Made, Many, none, some, ListOf, head, Stops, Agrees, Reads, Fails, FailsAs, Leads}
use Rattle.grammar.proofs.Steps.{bind_first, Agrees-head}
use Rattle.grammar.proofs.Passing.{Apart, Starts, start_head, starts_stops, then_leads, leads_made, fails_too}

-- what the words of X begin with, and what may stand behind one or several of them
pub record Repeated {T V : Type 0} (begins : T → Type 0) (X : List T → V → Type 0) (more_x more : T → Bool) : Type 0 where
  pub starts : Starts begins X
  pub opens : (t : T) → begins t → more t ≡ true
  pub apart : (t : T) → begins t → more_x t ≡ false
  pub wider : (t : T) → more t ≡ false → more_x t ≡ false

module _ {T V W : Type 0} {begins : T → Type 0} {X : List T → V → Type 0} {more_x more : T → Bool} (k : Repeated begins X more_x more) (last : W) (add : V → W → W) where
  abbrev All : List T → W → Type 0
  All = Many X last add

  abbrev Rest : List T → V → List T → W → Type 0
  Rest _ a = Made (add a) All

  cases : (x : List T) (w : W) → All x w → ((x ≡ []) × (w ≡ last)) ⊎ Bind X Rest x w
  cases x w none = inl (refl, refl)
  cases x w (some {us = us} {b = b} {zs = zs} {w = v} p q) = inr (record { front = us; back = zs; value = b; parts = refl; first = p; second = record { value = v; first = q; made = refl } })

  wider_stops : (c : List T) → Stops more c → Stops more_x c
  wider_stops [] h = tt
  wider_stops (t ∷ c) h = k.wider t h

  many_stops : (y : List T) (w : W) (c : List T) → All y w → Stops more c → Stops more_x (y ++ c)
  many_stops y w c none st = wider_stops c st
  many_stops y w c (some {us = us} {b = b} {zs = zs} p q) st = subst (λ z. Stops more_x z) (sym (append_assoc us zs c)) (starts_stops k.starts k.apart us b (zs ++ c) p)

  rest_stops : (x : List T) (a : V) (y : List T) (w : W) (c : List T) → X x a → Rest x a y w → Stops more c → Stops more_x (y ++ c)
  rest_stops x a y w c p q st = many_stops y q.value c q.first st

  clash : (t : T) → begins t → (c : List T) → head c ≡ Some t → Stops more c → ⊥
  clash t b [] e st = absurd cc
  clash t b (y ∷ c) e st =
      let yt : y ≡ t = cc in
      let h : more t ≡ true = k.opens t b in
      let f : more y ≡ false = st in
      cc

  pub many_ends : {ts : List T} → ((t : T) → head ts ≡ Some t → begins t → ⊥) → Reads All more ts last ts
  many_ends not_here = record {
    used = [];
    parts = refl;
    is = none;
    only = λ x w c r st agrees. elim (cases x w r) [
      | inl e ↦ e
      | inr b ↦
          let f = start_head k.starts b.front b.value (b.back ++ c) b.first in
          absurd (not_here f.0 (sym agrees.same ∙ sym (ap head agrees.parts) ∙ ap head (ap (λ y. y ++ c) b.parts ∙ append_assoc b.front b.back c) ∙ f.1) f.2)
    ];
  }

  module _ {ts : List T} {t : T} (at : head ts ≡ Some t) (is : begins t) where
    pub many_leads : {m : List T} {b : V} → Reads X more_x ts b m → Leads (add b) All more m All more ts
    many_leads {m = m} {b = b} p = record {
      reads = λ v s r. record {
        used = p.used ++ r.used;
        parts = p.parts ∙ ap (λ y. p.used ++ y) r.parts ∙ sym (append_assoc p.used r.used s);
        is = some p.is r.is;
        only = λ x w c q st agrees. elim (cases x w q) [
          | inl e ↦ absurd (empty x c p.used r.used s m p.parts r.parts e.0 st agrees)
          | inr z ↦
              let f = bind_first X Rest more_x more rest_stops p.used m r.used s b p.only r.parts x w c z st agrees in
              let g = r.only z.back z.second.value c z.second.first st f.2 in
              (z.parts ∙ ap (λ y. y ++ z.back) f.0 ∙ ap (λ y. p.used ++ y) g.0, z.second.made ∙ ap (λ y. add y z.second.value) f.1 ∙ ap (λ y. add b y) g.1)
        ];
      };
      fails = λ left r. record {
        used = p.used ++ r.used;
        rest = r.rest;
        parts = p.parts ∙ ap (λ y. p.used ++ y) r.parts ∙ sym (append_assoc p.used r.used r.rest);
        left_is = r.left_is;
        end = r.end;
        value = add b r.value;
        begins = subst (λ y. All y (add b r.value)) (sym (append_assoc p.used r.used r.end)) (some p.is r.begins);
        none = λ x w c q st agrees. elim (cases x w q) [
          | inl e ↦ empty x c p.used r.used r.rest m p.parts r.parts e.0 st agrees
          | inr z ↦
              let f = bind_first X Rest more_x more rest_stops p.used m r.used r.rest b p.only r.parts x w c z st agrees in
              r.none z.back z.second.value c z.second.first st f.2
        ];
      };
    }
      where
        empty : (x c u q s m : List T) → ts ≡ u ++ m → m ≡ q ++ s → x ≡ [] → Stops more c → Agrees (x ++ c) (u ++ q) s → ⊥
        empty x c u q s m e1 e2 e3 st agrees =
            clash t is c (ap (λ y. head (y ++ c)) (sym e3) ∙ Agrees-head (x ++ c) (u ++ q) s agrees ∙ ap head (append_assoc u q s) ∙ ap (λ y. head (u ++ y)) (sym e2) ∙ ap head (sym e1) ∙ at) st

    pub many_fails : {stop : ParseStop} → FailsAs X more_x ts stop → FailsAs All more ts stop
    many_fails f = record { fails = λ left h. inside left (f.fails left h) }
      where
        inside : (left : ℕ) → Fails X more_x ts left → Fails All more ts left
        inside left p = record {
          used = p.used;
          rest = p.rest;
          parts = p.parts;
          left_is = p.left_is;
          end = p.end;
          value = add p.value last;
          begins = subst (λ y. All y (add p.value last)) (append-nil (p.used ++ p.end)) (some p.begins none);
          none = λ x w c q st agrees. elim (cases x w q) [
            | inl e ↦ clash t is c (ap (λ y. head (y ++ c)) (sym e.0) ∙ Agrees-head (x ++ c) p.used p.rest agrees ∙ ap head (sym p.parts) ∙ at) st
            | inr z ↦ p.none z.front z.value (z.back ++ c) z.first (rest_stops z.front z.value z.back w c z.first z.second st)
                (subst (λ y. Agrees y p.used p.rest) (ap (λ y. y ++ c) z.parts ∙ append_assoc z.front z.back c) agrees)
          ];
        }

-- ---- lists that a loop reads: out is what it has

module _ {T V W Y : Type 0} {begins : T → Type 0} {X : List T → V → Type 0} {more_x more more_s : T → Bool} (k : Repeated begins X more_x more) (see : Y → V) (out : List Y) (make : List V → W) {ts us : List T} {S : List T → W → Type 0}
    (so_far : Leads (λ vs. make (map see out ++ vs)) (ListOf X) more ts S more_s us) where
  pub list_ends : ((t : T) → head ts ≡ Some t → begins t → ⊥) → Reads S more_s us (make (map see out)) ts
  list_ends not_here = subst (λ y. Reads S more_s us (make y) ts) (append-nil (map see out)) (so_far.reads [] ts (many_ends k [] (λ v vs. v ∷ vs) not_here))

  module _ {t : T} (at : head ts ≡ Some t) (is : begins t) where
    pub list_fails : {stop : ParseStop} → FailsAs X more_x ts stop → FailsAs S more_s us stop
    list_fails f = fails_too so_far (many_fails k [] (λ v vs. v ∷ vs) at is f)

    pub list_goes_on : {m : List T} (b : Y) → Reads X more_x ts (see b) m → Leads (λ vs. make (map see (out ++ b ∷ []) ++ vs)) (ListOf X) more m S more_s us
    list_goes_on b p = leads_made (λ vs. ap make (longer vs)) (then_leads (many_leads k [] (λ v vs. v ∷ vs) at is p) so_far)
      where
        longer : (vs : List V) → map see out ++ (see b ∷ vs) ≡ map see (out ++ b ∷ []) ++ vs
        longer vs = sym (ap (λ y. y ++ vs) (map-append see out (b ∷ [])) ∙ append_assoc (map see out) (see b ∷ []) vs)

-- a list may stand behind one of its own texts
pub list_apart : {T V W : Type 0} {begins : T → Type 0} {X : List T → V → Type 0} {more_x more : T → Bool} {make : V → List V → W} → Repeated begins X more_x more → Apart more_x (λ a. Bind (ListOf X) (λ _ vs. Return (make a vs))) more
list_apart {more_x = more_x} k = record { stops = λ a y w c b st. subst (λ z. Stops more_x (z ++ c)) (sym (b.parts ∙ ap (λ z. b.front ++ z) b.second.empty ∙ append-nil b.front)) (many_stops k [] (λ v vs. v ∷ vs) b.front b.value c b.first st) }
