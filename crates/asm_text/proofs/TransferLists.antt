-- Transfers one after the other.
use Rattle.std.proofs.Common.{◌≡◌, inl, inr, ℕ, ◌<◌, List, [], ◌∷◌, ◌++◌, length, get_or, drop, codes, refl, sym, ap, subst, ◌∙◌, append_assoc, length-append, arith}
use Rattle.std.proofs.lemmas.Grind.{flat_map-append}
use Rattle.std.proofs.lemmas.List.{append-nil}
use Rattle.std.proofs.lemmas.List.Elements.{All-head, All-push, All-tail}
use Rattle.std.specs.List.{All, flat_map}
use Rattle.asm_text.specs.Lines.{after_and, text_of, transfers_text}
use Rattle.asm_text.specs.Inner.Reading.{BeginsLine, BeginsTransfer, Breaks, IsTail}

abbrev pub Within : List (List ℕ) → List ℕ → Type 0
Within texts patterns = All (λ (p : ℕ). p < length texts) patterns

-- what is left of all transfers, behind those so far
pub record More (texts : List (List ℕ)) (rest : List ℕ) (patterns all tail : List ℕ) : Type 0 where
  pub later : List ℕ
  pub within : Within texts later
  pub left : rest ≡ flat_map (after_and texts) later ++ tail
  pub same : all ≡ patterns ++ later

-- some transfers were read, and the rest is left
pub record Transfers (texts : List (List ℕ)) (text rest patterns : List ℕ) : Type 0 where
  pub some : 0 < length patterns
  pub begins : BeginsLine texts text patterns rest
  pub whole : (all tail : List ℕ) → 0 < length all → BeginsLine texts text all tail → IsTail tail → More texts rest patterns all tail

tail_breaks : (tail : List ℕ) → IsTail tail → Breaks tail
tail_breaks tail (inl e) = subst Breaks (sym e) tt
tail_breaks tail (inr p) = subst Breaks (sym p.1) refl

more_breaks : (texts : List (List ℕ)) (later tail : List ℕ) → IsTail tail → Breaks (flat_map (after_and texts) later ++ tail)
more_breaks texts [] tail t = tail_breaks tail t
more_breaks texts (p ∷ ps) tail t = refl

-- a line's transfers begin with one, and go on
first_of : (texts : List (List ℕ)) (text all tail : List ℕ) → 0 < length all → BeginsLine texts text all tail → IsTail tail → (p : ℕ) × (ps : List ℕ) × (all ≡ p ∷ ps) × BeginsTransfer texts text p (flat_map (after_and texts) ps ++ tail) × Within texts ps
first_of texts text [] tail some b t = absurd (omega (arith, some))
first_of texts text (p ∷ ps) tail some b t = (
  p,
  ps,
  refl,
  record {
    within = All-head (λ (p : ℕ). p < length texts) p ps b.within;
    is = b.is ∙ append_assoc (text_of texts p) (flat_map (after_and texts) ps) tail;
    breaks = more_breaks texts ps tail t;
  },
  All-tail (λ (p : ℕ). p < length texts) p ps b.within,
)

pub begins_one : (texts : List (List ℕ)) (text rest : List ℕ) (first : ℕ) → BeginsTransfer texts text first rest → ((p : ℕ) (r : List ℕ) → BeginsTransfer texts text p r → (first ≡ p) × (rest ≡ r)) → Transfers texts text rest (first ∷ [])
begins_one texts text rest first b only = record {
  some = omega arith;
  begins = record {
    within = All-push (λ (p : ℕ). p < length texts) [] first (λ k d h. absurd (omega arith)) b.within;
    is = b.is ∙ ap (λ (f : List ℕ). f ++ rest) (sym (append-nil (text_of texts first)));
  };
  whole = λ all tail some l t.
      (let f = first_of texts text all tail some l t in
      let s = only f.0 _ f.3 in
      record { later = f.1; within = f.4; left = s.1; same = f.2 ∙ ap (λ (p : ℕ). p ∷ f.1) (sym s.0) });
}

pub begins_none : (texts : List (List ℕ)) (text : List ℕ) → ((p : ℕ) (r : List ℕ) → BeginsTransfer texts text p r → ⊥) → (all tail : List ℕ) → 0 < length all → BeginsLine texts text all tail → IsTail tail → ⊥
begins_none texts text none all tail some l t =
    let f = first_of texts text all tail some l t in
    none f.0 _ f.3

longer : (texts : List (List ℕ)) (patterns : List ℕ) (p : ℕ) (rest : List ℕ) → 0 < length patterns → transfers_text texts (patterns ++ (p ∷ [])) ++ rest ≡ transfers_text texts patterns ++ (after_and texts p ++ rest)
longer texts [] p rest some = absurd (omega (arith, some))
longer texts (q ∷ qs) p rest some =
    ap (λ (m : List ℕ). (text_of texts q ++ m) ++ rest) (flat_map-append (after_and texts) qs (p ∷ []) ∙ ap (λ (m : List ℕ). flat_map (after_and texts) qs ++ m) (append-nil (after_and texts p)))
    ∙ ap (λ (m : List ℕ). m ++ rest) (sym (append_assoc (text_of texts q) (flat_map (after_and texts) qs) (after_and texts p)))
    ∙ append_assoc (text_of texts q ++ flat_map (after_and texts) qs) (after_and texts p) rest

module _ (texts : List (List ℕ)) (text rest patterns : List ℕ) (t : Transfers texts text rest patterns) where
  -- a later list that stands behind ` & ` begins with a transfer
  first_later : (next later tail : List ℕ) → IsTail tail → rest ≡ codes " & " ++ next → Within texts later → rest ≡ flat_map (after_and texts) later ++ tail → (p : ℕ) × (ps : List ℕ) × (later ≡ p ∷ ps) × BeginsTransfer texts next p (flat_map (after_and texts) ps ++ tail) × Within texts ps
  first_later next [] tail (inl none) e w l = absurd (omega (arith, ap length (sym e ∙ l ∙ none)))
  first_later next [] tail (inr with) e w l = absurd (let q : ◌≡◌ {A = ℕ} 38 119 = ap (λ (x : List ℕ). get_or x 1 0) (sym e ∙ l ∙ with.1) in omega arith)
  first_later next (p ∷ ps) tail is e w l = (
    p,
    ps,
    refl,
    record {
      within = All-head (λ (p : ℕ). p < length texts) p ps w;
      is =
          (let q : codes " & " ++ next ≡ codes " & " ++ ((text_of texts p ++ flat_map (after_and texts) ps) ++ tail) = sym e ∙ l in
          let r : next ≡ (text_of texts p ++ flat_map (after_and texts) ps) ++ tail = ap (drop 3) q in
          r ∙ append_assoc (text_of texts p) (flat_map (after_and texts) ps) tail);
      breaks = more_breaks texts ps tail is;
    },
    All-tail (λ (p : ℕ). p < length texts) p ps w,
  )

  pub goes_on : (next : List ℕ) (p : ℕ) (more : List ℕ) → rest ≡ codes " & " ++ next → BeginsTransfer texts next p more → ((q : ℕ) (r : List ℕ) → BeginsTransfer texts next q r → (p ≡ q) × (more ≡ r)) → Transfers texts text more (patterns ++ (p ∷ []))
  goes_on next p more e b only = record {
    some = omega (arith, length-append patterns (p ∷ []));
    begins = record {
      within = All-push (λ (p : ℕ). p < length texts) patterns p t.begins.within b.within;
      is =
          t.begins.is ∙ ap (λ (r : List ℕ). transfers_text texts patterns ++ r) (e ∙ ap (λ (r : List ℕ). codes " & " ++ r) b.is)
          ∙ sym (longer texts patterns p more t.some);
    };
    whole = λ all tail some l is.
        (let m = t.whole all tail some l is in
        let f = first_later next m.later tail is e m.within m.left in
        let s = only f.0 _ f.3 in
        record {
          later = f.1;
          within = f.4;
          left = s.1;
          same =
              m.same ∙ ap (λ (x : List ℕ). patterns ++ x) f.2 ∙ ap (λ (q : ℕ). patterns ++ (q ∷ f.1)) (sym s.0)
              ∙ sym (append_assoc patterns (p ∷ []) f.1);
        });
  }

  pub stops : (next : List ℕ) → rest ≡ codes " & " ++ next → ((q : ℕ) (r : List ℕ) → BeginsTransfer texts next q r → ⊥) → (all tail : List ℕ) → 0 < length all → BeginsLine texts text all tail → IsTail tail → ⊥
  stops next e none all tail some l is =
      let m = t.whole all tail some l is in
      let f = first_later next m.later tail is e m.within m.left in
      none f.0 _ f.3

  last_later : (later all tail : List ℕ) → ((next : List ℕ) → rest ≡ codes " & " ++ next → ⊥) → rest ≡ flat_map (after_and texts) later ++ tail → all ≡ patterns ++ later → (patterns ≡ all) × (rest ≡ tail)
  last_later [] all tail past l s = (sym (s ∙ append-nil patterns), l)
  last_later (p ∷ ps) all tail past l s = absurd (past ((text_of texts p ++ flat_map (after_and texts) ps) ++ tail) l)

  pub ends : ((next : List ℕ) → rest ≡ codes " & " ++ next → ⊥) → (all tail : List ℕ) → 0 < length all → BeginsLine texts text all tail → IsTail tail → (patterns ≡ all) × (rest ≡ tail)
  ends past all tail some l is =
      let m = t.whole all tail some l is in
      last_later m.later all tail past m.left m.same
