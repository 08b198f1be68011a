-- Items one after the other.
use Rattle.std.proofs.lemmas.Bool.{eqb-true, true≢false}
use Rattle.std.proofs.Common.{◌≡◌, ◌==◌, Bool, true, false, inl, inr, ℕ, ◌<◌, List, [], ◌∷◌, ◌++◌, length, refl, sym, ap, ◌∙◌, append_assoc, arith}
use Rattle.std.proofs.lemmas.Grind.{flat_map-append}
use Rattle.std.proofs.lemmas.List.{append-nil}
use Rattle.std.proofs.lemmas.List.Elements.{All-head, All-push, All-tail}
use Rattle.std.specs.List.{All, flat_map}
use Rattle.asm_text.specs.declared.line.Item.{Item}
use Rattle.asm_text.specs.Lines.{ItemFits, after_space, items_text}
use Rattle.asm_text.specs.Inner.Reading.{BeginsItem, Breaks, IsTail, SayItems, SayTail}

-- what is left of all items, behind those so far
pub record Later (bits : ℕ) (rest : List ℕ) (items all : List Item) : Type 0 where
  pub later : List Item
  pub says : SayItems bits rest later
  pub same : all ≡ items ++ later

-- some items were read, and the rest is left
pub record Items (bits : ℕ) (text rest : List ℕ) (items : List Item) : Type 0 where
  pub front : text ≡ flat_map after_space items ++ rest
  pub fits : All (ItemFits bits) items
  pub whole : (all : List Item) → SayItems bits text all → Later bits rest items all

pub breaks_items : (items : List Item) → Breaks (flat_map after_space items)
breaks_items [] = tt
breaks_items (item ∷ items) = refl

pub begins : (bits : ℕ) (text : List ℕ) → Items bits text text []
begins bits text = record {
  front = refl;
  fits = λ k d h. absurd (omega arith);
  whole = λ all s. record { later = all; says = s; same = refl };
}

module _ (bits : ℕ) (text rest : List ℕ) (items : List Item) (p : Items bits text rest items) where
  -- a later list begins with the item that the rest begins with
  first_later : (later : List Item) → SayItems bits rest later → 0 < length rest → (item : Item) × (more : List Item) × (later ≡ item ∷ more) × BeginsItem bits rest item (flat_map after_space more) × All (ItemFits bits) more
  first_later [] s some = absurd (omega (arith, ap length s.is))
  first_later (item ∷ more) s some = (
    item,
    more,
    refl,
    record { is = s.is; fits = All-head (ItemFits bits) item more s.fits; breaks = breaks_items more },
    All-tail (ItemFits bits) item more s.fits,
  )

  pub goes_on : (item : Item) (next : List ℕ) → 0 < length rest → BeginsItem bits rest item next → ((other : Item) (after : List ℕ) → BeginsItem bits rest other after → (item ≡ other) × (next ≡ after)) → Items bits text next (items ++ (item ∷ []))
  goes_on item next some b only = record {
    front =
        p.front ∙ ap (λ (r : List ℕ). flat_map after_space items ++ r) b.is
        ∙ sym (append_assoc (flat_map after_space items) (after_space item) next)
        ∙ ap (λ (f : List ℕ). f ++ next) (ap (λ (f : List ℕ). flat_map after_space items ++ f) (sym (append-nil (after_space item))) ∙ sym (flat_map-append after_space items (item ∷ [])));
    fits = All-push (ItemFits bits) items item p.fits b.fits;
    whole = λ all s.
        (let l = p.whole all s in
        let f = first_later l.later l.says some in
        let same = only f.0 (flat_map after_space f.1) f.3 in
        record {
          later = f.1;
          says = record { is = same.1; fits = f.4 };
          same =
              l.same ∙ ap (λ (x : List Item). items ++ x) f.2
              ∙ ap (λ (i : Item). items ++ (i ∷ f.1)) (sym same.0)
              ∙ sym (append_assoc items (item ∷ []) f.1);
        });
  }

  pub stops : 0 < length rest → ((other : Item) (after : List ℕ) → BeginsItem bits rest other after → ⊥) → (all : List Item) → SayItems bits text all → ⊥
  stops some none all s =
      let l = p.whole all s in
      let f = first_later l.later l.says some in
      none f.0 (flat_map after_space f.1) f.3

  pub ends_read : rest ≡ [] → SayItems bits text items
  ends_read e = record {
    is = p.front ∙ ap (λ (r : List ℕ). flat_map after_space items ++ r) e ∙ append-nil (flat_map after_space items);
    fits = p.fits;
  }

  none_later : (later : List Item) → SayItems bits rest later → rest ≡ [] → later ≡ []
  none_later [] s e = refl
  none_later (item ∷ more) s e = absurd (let q : [] ≡ flat_map after_space (item ∷ more) = sym e ∙ s.is in cc)

  pub ends_only : rest ≡ [] → (all : List Item) → SayItems bits text all → items ≡ all
  ends_only e all s =
      let l = p.whole all s in
      sym (l.same ∙ ap (λ (x : List Item). items ++ x) (none_later l.later l.says e) ∙ append-nil items)

-- ---- with what stands before them

pub tail_is : (items : List Item) → IsTail (items_text items)
tail_is [] = inl refl
tail_is (item ∷ items) = inr (flat_map after_space (item ∷ items), refl)

pub tail_read : (bits : ℕ) (text rest : List ℕ) (items : List Item) → (rest ≡ [] → ⊥) → SayItems bits rest items → text ≡ (32 ∷ (119 ∷ (105 ∷ (116 ∷ (104 ∷ []))))) ++ rest → SayTail bits text items
tail_read bits text rest [] some s e = absurd (some s.is)
tail_read bits text rest (item ∷ items) some s e = record {
  is = e ∙ ap (λ (r : List ℕ). 32 ∷ (119 ∷ (105 ∷ (116 ∷ (104 ∷ r))))) s.is;
  fits = s.fits;
}

-- ---- whether something is left

pub filled : (xs : List ℕ) (t : Bool) → t ≡ false → t ≡ (length xs == 0) → 0 < length xs
filled [] t e f = absurd (true≢false (sym f ∙ e))
filled (x ∷ xs) t e f = omega arith

pub emptied : (xs : List ℕ) (t : Bool) → t ≡ true → t ≡ (length xs == 0) → xs ≡ []
emptied [] t e f = refl
emptied (x ∷ xs) t e f = absurd (omega (arith, eqb-true (length (x ∷ xs)) 0 (sym f ∙ e)))
