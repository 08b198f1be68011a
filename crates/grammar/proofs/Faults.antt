-- A text has no fault, and what is no text has one.
use Rattle.std.proofs.Common.{◌≡◌, ℕ, List, [], ◌∷◌, ◌++◌, Some, length, refl, sym, ap, subst, ◌∙◌, append_assoc}
use Rattle.grammar.specs.declared.words.Lexed.{Lexed}
use Rattle.grammar.specs.Parses.{IsFaultAt, offset_of}
use Rattle.grammar.specs.Reading.{head, Begins, IsFault}

-- one of two fronts of a list goes on with what begins the rest of the other, or the rests are the
-- same
data Fronts {T : Type 0} (front rest longer other : List T) : Type 0 where
  same : rest ≡ other → Fronts front rest longer other
  first : (t : T) (more : List T) → longer ≡ front ++ t ∷ more → head rest ≡ Some t → Fronts front rest longer other
  second : (t : T) (more : List T) → front ≡ longer ++ t ∷ more → head other ≡ Some t → Fronts front rest longer other

fronts_of : {T : Type 0} (front rest longer other : List T) → front ++ rest ≡ longer ++ other → Fronts front rest longer other
fronts_of [] rest [] other e = same e
fronts_of [] rest (t ∷ longer) other e = first t longer refl (ap head e)
fronts_of (t ∷ front) rest [] other e = second t front refl (ap head (sym e))
fronts_of (t ∷ front) rest (u ∷ longer) other e =
    let at : t ≡ u = cc in
    let behind : front ++ rest ≡ longer ++ other = cc in
    elim (fronts_of front rest longer other behind) [
      | same e ↦ same e
      | first x more parts h ↦ first x more (rw at (ap (λ xs. u ∷ xs) parts)) h
      | second x more parts h ↦ second x more (rw at (ap (λ xs. u ∷ xs) parts)) h
    ]

module _ {T V : Type 0} (R : List T → V → Type 0) where
  -- what begins a text begins one with its first tokens
  begins_shorter : (front : List T) (t : T) (more longer : List T) → longer ≡ front ++ t ∷ more → Begins R longer → Begins R (front ++ t ∷ [])
  begins_shorter front t more longer e b = record {
    end = more ++ b.end;
    value = b.value;
    text = subst (λ ts. R ts b.value) (ap (λ ts. ts ++ b.end) e ∙ append_assoc front (t ∷ more) b.end ∙ sym (append_assoc front (t ∷ []) (more ++ b.end))) b.text;
  }

  pub no_fault_of_text : (ts rest : List T) → IsFault R ts rest → (v : V) → R ts v → ⊥
  no_fault_of_text ts [] fault v text = fault.whole refl v text
  no_fault_of_text ts (t ∷ rest) fault v text =
      fault.next t refl (record { end = rest; value = v; text = subst (λ y. R y v) (fault.parts ∙ sym (append_assoc fault.front (t ∷ []) rest)) text })

  pub one_fault : (ts rest other : List T) → IsFault R ts rest → IsFault R ts other → rest ≡ other
  one_fault ts rest other a b = elim (fronts_of a.front rest b.front other (sym a.parts ∙ b.parts)) [
    | same e ↦ e
    | first t more parts h ↦ absurd (a.next t h (begins_shorter a.front t more b.front parts b.begins))
    | second t more parts h ↦ absurd (b.next t h (begins_shorter b.front t more a.front parts a.begins))
  ]

-- ---- at an offset

module _ {S K V : Type 0} (R : List (Lexed S K) → V → Type 0) (bytes : List ℕ) (ts : List (Lexed S K)) where
  pub none_in_text : (offset : ℕ) → IsFaultAt R bytes ts offset → (v : V) → R ts v → ⊥
  none_in_text offset fault v text = no_fault_of_text R ts fault.rest fault.fault v text

  pub one_offset : (offset later : ℕ) → IsFaultAt R bytes ts offset → IsFaultAt R bytes ts later → offset ≡ later
  one_offset offset later a b = a.at ∙ ap (offset_of (length bytes)) (one_fault R ts a.rest b.rest a.fault b.fault) ∙ sym b.at
