-- Whole texts.
use Rattle.std.proofs.Common.{◌≡◌, List, [], ◌∷◌, ◌++◌, length, Bool, Some, refl, sym, ap, subst, ◌∙◌, append_assoc, arith}
use Rattle.std.proofs.lemmas.List.{append-nil, length-append}
use Rattle.grammar.specs.declared.stop.ParseStop.{ParseStop}
use Rattle.grammar.specs.declared.stop.ParseStop.TheVariants.{At, Memory}
use Rattle.grammar.specs.Reading.{head, Agrees, Reads, FailsAs, IsFaultLeft, IsStop}

whole_agrees : {T : Type 0} (ts used rest : List T) → ts ≡ used ++ rest → Agrees (ts ++ []) used rest
whole_agrees ts used rest parts = record { tail = rest; parts = append-nil ts ∙ parts; same = refl }

next_agrees : {T : Type 0} (front rest : List T) (t : T) → head rest ≡ Some t → (more : List T) → Agrees (((front ++ t ∷ []) ++ more) ++ []) front rest
next_agrees front rest t h more = record { tail = t ∷ more; parts = append-nil ((front ++ t ∷ []) ++ more) ∙ append_assoc front (t ∷ []) more; same = sym h }

module _ {T V : Type 0} (R : List T → V → Type 0) (more : T → Bool) (ts : List T) where
  pub fault_of_fails : (stop : ParseStop) → FailsAs R more ts stop → IsStop R ts stop
  fault_of_fails (At left) g = let f = g.fails left refl in record {
    rest = f.rest;
    fault = record {
      front = f.used;
      parts = f.parts;
      begins = record { end = f.end; value = f.value; text = f.begins };
      next = λ t h b. f.none ((f.used ++ t ∷ []) ++ b.end) b.value [] b.text tt (next_agrees f.used f.rest t h b.end);
      whole = λ e v text. f.none ts v [] text tt (whole_agrees ts f.used f.rest f.parts);
    };
    left_is = f.left_is;
  }
  fault_of_fails Memory g = tt

  -- where a text is read and a token is left
  pub fault_of_rest : (rest : List T) (v : V) → Reads R more ts v rest → (length rest ≡ 0 → ⊥) → IsFaultLeft R ts (length rest)
  fault_of_rest rest v r some = record {
    rest = rest;
    fault = record {
      front = r.used;
      parts = r.parts;
      begins = record { end = []; value = v; text = subst (λ y. R y v) (sym (append-nil r.used)) r.is };
      next = λ t h b.
          let e = r.only ((r.used ++ t ∷ []) ++ b.end) b.value [] b.text tt (next_agrees r.used rest t h b.end) in
          absurd (omega (arith, ap length e.0, length-append (r.used ++ t ∷ []) b.end, length-append r.used (t ∷ [])));
      whole = λ e w text. some (ap length e);
    };
    left_is = refl;
  }

  pub text_of_reads : (rest : List T) (v : V) → Reads R more ts v rest → length rest ≡ 0 → R ts v
  text_of_reads rest v r e = subst (λ y. R y v) (sym (r.parts ∙ ap (λ y. r.used ++ y) (nil rest e) ∙ append-nil r.used)) r.is
    where
      nil : (xs : List T) → length xs ≡ 0 → xs ≡ []
      nil [] e = refl
      nil (x ∷ xs) e = absurd (omega arith)

  pub only_text : (rest : List T) (v : V) → Reads R more ts v rest → (w : V) → R ts w → (w ≡ v) × (length rest ≡ 0)
  only_text rest v r w text =
      let e = r.only ts w [] text tt (whole_agrees ts r.used rest r.parts) in
      (e.1, omega (arith, ap length e.0, ap length r.parts, length-append r.used rest))

  pub no_text : (stop : ParseStop) → FailsAs R more ts stop → (w : V) → R ts w → stop ≡ Memory
  no_text (At left) g w text = let f = g.fails left refl in absurd (f.none ts w [] text tt (whole_agrees ts f.used f.rest f.parts))
  no_text Memory g w text = refl
