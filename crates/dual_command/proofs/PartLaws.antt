-- A text of a part tells one part, or is refused at one byte.
use Rattle.std.proofs.Common.{◌≡◌, ℕ, Bool, true, false, List, [], ◌∷◌, ◌++◌, length, slice_set, Some, None, refl, sym, ap, subst, ◌∙◌}
use Rattle.std.proofs.lemmas.List.{length-replicate, length-set}
use Rattle.std.specs.List.{concat}
use Rattle.src_model.specs.declared.program.Var.{Var as Declared}
use Rattle.text_lines.specs.Lines.{lines_of}
use Rattle.dual_bank.specs.Parts.{AllName, IsPart, IsPartFault, newly_named, none_told}

module _ (vars : List Declared) where
  name_one : (told a b : List Bool) (lines : List (List ℕ)) → AllName vars told lines a → AllName vars told lines b → a ≡ b
  name_one told a b [] p q = sym p ∙ q
  name_one told a b (line ∷ lines) p q =
      let e : Some p.0 ≡ Some q.0 = sym p.1 ∙ q.1 in
      let f : p.0 ≡ q.0 = cc in
      name_one (slice_set told q.0 true) a b lines (subst (λ (n : ℕ). AllName vars (slice_set told n true) lines a) f p.2) q.2

  name_long : (told a : List Bool) (lines : List (List ℕ)) → AllName vars told lines a → length a ≡ length told
  name_long told a [] p = ap length (sym p)
  name_long told a (line ∷ lines) p = name_long (slice_set told p.0 true) a lines p.2 ∙ length-set told p.0 true

  -- where all lines name, so does each behind those before it
  none_bad : (told all there : List Bool) (before : List (List ℕ)) (line : List ℕ) (after : List (List ℕ)) → AllName vars told (before ++ (line ∷ after)) all → AllName vars told before there → newly_named vars there line ≡ None → ⊥
  none_bad told all there [] line after p q bad =
      let e : newly_named vars told line ≡ None = ap (λ (t : List Bool). newly_named vars t line) q ∙ bad in
      let f : Some p.0 ≡ None = sym p.1 ∙ e in
      absurd (cc)
  none_bad told all there (x ∷ before) line after p q bad =
      let e : Some p.0 ≡ Some q.0 = sym p.1 ∙ q.1 in
      let f : p.0 ≡ q.0 = cc in
      none_bad (slice_set told q.0 true) all there before line after (subst (λ (n : ℕ). AllName vars (slice_set told n true) (before ++ (line ∷ after)) all) f p.2) q.2 bad

  -- the lines before the first that doesn't are the same
  bad_one : (told one other : List Bool) (before more : List (List ℕ)) (line last : List ℕ) (after rest : List (List ℕ)) → before ++ (line ∷ after) ≡ more ++ (last ∷ rest)
      → AllName vars told before one → newly_named vars one line ≡ None → AllName vars told more other → newly_named vars other last ≡ None → before ≡ more
  bad_one told one other [] [] line last after rest e p bad q worse = refl
  bad_one told one other [] (y ∷ more) line last after rest e p bad q worse =
      let same : line ≡ y = cc in
      let f : newly_named vars told line ≡ None = ap (λ (t : List Bool). newly_named vars t line) p ∙ bad in
      let g : Some q.0 ≡ None = sym q.1 ∙ ap (newly_named vars told) (sym same) ∙ f in
      absurd (cc g)
  bad_one told one other (x ∷ before) [] line last after rest e p bad q worse =
      let same : last ≡ x = cc in
      let f : newly_named vars told last ≡ None = ap (λ (t : List Bool). newly_named vars t last) q ∙ worse in
      let g : Some p.0 ≡ None = sym p.1 ∙ ap (newly_named vars told) (sym same) ∙ f in
      absurd (cc g)
  bad_one told one other (x ∷ before) (y ∷ more) line last after rest e p bad q worse =
      let same : x ≡ y = cc in
      let tails : before ++ (line ∷ after) ≡ more ++ (last ∷ rest) = cc in
      let g : Some p.0 ≡ Some q.0 = sym p.1 ∙ ap (newly_named vars told) same ∙ q.1 in
      let n : p.0 ≡ q.0 = cc in
      let later = bad_one (slice_set told q.0 true) one other before more line last after rest tails (subst (λ (i : ℕ). AllName vars (slice_set told i true) before one) n p.2) bad q.2 worse in
      cc (same, later)

  pub part_one : (bytes : List ℕ) (a b : List Bool) → IsPart vars bytes a → IsPart vars bytes b → a ≡ b
  part_one bytes a b p q = name_one (none_told vars) a b (lines_of bytes) p.name q.name

  -- it has a flag for each variable
  pub part_long : (bytes : List ℕ) (a : List Bool) → IsPart vars bytes a → length a ≡ length vars
  part_long bytes a p = name_long (none_told vars) a (lines_of bytes) p.name ∙ length-replicate (length vars) false

  pub no_part : (bytes : List ℕ) (all : List Bool) (at : ℕ) → IsPart vars bytes all → IsPartFault vars bytes at → ⊥
  no_part bytes all at p f =
      none_bad (none_told vars) all f.told f.before f.line f.after (subst (λ (lines : List (List ℕ)). AllName vars (none_told vars) lines all) f.lines p.name) f.good f.bad

  pub one_part_fault : (bytes : List ℕ) (at other : ℕ) → IsPartFault vars bytes at → IsPartFault vars bytes other → at ≡ other
  one_part_fault bytes at other f g =
      let same : f.before ≡ g.before = bad_one (none_told vars) f.told g.told f.before g.before f.line g.line f.after g.after (sym f.lines ∙ g.lines) f.good f.bad g.good g.bad in
      sym f.place ∙ ap (λ (lines : List (List ℕ)). length (concat lines)) same ∙ g.place
