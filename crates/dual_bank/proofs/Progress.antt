-- Going over the lines of a part.
use Rattle.std.proofs.Common.{◌≡◌, ℕ, ◌+◌, ◌-◌, ◌<◌, Bool, true, false, cond, List, [], ◌∷◌, ◌++◌, length, slice_index_or, slice_set, Option, Some, None, refl, sym, ap, subst, ◌∙◌, append_assoc, length-append, arith, inl, inr}
use Rattle.std.proofs.lemmas.List.{append-nil, get_or_past}
use Rattle.std.proofs.lemmas.Bool.{cases_lt}
use Rattle.std.specs.List.{concat}
use Rattle.text_lines.proofs.Joined.{concat-snoc}
use Rattle.text_lines.specs.Lines.{lines_of, IsFirstLine}
use Rattle.src_model.specs.declared.program.Var.{Var as Declared}
use Rattle.dual_bank.specs.Parts.{AllName, IsPart, IsPartFault, newly_named, none_told, untold}

pub record Progress (vars : List Declared) (bytes rest : List ℕ) (told : List Bool) : Type 0 where
  pub before : List (List ℕ)
  pub lines : lines_of bytes ≡ before ++ lines_of rest
  pub good : AllName vars (none_told vars) before told
  pub place : length (concat before) + length rest ≡ length bytes

pub begins : (vars : List Declared) (bytes : List ℕ) → Progress vars bytes bytes (none_told vars)
begins vars bytes = record { before = []; lines = refl; good = refl; place = omega arith }

one_more : (vars : List Declared) (s t : List Bool) (xs : List (List ℕ)) (line : List ℕ) (number : ℕ) → AllName vars s xs t → newly_named vars t line ≡ Some number → AllName vars s (xs ++ (line ∷ [])) (slice_set t number true)
one_more vars s t [] line number same e = (number, subst (λ (from : List Bool). newly_named vars from line ≡ Some number) (sym same) e, ap (λ (from : List Bool). slice_set from number true) same)
one_more vars s t (x ∷ xs) line number (i, first, more) e = (i, first, one_more vars (slice_set s i true) t xs line number more e)

pub goes_on : (vars : List Declared) (bytes rest line more : List ℕ) (told : List Bool) (number : ℕ) → Progress vars bytes rest told → IsFirstLine rest line more → newly_named vars told line ≡ Some number → Progress vars bytes more (slice_set told number true)
goes_on vars bytes rest line more told number p first e = record {
  before = p.before ++ (line ∷ []);
  lines = p.lines ∙ ap (λ ls. p.before ++ ls) first.lines ∙ sym (append_assoc p.before (line ∷ []) (lines_of more));
  good = one_more vars (none_told vars) told p.before line number p.good e;
  place = omega (arith, p.place, concat-snoc p.before line, ap length first.parts, length-append line more);
}

pub stops : (vars : List Declared) (bytes rest line more : List ℕ) (told : List Bool) → Progress vars bytes rest told → IsFirstLine rest line more → newly_named vars told line ≡ None → IsPartFault vars bytes (length bytes - length rest)
stops vars bytes rest line more told p first e = record {
  before = p.before;
  line = line;
  after = lines_of more;
  told = told;
  lines = p.lines ∙ ap (λ ls. p.before ++ ls) first.lines;
  place = omega (arith, p.place);
  good = p.good;
  bad = e;
}

pub ends : (vars : List Declared) (bytes rest : List ℕ) (told : List Bool) → Progress vars bytes rest told → rest ≡ [] → IsPart vars bytes told
unfolding lines_of
ends vars bytes rest told p e =
    let all : lines_of bytes ≡ p.before = p.lines ∙ ap (λ r. p.before ++ lines_of r) e ∙ append-nil p.before in
    record { name = subst (λ (lines : List (List ℕ)). AllName vars (none_told vars) lines told) (sym all) p.good }

-- a variable that is newly named has a flag
past_told : (told : List Bool) (number i : ℕ) → untold told (Some number) ≡ Some i → number < length told
past_told told number i e =
    elim (cases_lt number (length told)) as (λ _. number < length told) [
      | inl lt ↦ lt
      | inr ge ↦
          let t : slice_index_or told number true ≡ true = get_or_past told number true (omega (arith, ge)) in
          let n : None ≡ Some i = sym (ap (λ (b : Bool). cond b None (Some number)) t) ∙ e in
          absurd (cc)
    ]

pub has_flag : (told : List Bool) (o : Option ℕ) (i : ℕ) → untold told o ≡ Some i → i < length told
has_flag told None i e = absurd (cc)
has_flag told (Some number) i e = by (slice_index_or told number true) refl (past_told told number i e)
  where
    by : (b : Bool) → slice_index_or told number true ≡ b → number < length told → i < length told
    by true t lt =
        let n : None ≡ Some i = sym (ap (λ (b : Bool). cond b None (Some number)) t) ∙ e in absurd (cc)
    by false t lt =
        let n : Some number ≡ Some i = sym (ap (λ (b : Bool). cond b None (Some number)) t) ∙ e in
        let q : number ≡ i = cc in omega (arith, q, lt)
