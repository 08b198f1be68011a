-- The lines of remarks.
use Rattle.std.proofs.Common.{◌≡◌, ◌⊎◌, inl, inr, ℕ, List, [], ◌∷◌, ◌++◌, length, map, Option, None, Some, refl, sym, ap, subst, ◌∙◌, append_assoc, length-append, arith}
use Rattle.std.proofs.lemmas.Option.{same_Some}
use Rattle.std.specs.List.{AllByRecursion, concat, flat_map}
use Rattle.net_model.specs.declared.hardware.Storage.{Storage}
use Rattle.code_model.specs.declared.image.Image.{Image}
use Rattle.text_lines.specs.Fields.{parts_at}
use Rattle.text_lines.specs.Lines.{lines_of}
use Rattle.text_lines.proofs.Parts.{IsLine}
use Rattle.text_lines.proofs.Steps.{bind_ok, bind_again}
use Rattle.view_lines.specs.Remarks.{RemarkModel, hide, view, hold, know, RemarkFits, remark_line}
use Rattle.view_lines.specs.Inner.Reading.{remark_in}
use Rattle.view_lines.proofs.Endings.{remark_ends}
use Rattle.view_lines.proofs.Laws.{remark_again, remark_is}
use Rattle.view_scope.specs.declared.turn.Turn.{Turn}
use Rattle.view_scope.specs.Fits.{accepts}
use Rattle.viewed_text.specs.Texts.{AreRemarks, IsBehind, remarks_text}
use Rattle.viewed_text.specs.Inner.Behind.{IsOther, done_line, next_remark, remarks_read}
use Rattle.viewed_text.proofs.Dones.{snoc_split}
use Rattle.viewed_text.proofs.Lines.{done_lines, lines_more, no_lines, none_some, other_first}

pub other_remark : (remark : RemarkModel) → IsOther (remark_line remark)
other_remark (hide label name) = other_first 104 _ refl
other_remark (view address name value) = other_first 118 _ refl
other_remark (hold address holder value) = other_first 104 _ refl
other_remark (know address name value) = other_first 107 _ refl

no_remark : remark_in done_line ≡ None
unfolding remark_in parts_at
no_remark = refl

module _ (storages : List Storage) (image : Image) (word : ℕ) where
  pub next_done : (last : Option Turn) → next_remark storages image word last done_line ≡ None
  unfolding next_remark
  next_done last = rw no_remark refl

  -- ---- lines that were read are those of what was read

  record NextIs (last : Option Turn) (line : List ℕ) (next : RemarkModel × Turn) : Type 0 where
    pub line_is : line ≡ remark_line next.0
    pub fits : RemarkFits next.0
    pub accepted : accepts storages image word last next.0 ≡ Some next.1

  next_is : (last : Option Turn) (line : List ℕ) (next : RemarkModel × Turn) → next_remark storages image word last line ≡ Some next → NextIs last line next
  unfolding next_remark
  next_is last line next e =
      let r = bind_ok (remark_in line) _ next e in
      let t = bind_ok (accepts storages image word last r.value) _ next r.then in
      let s = remark_is line r.value r.first in
      subst (NextIs last line) (same_Some (r.value, t.value) next t.then) (record { line_is = s.line_is; fits = s.fits; accepted = t.first })

  abbrev AreRead : Option Turn → List (List ℕ) → List RemarkModel × Option Turn → Type 0
  AreRead last lines found = (lines ≡ map remark_line found.0) × AreRemarks storages image word last found.0

  pub remarks_are : (last : Option Turn) (lines : List (List ℕ)) (found : List RemarkModel × Option Turn) → remarks_read storages image word last lines ≡ Some found → AreRead last lines found
  unfolding remarks_read
  remarks_are last [] found e = subst (AreRead last []) (same_Some ([], last) found e) (refl, tt)
  remarks_are last (line ∷ lines) found e =
      let n = bind_ok (next_remark storages image word last line) _ found e in
      let m = bind_ok (remarks_read storages image word (Some n.value.1) lines) _ found n.then in
      let s = next_is last line n.value n.first in
      let more = remarks_are (Some n.value.1) lines m.value m.first in
      subst (AreRead last (line ∷ lines)) (same_Some (n.value.0 ∷ m.value.0, m.value.1) found m.then)
      (ap (λ l. l ∷ lines) s.line_is ∙ ap (λ r. remark_line n.value.0 ∷ r) more.0, (s.fits, (n.value.1, s.accepted, more.1)))

  -- ---- remarks that fit are read

  next_again : (last : Option Turn) (remark : RemarkModel) (turn : Turn) → RemarkFits remark → accepts storages image word last remark ≡ Some turn → next_remark storages image word last (remark_line remark) ≡ Some (remark, turn)
  unfolding next_remark
  next_again last remark turn fits e =
      bind_again (remark_in (remark_line remark)) _ remark (Some (remark, turn)) (remark_again remark fits)
      (bind_again (accepts storages image word last remark) _ turn (Some (remark, turn)) e refl)

  pub remarks_again : (last : Option Turn) (remarks : List RemarkModel) → AreRemarks storages image word last remarks →
      (end : Option Turn) × (remarks_read storages image word last (map remark_line remarks) ≡ Some (remarks, end))
  unfolding remarks_read
  remarks_again last [] h = (last, refl)
  remarks_again last (remark ∷ remarks) h =
      let turn = h.1.0 in
      let more = remarks_again (Some turn) remarks h.1.2 in (
        more.0,
        bind_again (next_remark storages image word last (remark_line remark)) _ (remark, turn) (Some (remark ∷ remarks, more.0)) (next_again last remark turn h.0 h.1.1)
            (bind_again (remarks_read storages image word (Some turn) (map remark_line remarks)) _ (remarks, more.0) (Some (remark ∷ remarks, more.0)) more.1 refl),
      )

  -- ---- where a line is no remark, nothing is read

  pub remarks_stop : (last : Option Turn) (xs : List (List ℕ)) (line : List ℕ) (ys : List (List ℕ)) (found : List RemarkModel × Option Turn) → remarks_read storages image word last xs ≡ Some found →
      next_remark storages image word found.1 line ≡ None → remarks_read storages image word last (xs ++ (line ∷ ys)) ≡ None
  unfolding remarks_read
  remarks_stop last [] line ys found e s =
      let same : last ≡ found.1 = ap (λ (f : List RemarkModel × Option Turn). f.1) (same_Some ([], last) found e) in
      let stuck : next_remark storages image word last line ≡ None = ap (λ l. next_remark storages image word l line) same ∙ s in
      rw stuck refl
  remarks_stop last (x ∷ xs) line ys found e s =
      let n = bind_ok (next_remark storages image word last x) _ found e in
      let m = bind_ok (remarks_read storages image word (Some n.value.1) xs) _ found n.then in
      let same : m.value.1 ≡ found.1 = ap (λ (f : List RemarkModel × Option Turn). f.1) (same_Some (n.value.0 ∷ m.value.0, m.value.1) found m.then) in
      let rest : remarks_read storages image word (Some n.value.1) (xs ++ (line ∷ ys)) ≡ None =
      remarks_stop (Some n.value.1) xs line ys m.value m.first (ap (λ l. next_remark storages image word l line) same ∙ s) in
      bind_again (next_remark storages image word last x) _ n.value None n.first (rw rest refl)

  -- ---- the lines of the text of remarks

  all_ends : (last : Option Turn) (remarks : List RemarkModel) → AreRemarks storages image word last remarks → AllByRecursion IsLine (map remark_line remarks)
  all_ends last [] h = tt
  all_ends last (remark ∷ remarks) h = (remark_ends remark h.0, all_ends (Some h.1.0) remarks h.1.2)

  flat : (remarks : List RemarkModel) → concat (map remark_line remarks) ≡ flat_map remark_line remarks
  flat [] = refl
  flat (remark ∷ remarks) = ap (λ r. remark_line remark ++ r) (flat remarks)

  pub text_lines : (last : Option Turn) (remarks : List RemarkModel) → AreRemarks storages image word last remarks → lines_of (remarks_text remarks) ≡ map remark_line remarks ++ (done_line ∷ [])
  text_lines last remarks h =
      ap (λ t. lines_of (t ++ done_line)) (sym (flat remarks)) ∙ lines_more (map remark_line remarks) done_line (all_ends last remarks h) ∙ ap (λ r. map remark_line remarks ++ r) done_lines

  pub text_is : (remarks : List RemarkModel) → concat (map remark_line remarks ++ (done_line ∷ [])) ≡ remarks_text remarks
  text_is [] = refl
  text_is (remark ∷ remarks) = ap (λ r. remark_line remark ++ r) (text_is remarks) ∙ assoc remark remarks
    where
      assoc : (remark : RemarkModel) (remarks : List RemarkModel) → remark_line remark ++ (flat_map remark_line remarks ++ done_line) ≡ (remark_line remark ++ flat_map remark_line remarks) ++ done_line
      assoc remark remarks = sym (append_assoc (remark_line remark) (flat_map remark_line remarks) done_line)

  -- ---- no text of remarks goes on with a line at which reading stops, unless that is the last `done`

  pub no_text : (text : List ℕ) (remarks : List RemarkModel) (before : List (List ℕ)) (line : List ℕ) (after : List (List ℕ)) (found : List RemarkModel × Option Turn) →
      lines_of text ≡ before ++ (line ∷ after) → remarks_read storages image word None before ≡ Some found → next_remark storages image word found.1 line ≡ None →
      (line ≡ done_line → after ≡ [] → ⊥) → IsBehind remarks text → AreRemarks storages image word None remarks → ⊥
  no_text text remarks before line after found lines read stops last (inl none) fits =
      let e : [] ≡ before ++ (line ∷ after) = sym no_lines ∙ ap lines_of (sym none.1) ∙ lines in
      omega (arith, ap length e, length-append before (line ∷ after))
  no_text text remarks before line after found lines read stops last (inr is) fits =
      step (snoc_split before line after (map remark_line remarks) done_line (sym lines ∙ ap lines_of is ∙ text_lines None remarks fits))
    where
      again : (end : Option Turn) × (remarks_read storages image word None (map remark_line remarks) ≡ Some (remarks, end))
      again = remarks_again None remarks fits

      step : ((zs : List (List ℕ)) × (map remark_line remarks ≡ before ++ (line ∷ zs))) ⊎ ((line ≡ done_line) × (after ≡ []) × (before ≡ map remark_line remarks)) → ⊥
      step (inl p) =
          none_some (remarks, again.0)
          (sym (remarks_stop None before line p.0 found read stops) ∙ ap (remarks_read storages image word None) (sym p.1) ∙ again.1)
      step (inr p) = last p.0 p.1
