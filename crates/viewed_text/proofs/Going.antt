-- Going over the lines behind an image.
use Rattle.std.proofs.Common.{◌≡◌, ◌==◌, inr, ℕ, ◌+◌, ◌-◌, ◌≤◌, List, [], ◌∷◌, ◌++◌, length, Bool, true, false, cond, Option, None, Some, refl, sym, ap, ◌∙◌, append_assoc, length-append, arith}
use Rattle.std.proofs.lemmas.List.{append-nil}
use Rattle.std.proofs.lemmas.Option.{same_Some}
use Rattle.std.specs.List.{concat}
use Rattle.net_model.specs.declared.hardware.Storage.{Storage}
use Rattle.code_model.specs.declared.image.Image.{Image}
use Rattle.text_lines.specs.Lines.{IsFirstLine, lines_of, longer_line}
use Rattle.text_lines.proofs.Steps.{bind_ok, bind_again}
use Rattle.view_lines.specs.Remarks.{RemarkModel}
use Rattle.view_scope.specs.declared.turn.Turn.{Turn}
use Rattle.view_terms.specs.declared.stop.Stop.{Stop}
use Rattle.view_terms.specs.declared.stop.Stop.TheVariants.{Form, Memory}
use Rattle.view_terms.specs.Inner.Reading.{StopsAs}
use Rattle.viewed_text.specs.Inner.Behind.{IsBehindRead, StopsBehind, at_end, at_line, behind_done, done_line, fault_at, next_remark, remarks_read}
use Rattle.viewed_text.proofs.Lines.{concat-last, no_lines}

module _ (storages : List Storage) (image : Image) (word : ℕ) where
  -- one remark more
  pub remarks_more : (last : Option Turn) (xs : List (List ℕ)) (line : List ℕ) (remarks : List RemarkModel) (end : Option Turn) (remark : RemarkModel) (turn : Turn) →
      remarks_read storages image word last xs ≡ Some (remarks, end) → next_remark storages image word end line ≡ Some (remark, turn) →
      remarks_read storages image word last (xs ++ (line ∷ [])) ≡ Some (remarks ++ (remark ∷ []), Some turn)
  unfolding remarks_read
  remarks_more last [] line remarks end remark turn e n =
      let none : List RemarkModel × Option Turn = ([], last) in
      let same : none ≡ (remarks, end) = same_Some none (remarks, end) e in
      let here : next_remark storages image word last line ≡ Some (remark, turn) = ap (λ (f : List RemarkModel × Option Turn). next_remark storages image word f.1 line) same ∙ n in
      bind_again (next_remark storages image word last line) _ (remark, turn) (Some (remarks ++ (remark ∷ []), Some turn)) here
      (ap (λ (f : List RemarkModel × Option Turn). Some (f.0 ++ (remark ∷ []), Some turn)) same)
  remarks_more last (x ∷ xs) line remarks end remark turn e n =
      let a = bind_ok (next_remark storages image word last x) _ (remarks, end) e in
      let b = bind_ok (remarks_read storages image word (Some a.value.1) xs) _ (remarks, end) a.then in
      let all : List RemarkModel × Option Turn = (a.value.0 ∷ b.value.0, b.value.1) in
      let same : all ≡ (remarks, end) = same_Some all (remarks, end) b.then in
      let here : next_remark storages image word b.value.1 line ≡ Some (remark, turn) = ap (λ (f : List RemarkModel × Option Turn). next_remark storages image word f.1 line) same ∙ n in
      let more = remarks_more (Some a.value.1) xs line b.value.0 b.value.1 remark turn b.first here in
      bind_again (next_remark storages image word last x) _ a.value (Some (remarks ++ (remark ∷ []), Some turn)) a.first
      (bind_again (remarks_read storages image word (Some a.value.1) (xs ++ (line ∷ []))) _ (b.value.0 ++ (remark ∷ []), Some turn) (Some (remarks ++ (remark ∷ []), Some turn)) more
      (ap (λ (f : List RemarkModel × Option Turn). Some (f.0 ++ (remark ∷ []), Some turn)) same))

  -- some lines were read, and the rest is left
  pub record Going (text rest : List ℕ) (remarks : List RemarkModel) (last : Option Turn) : Type 0 where
    pub before : List (List ℕ)
    pub lines : lines_of text ≡ before ++ lines_of rest
    pub place : length (concat before) + length rest ≡ length text
    pub read : remarks_read storages image word None before ≡ Some (remarks, last)

  pub going_none : (text : List ℕ) → Going text text [] None
  unfolding remarks_read
  going_none text = record { before = []; lines = refl; place = omega arith; read = refl }

  pub going_more : (text rest line more : List ℕ) (remarks : List RemarkModel) (last : Option Turn) (remark : RemarkModel) (turn : Turn) → Going text rest remarks last → IsFirstLine rest line more →
      next_remark storages image word last line ≡ Some (remark, turn) → Going text more (remarks ++ (remark ∷ [])) (Some turn)
  going_more text rest line more remarks last remark turn g first n = record {
    before = g.before ++ (line ∷ []);
    lines = g.lines ∙ ap (λ l. g.before ++ l) first.lines ∙ sym (append_assoc g.before (line ∷ []) (lines_of more));
    place = omega (arith, g.place, ap length (concat-last g.before line), length-append (concat g.before) line, ap length first.parts, length-append line more);
    read = remarks_more None g.before line remarks last remark turn g.read n;
  }

  -- `done` is the last line
  pub all_read : (text rest line more : List ℕ) (remarks : List RemarkModel) (last : Option Turn) → Going text rest remarks last → IsFirstLine rest line more → line ≡ done_line → more ≡ [] → IsBehindRead storages image word text remarks
  all_read text rest line more remarks last g first d none = inr (record {
    before = g.before;
    last = last;
    lines = g.lines ∙ ap (λ l. g.before ++ l) (first.lines ∙ ap (λ x. x ∷ lines_of more) d ∙ ap (λ r. done_line ∷ r) (ap lines_of none ∙ no_lines));
    read = g.read;
  })

  -- a line stands behind it
  some_line : (text : List ℕ) → (text ≡ [] → ⊥) → (line : List ℕ) × (after : List (List ℕ)) × (lines_of text ≡ line ∷ after)
  unfolding lines_of
  some_line [] h = absurd (h refl)
  some_line (b ∷ bs) h = step (b == 10) (lines_of bs)
    where
      step : (t : Bool) (lines : List (List ℕ)) → (line : List ℕ) × (after : List (List ℕ)) × (cond t ((10 ∷ []) ∷ lines) (longer_line b lines) ≡ line ∷ after)
      step true lines = (10 ∷ [], lines, refl)
      step false [] = (b ∷ [], [], refl)
      step false (l ∷ ls) = (b ∷ l, ls, refl)

  pub more_behind : (text rest line more : List ℕ) (end : ℕ) (remarks : List RemarkModel) (last : Option Turn) → length text ≤ end → Going text rest remarks last → IsFirstLine rest line more → line ≡ done_line → (more ≡ [] → ⊥) →
      StopsBehind storages image word text end (fault_at Form (end - length more))
  more_behind text rest line more end remarks last room g first d some =
      let next = some_line more some in
      behind_done g.before next.0 next.1 remarks last
      (g.lines ∙ ap (λ l. g.before ++ l) (first.lines ∙ ap (λ x. x ∷ lines_of more) d ∙ ap (λ r. done_line ∷ r) next.2))
      g.read
      (omega (arith, room, g.place, ap length (concat-last g.before done_line), length-append (concat g.before) done_line, ap length first.parts, length-append line more, ap length d))

  -- a line is no remark that may follow
  pub line_stops : (text rest line more : List ℕ) (end : ℕ) (remarks : List RemarkModel) (last : Option Turn) (stop : Stop) → length text ≤ end → Going text rest remarks last → IsFirstLine rest line more → (line ≡ done_line → ⊥) →
      StopsAs (next_remark storages image word last line) stop → StopsBehind storages image word text end (fault_at stop (end - length rest))
  line_stops text rest line more end remarks last Form room g first other n =
      at_line g.before line (lines_of more) remarks last (g.lines ∙ ap (λ l. g.before ++ l) first.lines) g.read n other (omega (arith, room, g.place))
  line_stops text rest line more end remarks last Memory room g first other n = tt

  -- `done` is missing
  pub done_missing : (text rest : List ℕ) (end : ℕ) (remarks : List RemarkModel) (last : Option Turn) → (text ≡ [] → ⊥) → Going text rest remarks last → rest ≡ [] → StopsBehind storages image word text end (fault_at Form end)
  done_missing text rest end remarks last some g none =
      let lines : lines_of text ≡ g.before = g.lines ∙ ap (λ l. g.before ++ l) (ap lines_of none ∙ no_lines) ∙ append-nil g.before in
      at_end remarks last (ap (remarks_read storages image word None) lines ∙ g.read) some refl
