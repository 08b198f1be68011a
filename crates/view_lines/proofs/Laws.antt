-- A line that is read says what it is read as, and a line that says a remark is read as that.
use Rattle.std.proofs.Common.{◌≡◌, ◌==◌, ℕ, ◌^◌, ◌<◌, List, [], ◌∷◌, ◌++◌, length, Bool, true, false, cond, Option, Some, None, refl, sym, ap, subst, ◌∙◌, eqb-true, arith, ◌⊎◌, inl, inr}
use Rattle.std.proofs.lemmas.Option.{cond_some, same_Some}
use Rattle.std.specs.Prelude.{codes}
use Rattle.std.specs.Fmt.{decimal}
use Rattle.std.specs.Str.{bytes_eq}
use Rattle.code_model.specs.ImageText.{label_text}
use Rattle.code_model.specs.ImageFits.{LabelFits}
use Rattle.text_lines.specs.Fields.{parts_at, number_of, is_name, line_end}
use Rattle.text_lines.proofs.Ends.{end_is, end_again}
use Rattle.text_lines.proofs.Parts.{Avoids, avoids-append, parts_are, parts_again}
use Rattle.text_lines.proofs.Numbers.{number_is, number_again, avoids-decimal, avoids-name}
use Rattle.text_lines.proofs.Steps.{bind_ok, bind_again}
use Rattle.image_items.specs.Reading.{number_before, label_of}
use Rattle.image_items.proofs.Laws.{before_is, before_again, label_is, label_again, same_text, digits_avoid}
use Rattle.view_terms.specs.Terms.{term_text}
use Rattle.view_terms.specs.Inner.Reading.{whole_term}
use Rattle.view_terms.proofs.Laws.{whole_is, whole_again, term_avoids}
use Rattle.view_lines.specs.declared.remark.Holder.{Holder}
use Rattle.view_lines.specs.declared.remark.Holder.TheVariants.{Register, Cell}
use Rattle.view_lines.specs.Remarks.{RemarkModel, hide, view, hold, know, holder_text, remark_line, HolderFits, RemarkFits, SaysRemark}
use Rattle.view_lines.specs.Inner.Reading.{name_in, hide_parts, addressed, cell_number, cell_in, register_in, held_in, holder_in, hide_remark, view_remark, hold_remark, know_remark, said_by, remark_in}

-- ---- fields

name_is : (text name : List ℕ) → name_in text ≡ Some name → (text ≡ name) × (is_name name ≡ true)
unfolding name_in
name_is text name e =
    let p = cond_some (is_name text) text name e in
    (p.1, ap is_name (sym p.1) ∙ p.0)

name_again : (name : List ℕ) → is_name name ≡ true → name_in name ≡ Some name
unfolding name_in
name_again name h = rw h refl

record HidePartsAre (text : List ℕ) (label : Option ℕ) (name : List ℕ) : Type 0 where
  pub text_is : text ≡ label_text label ++ (32 ∷ (name ++ (10 ∷ [])))
  pub label_fits : LabelFits label

hide_parts_are : (text : List ℕ) (parts : Option ℕ × List ℕ) → hide_parts text ≡ Some parts → HidePartsAre text parts.0 parts.1
unfolding hide_parts
hide_parts_are text parts e =
    let a = bind_ok (parts_at 32 text) _ parts e in
    let b = bind_ok (label_of a.value.0) _ parts a.then in
    let c = bind_ok (line_end a.value.1) _ parts b.then in
    let l = label_is a.value.0 b.value b.first in
    let P : Option ℕ × List ℕ → Type 0 = λ p. HidePartsAre text p.0 p.1 in
    subst P (same_Some (b.value, c.value) parts c.then) (record {
      text_is = parts_are 32 text a.value.0 a.value.1 a.first ∙ ap (λ x. x ++ (32 ∷ a.value.1)) l.0 ∙ ap (λ x. label_text b.value ++ (32 ∷ x)) (end_is a.value.1 c.value c.first);
      label_fits = l.1;
    })

label_has_no_space : (label : Option ℕ) → LabelFits label → Avoids 32 (label_text label)
label_has_no_space None h = (refl, (refl, (refl, tt)))
label_has_no_space (Some n) h = digits_avoid 32 n h refl

hide_parts_again : (label : Option ℕ) (name : List ℕ) → LabelFits label → Avoids 10 name → hide_parts (label_text label ++ (32 ∷ (name ++ (10 ∷ [])))) ≡ Some (label, name)
unfolding hide_parts
hide_parts_again label name l n =
    let back = name ++ (10 ∷ []) in
    let parts : Option ℕ × List ℕ = (label, name) in
    bind_again (parts_at 32 (label_text label ++ (32 ∷ back))) _ (label_text label, back) (Some parts) (parts_again 32 (label_text label) back (label_has_no_space label l))
    (bind_again (label_of (label_text label)) _ label (Some parts) (label_again label l)
    (bind_again (line_end back) _ name (Some parts) (end_again name n) refl))

record AddressedAre (text : List ℕ) (address : ℕ) (subject end : List ℕ) : Type 0 where
  pub text_is : text ≡ decimal address ++ (32 ∷ (subject ++ (32 ∷ (end ++ (10 ∷ [])))))
  pub fits : address < 2 ^ 32

addressed_are : (text : List ℕ) (parts : ℕ × List ℕ × List ℕ) → addressed text ≡ Some parts → AddressedAre text parts.0 parts.1 parts.2
unfolding addressed
addressed_are text parts e =
    let a = bind_ok (number_before 32 text) _ parts e in
    let b = bind_ok (parts_at 32 a.value.1) _ parts a.then in
    let c = bind_ok (line_end b.value.1) _ parts b.then in
    let n = before_is 32 text a.value.0 a.value.1 a.first in
    let P : ℕ × List ℕ × List ℕ → Type 0 = λ p. AddressedAre text p.0 p.1 p.2 in
    subst P (same_Some (a.value.0, b.value.0, c.value) parts c.then) (record {
      text_is = n.text_is ∙ ap (λ r. decimal a.value.0 ++ (32 ∷ r))
          (parts_are 32 a.value.1 b.value.0 b.value.1 b.first ∙ ap (λ r. b.value.0 ++ (32 ∷ r)) (end_is b.value.1 c.value c.first));
      fits = n.fits;
    })

addressed_again : (address : ℕ) (subject end : List ℕ) → address < 2 ^ 32 → Avoids 32 subject → Avoids 10 end → addressed (decimal address ++ (32 ∷ (subject ++ (32 ∷ (end ++ (10 ∷ [])))))) ≡ Some (address, subject, end)
unfolding addressed
addressed_again address subject end h s n =
    let last = end ++ (10 ∷ []) in
    let back = subject ++ (32 ∷ last) in
    let parts : ℕ × List ℕ × List ℕ = (address, subject, end) in
    bind_again (number_before 32 (decimal address ++ (32 ∷ back))) _ (address, back) (Some parts) (before_again 32 address back (digits_avoid 32 address h refl) h)
    (bind_again (parts_at 32 back) _ (subject, last) (Some parts) (parts_again 32 subject last s)
    (bind_again (line_end last) _ end (Some parts) (end_again end n) refl))

-- ---- holders

nil_of : (xs : List ℕ) → (length xs == 0) ≡ true → xs ≡ []
nil_of [] e = refl
nil_of (x ∷ xs) e = absurd (omega (arith, eqb-true (length (x ∷ xs)) 0 e))

cell_number_is : (text : List ℕ) (at : ℕ) → cell_number text ≡ Some at → (text ≡ decimal at ++ (93 ∷ [])) × (at < 2 ^ 32)
unfolding cell_number
cell_number_is text at e =
    let a = bind_ok (number_before 93 text) _ at e in
    let p = cond_some (length a.value.1 == 0) a.value.0 at a.then in
    let n = before_is 93 text a.value.0 a.value.1 a.first in
    let P : ℕ → Type 0 = λ k. (text ≡ decimal k ++ (93 ∷ [])) × (k < 2 ^ 32) in
    subst P p.1 (n.text_is ∙ ap (λ r. decimal a.value.0 ++ (93 ∷ r)) (nil_of a.value.1 p.0), n.fits)

cell_number_again : (at : ℕ) → at < 2 ^ 32 → cell_number (decimal at ++ (93 ∷ [])) ≡ Some at
unfolding cell_number
cell_number_again at h = bind_again (number_before 93 (decimal at ++ (93 ∷ []))) _ (at, []) (Some at) (before_again 93 at [] (digits_avoid 93 at h refl) h) refl

record HolderIs (text : List ℕ) (holder : Holder) : Type 0 where
  pub text_is : text ≡ holder_text holder
  pub fits : HolderFits holder

cell_is : (cells text : List ℕ) (holder : Holder) → cell_in cells text ≡ Some holder → HolderIs (cells ++ (91 ∷ text)) holder
unfolding cell_in
cell_is cells text holder e =
    let a = bind_ok (cell_number text) _ holder e in
    let b = bind_ok (name_in cells) _ holder a.then in
    let n = cell_number_is text a.value a.first in
    let m = name_is cells b.value b.first in
    subst (HolderIs (cells ++ (91 ∷ text))) (same_Some (Cell b.value a.value) holder b.then)
    (record { text_is = ap (λ x. x ++ (91 ∷ text)) m.0 ∙ ap (λ r. b.value ++ (91 ∷ r)) n.0; fits = (m.1, n.1) })

register_is : (text : List ℕ) (holder : Holder) → register_in text ≡ Some holder → HolderIs text holder
unfolding register_in
register_is text holder e =
    let a = bind_ok (name_in text) _ holder e in
    let m = name_is text a.value a.first in
    subst (HolderIs text) (same_Some (Register a.value) holder a.then) (record { text_is = m.0; fits = m.1 })

holder_is : (text : List ℕ) (holder : Holder) → holder_in text ≡ Some holder → HolderIs text holder
unfolding holder_in
holder_is text holder e = step (parts_at 91 text) refl e
  where
    step : (o : Option (List ℕ × List ℕ)) → parts_at 91 text ≡ o → held_in text o ≡ Some holder → HolderIs text holder
    step None q e = register_is text holder e
    step (Some parts) q e = subst (λ t. HolderIs t holder) (sym (parts_are 91 text parts.0 parts.1 q)) (cell_is parts.0 parts.1 holder e)

-- a text without the mark isn't cut
uncut : (mark : ℕ) (text : List ℕ) → Avoids mark text → parts_at mark text ≡ None
unfolding parts_at
uncut mark [] h = refl
uncut mark (b ∷ bs) h = rw (h.0, uncut mark bs h.1) refl

holder_again : (holder : Holder) → HolderFits holder → holder_in (holder_text holder) ≡ Some holder
unfolding holder_in register_in cell_in
holder_again (Register name) h =
    ap (held_in name) (uncut 91 name (avoids-name 91 name refl h)) ∙ bind_again (name_in name) _ name (Some (Register name)) (name_again name h) refl
holder_again (Cell cells at) h =
    let back = decimal at ++ (93 ∷ []) in
    ap (held_in (cells ++ (91 ∷ back))) (parts_again 91 cells back (avoids-name 91 cells refl h.0))
    ∙ bind_again (cell_number back) _ at (Some (Cell cells at)) (cell_number_again at h.1)
    (bind_again (name_in cells) _ cells (Some (Cell cells at)) (name_again cells h.0) refl)

-- what holds of a space and of LF
at_mark : (mark : ℕ) → (mark ≡ 32) ⊎ (mark ≡ 10) → (P : ℕ → Type 0) → P 32 → P 10 → P mark
at_mark mark (inl e) P a b = subst P (sym e) a
at_mark mark (inr e) P a b = subst P (sym e) b

pub holder_avoids : (mark : ℕ) (holder : Holder) → HolderFits holder → (mark ≡ 32) ⊎ (mark ≡ 10) → Avoids mark (holder_text holder)
holder_avoids mark (Register name) h m = at_mark mark m (λ k. Avoids k name) (avoids-name 32 name refl h) (avoids-name 10 name refl h)
holder_avoids mark (Cell cells at) h m =
    let all : (k : ℕ) → Avoids k cells → Avoids k (decimal at) → (91 == k) ≡ false → (93 == k) ≡ false → Avoids k (cells ++ (91 ∷ (decimal at ++ (93 ∷ []))))
    = λ k c d x y. avoids-append k cells (91 ∷ (decimal at ++ (93 ∷ []))) c (x, avoids-append k (decimal at) (93 ∷ []) d (y, tt)) in
    at_mark mark m (λ k. Avoids k (cells ++ (91 ∷ (decimal at ++ (93 ∷ [])))))
    (all 32 (avoids-name 32 cells refl h.0) (digits_avoid 32 at h.1 refl) refl refl)
    (all 10 (avoids-name 10 cells refl h.0) (digits_avoid 10 at h.1 refl) refl refl)

-- ---- lines by their keywords

-- what a line says behind its keyword and a space
abbrev SaysAfter : List ℕ → List ℕ → RemarkModel → Type 0
SaysAfter keyword text remark = SaysRemark (keyword ++ (32 ∷ text)) remark

hide_is : (text : List ℕ) (remark : RemarkModel) → hide_remark text ≡ Some remark → SaysAfter (codes "hide") text remark
unfolding hide_remark
hide_is text remark e =
    let a = bind_ok (hide_parts text) _ remark e in
    let b = bind_ok (name_in a.value.1) _ remark a.then in
    let p = hide_parts_are text a.value a.first in
    let n = name_is a.value.1 b.value b.first in
    subst (SaysAfter (codes "hide") text) (same_Some (hide a.value.0 b.value) remark b.then) (record {
      line_is = ap (λ r. codes "hide " ++ r) (p.text_is ∙ ap (λ x. label_text a.value.0 ++ (32 ∷ (x ++ (10 ∷ [])))) n.0);
      fits = (p.label_fits, n.1);
    })

view_is : (text : List ℕ) (remark : RemarkModel) → view_remark text ≡ Some remark → SaysAfter (codes "view") text remark
unfolding view_remark
view_is text remark e =
    let a = bind_ok (addressed text) _ remark e in
    let b = bind_ok (name_in a.value.1) _ remark a.then in
    let c = bind_ok (whole_term a.value.2) _ remark b.then in
    let p = addressed_are text a.value a.first in
    let n = name_is a.value.1 b.value b.first in
    let t = whole_is a.value.2 c.value c.first in
    subst (SaysAfter (codes "view") text) (same_Some (view a.value.0 b.value c.value) remark c.then) (record {
      line_is = ap (λ r. codes "view " ++ r) (p.text_is ∙ ap (λ x. decimal a.value.0 ++ (32 ∷ (x ++ (32 ∷ (a.value.2 ++ (10 ∷ [])))))) n.0 ∙ ap (λ x. decimal a.value.0 ++ (32 ∷ (b.value ++ (32 ∷ (x ++ (10 ∷ [])))))) t.text_is);
      fits = (p.fits, n.1, t.fits);
    })

hold_is : (text : List ℕ) (remark : RemarkModel) → hold_remark text ≡ Some remark → SaysAfter (codes "hold") text remark
unfolding hold_remark
hold_is text remark e =
    let a = bind_ok (addressed text) _ remark e in
    let b = bind_ok (holder_in a.value.1) _ remark a.then in
    let c = bind_ok (whole_term a.value.2) _ remark b.then in
    let p = addressed_are text a.value a.first in
    let n = holder_is a.value.1 b.value b.first in
    let t = whole_is a.value.2 c.value c.first in
    subst (SaysAfter (codes "hold") text) (same_Some (hold a.value.0 b.value c.value) remark c.then) (record {
      line_is = ap (λ r. codes "hold " ++ r) (p.text_is ∙ ap (λ x. decimal a.value.0 ++ (32 ∷ (x ++ (32 ∷ (a.value.2 ++ (10 ∷ [])))))) n.text_is ∙ ap (λ x. decimal a.value.0 ++ (32 ∷ (holder_text b.value ++ (32 ∷ (x ++ (10 ∷ [])))))) t.text_is);
      fits = (p.fits, n.fits, t.fits);
    })

know_is : (text : List ℕ) (remark : RemarkModel) → know_remark text ≡ Some remark → SaysAfter (codes "know") text remark
unfolding know_remark
know_is text remark e =
    let a = bind_ok (addressed text) _ remark e in
    let c = bind_ok (number_of a.value.2) _ remark a.then in
    let b = bind_ok (name_in a.value.1) _ remark c.then in
    let p = addressed_are text a.value a.first in
    let n = name_is a.value.1 b.value b.first in
    let v = number_is a.value.2 c.value c.first in
    subst (SaysAfter (codes "know") text) (same_Some (know a.value.0 b.value c.value) remark b.then) (record {
      line_is = ap (λ r. codes "know " ++ r) (p.text_is ∙ ap (λ x. decimal a.value.0 ++ (32 ∷ (x ++ (32 ∷ (a.value.2 ++ (10 ∷ [])))))) n.0 ∙ ap (λ x. decimal a.value.0 ++ (32 ∷ (b.value ++ (32 ∷ (x ++ (10 ∷ [])))))) v.0);
      fits = (p.fits, n.1, v.1);
    })

if_text : (k word : List ℕ) (x y : Option RemarkModel) (remark : RemarkModel) (P : Type 0) → cond (bytes_eq k word) x y ≡ Some remark → (k ≡ word → x ≡ Some remark → P) → (y ≡ Some remark → P) → P
if_text k word x y remark P e f g = step (bytes_eq k word) (same_text k word) e
  where
    step : (t : Bool) → (t ≡ true → k ≡ word) → cond t x y ≡ Some remark → P
    step true q e = f (q refl) e
    step false q e = g e

as_keyword : (k word text : List ℕ) (remark : RemarkModel) → k ≡ word → SaysAfter word text remark → SaysAfter k text remark
as_keyword k word text remark e s = subst (λ w. SaysAfter w text remark) (sym e) s

said_is : (k text : List ℕ) (remark : RemarkModel) → said_by k text ≡ Some remark → SaysAfter k text remark
unfolding said_by
said_is k text remark e =
    if_text k (codes "hide") _ _ remark _ e (λ q x. as_keyword k (codes "hide") text remark q (hide_is text remark x))
    (λ e1. if_text k (codes "view") _ _ remark _ e1 (λ q x. as_keyword k (codes "view") text remark q (view_is text remark x))
    (λ e2. if_text k (codes "hold") _ _ remark _ e2 (λ q x. as_keyword k (codes "hold") text remark q (hold_is text remark x))
    (λ e3. if_text k (codes "know") _ None remark _ e3 (λ q x. as_keyword k (codes "know") text remark q (know_is text remark x)) (λ e4. absurd cc))))

pub remark_is : (line : List ℕ) (remark : RemarkModel) → remark_in line ≡ Some remark → SaysRemark line remark
unfolding remark_in
remark_is line remark e =
    let b = bind_ok (parts_at 32 line) _ remark e in
    subst (λ l. SaysRemark l remark) (sym (parts_are 32 line b.value.0 b.value.1 b.first)) (said_is b.value.0 b.value.1 remark b.then)

-- ---- what a line says is read of it

keyword_again : (k text : List ℕ) (remark : RemarkModel) → Avoids 32 k → said_by k text ≡ Some remark → remark_in (k ++ (32 ∷ text)) ≡ Some remark
unfolding remark_in
keyword_again k text remark out e = bind_again (parts_at 32 (k ++ (32 ∷ text))) _ (k, text) (Some remark) (parts_again 32 k text out) e

pub remark_again : (remark : RemarkModel) → RemarkFits remark → remark_in (remark_line remark) ≡ Some remark
unfolding said_by hide_remark view_remark hold_remark know_remark
remark_again (hide label name) h =
    let text = label_text label ++ (32 ∷ (name ++ (10 ∷ []))) in
    keyword_again (codes "hide") text (hide label name) (refl, (refl, (refl, (refl, tt))))
    (bind_again (hide_parts text) _ (label, name) (Some (hide label name)) (hide_parts_again label name h.0 (avoids-name 10 name refl h.1))
    (bind_again (name_in name) _ name (Some (hide label name)) (name_again name h.1) refl))
remark_again (view address name value) h =
    let text = decimal address ++ (32 ∷ (name ++ (32 ∷ (term_text value ++ (10 ∷ []))))) in
    keyword_again (codes "view") text (view address name value) (refl, (refl, (refl, (refl, tt))))
    (bind_again (addressed text) _ (address, name, term_text value) (Some (view address name value)) (addressed_again address name (term_text value) h.0 (avoids-name 32 name refl h.1) (term_avoids 10 _ value h.2 refl refl refl refl refl))
    (bind_again (name_in name) _ name (Some (view address name value)) (name_again name h.1)
    (bind_again (whole_term (term_text value)) _ value (Some (view address name value)) (whole_again (term_text value) value (record { text_is = refl; fits = h.2 })) refl)))
remark_again (hold address holder value) h =
    let text = decimal address ++ (32 ∷ (holder_text holder ++ (32 ∷ (term_text value ++ (10 ∷ []))))) in
    keyword_again (codes "hold") text (hold address holder value) (refl, (refl, (refl, (refl, tt))))
    (bind_again (addressed text) _ (address, holder_text holder, term_text value) (Some (hold address holder value)) (addressed_again address (holder_text holder) (term_text value) h.0 (holder_avoids 32 holder h.1 (inl refl)) (term_avoids 10 _ value h.2 refl refl refl refl refl))
    (bind_again (holder_in (holder_text holder)) _ holder (Some (hold address holder value)) (holder_again holder h.1)
    (bind_again (whole_term (term_text value)) _ value (Some (hold address holder value)) (whole_again (term_text value) value (record { text_is = refl; fits = h.2 })) refl)))
remark_again (know address name value) h =
    let text = decimal address ++ (32 ∷ (name ++ (32 ∷ (decimal value ++ (10 ∷ []))))) in
    keyword_again (codes "know") text (know address name value) (refl, (refl, (refl, (refl, tt))))
    (bind_again (addressed text) _ (address, name, decimal value) (Some (know address name value)) (addressed_again address name (decimal value) h.0 (avoids-name 32 name refl h.1) (avoids-decimal 10 value refl h.2))
    (bind_again (number_of (decimal value)) _ value (Some (know address name value)) (number_again value h.2)
    (bind_again (name_in name) _ name (Some (know address name value)) (name_again name h.1) refl)))
