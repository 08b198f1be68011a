-- The line of a remark has one LF, at its end.
use Rattle.std.proofs.Common.{ℕ, ◌<◌, ◌^◌, List, [], ◌∷◌, ◌++◌, refl, sym, ap, ◌∙◌, append_assoc, inr}
use Rattle.std.specs.Prelude.{codes}
use Rattle.std.specs.Fmt.{decimal}
use Rattle.code_model.specs.ImageText.{label_text}
use Rattle.text_lines.proofs.Parts.{Avoids, IsLine, avoids-append}
use Rattle.text_lines.proofs.Numbers.{avoids-decimal, avoids-name}
use Rattle.image_items.proofs.Laws.{digits_avoid, label_avoids}
use Rattle.view_terms.specs.Terms.{term_text}
use Rattle.view_terms.proofs.Laws.{term_avoids}
use Rattle.view_lines.specs.Remarks.{RemarkModel, hide, view, hold, know, holder_text, remark_line, RemarkFits}
use Rattle.view_lines.proofs.Laws.{holder_avoids}

-- a front before a text with an ending
longer : (front line : List ℕ) → Avoids 10 front → IsLine line → IsLine (front ++ line)
longer front line out l = (front ++ l.0, avoids-append 10 front l.0 out l.1, ap (λ r. front ++ r) l.2 ∙ sym (append_assoc front l.0 (10 ∷ [])))

last : (text : List ℕ) → Avoids 10 text → IsLine (text ++ (10 ∷ []))
last text out = (text, out, refl)

-- an address, a subject and an end behind a keyword
three_parts : (keyword subject end : List ℕ) (address : ℕ) → Avoids 10 keyword → address < 2 ^ 32 → Avoids 10 subject → Avoids 10 end →
    IsLine (keyword ++ (decimal address ++ (32 ∷ (subject ++ (32 ∷ (end ++ (10 ∷ [])))))))
three_parts keyword subject end address k h s e =
    longer keyword _ k (longer (decimal address) _ (digits_avoid 10 address h refl) (longer (32 ∷ []) _ (refl, tt) (longer subject _ s (longer (32 ∷ []) _ (refl, tt) (last end e)))))

pub remark_ends : (remark : RemarkModel) → RemarkFits remark → IsLine (remark_line remark)
remark_ends (hide label name) h =
    longer (codes "hide ") _ (refl, (refl, (refl, (refl, (refl, tt))))) (longer (label_text label) _ (label_avoids label h.0) (longer (32 ∷ []) _ (refl, tt) (last name (avoids-name 10 name refl h.1))))
remark_ends (view address name value) h =
    three_parts (codes "view ") name (term_text value) address (refl, (refl, (refl, (refl, (refl, tt))))) h.0 (avoids-name 10 name refl h.1) (term_avoids 10 _ value h.2 refl refl refl refl refl)
remark_ends (hold address holder value) h =
    three_parts (codes "hold ") (holder_text holder) (term_text value) address (refl, (refl, (refl, (refl, (refl, tt))))) h.0 (holder_avoids 10 holder h.1 (inr refl)) (term_avoids 10 _ value h.2 refl refl refl refl refl)
remark_ends (know address name value) h =
    three_parts (codes "know ") name (decimal value) address (refl, (refl, (refl, (refl, (refl, tt))))) h.0 (avoids-name 10 name refl h.1) (avoids-decimal 10 value refl h.2)
