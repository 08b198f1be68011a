-- A text says one image with one list of remarks, and a fault of a text is at one place.
use Rattle.std.proofs.Common.{◌≡◌, inl, inr, ℕ, ◌≤◌, ◌<◌, List, [], ◌∷◌, ◌++◌, length, map, None, refl, sym, ap, ◌∙◌, append_assoc, length-append, arith}
use Rattle.std.specs.Prelude.{slice_get}
use Rattle.std.specs.List.{concat}
use Rattle.std.proofs.lemmas.Bool.{cases_lt}
use Rattle.std.proofs.lemmas.List.{append-nil}
use Rattle.net_model.specs.declared.hardware.Netlist.{Netlist}
use Rattle.net_model.specs.Nets.{memory_width}
use Rattle.code_model.specs.declared.image.Image.{Image}
use Rattle.code_model.specs.ImageFits.{limits_of}
use Rattle.code_model.specs.ImageLines.{IsImageText}
use Rattle.code_model.specs.ImageText.{image_text}
use Rattle.image_text.proofs.Whole.{Narrow, text_is_read}
use Rattle.text_lines.specs.Lines.{lines_of}
use Rattle.view_lines.specs.Remarks.{RemarkModel, remark_line}
use Rattle.viewed_text.specs.Texts.{AreRemarks, IsBehind, IsImageRead, IsRemarkedFault, IsRemarkedText}
use Rattle.viewed_text.specs.Inner.Behind.{AreReadOf}
use Rattle.viewed_text.proofs.Remarks.{remarks_again, text_lines}
use Rattle.viewed_text.proofs.Whole.{FrontIs, ends_of, one_text}

module _ (netlist : Netlist) (n : Narrow (limits_of netlist)) (bytes : List ℕ) where
  one_image : (x y : Image) (text : List ℕ) → IsImageText (limits_of netlist) text x → IsImageText (limits_of netlist) text y → x ≡ y
  one_image x y text p q =
      let a = text_is_read (limits_of netlist) text x n p in
      let b = text_is_read (limits_of netlist) text y n q in
      cc

  read_again : (image : Image) (remarks : List RemarkModel) (behind : List ℕ) → AreRemarks netlist.storages image (memory_width netlist.storages) None remarks → IsBehind remarks behind → AreReadOf netlist image behind remarks
  read_again image remarks behind fits (inl none) = inl none
  read_again image remarks behind fits (inr is) =
      let again = remarks_again netlist.storages image (memory_width netlist.storages) None remarks fits in
      inr (record {
        before = map remark_line remarks;
        last = again.0;
        lines = ap lines_of is ∙ text_lines netlist.storages image (memory_width netlist.storages) None remarks fits;
        read = again.1;
      })

  pub one_remarked : (x y : Image) (said told : List RemarkModel) → IsRemarkedText netlist bytes x said → IsRemarkedText netlist bytes y told → (x ≡ y) × (said ≡ told)
  one_remarked x y said told p q =
      let front : FrontIs netlist n (image_text x) x = record {
        is = record { text = refl; fits = p.fits };
        only = λ (other : Image) (h : IsImageText (limits_of netlist) (image_text x) other). one_image x other (image_text x) (record { text = refl; fits = p.fits }) h;
      } in
      one_text netlist n bytes (image_text x) p.behind x (ends_of netlist n bytes x said p) front said (read_again x said p.behind p.remarks_fit p.remarked) y told q

  pub one_read : (x y : Image) → IsImageRead netlist bytes x → IsImageRead netlist bytes y → x ≡ y
  one_read x y p q = (one_remarked x y p.remarks q.remarks p.is q.is).0

-- of two ways to cut a list, what the shorter front lacks of the longer one stands at the front of
-- its rest
cut : (f r g s : List (List ℕ)) → f ++ r ≡ g ++ s → length f ≤ length g → (m : List (List ℕ)) × (g ≡ f ++ m) × (r ≡ m ++ s)
cut [] r g s e le = (g, refl, e)
cut (x ∷ f) r [] s e le = absurd (omega arith)
cut (x ∷ f) r (y ∷ g) s e le =
    let head : x ≡ y = cc in
    let tail : f ++ r ≡ g ++ s = cc in
    let found = cut f r g s tail (omega arith) in
    (found.0, ap (λ z. z ∷ g) (sym head) ∙ ap (λ zs. x ∷ zs) found.1, found.2)

module _ (netlist : Netlist) (bytes : List ℕ) where
  -- a fault isn't behind another one
  not_behind : (a b : ℕ) (p : IsRemarkedFault netlist bytes a) (q : IsRemarkedFault netlist bytes b) → length p.front < length q.front → ⊥
  not_behind a b p q lt =
      let m = cut p.front p.rest q.front q.rest (sym p.lines ∙ q.lines) (omega arith) in
      begins m.0 m.1 m.2 (omega (arith, lt, ap length m.1))
    where
      begins : (m : List (List ℕ)) → q.front ≡ p.front ++ m → p.rest ≡ m ++ q.rest → length p.front < length (p.front ++ m) → ⊥
      begins [] same rest more = absurd (let e : p.front ++ [] ≡ p.front = append-nil p.front in omega (arith, ap length e))
      begins (line ∷ m) same rest more =
          let b = q.begins in
          p.next line (ap (λ ls. slice_get ls 0) rest) (record {
            more = m ++ b.more;
            bytes = b.bytes;
            image = b.image;
            remarks = b.remarks;
            lines_are = sym (append_assoc (p.front ++ (line ∷ [])) m b.more) ∙ ap (λ ls. ls ++ b.more) (append_assoc p.front (line ∷ []) m ∙ sym same) ∙ b.lines_are;
            is = b.is;
          })

  same_front : (a b : ℕ) (p : IsRemarkedFault netlist bytes a) (q : IsRemarkedFault netlist bytes b) → length p.front ≡ length q.front → a ≡ b
  same_front a b p q same =
      let m = cut p.front p.rest q.front q.rest (sym p.lines ∙ q.lines) (omega arith) in
      sym p.place ∙ ap (λ ls. length (concat ls)) (fronts m.0 m.1 (omega (arith, same, ap length m.1, length-append p.front m.0))) ∙ q.place
    where
      fronts : (m : List (List ℕ)) → q.front ≡ p.front ++ m → length m ≡ 0 → p.front ≡ q.front
      fronts [] e none = sym (e ∙ append-nil p.front)
      fronts (line ∷ m) e none = absurd (omega arith)

  pub one_remarked_fault : (a b : ℕ) → IsRemarkedFault netlist bytes a → IsRemarkedFault netlist bytes b → a ≡ b
  one_remarked_fault a b p q = elim (cases_lt (length p.front) (length q.front)) [
    | inl lt ↦ absurd (not_behind a b p q lt)
    | inr le ↦ elim (cases_lt (length q.front) (length p.front)) [
      | inl more ↦ absurd (not_behind b a q p more)
      | inr also ↦ same_front a b p q (omega arith)
    ]
  ]
