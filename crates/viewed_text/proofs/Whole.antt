-- What the parts of a text say of all of it.
use Rattle.std.proofs.Common.{◌≡◌, ◌⊎◌, inl, inr, ℕ, List, [], ◌∷◌, ◌++◌, length, map, Option, None, Some, refl, sym, ap, subst, ◌∙◌, append_assoc, length-append, arith}
use Rattle.std.proofs.lemmas.List.{append-nil}
use Rattle.std.proofs.lemmas.Option.{same_Some}
use Rattle.std.specs.List.{AllByRecursion, concat}
use Rattle.std.specs.Prelude.{slice_get}
use Rattle.net_model.specs.declared.hardware.Netlist.{Netlist}
use Rattle.net_model.specs.Nets.{memory_width}
use Rattle.rec_bits.specs.declared.fault.ParseFault.{ParseFault}
use Rattle.rec_bits.specs.declared.fault.ParseFault.TheVariants.{Text, Memory}
use Rattle.code_model.specs.declared.image.Image.{Image}
use Rattle.code_model.specs.ImageFits.{limits_of}
use Rattle.code_model.specs.ImageLines.{Begin, IsImageText, IsLineFault}
use Rattle.code_model.specs.ImageText.{image_text}
use Rattle.text_lines.specs.Lines.{lines_of}
use Rattle.text_lines.proofs.Parts.{joined-lines}
use Rattle.image_text.proofs.Whole.{Narrow}
use Rattle.view_lines.specs.Remarks.{RemarkModel, remark_line}
use Rattle.view_scope.specs.declared.turn.Turn.{Turn}
use Rattle.viewed_text.specs.Texts.{AreRemarks, BeginRemarked, IsBehind, IsRemarkedFault, IsRemarkedRefusal, IsRemarkedText, remarks_text}
use Rattle.viewed_text.specs.Inner.Behind.{AreReadOf, EndsAtDone, HasNoDone, IsOther, IsParted, StopOf, StopsAt, at_line, at_end, behind_done, done_line, next_remark, remarks_read}
use Rattle.viewed_text.proofs.Dones.{all_front, ends_lines, first_done, front_lines, image_ends, no_more, others_before, prefix_at, snoc_split}
use Rattle.viewed_text.proofs.Lines.{concat-append, concat-last, no_lines, none_some}
use Rattle.viewed_text.proofs.Remarks.{next_done, no_text, remarks_again, remarks_are, remarks_stop, text_is, text_lines}

module _ (netlist : Netlist) (n : Narrow (limits_of netlist)) where
  -- the text of an image with remarks is parted behind the image
  pub ends_of : (bytes : List ℕ) (image : Image) (remarks : List RemarkModel) (t : IsRemarkedText netlist bytes image remarks) → EndsAtDone bytes (image_text image) t.behind
  ends_of bytes image remarks t =
      subst (λ b. EndsAtDone b (image_text image) t.behind) (sym t.text) (image_ends (limits_of netlist) image (omega (arith, n.narrow)) n.words t.fits t.behind)

  record SameParts (front rest front2 rest2 : List ℕ) : Type 0 where
    pub fronts : front ≡ front2
    pub rests : rest ≡ rest2

  same_parts : (bytes front rest front2 rest2 : List ℕ) → EndsAtDone bytes front rest → EndsAtDone bytes front2 rest2 → SameParts front rest front2 rest2
  same_parts bytes front rest front2 rest2 e d =
      let r = first_done e.before (lines_of rest) d.before (lines_of rest2) e.others.others d.others.others (sym (ends_lines bytes front rest e) ∙ ends_lines bytes front2 rest2 d) in
      record {
        fronts = e.front_is ∙ ap (λ b. concat b ++ done_line) r.0 ∙ sym d.front_is;
        rests = sym (joined-lines rest) ∙ ap concat r.1 ∙ joined-lines rest2;
      }

  all_at : (xs : List (List ℕ)) (d : List ℕ) (ys : List (List ℕ)) → AllByRecursion IsOther (xs ++ (d ∷ ys)) → IsOther d
  all_at [] d ys h = h.0
  all_at (x ∷ xs) d ys h = all_at xs d ys h.1

  no_done : (bytes front rest front2 rest2 : List ℕ) → HasNoDone bytes front rest → EndsAtDone bytes front2 rest2 → ⊥
  no_done bytes front rest front2 rest2 h d = all_at d.before done_line (lines_of rest2) (subst (AllByRecursion IsOther) (ends_lines bytes front2 rest2 d) h.others) refl

  -- ---- a fault before the first `done`

  begin_image : (lines : List (List ℕ)) → Begin (limits_of netlist) lines → BeginRemarked netlist lines
  begin_image lines b = record {
    more = b.0;
    bytes = image_text b.1;
    image = b.1;
    remarks = [];
    lines_are = b.2;
    is = record { behind = []; text = sym (append-nil (image_text b.1)); remarked = inl (refl, refl); fits = b.3; remarks_fit = tt };
  }

  next_line : (xs : List (List ℕ)) (line : List ℕ) → AllByRecursion IsOther xs → BeginRemarked netlist (xs ++ (line ∷ [])) → Begin (limits_of netlist) (xs ++ (line ∷ []))
  next_line xs line others b =
      let d = ends_of b.bytes b.image b.remarks b.is in
      let p = prefix_at xs line b.more d.before (lines_of b.is.behind) others (sym (append_assoc xs (line ∷ []) b.more) ∙ b.lines_are ∙ ends_lines b.bytes (image_text b.image) b.is.behind d) in
      (p.0, b.image, sym p.1 ∙ sym (front_lines b.bytes (image_text b.image) b.is.behind d), b.is.fits)

  -- all lines up to `done` that begin an image are its text
  whole_front : (bytes front rest : List ℕ) → EndsAtDone bytes front rest → Begin (limits_of netlist) (lines_of front) → (image : Image) × IsImageText (limits_of netlist) front image
  whole_front bytes front rest e b =
      let image = b.1 in
      let d = image_ends (limits_of netlist) image (omega (arith, n.narrow)) n.words b.3 [] in
      let here : lines_of front ++ b.0 ≡ e.before ++ (done_line ∷ b.0) = ap (λ l. l ++ b.0) (front_lines bytes front rest e) ∙ append_assoc e.before (done_line ∷ []) b.0 in
      let r = first_done e.before b.0 d.before [] e.others.others d.others.others (sym here ∙ b.2 ∙ front_lines (image_text image ++ []) (image_text image) [] d) in
      (image, record { text = e.front_is ∙ ap (λ x. concat x ++ done_line) r.0 ∙ sym d.front_is; fits = b.3 })

  in_front : (bytes front rest : List ℕ) (at : ℕ) → EndsAtDone bytes front rest → IsLineFault (limits_of netlist) front at → IsRemarkedFault netlist bytes at
  in_front bytes front rest at e f = record {
    front = f.front;
    rest = f.rest ++ lines_of rest;
    lines = ends_lines bytes front rest e ∙ sym (append_assoc e.before (done_line ∷ []) (lines_of rest)) ∙ ap (λ l. l ++ lines_of rest) (sym (front_lines bytes front rest e) ∙ f.lines) ∙ append_assoc f.front f.rest (lines_of rest);
    place = f.place;
    begins = begin_image f.front f.begins;
    next = next f.rest refl;
    whole = λ (image : Image) (remarks : List RemarkModel) (t : IsRemarkedText netlist bytes image remarks).
        f.whole image (record { text = (same_parts bytes front rest (image_text image) t.behind e (ends_of bytes image remarks t)).fronts; fits = t.fits });
  }
    where
      next : (fr : List (List ℕ)) → f.rest ≡ fr → (line : List ℕ) → slice_get (fr ++ lines_of rest) 0 ≡ Some line → BeginRemarked netlist (f.front ++ (line ∷ [])) → ⊥
      next [] q line s b =
          let all : lines_of front ≡ f.front = f.lines ∙ ap (λ r. f.front ++ r) q ∙ append-nil f.front in
          let w = whole_front bytes front rest e (subst (Begin (limits_of netlist)) (sym all) f.begins) in
          f.whole w.0 w.1
      next (l ∷ fr) q line s b =
          let others = others_before f.front l fr e.before e.others.others (sym (front_lines bytes front rest e) ∙ f.lines ∙ ap (λ r. f.front ++ r) q) in
          f.next line (ap (λ r. slice_get r 0) q ∙ s) (next_line f.front line others b)

  in_all : (bytes front rest : List ℕ) (at : ℕ) → HasNoDone bytes front rest → IsLineFault (limits_of netlist) front at → IsRemarkedFault netlist bytes at
  in_all bytes front rest at h g =
      let f : IsLineFault (limits_of netlist) bytes at = subst (λ b. IsLineFault (limits_of netlist) b at) h.all g in
      let others : AllByRecursion IsOther f.front = all_front IsOther f.front f.rest (subst (AllByRecursion IsOther) f.lines h.others) in
      record {
        front = f.front;
        rest = f.rest;
        lines = f.lines;
        place = f.place;
        begins = begin_image f.front f.begins;
        next = λ (line : List ℕ) (s : slice_get f.rest 0 ≡ Some line) (b : BeginRemarked netlist (f.front ++ (line ∷ []))). f.next line s (next_line f.front line others b);
        whole = λ (image : Image) (remarks : List RemarkModel) (t : IsRemarkedText netlist bytes image remarks). no_done bytes front rest (image_text image) t.behind h (ends_of bytes image remarks t);
      }

  pub front_fault : (bytes front rest : List ℕ) (at : ℕ) → IsParted bytes front rest → IsLineFault (limits_of netlist) front at → IsRemarkedFault netlist bytes at
  front_fault bytes front rest at (inl e) f = in_front bytes front rest at e f
  front_fault bytes front rest at (inr h) f = in_all bytes front rest at h f

  -- ---- behind the image

  -- the image that the front is, and no other
  pub record FrontIs (front : List ℕ) (image : Image) : Type 0 where
    pub is : IsImageText (limits_of netlist) front image
    pub only : (other : Image) → IsImageText (limits_of netlist) front other → image ≡ other

  module _ (bytes front rest : List ℕ) (image : Image) (e : EndsAtDone bytes front rest) (f : FrontIs front image) where
    abbrev fits_of : Image → List RemarkModel → Type 0
    fits_of i remarks = AreRemarks netlist.storages i (memory_width netlist.storages) None remarks

    abbrev reads : List (List ℕ) → Option (List RemarkModel × Option Turn)
    reads lines = remarks_read netlist.storages image (memory_width netlist.storages) None lines

    abbrev stops : Option Turn → List ℕ → Type 0
    stops last line = next_remark netlist.storages image (memory_width netlist.storages) last line ≡ None

    -- the lines of the image
    abbrev head : List (List ℕ)
    head = e.before ++ (done_line ∷ [])

    head_is : concat head ≡ front
    head_is = concat-last e.before done_line ∙ sym e.front_is

    all_lines : lines_of bytes ≡ head ++ lines_of rest
    all_lines = ends_lines bytes front rest e ∙ sym (append_assoc e.before (done_line ∷ []) (lines_of rest))

    -- remarks that were read begin a text
    begun : (before : List (List ℕ)) (remarks : List RemarkModel) (last : Option Turn) → reads before ≡ Some (remarks, last) →
        (lines_of (front ++ remarks_text remarks) ≡ head ++ (before ++ (done_line ∷ []))) × IsRemarkedText netlist (front ++ remarks_text remarks) image remarks
    begun before remarks last read =
        let r = remarks_are netlist.storages image (memory_width netlist.storages) None before (remarks, last) read in
        let d : EndsAtDone (front ++ remarks_text remarks) front (remarks_text remarks) = record { before = e.before; others = e.others; front_is = e.front_is; text = refl } in (
          ends_lines (front ++ remarks_text remarks) front (remarks_text remarks) d
              ∙ ap (λ l. e.before ++ (done_line ∷ l)) (text_lines netlist.storages image (memory_width netlist.storages) None remarks r.1 ∙ ap (λ l. l ++ (done_line ∷ [])) (sym r.0))
              ∙ sym (append_assoc e.before (done_line ∷ []) (before ++ (done_line ∷ []))),
          record { behind = remarks_text remarks; text = ap (λ x. x ++ remarks_text remarks) f.is.text; remarked = inr refl; fits = f.is.fits; remarks_fit = r.1 },
        )

    -- a text with another line behind those is no text
    refused : (before : List (List ℕ)) (line : List ℕ) (after : List (List ℕ)) (remarks : List RemarkModel) (last : Option Turn) → reads before ≡ Some (remarks, last) → stops last line → (line ≡ done_line → after ≡ [] → ⊥) →
        (other : Image) (said : List RemarkModel) (behind : List ℕ) → image ≡ other → lines_of behind ≡ before ++ (line ∷ after) → IsBehind said behind → fits_of other said → ⊥
    refused before line after remarks last read stop ends other said behind same lines is fits =
        no_text netlist.storages image (memory_width netlist.storages) behind said before line after (remarks, last) lines read stop ends is (subst (λ i. fits_of i said) (sym same) fits)

    -- what a text that begins with the head says of the image and of the lines behind
    behind_head : (xs : List (List ℕ)) (b : BeginRemarked netlist (head ++ xs)) → (image ≡ b.image) × (lines_of b.is.behind ≡ xs ++ b.more)
    behind_head xs b =
        let d = ends_of b.bytes b.image b.remarks b.is in
        let here : (head ++ xs) ++ b.more ≡ e.before ++ (done_line ∷ (xs ++ b.more)) = append_assoc head xs b.more ∙ append_assoc e.before (done_line ∷ []) (xs ++ b.more) in
        let r = first_done e.before (xs ++ b.more) d.before (lines_of b.is.behind) e.others.others d.others.others
        (sym here ∙ b.lines_are ∙ ends_lines b.bytes (image_text b.image) b.is.behind d) in
        (f.only b.image (record { text = e.front_is ∙ ap (λ x. concat x ++ done_line) r.0 ∙ sym d.front_is; fits = b.is.fits }), sym r.1)

    -- and of a whole text
    whole_behind : (other : Image) (said : List RemarkModel) (t : IsRemarkedText netlist bytes other said) → (image ≡ other) × (rest ≡ t.behind)
    whole_behind other said t =
        let p = same_parts bytes front rest (image_text other) t.behind e (ends_of bytes other said t) in
        (f.only other (record { text = p.fronts; fits = t.fits }), p.rests)

    stop_is_fault : (at : ℕ) → StopsAt netlist.storages image (memory_width netlist.storages) rest (length bytes) at → IsRemarkedFault netlist bytes at
    stop_is_fault at (at_line before line after remarks last lines read stop other place) =
        let b = begun before remarks last read in
        record {
          front = head ++ before;
          rest = line ∷ after;
          lines = all_lines ∙ ap (λ l. head ++ l) lines ∙ sym (append_assoc head before (line ∷ after));
          place = ap length (concat-append head before) ∙ omega (arith, length-append (concat head) (concat before), ap length head_is, ap length e.text, length-append front rest, place);
          begins = record { more = done_line ∷ []; bytes = front ++ remarks_text remarks; image = image; remarks = remarks; lines_are = append_assoc head before (done_line ∷ []) ∙ sym b.0; is = b.1 };
          next = λ (next : List ℕ) (s : Some line ≡ Some next) (c : BeginRemarked netlist ((head ++ before) ++ (next ∷ []))).
              let d : BeginRemarked netlist (head ++ (before ++ (line ∷ []))) =
              subst (BeginRemarked netlist) (append_assoc head before (next ∷ []) ∙ ap (λ l. head ++ (before ++ (l ∷ []))) (sym (same_Some line next s))) c in
              let p = behind_head (before ++ (line ∷ [])) d in
              refused before line d.more remarks last read stop (λ q _. other q) d.image d.remarks d.is.behind p.0 (p.1 ∙ append_assoc before (line ∷ []) d.more) d.is.remarked d.is.remarks_fit;
          whole = λ (image2 : Image) (said : List RemarkModel) (t : IsRemarkedText netlist bytes image2 said).
              let p = whole_behind image2 said t in
              refused before line after remarks last read stop (λ q _. other q) image2 said t.behind p.0 (ap lines_of (sym p.1) ∙ lines) t.remarked t.remarks_fit;
        }
    stop_is_fault at (at_end remarks last read some place) =
        let b = begun (lines_of rest) remarks last read in
        record {
          front = lines_of bytes;
          rest = [];
          lines = sym (append-nil (lines_of bytes));
          place = ap length (joined-lines bytes) ∙ sym place;
          begins = record { more = done_line ∷ []; bytes = front ++ remarks_text remarks; image = image; remarks = remarks; lines_are = ap (λ l. l ++ (done_line ∷ [])) all_lines ∙ append_assoc head (lines_of rest) (done_line ∷ []) ∙ sym b.0; is = b.1 };
          next = λ (next : List ℕ) (s : slice_get [] 0 ≡ Some next) (c : BeginRemarked netlist (lines_of bytes ++ (next ∷ []))). cc;
          whole = λ (image2 : Image) (said : List RemarkModel) (t : IsRemarkedText netlist bytes image2 said).
              let p = whole_behind image2 said t in
              missing remarks last read some image2 said t.behind p.0 p.1 t.remarked t.remarks_fit;
        }
      where
        missing : (remarks : List RemarkModel) (last : Option Turn) → reads (lines_of rest) ≡ Some (remarks, last) → (rest ≡ [] → ⊥) → (other : Image) (said : List RemarkModel) (behind : List ℕ) → image ≡ other → rest ≡ behind →
            IsBehind said behind → fits_of other said → ⊥
        missing remarks last read some other said behind same parts (inl none) fits = some (parts ∙ none.1)
        missing remarks last read some other said behind same parts (inr is) fits =
            let fit : fits_of image said = subst (λ i. fits_of i said) (sym same) fits in
            let lines : lines_of rest ≡ map remark_line said ++ (done_line ∷ []) = ap lines_of (parts ∙ is) ∙ text_lines netlist.storages image (memory_width netlist.storages) None said fit in
            let again = remarks_again netlist.storages image (memory_width netlist.storages) None said fit in
            let stop = remarks_stop netlist.storages image (memory_width netlist.storages) None (map remark_line said) done_line [] (said, again.0) again.1 (next_done netlist.storages image (memory_width netlist.storages) again.0) in
            none_some (remarks, last) (sym stop ∙ ap reads (sym lines) ∙ read)
    stop_is_fault at (behind_done before line after remarks last lines read place) =
        let b = begun before remarks last read in
        let stop = next_done netlist.storages image (memory_width netlist.storages) last in
        record {
          front = head ++ (before ++ (done_line ∷ []));
          rest = line ∷ after;
          lines = all_lines ∙ ap (λ l. head ++ l) (lines ∙ sym (append_assoc before (done_line ∷ []) (line ∷ after))) ∙ sym (append_assoc head (before ++ (done_line ∷ [])) (line ∷ after));
          place = ap length (concat-append head (before ++ (done_line ∷ []))) ∙ omega (arith, length-append (concat head) (concat (before ++ (done_line ∷ []))), ap length head_is, ap length e.text, length-append front rest, place);
          begins = record { more = []; bytes = front ++ remarks_text remarks; image = image; remarks = remarks; lines_are = append-nil (head ++ (before ++ (done_line ∷ []))) ∙ sym b.0; is = b.1 };
          next = λ (next : List ℕ) (s : Some line ≡ Some next) (c : BeginRemarked netlist ((head ++ (before ++ (done_line ∷ []))) ++ (next ∷ []))).
              let d : BeginRemarked netlist (head ++ ((before ++ (done_line ∷ [])) ++ (next ∷ []))) = subst (BeginRemarked netlist) (append_assoc head (before ++ (done_line ∷ [])) (next ∷ [])) c in
              let p = behind_head ((before ++ (done_line ∷ [])) ++ (next ∷ [])) d in
              refused before done_line (next ∷ d.more) remarks last read stop (λ q r. nonempty next d.more r) d.image d.remarks d.is.behind p.0
              (p.1 ∙ append_assoc (before ++ (done_line ∷ [])) (next ∷ []) d.more ∙ append_assoc before (done_line ∷ []) (next ∷ d.more)) d.is.remarked d.is.remarks_fit;
          whole = λ (image2 : Image) (said : List RemarkModel) (t : IsRemarkedText netlist bytes image2 said).
              let p = whole_behind image2 said t in
              refused before done_line (line ∷ after) remarks last read stop (λ q r. nonempty line after r) image2 said t.behind p.0 (ap lines_of (sym p.1) ∙ lines) t.remarked t.remarks_fit;
        }
      where
        nonempty : (x : List ℕ) (xs : List (List ℕ)) → (x ∷ xs) ≡ [] → ⊥
        nonempty x xs e = omega (arith, ap length e)

    -- what was read is the text of the image and the remarks
    text_found : (remarks : List RemarkModel) → AreReadOf netlist image rest remarks → IsRemarkedText netlist bytes image remarks
    text_found remarks (inl none) = record {
      behind = rest;
      text = e.text ∙ ap (λ x. x ++ rest) f.is.text;
      remarked = inl none;
      fits = f.is.fits;
      remarks_fit = subst (fits_of image) (sym none.0) tt;
    }
    text_found remarks (inr read) =
        let r = remarks_are netlist.storages image (memory_width netlist.storages) None read.before (remarks, read.last) read.read in
        let same : rest ≡ remarks_text remarks =
        sym (joined-lines rest) ∙ ap concat (read.lines ∙ ap (λ l. l ++ (done_line ∷ [])) r.0) ∙ text_is netlist.storages image (memory_width netlist.storages) remarks in
        record { behind = rest; text = e.text ∙ ap (λ x. x ++ rest) f.is.text; remarked = inr same; fits = f.is.fits; remarks_fit = r.1 }

    -- and no other
    pub one_text : (remarks : List RemarkModel) → AreReadOf netlist image rest remarks → (other : Image) (said : List RemarkModel) → IsRemarkedText netlist bytes other said → (image ≡ other) × (remarks ≡ said)
    one_text remarks read other said t =
        let p = whole_behind other said t in
        (p.0, same_remarks read (subst (IsBehind said) (sym p.1) t.remarked) (subst (λ i. fits_of i said) (sym p.0) t.remarks_fit))
      where
        no_last : (xs : List (List ℕ)) → rest ≡ [] → lines_of rest ≡ xs ++ (done_line ∷ []) → ⊥
        no_last xs none lines = omega (arith, ap length (sym no_lines ∙ ap lines_of (sym none) ∙ lines), length-append xs (done_line ∷ []))

        same_remarks : AreReadOf netlist image rest remarks → IsBehind said rest → fits_of image said → remarks ≡ said
        same_remarks (inl none) (inl other) fit = none.0 ∙ sym other.0
        same_remarks (inl none) (inr is) fit = absurd (no_last (map remark_line said) none.1 (ap lines_of is ∙ text_lines netlist.storages image (memory_width netlist.storages) None said fit))
        same_remarks (inr read) (inl other) fit = absurd (no_last read.before other.1 read.lines)
        same_remarks (inr read) (inr is) fit =
            step (snoc_split read.before done_line no_more (map remark_line said) done_line (sym read.lines ∙ ap lines_of is ∙ text_lines netlist.storages image (memory_width netlist.storages) None said fit))
          where
            again : (end : Option Turn) × (reads (map remark_line said) ≡ Some (said, end))
            again = remarks_again netlist.storages image (memory_width netlist.storages) None said fit

            step : ((zs : List (List ℕ)) × (map remark_line said ≡ read.before ++ (done_line ∷ zs))) ⊎ ((done_line ≡ done_line) × (no_more ≡ []) × (read.before ≡ map remark_line said)) → remarks ≡ said
            step (inl p) =
                let stop = remarks_stop netlist.storages image (memory_width netlist.storages) None read.before done_line p.0 (remarks, read.last) read.read (next_done netlist.storages image (memory_width netlist.storages) read.last) in
                absurd (none_some (said, again.0) (sym stop ∙ ap reads (sym p.1) ∙ again.1))
            step (inr p) = ap (λ (x : List RemarkModel × Option Turn). x.0) (same_Some (remarks, read.last) (said, again.0) (sym read.read ∙ ap reads p.2 ∙ again.1))

  -- ---- the answers

  -- where no image is read
  pub refused_front : (bytes front rest : List ℕ) → IsParted bytes front rest → (fault : ParseFault) → ((at : ℕ) → fault ≡ Text at → IsLineFault (limits_of netlist) front at) → IsRemarkedRefusal netlist bytes fault
  refused_front bytes front rest parted (Text at) f = front_fault bytes front rest at parted (f at refl)
  refused_front bytes front rest parted Memory f = tt

  -- where no remarks are
  pub refused_behind : (bytes front rest : List ℕ) (image : Image) → IsParted bytes front rest → FrontIs front image → (fault : ParseFault) → StopOf netlist image rest (length bytes) fault → IsRemarkedRefusal netlist bytes fault
  refused_behind bytes front rest image (inl e) f (Text at) s = stop_is_fault bytes front rest image e f at s
  refused_behind bytes front rest image (inr h) f (Text at) s = absurd (no_stop at s)
    where
      none : lines_of rest ≡ []
      none = ap lines_of h.none ∙ no_lines

      no_stop : (at : ℕ) → StopsAt netlist.storages image (memory_width netlist.storages) rest (length bytes) at → ⊥
      no_stop at (at_line before line after remarks last lines read stop other place) = omega (arith, ap length (sym none ∙ lines), length-append before (line ∷ after))
      no_stop at (at_end remarks last read some place) = some h.none
      no_stop at (behind_done before line after remarks last lines read place) = omega (arith, ap length (sym none ∙ lines), length-append before (done_line ∷ line ∷ after))
  refused_behind bytes front rest image parted f Memory s = tt

  -- where both are
  pub found : (bytes front rest : List ℕ) (image : Image) (remarks : List RemarkModel) → IsParted bytes front rest → FrontIs front image → AreReadOf netlist image rest remarks → IsRemarkedText netlist bytes image remarks
  found bytes front rest image remarks (inl e) f read = text_found bytes front rest image e f remarks read
  found bytes front rest image remarks (inr h) f read = record {
    behind = [];
    text = sym h.all ∙ f.is.text ∙ sym (append-nil (image_text image));
    remarked = inl (none read, refl);
    fits = f.is.fits;
    remarks_fit = subst (AreRemarks netlist.storages image (memory_width netlist.storages) None) (sym (none read)) tt;
  }
    where
      none : AreReadOf netlist image rest remarks → remarks ≡ []
      none (inl p) = p.0
      none (inr read) = absurd (omega (arith, ap length (sym no_lines ∙ ap lines_of (sym h.none) ∙ read.lines), length-append read.before (done_line ∷ [])))

  pub found_only : (bytes front rest : List ℕ) (image : Image) (remarks : List RemarkModel) → IsParted bytes front rest → FrontIs front image → AreReadOf netlist image rest remarks →
      (other : Image) (said : List RemarkModel) → IsRemarkedText netlist bytes other said → (image ≡ other) × (remarks ≡ said)
  found_only bytes front rest image remarks (inl e) f read other said t = one_text bytes front rest image e f remarks read other said t
  found_only bytes front rest image remarks (inr h) f read other said t = absurd (no_done bytes front rest (image_text other) t.behind h (ends_of bytes other said t))

  -- a refusal leaves no text but for want of memory
  pub only_memory : (bytes : List ℕ) (fault : ParseFault) → IsRemarkedRefusal netlist bytes fault → (image : Image) (remarks : List RemarkModel) → IsRemarkedText netlist bytes image remarks → fault ≡ Memory
  only_memory bytes (Text at) f image remarks t = absurd (f.whole image remarks t)
  only_memory bytes Memory f image remarks t = refl
