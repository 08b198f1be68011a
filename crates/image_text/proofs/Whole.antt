-- What reading all lines says of a text.
use Rattle.std.proofs.Common.{◌≡◌, ℕ, zero, suc, ◌+◌, ◌-◌, ◌*◌, ◌^◌, ◌<◌, ◌≤◌, List, [], ◌∷◌, ◌++◌, length, map, cond, Option, Some, None, refl, sym, ap, subst, ◌∙◌, append_assoc, eq-eqb, length-append, arith}
use Rattle.std.proofs.lemmas.List.{append-nil, map-append}
use Rattle.std.proofs.lemmas.Option.{same_Some}
use Rattle.std.proofs.lemmas.Bool.{lt-ltb, le-leb}
use Rattle.std.proofs.Math.Nat.{pow-le-pow_right}
use Rattle.rec_bits.proofs.Lists.{all_append}
use Rattle.text_lines.proofs.Parts.{joined-lines}
use Rattle.std.specs.Prelude.{slice_get, Result, Ok, Err, IfOk, IfErr, MatchResult}
use Rattle.rec_bits.specs.declared.fault.ParseFault.{ParseFault}
use Rattle.rec_bits.specs.declared.fault.ParseFault.TheVariants.{Text, Memory}
use Rattle.rec_bits.proofs.Bits.{bytes_power}
use Rattle.std.specs.List.{AllByRecursion, concat}
use Rattle.code_model.specs.declared.image.Image.{Image}
use Rattle.code_model.specs.declared.image.Mark.{Mark}
use Rattle.code_model.specs.declared.image.Place.{Place}
use Rattle.code_model.specs.declared.image.Word.{Word}
use Rattle.code_model.specs.ImageText.{image_text}
use Rattle.text_lines.specs.Digits.{bytes_of}
use Rattle.text_lines.specs.Lines.{lines_of}
use Rattle.image_items.specs.declared.item.Item.{Item}
use Rattle.image_items.specs.declared.item.Item.TheVariants.{Size, Temps, Variable, Tree, Label, Code, Done}
use Rattle.image_items.specs.Inner.Items.{item_line, IsSayable, IsWithin}
use Rattle.image_items.specs.Reading.{item_of}
use Rattle.image_items.proofs.Laws.{item_is, item_again}
use Rattle.image_text.proofs.Marks.{follow_again, last-snoc}
use Rattle.image_text.proofs.Machine.{body_items, front_items, FrontFits, step_goes, more_codes}
use Rattle.image_text.proofs.Progress.{reads-append}
use Rattle.image_text.proofs.Again.{whole_text, written_lines}
use Rattle.code_model.specs.declared.limits.Limits.{Limits}
use Rattle.code_model.specs.ImageFits.{PlaceFits, MarkFits, MayFollow, AreMarksAfter, CostFits, CodeFits, IsFitting}
use Rattle.code_model.specs.ImageLines.{IsImageText, Begin, IsLineFault, IsImageRefusal}
use Rattle.image_text.specs.declared.front.Front.{Front}
use Rattle.image_text.specs.declared.front.Front.TheVariants.{Nothing, Sized, Open, Whole}
use Rattle.image_text.specs.Inner.Lines.{code_items, image_lines}
use Rattle.image_text.specs.Inner.Fronts.{last_mark, opened, with_size, with_place, with_cost, with_mark, with_word, whole, with_item, after_nothing, after_size, step, step_line, reads, IsRead, StopsAt, Stops, IsWholeOf}
use Rattle.text_lines.specs.Fields.{◌>>=◌}
use Rattle.text_lines.proofs.Steps.{bind_ok, bind_again}

-- a word of 1 to 64 bits
pub record Narrow (limits : Limits) : Type 0 where
  pub some : 1 ≤ limits.bits
  pub narrow : limits.bits ≤ 64
  pub words : limits.words < 2 ^ 32

few_bytes : (limits : Limits) → Narrow limits → bytes_of limits.bits ≤ 8
few_bytes limits n = omega (arith, n.narrow)

abbrev line_in : Limits → Item → List ℕ
line_in limits item = item_line (bytes_of limits.bits) item

-- ---- lines that were read are those of what was read

record Spells (limits : Limits) (from : Front) (lines : List (List ℕ)) (to : Front) : Type 0 where
  pub spelled : map (line_in limits) (front_items limits to) ≡ map (line_in limits) (front_items limits from) ++ lines
  pub fits : FrontFits limits to

spells : (limits : Limits) (from : Front) (lines : List (List ℕ)) (to : Front) → Narrow limits → FrontFits limits from → reads limits from lines ≡ Some to → Spells limits from lines to
unfolding reads step_line
spells limits from [] to n h e = subst (Spells limits from []) (same_Some from to e) (record { spelled = sym (append-nil (map (line_in limits) (front_items limits from))); fits = h })
spells limits from (line ∷ lines) to n h e =
    let b = bind_ok (step_line limits from line) _ to e in
    let d = bind_ok (item_of (bytes_of limits.bits) line) _ b.value b.first in
    let s = item_is (bytes_of limits.bits) line d.value (few_bytes limits n) d.first in
    let g = step_goes limits from d.value b.value h s.sayable d.then in
    let rest = spells limits b.value lines to n g.fits b.then in
    record {
      spelled = rest.spelled ∙ ap (λ items. map (line_in limits) items ++ lines) g.items
          ∙ ap (λ ls. ls ++ lines) (map-append (line_in limits) (front_items limits from) (d.value ∷ []))
          ∙ append_assoc (map (line_in limits) (front_items limits from)) (line_in limits d.value ∷ []) lines
          ∙ ap (λ l. map (line_in limits) (front_items limits from) ++ (l ∷ lines)) (sym s.line_is);
      fits = rest.fits;
    }

-- ---- the lines of an image are read

within_bytes : (limits : Limits) (word : ℕ) → word < 2 ^ limits.bits → word < 256 ^ bytes_of limits.bits
within_bytes limits word h =
    let p : 2 ^ limits.bits ≤ 2 ^ (8 * bytes_of limits.bits) = pow-le-pow_right {n = 2} (omega arith) (omega arith) in
    omega (arith, p, bytes_power (bytes_of limits.bits))

go_on : (limits : Limits) (front next : Front) (item : Item) (lines : List (List ℕ)) → Narrow limits → IsSayable item → IsWithin (bytes_of limits.bits) item → step limits front item ≡ Some next →
    reads limits front (line_in limits item ∷ lines) ≡ reads limits next lines
unfolding reads step_line
go_on limits front next item lines n s w e =
    bind_again (item_of (bytes_of limits.bits) (line_in limits item) >>= step limits front) _ next (reads limits next lines)
    (bind_again (item_of (bytes_of limits.bits) (line_in limits item)) _ item (Some next) (item_again (bytes_of limits.bits) item (few_bytes limits n) s w) e)
    refl

abbrev made : Limits → ℕ → List Place → List (ℕ × ℕ) → List Mark → List Word → Image
made limits t ps cs ms ws = record { bits = limits.bits; temps = t; places = ps; costs = cs; marks = ms; words = ws }

places_read : (limits : Limits) (count t : ℕ) (ps qs : List Place) (rest : List (List ℕ)) → Narrow limits → AllByRecursion PlaceFits qs →
    reads limits (Open count (made limits t ps [] [] [])) (map (line_in limits) (map Variable qs) ++ rest) ≡ reads limits (Open count (made limits t (ps ++ qs) [] [] [])) rest
unfolding step with_item with_place
places_read limits count t ps [] rest n h = ap (λ ps. reads limits (Open count (made limits t ps [] [] [])) rest) (sym (append-nil ps))
places_read limits count t ps (q ∷ qs) rest n h =
    go_on limits (Open count (made limits t ps [] [] [])) (Open count (made limits t (ps ++ (q ∷ [])) [] [] [])) (Variable q) (map (line_in limits) (map Variable qs) ++ rest) n h.0 tt refl
    ∙ places_read limits count t (ps ++ (q ∷ [])) qs rest n h.1
    ∙ ap (λ ps. reads limits (Open count (made limits t ps [] [] [])) rest) (append_assoc ps (q ∷ []) qs)

costs_read : (limits : Limits) (count t : ℕ) (ps : List Place) (cs ds : List (ℕ × ℕ)) (rest : List (List ℕ)) → Narrow limits → AllByRecursion CostFits ds →
    reads limits (Open count (made limits t ps cs [] [])) (map (line_in limits) (map Tree ds) ++ rest) ≡ reads limits (Open count (made limits t ps (cs ++ ds) [] [])) rest
unfolding step with_item with_cost
costs_read limits count t ps cs [] rest n h = ap (λ cs. reads limits (Open count (made limits t ps cs [] [])) rest) (sym (append-nil cs))
costs_read limits count t ps cs (d ∷ ds) rest n h =
    go_on limits (Open count (made limits t ps cs [] [])) (Open count (made limits t ps (cs ++ (d ∷ [])) [] [])) (Tree d) (map (line_in limits) (map Tree ds) ++ rest) n (h.0.tree, h.0.cost) tt refl
    ∙ costs_read limits count t ps (cs ++ (d ∷ [])) ds rest n h.1
    ∙ ap (λ cs. reads limits (Open count (made limits t ps cs [] [])) rest) (append_assoc cs (d ∷ []) ds)

mark_step : (limits : Limits) (count t : ℕ) (ps : List Place) (cs : List (ℕ × ℕ)) (ms : List Mark) (k : Mark) → MayFollow (last_mark None ms) k →
    step limits (Open count (made limits t ps cs ms [])) (Label k) ≡ Some (Open count (made limits t ps cs (ms ++ (k ∷ [])) []))
unfolding step with_item with_mark
mark_step limits count t ps cs ms k f = ap (λ b. cond b (Some (Open count (made limits t ps cs (ms ++ (k ∷ [])) []))) None) (follow_again (last_mark None ms) k f)

marks_read : (limits : Limits) (count t : ℕ) (ps : List Place) (cs : List (ℕ × ℕ)) (ms ks : List Mark) (rest : List (List ℕ)) → Narrow limits → AllByRecursion MarkFits ks → (last : Option Mark) → last ≡ last_mark None ms → AreMarksAfter last ks →
    reads limits (Open count (made limits t ps cs ms [])) (map (line_in limits) (map Label ks) ++ rest) ≡ reads limits (Open count (made limits t ps cs (ms ++ ks) [])) rest
marks_read limits count t ps cs ms [] rest n h last e o = ap (λ ms. reads limits (Open count (made limits t ps cs ms [])) rest) (sym (append-nil ms))
marks_read limits count t ps cs ms (k ∷ ks) rest n h last e o =
    go_on limits (Open count (made limits t ps cs ms [])) (Open count (made limits t ps cs (ms ++ (k ∷ [])) [])) (Label k) (map (line_in limits) (map Label ks) ++ rest) n h.0 tt
    (mark_step limits count t ps cs ms k (let P : Option Mark → Type 0 = λ l. MayFollow l k in subst P e o.0))
    ∙ marks_read limits count t ps cs (ms ++ (k ∷ [])) ks rest n h.1 (Some k) (sym (last-snoc None ms k)) o.1
    ∙ ap (λ ms. reads limits (Open count (made limits t ps cs ms [])) rest) (append_assoc ms (k ∷ []) ks)

code_step : (limits : Limits) (count t : ℕ) (ps : List Place) (cs : List (ℕ × ℕ)) (ms : List Mark) (ws : List Word) (a : ℕ) (u : Word) → a ≡ length ws → a < count → u.word < 2 ^ limits.bits →
    step limits (Open count (made limits t ps cs ms ws)) (Code a u) ≡ Some (Open count (made limits t ps cs ms (ws ++ (u ∷ []))))
unfolding step with_item with_word
code_step limits count t ps cs ms ws a u e r s = rw (eq-eqb a (length ws) e, lt-ltb a count r, lt-ltb u.word (2 ^ limits.bits) s) refl

codes_read : (limits : Limits) (count t : ℕ) (ps : List Place) (cs : List (ℕ × ℕ)) (ms : List Mark) (ws us : List Word) (a : ℕ) (rest : List (List ℕ)) → Narrow limits → AllByRecursion (CodeFits limits.bits) us → a ≡ length ws → a + length us ≤ count → count < 2 ^ 32 →
    reads limits (Open count (made limits t ps cs ms ws)) (map (line_in limits) (code_items a us) ++ rest) ≡ reads limits (Open count (made limits t ps cs ms (ws ++ us))) rest
codes_read limits count t ps cs ms ws [] a rest n h e r k = ap (λ ws. reads limits (Open count (made limits t ps cs ms ws)) rest) (sym (append-nil ws))
codes_read limits count t ps cs ms ws (u ∷ us) a rest n h e r k =
    go_on limits (Open count (made limits t ps cs ms ws)) (Open count (made limits t ps cs ms (ws ++ (u ∷ [])))) (Code a u) (map (line_in limits) (code_items (a + 1) us) ++ rest) n (omega (arith, r), h.0.patterns) (within_bytes limits u.word h.0.word)
    (code_step limits count t ps cs ms ws a u e (omega (arith, r)) h.0.word)
    ∙ codes_read limits count t ps cs ms (ws ++ (u ∷ [])) us (a + 1) rest n h.1 (omega (arith, length-append ws (u ∷ []))) (omega (arith, r)) k
    ∙ ap (λ ws. reads limits (Open count (made limits t ps cs ms ws)) rest) (append_assoc ws (u ∷ []) us)

size_step : (limits : Limits) (count : ℕ) → count ≤ limits.words → step limits Nothing (Size limits.bits count) ≡ Some (Sized count)
unfolding step after_nothing with_size
size_step limits count h = rw (eq-eqb limits.bits limits.bits refl, le-leb count limits.words h) refl

temps_step : (limits : Limits) (count temps : ℕ) → step limits (Sized count) (Temps temps) ≡ Some (Open count (made limits temps [] [] [] []))
unfolding step after_size
temps_step limits count temps = refl

done_step : (limits : Limits) (image : Image) → step limits (Open (length image.words) image) Done ≡ Some (Whole image)
unfolding step with_item whole
done_step limits image = rw (eq-eqb (length image.words) (length image.words) refl) refl

-- lists one after the other, line by line
five : (limits : Limits) (a b c d e : List Item) → map (line_in limits) (a ++ (b ++ (c ++ (d ++ e)))) ≡ map (line_in limits) a ++ (map (line_in limits) b ++ (map (line_in limits) c ++ (map (line_in limits) d ++ map (line_in limits) e)))
five limits a b c d e =
    let f = line_in limits in
    map-append f a (b ++ (c ++ (d ++ e))) ∙ ap (λ r. map f a ++ r) (map-append f b (c ++ (d ++ e)) ∙ ap (λ r. map f b ++ r) (map-append f c (d ++ e) ∙ ap (λ r. map f c ++ r) (map-append f d e)))

made_read : (limits : Limits) (t : ℕ) (ps : List Place) (cs : List (ℕ × ℕ)) (ms : List Mark) (ws : List Word) → Narrow limits → IsFitting limits (made limits t ps cs ms ws) → reads limits Nothing (image_lines (made limits t ps cs ms ws)) ≡ Some (Whole (made limits t ps cs ms ws))
unfolding reads
made_read limits t ps cs ms ws n f =
    let f_line = line_in limits in
    let count = length ws in
    let done = map f_line (Done ∷ []) in
    let words_lines = map f_line (code_items 0 ws) ++ done in
    let marks_lines = map f_line (map Label ms) ++ words_lines in
    let costs_lines = map f_line (map Tree cs) ++ marks_lines in
    let small : count < 2 ^ 32 = omega (arith, f.few, n.words) in
    let lists = map f_line (map Variable ps ++ (map Tree cs ++ (map Label ms ++ (code_items 0 ws ++ (Done ∷ []))))) in
    go_on limits Nothing (Sized count) (Size limits.bits count) (f_line (Temps t) ∷ lists) n (omega (arith, n.narrow), small) tt (size_step limits count f.few)
    ∙ go_on limits (Sized count) (Open count (made limits t [] [] [] [])) (Temps t) lists n f.temps tt (temps_step limits count t)
    ∙ ap (reads limits (Open count (made limits t [] [] [] []))) (five limits (map Variable ps) (map Tree cs) (map Label ms) (code_items 0 ws) (Done ∷ []))
    ∙ places_read limits count t [] ps costs_lines n f.places
    ∙ costs_read limits count t ps [] cs marks_lines n f.costs
    ∙ marks_read limits count t ps cs [] ms words_lines n f.marks None refl f.in_order
    ∙ codes_read limits count t ps cs ms [] ws 0 done n f.words refl (omega arith) small
    ∙ go_on limits (Open count (made limits t ps cs ms ws)) (Whole (made limits t ps cs ms ws)) Done [] n tt tt (done_step limits (made limits t ps cs ms ws))

image_read : (limits : Limits) (image : Image) → Narrow limits → IsFitting limits image → reads limits Nothing (image_lines image) ≡ Some (Whole image)
image_read limits image n f =
    let same : image ≡ made limits image.temps image.places image.costs image.marks image.words = ap (λ (b : ℕ). let i : Image = record { bits = b; temps = image.temps; places = image.places; costs = image.costs; marks = image.marks; words = image.words } in i) f.bits in
    let P : Image → Type 0 = λ i. reads limits Nothing (image_lines i) ≡ Some (Whole i) in
    subst P (sym same) (made_read limits image.temps image.places image.costs image.marks image.words n (subst (IsFitting limits) same f))

-- the lines of its text are those
lines_are : (limits : Limits) (image : Image) → Narrow limits → IsFitting limits image → lines_of (image_text image) ≡ image_lines image
lines_are limits image n f = written_lines limits image (omega (arith, n.narrow)) n.words f

-- ---- what was read can be completed

end_last : (limits : Limits) (image : Image) → image.bits ≡ limits.bits → image_lines image ≡ map (line_in limits) (front_items limits (Whole image))
end_last limits image e =
    let vs = map Variable image.places in
    let ts = map Tree image.costs in
    let ls = map Label image.marks in
    let ws = code_items 0 image.words in
    let end : List Item = Done ∷ [] in
    let tail : vs ++ (ts ++ (ls ++ (ws ++ end))) ≡ (vs ++ (ts ++ (ls ++ ws))) ++ end =
    sym (append_assoc vs (ts ++ (ls ++ ws)) end ∙ ap (λ r. vs ++ r) (append_assoc ts (ls ++ ws) end ∙ ap (λ r. ts ++ r) (append_assoc ls ws end))) in
    ap (λ b. map (item_line (bytes_of b)) (Size b (length image.words) ∷ Temps image.temps ∷ (vs ++ (ts ++ (ls ++ (ws ++ end)))))) e
    ∙ ap (λ r. map (line_in limits) (Size limits.bits (length image.words) ∷ Temps image.temps ∷ r)) tail

fill : ℕ → List Word
fill zero = []
fill (suc n) = record { word = 0; patterns = [] } ∷ fill n

fill_long : (n : ℕ) → length (fill n) ≡ n
unfolding fill
fill_long zero = refl
fill_long (suc n) = ap suc (fill_long n)

fill_fits : (bits n : ℕ) → AllByRecursion (CodeFits bits) (fill n)
unfolding fill
fill_fits bits zero = tt
fill_fits bits (suc n) =
    let p : 2 ^ 0 ≤ 2 ^ bits = pow-le-pow_right {n = 2} (omega arith) {i = 0} {j = bits} (omega arith) in
    (record { word = p; patterns = tt }, fill_fits bits n)

begin_less : (limits : Limits) (xs ys : List (List ℕ)) → Begin limits (xs ++ ys) → Begin limits xs
begin_less limits xs ys (more, image, e, f) = (ys ++ more, image, sym (append_assoc xs ys more) ∙ e, f)

open_begins : (limits : Limits) (count : ℕ) (image : Image) → Narrow limits → FrontFits limits (Open count image) → Begin limits (map (line_in limits) (front_items limits (Open count image)))
open_begins limits count image n (c, l, f) =
    let k = count - length image.words in
    let full : Image = record image { words = image.words ++ fill k } in
    let long : length (image.words ++ fill k) ≡ count = omega (arith, length-append image.words (fill k), fill_long k) in
    let rest = code_items (length image.words) (fill k) ++ (Done ∷ []) in
    let fits : IsFitting limits full = record { bits = f.bits; few = omega (arith, long); temps = f.temps; places = f.places; costs = f.costs; marks = f.marks; in_order = f.in_order; words = all_append (CodeFits limits.bits) image.words (fill k) f.words (fill_fits limits.bits k) } in
    let items : front_items limits (Whole full) ≡ front_items limits (Open count image) ++ rest =
    ap (λ words. Size limits.bits words ∷ Temps image.temps ∷ (body_items full ++ (Done ∷ []))) long
    ∙ ap (λ r. Size limits.bits count ∷ Temps image.temps ∷ r) (ap (λ r. r ++ (Done ∷ [])) (more_codes image.places image.costs image.marks image.words (fill k)) ∙ append_assoc (body_items image) (code_items (length image.words) (fill k)) (Done ∷ [])) in (
      map (line_in limits) rest,
      full,
      sym (map-append (line_in limits) (front_items limits (Open count image)) rest) ∙ ap (map (line_in limits)) (sym items) ∙ sym (end_last limits full f.bits) ∙ sym (lines_are limits full n fits),
      fits,
    )

sized_begins : (limits : Limits) (count : ℕ) → Narrow limits → count ≤ limits.words → Begin limits (map (line_in limits) (front_items limits (Sized count)))
sized_begins limits count n h =
    begin_less limits (line_in limits (Size limits.bits count) ∷ []) (line_in limits (Temps 0) ∷ [])
    (open_begins limits count (opened limits 0) n (h, omega arith, record { bits = refl; few = omega arith; temps = omega arith; places = tt; costs = tt; marks = tt; in_order = tt; words = tt }))

front_begins : (limits : Limits) (front : Front) → Narrow limits → FrontFits limits front → Begin limits (map (line_in limits) (front_items limits front))
front_begins limits Nothing n h = begin_less limits [] (line_in limits (Size limits.bits 0) ∷ []) (sized_begins limits 0 n (omega arith))
front_begins limits (Sized count) n h = sized_begins limits count n h
front_begins limits (Open count image) n h = open_begins limits count image n h
front_begins limits (Whole image) n f = ([], image, append-nil (map (line_in limits) (front_items limits (Whole image))) ∙ sym (end_last limits image f.bits) ∙ sym (lines_are limits image n f), f)

-- ---- what reading answers

read_begins : (limits : Limits) (lines : List (List ℕ)) (front : Front) → Narrow limits → reads limits Nothing lines ≡ Some front → Begin limits lines
read_begins limits lines front n e =
    let s = spells limits Nothing lines front n tt e in
    subst (Begin limits) s.spelled (front_begins limits front n s.fits)

stuck : (limits : Limits) (before : List (List ℕ)) (front : Front) (line : List ℕ) (more : List (List ℕ)) → reads limits Nothing before ≡ Some front → step_line limits front line ≡ None → reads limits Nothing (before ++ (line ∷ more)) ≡ None
unfolding reads
stuck limits before front line more e s = reads-append limits Nothing before (line ∷ more) ∙ rw (e, s) refl

no_text : (limits : Limits) (before : List (List ℕ)) (front : Front) (line : List ℕ) (more : List (List ℕ)) (image : Image) → Narrow limits → reads limits Nothing before ≡ Some front → step_line limits front line ≡ None → IsFitting limits image → (before ++ (line ∷ more)) ≡ lines_of (image_text image) → ⊥
no_text limits before front line more image n e s f same =
    let a = stuck limits before front line more e s in
    let b = image_read limits image n f in
    let d : None ≡ Some (Whole image) = sym a ∙ ap (reads limits Nothing) (same ∙ lines_are limits image n f) ∙ b in
    cc

stop_is_fault : (limits : Limits) (bytes : List ℕ) (at : ℕ) → Narrow limits → StopsAt limits bytes at → IsLineFault limits bytes at
stop_is_fault limits bytes at n s = record {
  front = s.before;
  rest = s.line ∷ s.after;
  lines = s.lines;
  place = s.place;
  begins = read_begins limits s.before s.front n s.read;
  next = λ (line : List ℕ) (e : slice_get (s.line ∷ s.after) 0 ≡ Some line) (b : Begin limits (s.before ++ (line ∷ []))).
      let same : s.line ≡ line = same_Some s.line line e in
      no_text limits s.before s.front s.line b.0 b.1 n s.read s.stops b.3 (sym (append_assoc s.before (s.line ∷ []) b.0) ∙ ap (λ l. (s.before ++ (l ∷ [])) ++ b.0) same ∙ b.2);
  whole = λ (image : Image) (t : IsImageText limits bytes image). no_text limits s.before s.front s.line s.after image n s.read s.stops t.fits (sym s.lines ∙ ap lines_of t.text);
}

pub text_is_read : (limits : Limits) (bytes : List ℕ) (image : Image) → Narrow limits → IsImageText limits bytes image → reads limits Nothing (lines_of bytes) ≡ Some (Whole image)
text_is_read limits bytes image n t = ap (reads limits Nothing) (ap lines_of t.text ∙ lines_are limits image n t.fits) ∙ image_read limits image n t.fits

end_is_fault : (limits : Limits) (bytes : List ℕ) (front : Front) → Narrow limits → IsRead limits bytes front → ((image : Image) → front ≡ Whole image → ⊥) → IsLineFault limits bytes (length bytes)
end_is_fault limits bytes front n r other = record {
  front = lines_of bytes;
  rest = [];
  lines = sym (append-nil (lines_of bytes));
  place = ap length (joined-lines bytes);
  begins = read_begins limits (lines_of bytes) front n r.all;
  next = λ (line : List ℕ) (e : slice_get [] 0 ≡ Some line) (b : Begin limits (lines_of bytes ++ (line ∷ []))). cc;
  whole = λ (image : Image) (t : IsImageText limits bytes image). other image (same_Some front (Whole image) (sym r.all ∙ text_is_read limits bytes image n t));
}

whole_is_text : (limits : Limits) (bytes : List ℕ) (image : Image) → Narrow limits → IsRead limits bytes (Whole image) → IsImageText limits bytes image
whole_is_text limits bytes image n r =
    let s = spells limits Nothing (lines_of bytes) (Whole image) n tt r.all in
    let f : IsFitting limits image = s.fits in
    let lines : lines_of bytes ≡ image_lines image = sym s.spelled ∙ sym (end_last limits image f.bits) in
    record { text = sym (joined-lines bytes) ∙ ap concat lines ∙ whole_text image; fits = f }

pub one_image : (limits : Limits) (bytes : List ℕ) (found image : Image) → Narrow limits → IsRead limits bytes (Whole found) → IsImageText limits bytes image → found ≡ image
one_image limits bytes found image n r t =
    let e : Whole found ≡ Whole image = same_Some (Whole found) (Whole image) (sym r.all ∙ text_is_read limits bytes image n t) in
    cc

-- ---- the answers

abbrev Only : Limits → List ℕ → Result Image ParseFault → Type 0
Only limits bytes result = (image : Image) → IsImageText limits bytes image → MatchResult result (λ found. found ≡ image) (λ fault. fault ≡ Memory)

pub record Answers (limits : Limits) (bytes : List ℕ) (result : Result Image ParseFault) : Type 0 where
  pub found : IfOk result (IsImageText limits bytes)
  pub only : Only limits bytes result
  pub refused : IfErr result (IsImageRefusal limits bytes)

pub answer_whole : (limits : Limits) (bytes : List ℕ) (front : Front) (result : Result Image ParseFault) → Narrow limits → IsRead limits bytes front → IsWholeOf front (length bytes) result → Answers limits bytes result
answer_whole limits bytes front (Ok image) n r e =
    let read : IsRead limits bytes (Whole image) = subst (IsRead limits bytes) e r in
    record { found = whole_is_text limits bytes image n read; only = λ (other : Image) (t : IsImageText limits bytes other). one_image limits bytes image other n read t; refused = tt }
answer_whole limits bytes front (Err fault) n r e =
    let f : IsLineFault limits bytes (length bytes) = end_is_fault limits bytes front n r e.1 in
    record { found = tt; only = λ (image : Image) (t : IsImageText limits bytes image). absurd (f.whole image t); refused = subst (IsImageRefusal limits bytes) (sym e.0) f }

pub answer_stopped : (limits : Limits) (bytes : List ℕ) (fault : ParseFault) → Narrow limits → Stops limits bytes fault → Answers limits bytes (Err fault)
answer_stopped limits bytes (Text at) n s =
    let f : IsLineFault limits bytes at = stop_is_fault limits bytes at n s in
    record { found = tt; only = λ (image : Image) (t : IsImageText limits bytes image). absurd (f.whole image t); refused = f }
answer_stopped limits bytes Memory n s = record { found = tt; only = λ (image : Image) (t : IsImageText limits bytes image). refl; refused = tt }
