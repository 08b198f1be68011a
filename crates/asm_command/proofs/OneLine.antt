-- Bytes say one line at most, a text one list of lines, and its fault is at one place.
use Rattle.std.proofs.Common.{◌≡◌, inl, inr, ℕ, ◌<◌, ◌≤◌, ◌^◌, List, [], ◌∷◌, ◌++◌, length, get_or, drop, codes, refl, sym, ap, subst, ◌∙◌, append_assoc, length-append, arith}
use Rattle.std.specs.List.{All, concat, flat_map}
use Rattle.std.proofs.lemmas.Bool.{cases_lt}
use Rattle.std.proofs.lemmas.List.{append-nil}
use Rattle.std.proofs.lemmas.List.Elements.{All-head, All-tail}
use Rattle.std.proofs.lemmas.Option.{same_Some}
use Rattle.text_lines.specs.Digits.{bytes_of, hex_of}
use Rattle.image_items.specs.Reading.{word_in}
use Rattle.image_items.proofs.Digits.{word_in_again}
use Rattle.text_lines.specs.Lines.{lines_of}
use Rattle.run_command.proofs.ImageLaws.{cut}
use Rattle.asm_text.specs.declared.line.Item.{Item}
use Rattle.asm_text.specs.declared.line.Line.{Line}
use Rattle.asm_text.specs.declared.line.Line.TheVariants.{Raw, Do}
use Rattle.asm_text.specs.Lines.{AreTransferTexts, ItemFits, LineFits, SaysLine, after_and, after_space, item_text, items_text, text_of, transfers_text}
use Rattle.asm_text.specs.Texts.{IsAsmFault, IsAsmText, IsForm, SayLines}
use Rattle.asm_text.specs.Inner.Reading.{Breaks}
use Rattle.asm_text.proofs.ItemLists.{breaks_items, tail_is}
use Rattle.asm_text.proofs.Single.{says_again, unbroken_item}
use Rattle.asm_text.proofs.Split.{same_number, transfer_at, transfer_split}
use Rattle.asm_text.proofs.TransferLists.{Within}
use Rattle.asm_text.proofs.Whole.{body, few_bytes, keep_apart, line_again, raw_apart, within_bytes}
use Rattle.asm_text.proofs.Words.{word_split}

-- what holds of each element holds of one in the middle
pub in_middle : {A : Type 0} (P : A → Type 0) (front : List A) (x : A) (back : List A) → All P (front ++ (x ∷ back)) → P x
in_middle P [] x back h = All-head P x back h
in_middle P (f ∷ front) x back h = in_middle P front x back (All-tail P f (front ++ (x ∷ back)) h)

-- ---- items

module _ (bits : ℕ) (most : bits ≤ 64) where
  item_one : (i j : Item) → ItemFits bits i → ItemFits bits j → item_text i ≡ item_text j → i ≡ j
  item_one i j f g e =
      same_Some i j (sym (says_again bits (item_text i) i most (record { is = refl; fits = f })) ∙ says_again bits (item_text i) j most (record { is = e; fits = g }))

  items_one : (is js : List Item) → All (ItemFits bits) is → All (ItemFits bits) js → flat_map after_space is ≡ flat_map after_space js → is ≡ js
  items_one [] [] f g e = refl
  items_one [] (j ∷ js) f g e = absurd cc
  items_one (i ∷ is) [] f g e = absurd cc
  items_one (i ∷ is) (j ∷ js) f g e =
      let tail : item_text i ++ flat_map after_space is ≡ item_text j ++ flat_map after_space js = ap (drop 1) e in
      let fi = All-head (ItemFits bits) i is f in
      let gj = All-head (ItemFits bits) j js g in
      let s = word_split (item_text i) (item_text j) (flat_map after_space is) (flat_map after_space js) (unbroken_item bits i most fi) (unbroken_item bits j most gj) (breaks_items is) (breaks_items js) tail in
      let first = item_one i j fi gj s.0 in
      let rest = items_one is js (All-tail (ItemFits bits) i is f) (All-tail (ItemFits bits) j js g) s.1 in
      (λ k. first k ∷ rest k)

  tails_one : (is js : List Item) → All (ItemFits bits) is → All (ItemFits bits) js → items_text is ≡ items_text js → is ≡ js
  tails_one [] [] f g e = refl
  tails_one [] (j ∷ js) f g e = absurd cc
  tails_one (i ∷ is) [] f g e = absurd cc
  tails_one (i ∷ is) (j ∷ js) f g e = items_one (i ∷ is) (j ∷ js) f g (ap (drop 5) e)

-- ---- transfers

-- items aren't a transfer behind ` & `
no_more : (is : List Item) (rest : List ℕ) → items_text is ≡ 32 ∷ (38 ∷ rest) → ⊥
no_more [] rest e = absurd cc
no_more (i ∷ is) rest e = (let q : ◌≡◌ {A = ℕ} 119 38 = ap (λ (x : List ℕ). get_or x 1 0) e in omega arith)

module _ (texts : List (List ℕ)) (are : AreTransferTexts texts) where
  more_breaks : (ps : List ℕ) (is : List Item) → Breaks (flat_map (after_and texts) ps ++ items_text is)
  more_breaks [] [] = tt
  more_breaks [] (i ∷ is) = refl
  more_breaks (p ∷ ps) is = refl

  record SameFront (ps qs : List ℕ) (is js : List Item) : Type 0 where
    transfers : ps ≡ qs
    items : items_text is ≡ items_text js

  within_head : (p : ℕ) (ps : List ℕ) → Within texts (p ∷ ps) → p < length texts
  within_head p ps w = All-head (λ (p : ℕ). p < length texts) p ps w

  within_tail : (p : ℕ) (ps : List ℕ) → Within texts (p ∷ ps) → Within texts ps
  within_tail p ps w = All-tail (λ (p : ℕ). p < length texts) p ps w

  -- a transfer in front is one, and what follows it is
  head_one : (p q : ℕ) (ps qs : List ℕ) (is js : List Item) → p < length texts → q < length texts
      → (text_of texts p ++ flat_map (after_and texts) ps) ++ items_text is ≡ (text_of texts q ++ flat_map (after_and texts) qs) ++ items_text js
      → (p ≡ q) × (flat_map (after_and texts) ps ++ items_text is ≡ flat_map (after_and texts) qs ++ items_text js)
  head_one p q ps qs is js a b e =
      let u = flat_map (after_and texts) ps ++ items_text is in
      let v = flat_map (after_and texts) qs ++ items_text js in
      let whole : text_of texts p ++ u ≡ text_of texts q ++ v = sym (append_assoc (text_of texts p) (flat_map (after_and texts) ps) (items_text is)) ∙ e ∙ append_assoc (text_of texts q) (flat_map (after_and texts) qs) (items_text js) in
      let s = transfer_split (text_of texts p) (text_of texts q) u v (transfer_at texts are p a) (transfer_at texts are q b) (more_breaks ps is) (more_breaks qs js) whole in
      (same_number texts are.once p q a b s.0, s.1)

  more_one : (ps qs : List ℕ) (is js : List Item) → Within texts ps → Within texts qs → flat_map (after_and texts) ps ++ items_text is ≡ flat_map (after_and texts) qs ++ items_text js → SameFront ps qs is js
  more_one [] [] is js w v e = record { transfers = refl; items = e }
  more_one [] (q ∷ qs) is js w v e = absurd (no_more is _ e)
  more_one (p ∷ ps) [] is js w v e = absurd (no_more js _ (sym e))
  more_one (p ∷ ps) (q ∷ qs) is js w v e =
      let s = head_one p q ps qs is js (within_head p ps w) (within_head q qs v) (ap (drop 3) e) in
      let r = more_one ps qs is js (within_tail p ps w) (within_tail q qs v) s.1 in
      record { transfers = λ k. s.0 k ∷ r.transfers k; items = r.items }

  no_keep : (p : ℕ) (ps : List ℕ) (is js : List Item) → Within texts (p ∷ ps) → transfers_text texts (p ∷ ps) ++ items_text is ≡ codes "keep" ++ items_text js → ⊥
  no_keep p ps is js w e =
      keep_apart texts are (transfers_text texts (p ∷ ps) ++ items_text is) p ps (items_text is) (items_text js) (record { within = w; is = refl }) e (tail_is js)

  front_one : (ps qs : List ℕ) (is js : List Item) → Within texts ps → Within texts qs → transfers_text texts ps ++ items_text is ≡ transfers_text texts qs ++ items_text js → SameFront ps qs is js
  front_one [] [] is js w v e = record { transfers = refl; items = ap (drop 4) e }
  front_one [] (q ∷ qs) is js w v e = absurd (no_keep q qs js is v (sym e))
  front_one (p ∷ ps) [] is js w v e = absurd (no_keep p ps is js w e)
  front_one (p ∷ ps) (q ∷ qs) is js w v e =
      let s = head_one p q ps qs is js (within_head p ps w) (within_head q qs v) e in
      let r = more_one ps qs is js (within_tail p ps w) (within_tail q qs v) s.1 in
      record { transfers = λ k. s.0 k ∷ r.transfers k; items = r.items }

-- ---- lines

module _ (texts : List (List ℕ)) (are : AreTransferTexts texts) (bits : ℕ) (most : bits ≤ 64) where
  word_one : (w v : ℕ) → w < 2 ^ bits → v < 2 ^ bits → hex_of (bytes_of bits) w ≡ hex_of (bytes_of bits) v → w ≡ v
  word_one w v a b e =
      same_Some w v
      (sym (word_in_again (bytes_of bits) w (few_bytes bits most) (within_bytes bits w a)) ∙ ap (word_in (bytes_of bits)) e
      ∙ word_in_again (bytes_of bits) v (few_bytes bits most) (within_bytes bits v b))

  body_one : (l m : Line) → LineFits texts bits l → LineFits texts bits m → body texts bits l ≡ body texts bits m → l ≡ m
  body_one (Raw w) (Raw v) f g e = ap Raw (word_one w v f g (ap (drop 4) e))
  body_one (Raw w) (Do qs js) f g e = absurd (raw_apart texts are bits w qs js g.0 e)
  body_one (Do ps is) (Raw v) f g e = absurd (raw_apart texts are bits v ps is f.0 (sym e))
  body_one (Do ps is) (Do qs js) f g e =
      let s = front_one texts are ps qs is js f.0 g.0 e in
      let items = tails_one bits most is js f.2 g.2 s.items in
      (λ k. Do (s.transfers k) (items k))

  line_one : (bytes : List ℕ) (l m : Line) → SaysLine texts bits bytes l → SaysLine texts bits bytes m → l ≡ m
  line_one bytes l m p q =
      body_one l m p.fits q.fits
      (same_Some (body texts bits l) (body texts bits m) (sym (line_again texts bits bytes l are most p) ∙ line_again texts bits bytes m are most q))

  lines_one : (all : List (List ℕ)) (ls ms : List Line) → SayLines texts bits all ls → SayLines texts bits all ms → ls ≡ ms
  lines_one [] [] [] p q = refl
  lines_one [] [] (m ∷ ms) p q = absurd q
  lines_one [] (l ∷ ls) ms p q = absurd p
  lines_one (b ∷ bs) [] ms p q = absurd p
  lines_one (b ∷ bs) (l ∷ ls) [] p q = absurd q
  lines_one (b ∷ bs) (l ∷ ls) (m ∷ ms) p q =
      let first = line_one b l m p.0 q.0 in
      let rest = lines_one bs ls ms p.1 q.1 in
      (λ k. first k ∷ rest k)

  pub text_one : (size : ℕ) (text : List ℕ) (ls ms : List Line) → IsAsmText texts bits size text ls → IsAsmText texts bits size text ms → ls ≡ ms
  text_one size text ls ms p q = lines_one (lines_of text) ls ms p.says q.says

-- ---- faults

module _ (texts : List (List ℕ)) (bits size : ℕ) (text : List ℕ) where
  -- a line among others that say lines says one, and stands before their end
  says_at : (front : List (List ℕ)) (line : List ℕ) (back : List (List ℕ)) (ls : List Line) → SayLines texts bits (front ++ (line ∷ back)) ls → (length front < length ls) × IsForm texts bits line
  says_at [] line back [] s = absurd s
  says_at [] line back (l ∷ ls) s = (omega arith, record { line = l; says = s.0 })
  says_at (f ∷ front) line back [] s = absurd s
  says_at (f ∷ front) line back (l ∷ ls) s =
      let r = says_at front line back ls s.1 in
      let lt = r.0 in
      (omega arith, r.1)

  pub no_fault : (ls : List Line) (at : ℕ) → IsAsmText texts bits size text ls → IsAsmFault texts bits size text at → ⊥
  no_fault ls at p q =
      let r = says_at q.before q.line q.after ls (subst (λ (all : List (List ℕ)). SayLines texts bits all ls) q.lines p.says) in
      q.fault (let lt = r.0 in let few = p.few in omega arith) r.1

  -- a fault isn't behind another one
  not_behind : (a b : ℕ) (p : IsAsmFault texts bits size text a) (q : IsAsmFault texts bits size text b) → length p.before < length q.before → ⊥
  not_behind a b p q lt =
      let m = cut p.before (p.line ∷ p.after) q.before (q.line ∷ q.after) (sym p.lines ∙ q.lines) (omega arith) in
      go m.0 m.1 m.2
    where
      go : (m : List (List ℕ)) → q.before ≡ p.before ++ m → p.line ∷ p.after ≡ m ++ (q.line ∷ q.after) → ⊥
      go [] same rest = omega (arith, lt, ap length (same ∙ append-nil p.before))
      go (line ∷ m) same rest =
          let e : line ≡ p.line = cc in
          let formed = in_middle (IsForm texts bits) p.before line m (subst (All (IsForm texts bits)) same q.formed) in
          p.fault (let w = q.within in omega arith) (subst (IsForm texts bits) e formed)

  same_front : (a b : ℕ) (p : IsAsmFault texts bits size text a) (q : IsAsmFault texts bits size text b) → length p.before ≡ length q.before → a ≡ b
  same_front a b p q same =
      let m = cut p.before (p.line ∷ p.after) q.before (q.line ∷ q.after) (sym p.lines ∙ q.lines) (omega arith) in
      sym p.place ∙ (ap (λ (ls : List (List ℕ)). length (concat ls)) (fronts m.0 m.1 (omega (arith, same, ap length m.1, length-append p.before m.0))) ∙ q.place)
    where
      fronts : (m : List (List ℕ)) → q.before ≡ p.before ++ m → length m ≡ 0 → p.before ≡ q.before
      fronts [] e none = sym (e ∙ append-nil p.before)
      fronts (line ∷ m) e none = absurd (omega arith)

  pub one_fault : (a b : ℕ) → IsAsmFault texts bits size text a → IsAsmFault texts bits size text b → a ≡ b
  one_fault a b p q = elim (cases_lt (length p.before) (length q.before)) [
    | inl lt ↦ absurd (not_behind a b p q lt)
    | inr le ↦ elim (cases_lt (length q.before) (length p.before)) [
      | inl more ↦ absurd (not_behind b a q p more)
      | inr also ↦ same_front a b p q (omega arith)
    ]
  ]
