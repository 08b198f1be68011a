-- Bits of words in their places.
use Rattle.std.proofs.Common.{◌≡◌, ◌↔◌, ◌==◌, ◌&&◌, ℕ, ◌+◌, ◌-◌, ◌*◌, ◌/◌, ◌^◌, ◌<◌, ◌≤◌, Bool, true, List, [], ◌∷◌, bit_and, refl, sym, ap, ◌∙◌, arith}
use Rattle.std.proofs.Math.Nat.{mod-eq_of_lt, mul-lt-mul_of_pos_right}
use Rattle.std.proofs.Math.Pow.{pow-add, pow_mono, pow_pos}
use Rattle.std.proofs.lemmas.Bool.{and_from, and_parts, eq-eqb, eqb-true}
use Rattle.std.proofs.lemmas.List.Elements.{All-head, All-tail, All-weaker}
use Rattle.std.proofs.lemmas.Nat.{and_mask, shl-shr}
use Rattle.std.proofs.lemmas.Nat.Bits.{and_high}
use Rattle.std.specs.List.{All, AllByRecursion}
use Rattle.rec_bits.specs.Operators.{slice_of}
use Rattle.net_model.specs.Fields.{bits_between}
use Rattle.nop_synth.specs.Wanted.{has_field, has_fields}
use Rattle.asm_text.specs.declared.line.Item.{Item}
use Rattle.asm_text.specs.Lines.{ItemFits}
use Rattle.asm_words.specs.Asked.{HasItem}
use Rattle.asm_words.specs.Inner.Wanted.{item_field, item_fields}

placed : (word hi lo : ℕ) → lo ≤ hi → bit_and word (bits_between hi lo) ≡ slice_of word hi lo * 2 ^ lo
placed word hi lo h =
    let z : hi + 1 - lo + lo ≡ hi + 1 = omega (arith, h) in
    ap (λ (m : ℕ). bit_and word (2 ^ m - 2 ^ lo)) (sym z) ∙ and_high word (hi + 1 - lo) lo

same_placed : (a b lo : ℕ) → a * 2 ^ lo ≡ b * 2 ^ lo → a ≡ b
same_placed a b lo e = sym (shl-shr a lo) ∙ ap (λ (n : ℕ). n / 2 ^ lo) e ∙ shl-shr b lo

item_held : (word : ℕ) (item : Item) → item.lo ≤ item.hi → HasItem word item → has_field (item_field item).mask (item_field item).value word ≡ true
item_held word item h e = eq-eqb _ _ (placed word item.hi item.lo h ∙ ap (λ (n : ℕ). n * 2 ^ item.lo) e)

item_has : (word : ℕ) (item : Item) → item.lo ≤ item.hi → has_field (item_field item).mask (item_field item).value word ≡ true → HasItem word item
item_has word item h f =
    let e : bit_and word (bits_between item.hi item.lo) ≡ item.value * 2 ^ item.lo = eqb-true (bit_and word (bits_between item.hi item.lo)) (item.value * 2 ^ item.lo) f in
    same_placed (slice_of word item.hi item.lo) item.value item.lo (sym (placed word item.hi item.lo h) ∙ e)

pub items_held : (bits word : ℕ) (items : List Item) → All (ItemFits bits) items → AllByRecursion (HasItem word) items → has_fields (item_fields items) word ≡ true
items_held bits word [] f h = refl
items_held bits word (item ∷ items) f h =
    and_from _ _ (item_held word item (All-head (ItemFits bits) item items f).order h.0) (items_held bits word items (All-tail (ItemFits bits) item items f) h.1)

pub items_have : (bits word : ℕ) (items : List Item) → All (ItemFits bits) items → has_fields (item_fields items) word ≡ true → AllByRecursion (HasItem word) items
items_have bits word [] f h = tt
items_have bits word (item ∷ items) f h =
    let p : (has_field (item_field item).mask (item_field item).value word ≡ true) × (has_fields (item_fields items) word ≡ true) = and_parts _ _ h in
    (item_has word item (All-head (ItemFits bits) item items f).order p.0, items_have bits word items (All-tail (ItemFits bits) item items f) p.1)

-- items of a narrower word are items of a wider one
pub fit_wider : (bits : ℕ) → bits ≤ 64 → (items : List Item) → All (ItemFits bits) items → All (ItemFits 64) items
fit_wider bits most items =
    All-weaker (ItemFits bits) (ItemFits 64) (λ item f. record { order = f.order; within = omega (arith, f.within, most); value = f.value }) items

-- ---- one word alone

whole : (bits word : ℕ) → word < 2 ^ bits → bit_and word (2 ^ bits - 1) ≡ word
whole bits word h = and_mask word bits ∙ mod-eq_of_lt h

own_held : (bits word own : ℕ) → word < 2 ^ bits → word ≡ own → has_fields (record { mask = 2 ^ bits - 1; value = own } ∷ []) word ≡ true
own_held bits word own h e = and_from _ _ (eq-eqb _ _ (whole bits word h ∙ e)) refl

own_has : (bits word own : ℕ) → word < 2 ^ bits → has_fields (record { mask = 2 ^ bits - 1; value = own } ∷ []) word ≡ true → word ≡ own
own_has bits word own h f =
    let p : ((bit_and word (2 ^ bits - 1) == own) ≡ true) × (true ≡ true) = and_parts _ _ f in
    sym (whole bits word h) ∙ eqb-true (bit_and word (2 ^ bits - 1)) own p.0

-- for the set that is left of all words
pub own_told : (bits word own : ℕ) → word < 2 ^ bits → (n l : Bool) → n ≡ (l && has_fields (record { mask = 2 ^ bits - 1; value = own } ∷ []) word) → l ≡ true → (n ≡ true) ↔ (word ≡ own)
own_told bits word own h n l e full = (
  λ held.
      (let p = and_parts l (has_fields (record { mask = 2 ^ bits - 1; value = own } ∷ []) word) (sym e ∙ held) in
      own_has bits word own h p.1),
  λ same. e ∙ and_from _ _ full (own_held bits word own h same),
)

-- a value in its place is below the bit past the highest
pub placed_below : (item : Item) → ItemFits 64 item → item.value * 2 ^ item.lo < 2 ^ 64
placed_below item f =
    let seam : 2 ^ (item.hi + 1 - item.lo) * 2 ^ item.lo ≡ 2 ^ (item.hi + 1 - item.lo + item.lo) = sym (pow-add 2 (item.hi + 1 - item.lo) item.lo) in
    let high : item.hi + 1 - item.lo + item.lo ≤ 64 = omega (arith, f.order, f.within) in
    let below : item.value * 2 ^ item.lo < 2 ^ (item.hi + 1 - item.lo) * 2 ^ item.lo = mul-lt-mul_of_pos_right f.value (pow_pos item.lo) in
    let most : 2 ^ (item.hi + 1 - item.lo + item.lo) ≤ 2 ^ 64 = pow_mono high in
    omega (arith, seam, below, most)
