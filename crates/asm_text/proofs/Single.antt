-- One item: what is read of its text, and that it is read again.
use Rattle.std.proofs.Common.{◌≡◌, ◌==◌, ℕ, ◌+◌, ◌-◌, ◌<◌, ◌≤◌, ◌^◌, List, [], ◌∷◌, ◌++◌, false, Some, refl, sym, ap, subst, ◌∙◌, arith}
use Rattle.std.proofs.Math.Pow.{pow_mono}
use Rattle.std.proofs.lemmas.Bool.{ltb-true, lt-ltb}
use Rattle.std.proofs.lemmas.List.{append-nil}
use Rattle.std.proofs.lemmas.Option.{cond_some, same_Some}
use Rattle.std.specs.Fmt.{decimal}
use Rattle.std.specs.Prelude.{nat_lt}
use Rattle.lexing.specs.Bytes.{is_digit}
use Rattle.text_lines.specs.Fields.{parts_at, number_of}
use Rattle.text_lines.proofs.Numbers.{avoids-decimal, number_again, number_is}
use Rattle.text_lines.proofs.Parts.{parts_again, parts_are}
use Rattle.text_lines.proofs.Steps.{bind_again, bind_ok}
use Rattle.asm_text.specs.declared.line.Item.{Item}
use Rattle.asm_text.specs.Lines.{ItemFits, Lacks, item_text}
use Rattle.asm_text.specs.Inner.Reading.{SaysItem, below_256, byte_of, numbers_in}
use Rattle.asm_text.proofs.Words.{lacks-append, lacks_decimal}

below_is : (m n : ℕ) → below_256 m ≡ Some n → (m ≡ n) × (n < 256)
below_is m n e =
    let p = cond_some (nat_lt m 256) m n e in
    (p.1, omega (arith, ltb-true m 256 p.0, p.1))

byte_is : (text : List ℕ) (n : ℕ) → byte_of text ≡ Some n → (text ≡ decimal n) × (n < 256)
unfolding byte_of
byte_is text n e =
    let b = bind_ok (number_of text) below_256 n e in
    let p = below_is b.value n b.then in
    let q = number_is text b.value b.first in
    (rw p.0 at q.0, p.1)

byte_again : (n : ℕ) → n < 256 → byte_of (decimal n) ≡ Some n
unfolding byte_of
byte_again n h =
    bind_again (number_of (decimal n)) below_256 n (Some n) (number_again n (omega arith)) (rw (lt-ltb n 256 h) refl)

pub numbers_is : (text : List ℕ) (item : Item) → numbers_in text ≡ Some item → text ≡ item_text item
unfolding numbers_in
numbers_is text item e =
    let first = bind_ok (parts_at 58 text) _ item e in
    let second = bind_ok (parts_at 61 first.value.1) _ item first.then in
    let hi = bind_ok (byte_of first.value.0) _ item second.then in
    let lo = bind_ok (byte_of second.value.0) _ item hi.then in
    let value = bind_ok (number_of second.value.1) _ item lo.then in
    let last : second.value.1 ≡ decimal value.value ++ [] = (number_is second.value.1 value.value value.first).0 ∙ sym (append-nil (decimal value.value)) in
    let middle : first.value.1 ≡ decimal lo.value ++ (61 ∷ (decimal value.value ++ [])) =
    parts_are 61 first.value.1 second.value.0 second.value.1 second.first
    ∙ ap (λ x. x ++ (61 ∷ second.value.1)) (byte_is second.value.0 lo.value lo.first).0
    ∙ ap (λ r. decimal lo.value ++ (61 ∷ r)) last in
    let whole : text ≡ decimal hi.value ++ (58 ∷ (decimal lo.value ++ (61 ∷ (decimal value.value ++ [])))) =
    parts_are 58 text first.value.0 first.value.1 first.first
    ∙ ap (λ x. x ++ (58 ∷ first.value.1)) (byte_is first.value.0 hi.value hi.first).0
    ∙ ap (λ r. decimal hi.value ++ (58 ∷ r)) middle in
    subst (λ (i : Item). text ≡ item_text i) (same_Some (record { hi = hi.value; lo = lo.value; value = value.value }) item value.then) whole

pub numbers_again : (item : Item) → item.hi < 256 → item.lo < 256 → item.value < 2 ^ 64 → numbers_in (item_text item) ≡ Some item
unfolding numbers_in
numbers_again item h l v =
    let last = decimal item.value ++ [] in
    let rest = decimal item.lo ++ (61 ∷ last) in
    bind_again (parts_at 58 (item_text item)) _ (decimal item.hi, rest) (Some item) (parts_again 58 (decimal item.hi) rest (avoids-decimal 58 item.hi refl (omega arith)))
    (bind_again (parts_at 61 rest) _ (decimal item.lo, last) (Some item) (parts_again 61 (decimal item.lo) last (avoids-decimal 61 item.lo refl (omega arith)))
    (bind_again (byte_of (decimal item.hi)) _ item.hi (Some item) (byte_again item.hi h)
    (bind_again (byte_of (decimal item.lo)) _ item.lo (Some item) (byte_again item.lo l)
    (bind_again (number_of last) _ item.value (Some item) (ap number_of (append-nil (decimal item.value)) ∙ number_again item.value v) refl))))

pub item_lacks : (mark : ℕ) (item : Item) → is_digit mark ≡ false → (58 == mark) ≡ false → (61 == mark) ≡ false → item.hi < 2 ^ 64 → item.lo < 2 ^ 64 → item.value < 2 ^ 64 → Lacks mark (item_text item)
item_lacks mark item out h k a b c =
    lacks-append mark (decimal item.hi) _ (lacks_decimal mark item.hi out a) (
      h,
      lacks-append mark (decimal item.lo) _ (lacks_decimal mark item.lo out b)
          (k, lacks-append mark (decimal item.value) [] (lacks_decimal mark item.value out c) tt),
    )

-- an item that fits has a value of a word
pub value_small : (bits : ℕ) (item : Item) → bits ≤ 64 → ItemFits bits item → item.value < 2 ^ 64
value_small bits item most f =
    let few : item.hi + 1 - item.lo ≤ 64 = omega (arith, f.within, most) in
    let mono : 2 ^ (item.hi + 1 - item.lo) ≤ 2 ^ 64 = pow_mono few in
    omega (arith, f.value, mono)

pub says_again : (bits : ℕ) (text : List ℕ) (item : Item) → bits ≤ 64 → SaysItem bits text item → numbers_in text ≡ Some item
says_again bits text item most s =
    ap numbers_in s.is
    ∙ numbers_again item (omega (arith, s.fits.within, most)) (omega (arith, s.fits.within, s.fits.order, most)) (value_small bits item most s.fits)

pub unbroken_item : (bits : ℕ) (item : Item) → bits ≤ 64 → ItemFits bits item → Lacks 32 (item_text item)
unbroken_item bits item most f =
    item_lacks 32 item refl refl refl (omega (arith, f.within, most)) (omega (arith, f.within, f.order, most)) (value_small bits item most f)

pub endless_item : (bits : ℕ) (item : Item) → bits ≤ 64 → ItemFits bits item → Lacks 10 (item_text item)
endless_item bits item most f =
    item_lacks 10 item refl refl refl (omega (arith, f.within, most)) (omega (arith, f.within, f.order, most)) (value_small bits item most f)
