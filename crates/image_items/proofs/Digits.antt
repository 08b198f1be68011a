-- Words in hexadecimal digits.
use Rattle.std.proofs.Common.{◌≡◌, ◌==◌, ℕ, zero, suc, ◌-◌, ◌*◌, ◌/◌, ◌%◌, ◌^◌, ◌<◌, ◌≤◌, List, [], ◌∷◌, ◌++◌, length, take, drop, get_or, false, cond, Some, None, Result, Ok, Err, refl, sym, ap, ◌∙◌, length-append, arith}
use Rattle.std.proofs.lemmas.List.{length-drop, length-take, take-append-drop}
use Rattle.std.proofs.lemmas.Option.{cond_some}
use Rattle.std.proofs.lemmas.Nat.{be_bytes_8, from_be_bytes-to_be_bytes_8}
use Rattle.std.proofs.lemmas.Slice.Eq.{bytes_eq-Decides}
use Rattle.std.proofs.Math.Seq.{drop-append_seam}
use Rattle.std.proofs.Math.Nat.{pow-le-pow_right}
use Rattle.std.specs.Str.{bytes_eq}
use Rattle.std.specs.Int.{w64, to_be_bytes, from_be_bytes}
use Rattle.hex.specs.Hex.{encode_lower, encode_with, decode_sized, lower_digits, IsBytes}
use Rattle.hex.specs.declared.error.FromHexError.{FromHexError}
use Rattle.hex.proofs.HexLemmas.{decode_sized-encode_lower, decode_sized-ok, decode_sized-twice, decode_of-ok}
use Rattle.text_lines.specs.Digits.{hex_of}
use Rattle.text_lines.proofs.Parts.{Avoids}
use Rattle.image_items.specs.Reading.{of_digits, word_in}

abbrev zeros : List ℕ
zeros = 0 ∷ 0 ∷ 0 ∷ 0 ∷ 0 ∷ 0 ∷ 0 ∷ 0 ∷ []

digit_other : (mark : ℕ) (digits : List ℕ) (k : ℕ) → Avoids mark digits → (0 == mark) ≡ false → (get_or digits k 0 == mark) ≡ false
digit_other mark [] k h z = z
digit_other mark (d ∷ ds) zero h z = h.0
digit_other mark (d ∷ ds) (suc k) h z = digit_other mark ds k h.1 z

encoded_avoids : (mark : ℕ) (digits bytes : List ℕ) → Avoids mark digits → (0 == mark) ≡ false → Avoids mark (encode_with digits bytes)
unfolding encode_with
encoded_avoids mark digits [] h z = tt
encoded_avoids mark digits (b ∷ bs) h z = (digit_other mark digits (b / 16) h z, (digit_other mark digits (b % 16) h z, encoded_avoids mark digits bs h z))

pub hex_avoids_mark : (mark bytes word : ℕ) → Avoids mark lower_digits → (0 == mark) ≡ false → Avoids mark (hex_of bytes word)
hex_avoids_mark mark bytes word h z = encoded_avoids mark lower_digits (drop (8 - bytes) (to_be_bytes w64 word)) h z

pub hex_avoids : (bytes word : ℕ) → Avoids 32 (hex_of bytes word)
hex_avoids bytes word = encoded_avoids 32 lower_digits (drop (8 - bytes) (to_be_bytes w64 word)) (refl, (refl, (refl, (refl, (refl, (refl, (refl, (refl, (refl, (refl, (refl, (refl, (refl, (refl, (refl, (refl, tt)))))))))))))))) refl

bytes_cons : (b : ℕ) (bs : List ℕ) → b < 256 → IsBytes bs → IsBytes (b ∷ bs)
bytes_cons b bs h hs zero = h
bytes_cons b bs h hs (suc i) = hs i

bytes_nil : IsBytes []
bytes_nil i = omega arith

bytes_append : (xs ys : List ℕ) → IsBytes xs → IsBytes ys → IsBytes (xs ++ ys)
bytes_append [] ys h k = k
bytes_append (x ∷ xs) ys h k = bytes_cons x (xs ++ ys) (h 0) (bytes_append xs ys (λ i. h (suc i)) k)

bytes_take : (n : ℕ) (xs : List ℕ) → IsBytes xs → IsBytes (take n xs)
bytes_take zero xs h = bytes_nil
bytes_take (suc n) [] h = bytes_nil
bytes_take (suc n) (x ∷ xs) h = bytes_cons x (take n xs) (h 0) (bytes_take n xs (λ i. h (suc i)))

bytes_drop : (n : ℕ) (xs : List ℕ) → IsBytes xs → IsBytes (drop n xs)
bytes_drop zero xs h = h
bytes_drop (suc n) [] h = bytes_nil
bytes_drop (suc n) (x ∷ xs) h = bytes_drop n xs (λ i. h (suc i))

abbrev AreSmall : List ℕ → Type 0
AreSmall [] = Unit {0}
AreSmall (b ∷ bs) = (b < 256) × AreSmall bs

small_bytes : (bs : List ℕ) → AreSmall bs → IsBytes bs
small_bytes [] h = bytes_nil
small_bytes (b ∷ bs) h = bytes_cons b bs h.0 (small_bytes bs h.1)

word_bytes : (word : ℕ) → IsBytes (to_be_bytes w64 word)
word_bytes word = small_bytes (to_be_bytes w64 word) (omega arith, (omega arith, (omega arith, (omega arith, (omega arith, (omega arith, (omega arith, (omega arith, tt))))))))

zero_bytes : IsBytes zeros
zero_bytes = small_bytes zeros (omega arith, (omega arith, (omega arith, (omega arith, (omega arith, (omega arith, (omega arith, (omega arith, tt))))))))

pub word_in_is : (bytes : ℕ) (text : List ℕ) (word : ℕ) → bytes ≤ 8 → word_in bytes text ≡ Some word → text ≡ hex_of bytes word
unfolding word_in
word_in_is bytes text word few e = step (decode_sized text bytes) refl e
  where
    step : (r : Result (List ℕ) FromHexError) → decode_sized text bytes ≡ r → of_digits bytes text r ≡ Some word → text ≡ hex_of bytes word
    step (Err x) q e = absurd cc
    step (Ok digits) q e =
        let front = take (8 - bytes) zeros in
        let p = cond_some (bytes_eq (encode_lower digits) text) (from_be_bytes w64 (front ++ digits)) word e in
        let same : encode_lower digits ≡ text = (bytes_eq-Decides (encode_lower digits) text).0 p.0 in
        let long : length text ≡ 2 * bytes = decode_sized-ok text bytes digits q in
        let of = decode_of-ok text digits (sym (decode_sized-twice text bytes long) ∙ q) in
        let digits_long : length digits ≡ bytes = omega (arith, long, of.2) in
        let front_long : length front ≡ 8 - bytes = length-take (8 - bytes) zeros ∙ omega arith in
        let whole : to_be_bytes w64 word ≡ front ++ digits = be_bytes_8 (front ++ digits) word (omega (arith, length-append front digits, front_long, digits_long)) (bytes_append front digits (bytes_take (8 - bytes) zeros zero_bytes) of.3) (sym p.1) in
        let back : drop (8 - bytes) (front ++ digits) ≡ digits = ap (λ n. drop n (front ++ digits)) (sym front_long) ∙ drop-append_seam front digits in
        sym same ∙ ap encode_lower (sym back) ∙ ap (λ xs. encode_lower (drop (8 - bytes) xs)) (sym whole)

zero_cons : (x : ℕ) (xs ys : List ℕ) → x ≡ 0 → xs ≡ ys → (x ∷ xs) ≡ (0 ∷ ys)
zero_cons x xs ys e f = ap (λ y. y ∷ xs) e ∙ ap (λ r. 0 ∷ r) f

front_zero : (bytes word : ℕ) → bytes ≤ 8 → word < 256 ^ bytes → take (8 - bytes) (to_be_bytes w64 word) ≡ take (8 - bytes) zeros
front_zero zero word few h = zero_cons _ _ _ (omega arith) (zero_cons _ _ _ (omega arith) (zero_cons _ _ _ (omega arith) (zero_cons _ _ _ (omega arith) (zero_cons _ _ _ (omega arith) (zero_cons _ _ _ (omega arith) (zero_cons _ _ _ (omega arith) (zero_cons _ _ _ (omega arith) refl)))))))
front_zero (suc zero) word few h = zero_cons _ _ _ (omega arith) (zero_cons _ _ _ (omega arith) (zero_cons _ _ _ (omega arith) (zero_cons _ _ _ (omega arith) (zero_cons _ _ _ (omega arith) (zero_cons _ _ _ (omega arith) (zero_cons _ _ _ (omega arith) refl))))))
front_zero (suc (suc zero)) word few h = zero_cons _ _ _ (omega arith) (zero_cons _ _ _ (omega arith) (zero_cons _ _ _ (omega arith) (zero_cons _ _ _ (omega arith) (zero_cons _ _ _ (omega arith) (zero_cons _ _ _ (omega arith) refl)))))
front_zero (suc (suc (suc zero))) word few h = zero_cons _ _ _ (omega arith) (zero_cons _ _ _ (omega arith) (zero_cons _ _ _ (omega arith) (zero_cons _ _ _ (omega arith) (zero_cons _ _ _ (omega arith) refl))))
front_zero (suc (suc (suc (suc zero)))) word few h = zero_cons _ _ _ (omega arith) (zero_cons _ _ _ (omega arith) (zero_cons _ _ _ (omega arith) (zero_cons _ _ _ (omega arith) refl)))
front_zero (suc (suc (suc (suc (suc zero))))) word few h = zero_cons _ _ _ (omega arith) (zero_cons _ _ _ (omega arith) (zero_cons _ _ _ (omega arith) refl))
front_zero (suc (suc (suc (suc (suc (suc zero)))))) word few h = zero_cons _ _ _ (omega arith) (zero_cons _ _ _ (omega arith) refl)
front_zero (suc (suc (suc (suc (suc (suc (suc zero))))))) word few h = zero_cons _ _ _ (omega arith) refl
front_zero (suc (suc (suc (suc (suc (suc (suc (suc bytes)))))))) word few h = let e : 8 - suc (suc (suc (suc (suc (suc (suc (suc bytes))))))) ≡ 0 = omega arith in rw e refl

within : (bytes word : ℕ) → bytes ≤ 8 → word < 256 ^ bytes → word < 2 ^ 64
within bytes word few h = let p : 256 ^ bytes ≤ 256 ^ 8 = pow-le-pow_right {n = 256} (omega arith) few in omega (arith, p)

pub word_in_again : (bytes word : ℕ) → bytes ≤ 8 → word < 256 ^ bytes → word_in bytes (hex_of bytes word) ≡ Some word
unfolding word_in
word_in_again bytes word few h =
    let whole = to_be_bytes w64 word in
    let digits = drop (8 - bytes) whole in
    let long : length digits ≡ bytes = length-drop (8 - bytes) whole ∙ omega arith in
    let decoded : decode_sized (encode_lower digits) bytes ≡ Ok digits = decode_sized-encode_lower digits bytes long (bytes_drop (8 - bytes) whole (word_bytes word)) in
    let value : from_be_bytes w64 (take (8 - bytes) zeros ++ digits) ≡ word =
    ap (λ f. from_be_bytes w64 (f ++ digits)) (sym (front_zero bytes word few h)) ∙ ap (from_be_bytes w64) (take-append-drop (8 - bytes) whole) ∙ from_be_bytes-to_be_bytes_8 word (within bytes word few h) in
    ap (of_digits bytes (encode_lower digits)) decoded
    ∙ ap (λ t. cond t (Some (from_be_bytes w64 (take (8 - bytes) zeros ++ digits))) None) ((bytes_eq-Decides (encode_lower digits) (encode_lower digits)).1 refl)
    ∙ ap Some value
