-- Lists of sets in a book that grows.
use Rattle.std.proofs.Common.{◌≡◌, ℕ, ◌+◌, ◌<◌, ◌≤◌, List, [], ◌∷◌, ◌++◌, take, drop, replicate, length, get_or, refl, ap, ◌∙◌, arith, zero, suc}
use Rattle.std.proofs.lemmas.List.{map-append, map_more, length-map, length-take-le}
use Rattle.bit_bdd.specs.Diagrams.{Diagrams, has_word, Extends}
use Rattle.bit_bdd.proofs.CallerLemmas.{same_words}
use Rattle.ctl_bdd.specs.Bits.{AreSets, bools, bits_value, number_at}

pub sets_later : (old new : Diagrams) → Extends old new → (sets : List ℕ) → AreSets old sets → AreSets new sets
sets_later old new e [] h = tt
sets_later old new e (set ∷ sets) h = (omega (arith, h.0, e.longer), sets_later old new e sets h.1)

pub bools_later : (old new : Diagrams) → Extends old new → (sets : List ℕ) → AreSets old sets → (word : ℕ) → bools new sets word ≡ bools old sets word
bools_later old new e [] h word = refl
bools_later old new e (set ∷ sets) h word =
    let p : has_word new set word ≡ has_word old set word = same_words old new e set h.0 word in
    let q : bools new sets word ≡ bools old sets word = bools_later old new e sets h.1 word in
    (λ j. p j ∷ q j)

pub number_later : (old new : Diagrams) → Extends old new → (sets : List ℕ) → AreSets old sets → (word : ℕ) → number_at new sets word ≡ number_at old sets word
number_later old new e sets h word = ap bits_value (bools_later old new e sets h word)

pub set_in : (book : Diagrams) (sets : List ℕ) (i : ℕ) → i < length sets → AreSets book sets → get_or sets i 0 < length book.nodes
set_in book [] i lt h = absurd (omega (arith, lt))
set_in book (x ∷ sets) zero lt h = h.0
set_in book (x ∷ sets) (suc i) lt h = set_in book sets i (omega (arith, lt)) h.1

pub sets_append : (book : Diagrams) (xs ys : List ℕ) → AreSets book xs → AreSets book ys → AreSets book (xs ++ ys)
sets_append book [] ys h k = k
sets_append book (x ∷ xs) ys h k = (h.0, sets_append book xs ys h.1 k)

pub sets_push : (book : Diagrams) (sets : List ℕ) (set : ℕ) → AreSets book sets → set < length book.nodes → AreSets book (sets ++ set ∷ [])
sets_push book sets set h k = sets_append book sets (set ∷ []) h (k, tt)

pub sets_take : (book : Diagrams) (n : ℕ) (sets : List ℕ) → AreSets book sets → AreSets book (take n sets)
sets_take book zero sets h = tt
sets_take book (suc n) [] h = tt
sets_take book (suc n) (set ∷ sets) h = (h.0, sets_take book n sets h.1)

pub sets_drop : (book : Diagrams) (n : ℕ) (sets : List ℕ) → AreSets book sets → AreSets book (drop n sets)
sets_drop book zero sets h = h
sets_drop book (suc n) [] h = tt
sets_drop book (suc n) (set ∷ sets) h = sets_drop book n sets h.1

pub sets_replicate : (book : Diagrams) (n set : ℕ) → set < length book.nodes → AreSets book (replicate n set)
sets_replicate book zero set h = tt
sets_replicate book (suc n) set h = (h, sets_replicate book n set h)

-- one bit more
pub bools_push : (book : Diagrams) (sets : List ℕ) (set word : ℕ) → bools book (sets ++ set ∷ []) word ≡ bools book sets word ++ has_word book set word ∷ []
bools_push book sets set word = map-append (λ s. has_word book s word) sets (set ∷ [])

pub bools_more : (book : Diagrams) (sets : List ℕ) (i word : ℕ) → i < length sets → bools book (take (i + 1) sets) word ≡ bools book (take i sets) word ++ has_word book (get_or sets i 0) word ∷ []
bools_more book sets i word h = map_more (λ s. has_word book s word) sets i 0 h

pub bools_long : (book : Diagrams) (sets : List ℕ) (word : ℕ) → length (bools book sets word) ≡ length sets
bools_long book sets word = length-map sets (λ s. has_word book s word)

pub bools_taken : (book : Diagrams) (sets : List ℕ) (i word : ℕ) → i ≤ length sets → length (bools book (take i sets) word) ≡ i
bools_taken book sets i word h = bools_long book (take i sets) word ∙ length-take-le i sets h
