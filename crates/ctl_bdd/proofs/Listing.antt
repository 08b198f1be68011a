-- The list of the static nets in control places with their sets.
use Rattle.std.proofs.Common.{◌≡◌, ℕ, ◌+◌, ◌<◌, ◌==◌, cond, Bool, true, false, List, [], ◌∷◌, ◌++◌, map, length, get_or, slice_index, refl, sym, ap, ◌∙◌, add-one, arith, zero, suc}
use Rattle.std.specs.Prelude.{filter}
use Rattle.std.specs.Int.{bit_at}
use Rattle.std.specs.List.{AllByRecursion}
use Rattle.std.proofs.lemmas.List.{map-append, append-nil}
use Rattle.std.proofs.lemmas.List.Elements.{filter-append}
use Rattle.rec_bits.specs.Operators.{bit_of}
use Rattle.net_model.specs.declared.hardware.Netlist.{Netlist}
use Rattle.net_model.specs.Symbolic.{no_state}
use Rattle.net_model.specs.Value.{value_of}
use Rattle.bit_bdd.specs.Diagrams.{Diagrams, Extends, has_word}
use Rattle.ctl_bdd.specs.Bits.{bools, number_at}
use Rattle.ctl_bdd.specs.Places.{is_static_control, numbers_below, static_controls}
use Rattle.ctl_bdd.specs.Tables.{AreBits, HasControls, sets_at}
use Rattle.ctl_bdd.specs.Controls.{IsNetBits}
use Rattle.ctl_bdd.proofs.Numbers.{number_bit}
use Rattle.ctl_bdd.proofs.Filling.{bits_later, table_later}
use Rattle.ctl_bdd.proofs.Placed.{all_passed}

pub controls_later : (netlist : Netlist) (old new : Diagrams) → Extends old new → (table : List (List ℕ)) → HasControls netlist old table → HasControls netlist new table
controls_later netlist old new e table h = record {
  sets = table_later old new e table h.sets;
  bits = λ n lt s. bits_later netlist old new e n (sets_at table n) (h.sets.sets n) (h.bits n lt s);
}

-- one number more
filtered_more : (f : ℕ → Bool) (i : ℕ) → filter f (numbers_below (i + 1)) ≡ filter f (numbers_below i) ++ cond (f i) (i ∷ []) []
filtered_more f i = ap (λ k. filter f (numbers_below k)) (add-one i) ∙ filter-append f (numbers_below i) (i ∷ [])

pub listed_more : {Y : Type 0} (f : ℕ → Bool) (g : ℕ → Y) (i : ℕ) → f i ≡ true → map g (filter f (numbers_below i)) ++ g i ∷ [] ≡ map g (filter f (numbers_below (i + 1)))
listed_more f g i e =
    sym (ap (map g) (filtered_more f i ∙ ap (λ b. filter f (numbers_below i) ++ cond b (i ∷ []) []) e) ∙ map-append g (filter f (numbers_below i)) (i ∷ []))

pub listed_same : {Y : Type 0} (f : ℕ → Bool) (g : ℕ → Y) (i : ℕ) → f i ≡ false → map g (filter f (numbers_below i)) ≡ map g (filter f (numbers_below (i + 1)))
listed_same f g i e =
    sym (ap (map g) (filtered_more f i ∙ ap (λ b. filter f (numbers_below i) ++ cond b (i ∷ []) []) e ∙ append-nil (filter f (numbers_below i))))

-- ---- what stands in the list

map_at : (f : ℕ → Bool) (xs : List ℕ) (k : ℕ) → k < length xs → get_or (map f xs) k false ≡ f (get_or xs k 0)
map_at f [] k lt = absurd (omega (arith, lt))
map_at f (x ∷ xs) zero lt = refl
map_at f (x ∷ xs) (suc k) lt = map_at f xs k (omega (arith, lt))

pub bit_is : (b : Bool) → b ≡ (bit_of b == 1)
bit_is true = refl
bit_is false = refl

-- each set has the words in which the number has its bit
pub set_is : (book : Diagrams) (sets : List ℕ) (word x k : ℕ) → k < length sets → number_at book sets word ≡ x → has_word book (slice_index sets k) word ≡ (bit_at x k == 1)
set_is book sets word x k lt e =
    sym (map_at (λ s. has_word book s word) sets k lt)
    ∙ bit_is (get_or (bools book sets word) k false)
    ∙ ap (λ n. n == 1) (sym (number_bit (bools book sets word) k) ∙ ap (λ n. bit_at n k) e)

module _ (netlist : Netlist) (book : Diagrams) (table : List (List ℕ)) (h : HasControls netlist book table) where
  net_bits : (n : ℕ) → n < length netlist.nets → is_static_control netlist n ≡ true → IsNetBits netlist book (n, sets_at table n)
  net_bits n lt s =
      let bits : AreBits netlist book n (sets_at table n) = h.bits n lt s in
      record {
        sets = h.sets.sets n;
        number = bits;
        bits = λ k word kt wt. set_is book (sets_at table n) word (value_of netlist no_state word n) k kt (bits.number word wt);
      }

  below : (P : ℕ → Type 0) (i : ℕ) → ((n : ℕ) → n < i → P n) → AllByRecursion P (numbers_below i)
  below P zero f = tt
  below P (suc i) f = append (numbers_below i) (below P i (λ n lt. f n (omega (arith, lt)))) (f i (omega arith))
    where
      append : (xs : List ℕ) → AllByRecursion P xs → P i → AllByRecursion P (xs ++ i ∷ [])
      append [] a p = (p, tt)
      append (x ∷ xs) a p = (a.0, append xs a.1 p)

  mapped : (ns : List ℕ) → AllByRecursion (λ n. IsNetBits netlist book (n, sets_at table n)) ns → AllByRecursion (IsNetBits netlist book) (map (λ (n : ℕ). (n, sets_at table n)) ns)
  mapped [] a = tt
  mapped (n ∷ ns) a = (a.0, mapped ns a.1)

  pub listed_are : AllByRecursion (IsNetBits netlist book) (map (λ (n : ℕ). (n, sets_at table n)) (static_controls netlist))
  listed_are =
      mapped (static_controls netlist)
      (all_passed (λ n. IsNetBits netlist book (n, sets_at table n)) (is_static_control netlist) (numbers_below (length netlist.nets))
      (below (λ n. is_static_control netlist n ≡ true → IsNetBits netlist book (n, sets_at table n)) (length netlist.nets) net_bits))

pub names_listed : {Y : Type 0} (g : ℕ → Y) (ns : List ℕ) → map (λ (net : ℕ × Y). net.0) (map (λ (n : ℕ). (n, g n)) ns) ≡ ns
names_listed g [] = refl
names_listed g (n ∷ ns) = ap (λ l. n ∷ l) (names_listed g ns)
