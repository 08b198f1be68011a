-- What a caller cites of control bits.
use Rattle.std.proofs.Common.{◌≡◌, ℕ, ◌<◌, ◌^◌, ◌==◌, ◌&&◌, ◌↔◌, nat_eq, cond, Bool, true, false, List, [], ◌∷◌, ◌++◌, Some, map, length, slice_index, refl, sym, ap, ◌∙◌, subst, arith, zero, suc}
use Rattle.std.specs.List.{AllByRecursion, list_any}
use Rattle.std.proofs.lemmas.Bool.{eqb-true}
use Rattle.net_model.specs.declared.hardware.Netlist.{Netlist}
use Rattle.net_model.specs.Nets.{width_at}
use Rattle.net_model.specs.Symbolic.{no_state}
use Rattle.net_model.specs.Value.{value_of}
use Rattle.net_model.specs.Transfers.{IsClean}
use Rattle.bit_bdd.specs.Diagrams.{Diagrams, Extends, has_word}
use Rattle.bit_bdd.proofs.CallerLemmas.{same_words}
use Rattle.ctl_bdd.specs.declared.ControlBits.{ControlBits}
use Rattle.ctl_bdd.specs.Places.{is_static_control, numbers_below, static_controls}
use Rattle.ctl_bdd.specs.Controls.{IsControl, IsNetBits, bits_in}
use Rattle.rec_bits.proofs.Booleans.{or_left}
use Rattle.rec_bits.proofs.Lists.{all_weaker}
use Rattle.rec_bits.proofs.Equality.{number_turned}
use Rattle.ctl_bdd.proofs.Sets.{sets_later, set_in}
use Rattle.ctl_bdd.proofs.Numbers.{number_one}
use Rattle.ctl_bdd.proofs.Filling.{bits_later}
use Rattle.ctl_bdd.proofs.Listing.{bit_is}
use Rattle.ctl_bdd.proofs.Placed.{any_filtered, any_append, any_front}
pub use Rattle.ctl_bdd.proofs.Placed.{when_placed, enable_placed, selector_placed}
pub use Rattle.ctl_bdd.proofs.Sets.{bools_later, number_later}

-- ---- the look-up

-- what is found with a net are its bits
pub found_bits : (netlist : Netlist) (book : Diagrams) (nets : List (ℕ × List ℕ)) → AllByRecursion (IsNetBits netlist book) nets → (n : ℕ) (sets : List ℕ) → bits_in nets n ≡ Some sets → IsNetBits netlist book (n, sets)
found_bits netlist book [] a n sets e = cc
found_bits netlist book (net ∷ nets) a n sets e = by (net.0 == n) refl e (found_bits netlist book nets a.1 n sets)
  where
    by : (b : Bool) → (net.0 == n) ≡ b → cond b (Some net.1) (bits_in nets n) ≡ Some sets → (bits_in nets n ≡ Some sets → IsNetBits netlist book (n, sets)) → IsNetBits netlist book (n, sets)
    by true q f later =
        let same : net.1 ≡ sets = cc in
        subst (λ (m : ℕ). IsNetBits netlist book (m, sets)) (eqb-true net.0 n q) (subst (λ (s : List ℕ). IsNetBits netlist book (net.0, s)) same a.0)
    by false q f later = later f

there_is : (nets : List (ℕ × List ℕ)) (n : ℕ) → list_any (nat_eq n) (map (λ (net : ℕ × List ℕ). net.0) nets) ≡ true → (sets : List ℕ) × (bits_in nets n ≡ Some sets)
there_is [] n e = cc
there_is (net ∷ nets) n e = by (net.0 == n) refl (there_is nets n)
  where
    by : (b : Bool) → (net.0 == n) ≡ b → (list_any (nat_eq n) (map (λ (net : ℕ × List ℕ). net.0) nets) ≡ true → (sets : List ℕ) × (bits_in nets n ≡ Some sets)) → (sets : List ℕ) × (cond b (Some net.1) (bits_in nets n) ≡ Some sets)
    by true q later = (net.1, refl)
    by false q later = later (rw (number_turned n net.0, q) at e)

pub number_there : (n k : ℕ) → n < k → list_any (nat_eq n) (numbers_below k) ≡ true
number_there n zero lt = absurd (omega arith)
number_there n (suc k) lt = by (n == k) refl (number_there n k)
  where
    by : (b : Bool) → (n == k) ≡ b → (n < k → list_any (nat_eq n) (numbers_below k) ≡ true) → list_any (nat_eq n) (numbers_below k ++ k ∷ []) ≡ true
    by true q before = any_append n (numbers_below k) (k ∷ []) (or_left (nat_eq n k) false q)
    by false q before = any_front n (numbers_below k) (k ∷ []) (before (below q))
      where
        below : (n == k) ≡ false → n < k
        below f = grind (arith, f, lt)

-- each static net in a control place is found
pub bits_found : (netlist : Netlist) (book : Diagrams) (controls : ControlBits) → IsControl netlist book controls → (n : ℕ) → n < length netlist.nets → is_static_control netlist n ≡ true → (sets : List ℕ) × (bits_in controls.bits n ≡ Some sets) × IsNetBits netlist book (n, sets)
bits_found netlist book controls c n lt s =
    let listed : list_any (nat_eq n) (static_controls netlist) ≡ true = any_filtered (is_static_control netlist) n (numbers_below (length netlist.nets)) ∙ (λ j. s j && number_there n (length netlist.nets) lt j) in
    let found : (sets : List ℕ) × (bits_in controls.bits n ≡ Some sets) = there_is controls.bits n (ap (list_any (nat_eq n)) c.nets ∙ listed) in
    (found.0, found.1, found_bits netlist book controls.bits c.bits n found.0 found.1)

-- ---- what the bits say

-- the set of a net of one bit has the words under which it is 1
pub one_set : (netlist : Netlist) (book : Diagrams) (n : ℕ) (sets : List ℕ) → IsNetBits netlist book (n, sets) → width_at netlist n ≡ 1 → (set : ℕ) × (sets ≡ set ∷ []) × ((word : ℕ) → word < 2 ^ book.bits → has_word book set word ≡ (value_of netlist no_state word n == 1))
one_set netlist book n [] b w = absurd (omega (arith, b.number.long, w))
one_set netlist book n (set ∷ []) b w =
    (set, refl, λ word lt. bit_is (has_word book set word) ∙ ap (λ x. x == 1) (sym (number_one book set word) ∙ b.number.number word lt))
one_set netlist book n (set ∷ other ∷ sets) b w = absurd (omega (arith, b.number.long, w))

-- ---- a book that grows

net_later : (netlist : Netlist) (old new : Diagrams) → Extends old new → (net : ℕ × List ℕ) → IsNetBits netlist old net → IsNetBits netlist new net
net_later netlist old new e net b = record {
  sets = sets_later old new e net.1 b.sets;
  number = bits_later netlist old new e net.0 net.1 b.sets b.number;
  bits = λ k word kt wt.
      same_words old new e (slice_index net.1 k) (set_in old net.1 k kt b.sets) word ∙ b.bits k word kt (subst (λ n. word < 2 ^ n) e.bits wt);
}

pub control_later : (netlist : Netlist) (old new : Diagrams) → Extends old new → (controls : ControlBits) → IsControl netlist old controls → IsControl netlist new controls
control_later netlist old new e controls c = record {
  nets = c.nets;
  bits = all_weaker (IsNetBits netlist old) (IsNetBits netlist new) (net_later netlist old new e) controls.bits c.bits;
  within = omega (arith, c.within, e.longer);
  legal = λ word lt.
      let same : has_word new controls.legal word ≡ has_word old controls.legal word = same_words old new e controls.legal c.within word in
      let is : (has_word old controls.legal word ≡ true) ↔ IsClean netlist word = c.legal word (subst (λ n. word < 2 ^ n) e.bits lt) in
      (λ h. is.0 (sym same ∙ h), λ h. same ∙ is.1 h);
  some = (c.some.0, subst (λ n. c.some.0 < 2 ^ n) (sym e.bits) c.some.1, c.some.2);
}
