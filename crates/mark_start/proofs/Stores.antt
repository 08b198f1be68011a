-- The store of a mark: the program's cells, and behind them what the registers hold.
use Rattle.std.proofs.Common.{length, ◌≡◌, ℕ, zero, suc, ◌+◌, ◌*◌, ◌/◌, ◌%◌, ◌^◌, ◌<◌, List, [], ◌∷◌, Some, ◌∙◌, refl, sym, ap, subst, slice_get, slice_index, arith}
use Rattle.std.proofs.Math.Nat.{mod-eq_of_lt, mod-lt, zero-div}
use Rattle.std.proofs.lemmas.Nat.{pow_pos}
use Rattle.std.proofs.lemmas.Option.{slice_get_within}
use Rattle.net_model.specs.declared.hardware.Netlist.{Netlist}
use Rattle.net_model.specs.declared.hardware.Storage.{Storage}
use Rattle.net_model.specs.declared.hardware.Space.TheVariants.{File as InFile}
use Rattle.net_model.specs.declared.states.State.{State}
use Rattle.net_model.specs.Nets.{storage_bits}
use Rattle.net_model.specs.Widths.{IsState}
use Rattle.tree_laws.specs.Equal.{CellsFit}
use Rattle.tree_laws.specs.declared.classes.Classes.{Classes}
use Rattle.class_values.specs.Values.{Holds}
use Rattle.class_values.specs.Symbols.{IsStored, IsSymbol}
use Rattle.mark_start.specs.declared.run.Start.{Start}
use Rattle.mark_start.specs.Runs.{IsCode, IsAtMark, IsPaired, IsStore, room_of}

-- ---- lists

-- so many numbers of a list, and another list behind them
abbrev behind : ℕ → List ℕ → List ℕ → List ℕ
behind zero xs ys = ys
behind (suc n) [] ys = 0 ∷ behind n [] ys
behind (suc n) (x ∷ xs) ys = x ∷ behind n xs ys

in_front : (n : ℕ) (xs ys : List ℕ) (a : ℕ) → a < n → slice_index (behind n xs ys) a ≡ slice_index xs a
in_front zero xs ys a less = absurd (omega (arith, less))
in_front (suc n) [] ys zero less = refl
in_front (suc n) [] ys (suc a) less = in_front n [] ys a (omega (arith, less))
in_front (suc n) (x ∷ xs) ys zero less = refl
in_front (suc n) (x ∷ xs) ys (suc a) less = in_front n xs ys a (omega (arith, less))

at_back : (n : ℕ) (xs ys : List ℕ) (k : ℕ) → slice_index (behind n xs ys) (n + k) ≡ slice_index ys k
at_back zero xs ys k = (let e : 0 + k ≡ k = omega arith in ap (slice_index ys) e)
at_back (suc n) [] ys k = (let e : suc n + k ≡ suc (n + k) = omega arith in ap (slice_index (behind (suc n) [] ys)) e ∙ at_back n [] ys k)
at_back (suc n) (x ∷ xs) ys k = (let e : suc n + k ≡ suc (n + k) = omega arith in ap (slice_index (behind (suc n) (x ∷ xs) ys)) e ∙ at_back n xs ys k)

behind_fits : (w n : ℕ) (xs ys : List ℕ) → CellsFit w xs → CellsFit w ys → CellsFit w (behind n xs ys)
behind_fits w zero xs ys h k a = k a
behind_fits w (suc n) [] ys h k zero = pow_pos w
behind_fits w (suc n) [] ys h k (suc a) = behind_fits w n [] ys h k a
behind_fits w (suc n) (x ∷ xs) ys h k zero = h zero
behind_fits w (suc n) (x ∷ xs) ys h k (suc a) = behind_fits w n xs ys (λ b. h (suc b)) k a

-- each number in two cells
abbrev in_two : ℕ → List ℕ → List ℕ
in_two w [] = []
in_two w (x ∷ xs) = x % 2 ^ w ∷ (x / 2 ^ w) % 2 ^ w ∷ in_two w xs

low_at : (w : ℕ) (xs : List ℕ) (r : ℕ) → slice_index (in_two w xs) (2 * r) ≡ slice_index xs r % 2 ^ w
low_at w [] r = sym (mod-eq_of_lt (pow_pos w))
low_at w (x ∷ xs) zero = refl
low_at w (x ∷ xs) (suc r) = (let e : 2 * suc r ≡ suc (suc (2 * r)) = omega arith in ap (slice_index (in_two w (x ∷ xs))) e ∙ low_at w xs r)

high_at : (w : ℕ) (xs : List ℕ) (r : ℕ) → slice_index (in_two w xs) (2 * r + 1) ≡ (slice_index xs r / 2 ^ w) % 2 ^ w
high_at w [] r = sym (ap (λ n. n % 2 ^ w) (zero-div (2 ^ w)) ∙ mod-eq_of_lt (pow_pos w))
high_at w (x ∷ xs) zero = refl
high_at w (x ∷ xs) (suc r) = (let e : 2 * suc r + 1 ≡ suc (suc (2 * r + 1)) = omega arith in ap (slice_index (in_two w (x ∷ xs))) e ∙ high_at w xs r)

two_fit : (w : ℕ) (xs : List ℕ) → CellsFit w (in_two w xs)
two_fit w [] a = pow_pos w
two_fit w (x ∷ xs) zero = mod-lt x (pow_pos w)
two_fit w (x ∷ xs) (suc zero) = mod-lt (x / 2 ^ w) (pow_pos w)
two_fit w (x ∷ xs) (suc (suc a)) = two_fit w xs a

-- ---- the store

module _ (start : Start) (netlist : Netlist) (words : List ℕ) (s : State) (cells : List ℕ) (code : IsCode netlist words start) (state : IsState netlist s) where
  abbrev room : ℕ
  room = room_of start.temps start.from.now.spots

  -- what the registers and the file's cells hold
  abbrev pairs : List ℕ
  pairs = behind (2 * length start.storages.now) (in_two start.word s.regs) (in_two start.word s.file)

  pub mark_store : List ℕ
  mark_store = behind (room_of start.temps start.from.now.spots) cells pairs

  store_reg : (r : ℕ) (storage : Storage) → slice_get start.storages.now r ≡ Some storage → IsPaired start mark_store r (storage_bits (Some storage)) (slice_index s.regs r)
  unfolding mark_store
  store_reg r storage there =
      let w = start.word in
      let n = length start.storages.now in
      let regs = in_two w s.regs in
      let less = slice_get_within start.storages.now r storage there in
      let f = state.fits.regs r in
      let at : slice_get netlist.storages r ≡ Some storage = ap (λ (xs : List Storage). slice_get xs r) (sym code.storages) ∙ there in
      record {
        stored = record {
          low = at_back room cells pairs (2 * r) ∙ in_front (2 * n) regs (in_two w s.file) (2 * r) (omega (arith, less)) ∙ low_at w s.regs r;
          high = (let e : room + 2 * r + 1 ≡ room + (2 * r + 1) = omega arith in
              ap (slice_index mark_store) e ∙ at_back room cells pairs (2 * r + 1) ∙ in_front (2 * n) regs (in_two w s.file) (2 * r + 1) (omega (arith, less)) ∙ high_at w s.regs r);
        };
        fits = subst (λ o. slice_index s.regs r < 2 ^ storage_bits o) at f;
      }

  store_cell : (k : ℕ) → IsPaired start mark_store (length start.storages.now + k) start.file_word (slice_index s.file k)
  unfolding mark_store
  store_cell k =
      let w = start.word in
      let n = length start.storages.now in
      let regs = in_two w s.regs in
      let file = in_two w s.file in
      let a : 2 * (n + k) ≡ 2 * n + 2 * k = omega arith in
      let b : room + 2 * (n + k) + 1 ≡ room + (2 * n + (2 * k + 1)) = omega arith in
      record {
        stored = record {
          low = at_back room cells pairs (2 * (n + k)) ∙ ap (slice_index pairs) a ∙ at_back (2 * n) regs file (2 * k) ∙ low_at w s.file k;
          high = ap (slice_index mark_store) b ∙ at_back room cells pairs (2 * n + (2 * k + 1)) ∙ at_back (2 * n) regs file (2 * k + 1) ∙ high_at w s.file k;
        };
        fits = subst (λ n. slice_index s.file k < 2 ^ n) (sym code.file_word) (state.fits.cells InFile k);
      }

  pub store_is : IsAtMark start s cells → IsStore start s cells mark_store
  unfolding mark_store
  store_is m =
      let w = start.word in
      let regs = in_two w s.regs in
      let file = in_two w s.file in
      record {
        mark = m;
        fits = behind_fits w room cells pairs m.fits (behind_fits w (2 * length start.storages.now) regs file (two_fit w s.regs) (two_fit w s.file));
        kept = λ a less. in_front room cells pairs a less;
        regs = store_reg;
        file = store_cell;
      }

-- ---- what a register holds

pub symbol_holds : (start : Start) (memory : List ℕ) (pair wide width x : ℕ) → IsPaired start memory pair wide x → (table : Classes) (address class : ℕ) → width ≡ wide
    → address ≡ room_of start.temps start.from.now.spots + 2 * pair → IsSymbol table start.word address width class → Holds table memory class x
symbol_holds start memory pair wide width x k table address class same e is =
    (is memory x (subst (λ w. x < 2 ^ w) (sym same) k.fits) (subst (λ a. IsStored start.word memory a x) (sym e) k.stored)).holds
