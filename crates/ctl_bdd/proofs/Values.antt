-- What a gate's operator does with the bits of the nets that it names.
use Rattle.std.proofs.Common.{◌≡◌, ℕ, ◌+◌, ◌-◌, ◌*◌, ◌%◌, ◌^◌, ◌<◌, ◌≤◌, not, cond, Bool, true, false, List, [], ◌∷◌, ◌++◌, Option, None, Some, map, take, drop, replicate, length, length-drop, length-append, slice_get, get_or, refl, sym, ap, ◌∙◌, subst, arith, zero, suc}
use Rattle.std.specs.List.{AllByRecursion}
use Rattle.std.proofs.Math.Nat.{mod-eq_of_lt}
use Rattle.std.proofs.lemmas.List.{map-append, length-take-le, length-replicate, take_all}
use Rattle.std.proofs.lemmas.Nat.{pow-add}
use Rattle.rec_bits.specs.Operators.{cat_of, slice_of, sext_of, is_negative_of}
use Rattle.rec_bits.specs.declared.operator.Op1.{Op1}
use Rattle.rec_bits.specs.declared.operator.Op1.TheVariants.{Not, Neg}
use Rattle.net_model.specs.declared.hardware.Netlist.{Netlist}
use Rattle.net_model.specs.declared.hardware.Code.{Code}
use Rattle.net_model.specs.declared.hardware.Gate.TheVariants.{Word, Un, Slice, Cat, Zext, Sext}
use Rattle.net_model.specs.Nets.{width_at, code_bits, row_nets}
use Rattle.net_model.specs.CheckedRules.{is_control_gate}
use Rattle.net_model.specs.Widths.{GateFits, RowsFit, RestFits}
use Rattle.bit_bdd.specs.Diagrams.{Diagrams, has_word}
use Rattle.ctl_bdd.specs.Bits.{AreSets, bools, bits_value, number_at}
use Rattle.ctl_bdd.specs.Tables.{AreGateBits, IsBitTable, sets_at}
use Rattle.ctl_bdd.specs.Inner.Tables.{HasRows, HasRest}
use Rattle.ctl_bdd.proofs.Sets.{sets_append, sets_take, sets_drop, sets_replicate, set_in, bools_more, bools_long, bools_taken}
use Rattle.ctl_bdd.proofs.Numbers.{number_not, number_take, number_drop, number_append, number_zeros, number_ones, number_negative}

-- ---- parts of lists of sets

module _ (book : Diagrams) (word : ℕ) where
  bools_take : (n : ℕ) (sets : List ℕ) → bools book (take n sets) word ≡ take n (bools book sets word)
  bools_take zero sets = refl
  bools_take (suc n) [] = refl
  bools_take (suc n) (set ∷ sets) = ap (λ l. has_word book set word ∷ l) (bools_take n sets)

  bools_drop : (n : ℕ) (sets : List ℕ) → bools book (drop n sets) word ≡ drop n (bools book sets word)
  bools_drop zero sets = refl
  bools_drop (suc n) [] = refl
  bools_drop (suc n) (set ∷ sets) = bools_drop n sets

  bools_replicate : (n set : ℕ) → bools book (replicate n set) word ≡ replicate n (has_word book set word)
  bools_replicate zero set = refl
  bools_replicate (suc n) set = ap (λ l. has_word book set word ∷ l) (bools_replicate n set)

  number_slice : (sets : List ℕ) (hi lo : ℕ) → number_at book (take (hi + 1 - lo) (drop lo sets)) word ≡ slice_of (number_at book sets word) hi lo
  number_slice sets hi lo =
      ap bits_value (bools_take (hi + 1 - lo) (drop lo sets) ∙ ap (take (hi + 1 - lo)) (bools_drop lo sets))
      ∙ number_take (hi + 1 - lo) (drop lo (bools book sets word))
      ∙ ap (λ x. x % 2 ^ (hi + 1 - lo)) (number_drop lo (bools book sets word))

  number_joined : (low high : List ℕ) → number_at book (low ++ high) word ≡ cat_of (number_at book high word) (number_at book low word) (length low)
  number_joined low high =
      ap bits_value (map-append (λ s. has_word book s word) low high)
      ∙ number_append (bools book low word) (bools book high word)
      ∙ ap (cat_of (number_at book high word) (number_at book low word)) (bools_long book low word)

  number_filled : (low : List ℕ) (n set : ℕ) → number_at book (low ++ replicate n set) word ≡ cat_of (bits_value (replicate n (has_word book set word))) (number_at book low word) (length low)
  number_filled low n set =
      number_joined low (replicate n set) ∙ ap (λ bs. cat_of (bits_value bs) (number_at book low word) (length low)) (bools_replicate n set)

  number_zero_extended : (low : List ℕ) (n set : ℕ) → has_word book set word ≡ false → number_at book (low ++ replicate n set) word ≡ number_at book low word
  number_zero_extended low n set e =
      number_filled low n set
      ∙ ap (λ b. cat_of (bits_value (replicate n b)) (number_at book low word) (length low)) e
      ∙ ap (λ x. cat_of x (number_at book low word) (length low)) (number_zeros n)
      ∙ omega arith

  -- the top bit tells the sign
  negative : (low : List ℕ) → 1 ≤ length low → is_negative_of (length low) (number_at book low word) ≡ has_word book (get_or low (length low - 1) 0) word
  negative low h =
      let k : ℕ = length low - 1 in
      let lt : length low - 1 < length low = omega (arith, h) in
      let more : length low - 1 + 1 ≡ length low = omega (arith, h) in
      let all : bools book low word ≡ bools book (take (length low - 1) low) word ++ has_word book (get_or low (length low - 1) 0) word ∷ [] =
      ap (λ l. bools book l word) (sym (take_all (length low) low (omega arith)) ∙ ap (λ n. take n low) (sym more)) ∙ bools_more book low (length low - 1) word lt in
      let long : length (bools book (take (length low - 1) low) word) + 1 ≡ length low = ap (λ n. n + 1) (bools_taken book low (length low - 1) word (omega arith)) ∙ more in
      (λ j. is_negative_of (sym long j) (bits_value (all j)))
      ∙ number_negative (bools book (take (length low - 1) low) word) (has_word book (get_or low (length low - 1) 0) word)

  number_sign_extended : (low : List ℕ) (width : ℕ) → 1 ≤ length low → length low ≤ width → number_at book (low ++ replicate (width - length low) (get_or low (length low - 1) 0)) word ≡ sext_of (number_at book low word) (length low) width
  number_sign_extended low width h k =
      let b : Bool = has_word book (get_or low (length low - 1) 0) word in
      number_filled low (width - length low) (get_or low (length low - 1) 0)
      ∙ by (has_word book (get_or low (length low - 1) 0) word) (number_at book low word) (length low) (width - length low) width (omega (arith, k))
      ∙ ap (λ t. cond t (number_at book low word + (2 ^ width - 2 ^ length low)) (number_at book low word)) (sym (negative low h))
    where
      by : (b : Bool) (x w n width : ℕ) → n + w ≡ width → cat_of (bits_value (replicate n b)) x w ≡ cond b (x + (2 ^ width - 2 ^ w)) x
      by true x w n width e =
          let p : 2 ^ width ≡ 2 ^ n * 2 ^ w = ap (λ m. 2 ^ m) (sym e) ∙ pow-add 2 n w in
          let q : 2 ^ n ≡ bits_value (replicate n true) + 1 = sym (number_ones n) in
          let r : 2 ^ width ≡ bits_value (replicate n true) * 2 ^ w + 2 ^ w = p ∙ ap (λ m. m * 2 ^ w) q ∙ omega arith in
          omega (arith, r)
      by false x w n width e = ap (λ m. cat_of m x w) (number_zeros n) ∙ omega arith

-- ---- gates

one_code : (codes : List Code) (k w : ℕ) → length codes ≡ 1 → code_bits (slice_get codes k) ≡ w → 1 ≤ w → code_bits (slice_get codes 0) ≡ w
one_code [] k w e h low = absurd (omega (arith, e))
one_code (c ∷ []) zero w e h low = h
one_code (c ∷ []) (suc k) w e h low = absurd (omega (arith, h, low))
one_code (c ∷ d ∷ codes) k w e h low = absurd (omega (arith, e))

module _ (netlist : Netlist) (old new : Diagrams) (table : List (List ℕ)) (width : ℕ) where
  pub word_gate : (code : ℕ) (out : List ℕ) → length netlist.codes ≡ 1 → old.bits ≡ code_bits (slice_get netlist.codes 0) → 1 ≤ width → GateFits netlist width (Word code) → AreSets new out → length out ≡ width → ((word : ℕ) → number_at new out word ≡ word % 2 ^ width) → AreGateBits netlist old new table width (Word code) out
  word_gate code out one bits low fits sets long number = record {
    sets = sets;
    long = long;
    number = λ word h.
        number word ∙ mod-eq_of_lt (subst (λ n. word < 2 ^ n) (bits ∙ one_code netlist.codes code width one fits low) h);
  }

  pub not_gate : (op : Op1) (a : ℕ) (out : List ℕ) → is_control_gate (Un op a) ≡ true → GateFits netlist width (Un op a) → length (sets_at table a) ≡ width_at netlist a → AreSets new out → length out ≡ length (sets_at table a) → ((word : ℕ) → bools new out word ≡ map not (bools old (sets_at table a) word)) → AreGateBits netlist old new table width (Un op a) out
  not_gate Not a out control fits named sets long words = record {
    sets = sets;
    long = long ∙ named ∙ fits.1;
    number = λ word h.
        ap bits_value (words word) ∙ number_not (bools old (sets_at table a) word)
        ∙ ap (λ n. 2 ^ n - 1 - number_at old (sets_at table a) word) (bools_long old (sets_at table a) word ∙ named ∙ fits.1);
  }
  not_gate Neg a out control fits named sets long words = cc

module _ (netlist : Netlist) (book : Diagrams) (table : List (List ℕ)) (t : IsBitTable book table) (width : ℕ) where
  pub slice_gate : (of hi lo : ℕ) (out : List ℕ) → GateFits netlist width (Slice of hi lo) → length (sets_at table of) ≡ width_at netlist of → out ≡ take (hi + 1 - lo) (drop lo (sets_at table of)) → AreGateBits netlist book book table width (Slice of hi lo) out
  slice_gate of hi lo out fits named e = record {
    sets = rw e (sets_take book (hi + 1 - lo) _ (sets_drop book lo _ (t.sets of)));
    long = ap length e ∙ length-take-le (hi + 1 - lo) (drop lo (sets_at table of)) (omega (arith, length-drop lo (sets_at table of), named, fits.2)) ∙ fits.3;
    number = λ word h. ap (λ l. number_at book l word) e ∙ number_slice book word (sets_at table of) hi lo;
  }

  pub cat_gate : (a b : ℕ) (out : List ℕ) → GateFits netlist width (Cat a b) → length (sets_at table a) ≡ width_at netlist a → length (sets_at table b) ≡ width_at netlist b → out ≡ sets_at table b ++ sets_at table a → AreGateBits netlist book book table width (Cat a b) out
  cat_gate a b out fits ea eb e = record {
    sets = rw e (sets_append book _ _ (t.sets b) (t.sets a));
    long = omega (arith, ap length e, length-append (sets_at table b) (sets_at table a), ea, eb, fits.2);
    number = λ word h.
        ap (λ l. number_at book l word) e ∙ number_joined book word (sets_at table b) (sets_at table a)
        ∙ ap (cat_of (number_at book (sets_at table a) word) (number_at book (sets_at table b) word)) eb;
  }

  pub zext_gate : (a none : ℕ) (out : List ℕ) → GateFits netlist width (Zext a) → length (sets_at table a) ≡ width_at netlist a → none < length book.nodes → ((word : ℕ) → has_word book none word ≡ false) → out ≡ sets_at table a ++ replicate (width - length (sets_at table a)) none → AreGateBits netlist book book table width (Zext a) out
  zext_gate a none out fits ea within empty e = record {
    sets = rw e (sets_append book _ _ (t.sets a) (sets_replicate book _ none within));
    long = omega (arith, ap length e, length-append (sets_at table a) (replicate (width - length (sets_at table a)) none), length-replicate (width - length (sets_at table a)) none, ea, fits.1);
    number = λ word h. ap (λ l. number_at book l word) e ∙ number_zero_extended book word (sets_at table a) (width - length (sets_at table a)) none (empty word);
  }

  pub sext_gate : (a : ℕ) (out : List ℕ) → GateFits netlist width (Sext a) → 1 ≤ width_at netlist a → length (sets_at table a) ≡ width_at netlist a → out ≡ sets_at table a ++ replicate (width - length (sets_at table a)) (get_or (sets_at table a) (length (sets_at table a) - 1) 0) → AreGateBits netlist book book table width (Sext a) out
  sext_gate a out fits low ea e =
      let top : get_or (sets_at table a) (length (sets_at table a) - 1) 0 < length book.nodes = set_in book (sets_at table a) (length (sets_at table a) - 1) (omega (arith, low, ea)) (t.sets a) in
      record {
        sets = rw e (sets_append book _ _ (t.sets a) (sets_replicate book _ _ top));
        long = omega (arith, ap length e, length-append (sets_at table a) (replicate (width - length (sets_at table a)) (get_or (sets_at table a) (length (sets_at table a) - 1) 0)), length-replicate (width - length (sets_at table a)) (get_or (sets_at table a) (length (sets_at table a) - 1) 0), ea, fits.1);
        number = λ word h.
            ap (λ l. number_at book l word) e
            ∙ number_sign_extended book word (sets_at table a) width (omega (arith, low, ea)) (omega (arith, ea, fits.1))
            ∙ ap (λ n. sext_of (number_at book (sets_at table a) word) n width) ea;
      }

-- ---- cases

module _ (netlist : Netlist) (table : List (List ℕ)) (width : ℕ) where
  pub rows_have : (bits key : ℕ) (rows : List (ℕ × ℕ)) (rest : Option ℕ) → key ≡ bits → RowsFit netlist key width rows → AllByRecursion (λ n. length (sets_at table n) ≡ width_at netlist n) (row_nets rows rest) → HasRows table bits width rows
  rows_have bits key [] rest e fits named = tt
  rows_have bits key (row ∷ rows) rest e fits named =
      ((subst (λ n. row.0 < 2 ^ n) e fits.0, named.0 ∙ fits.1.1), rows_have bits key rows rest e fits.2 named.1)

  pub rest_has : (rows : List (ℕ × ℕ)) (rest : Option ℕ) → RestFits netlist width rest → AllByRecursion (λ n. length (sets_at table n) ≡ width_at netlist n) (row_nets rows rest) → HasRest table width rest
  rest_has [] None fits named = tt
  rest_has [] (Some n) fits named = named.0 ∙ fits.1
  rest_has (row ∷ rows) rest fits named = rest_has rows rest fits named.1
