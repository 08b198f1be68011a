-- A view's term that has a width, over the storages of a checked netlist, stands for an expression. So
-- remarks that a netlist and an image accept say views.
use Rattle.std.proofs.Common.{◌≡◌, ℕ, suc, ◌+◌, ◌-◌, ◌<◌, ◌≤◌, ◌^◌, ◌==◌, ◌||◌, ◌&&◌, Bool, true, false, not, cond, nat_le, nat_lt, List, [], ◌∷◌, length, Option, Some, None, refl, sym, ap, subst, ◌∙◌, arith, inl, inr}
use Rattle.std.specs.Prelude.{codes}
use Rattle.std.specs.List.{AllByRecursion, position_or_len}
use Rattle.std.specs.Str.{bytes_eq}
use Rattle.std.proofs.lemmas.Bool.{and_parts, cases_lt, leb-true, lt-ltb, ltb-true, or_parts, true≢false}
use Rattle.rec_bits.proofs.Options.{none-some, picked, same_Some}
use Rattle.rec_bits.specs.declared.operator.Op1.TheVariants.{Not, Neg}
use Rattle.rec_bits.specs.declared.operator.Op2.{Op2}
use Rattle.rec_bits.specs.declared.operator.Op2.TheVariants.{Add, Sub, Mul, And, Or, Xor, Shl, Shr, Sar, Eq, Ltu, Lts}
use Rattle.net_model.specs.declared.hardware.Cells.{Cells}
use Rattle.net_model.specs.declared.hardware.Netlist.{Netlist}
use Rattle.net_model.specs.declared.hardware.Storage.{Storage}
use Rattle.net_model.specs.declared.hardware.Storage.TheVariants.{Register, Memory, File}
use Rattle.net_model.proofs.KeptRules.{few_storages}
use Rattle.net_model.specs.CheckedRules.{KeepsRules, StorageKeeps}
use Rattle.net_model.specs.Exprs.{ExprModel, cat, const, reg, slice, un, zext, sext}
use Rattle.code_model.specs.declared.image.Image.{Image}
use Rattle.text_lines.specs.Fields.{◌>>=◌}
use Rattle.text_lines.proofs.Steps.{bind_again, bind_ok}
use Rattle.view_terms.specs.Inner.Reading.{when}
use Rattle.view_terms.specs.Terms.{TermModel, name, number, constant, one, two, three}
use Rattle.view_lines.specs.declared.remark.Holder.{Holder}
use Rattle.view_lines.specs.Remarks.{RemarkModel, hide, view, hold, know}
use Rattle.view_scope.specs.Fits.{accepts, is_register_named, place_index, register_spot, turn_of, view_turn}
use Rattle.view_scope.specs.Widths.{both_width, cell_read, cell_width, constant_width, extended_width, is_arithmetic, is_comparison, is_extension, name_in, number_in, one_width, pair_width, part_width, read_width, register_width, sliced_width, three_width, two_width, unary_width}
use Rattle.view_scope.specs.declared.turn.Turn.{Turn}
use Rattle.viewed_text.specs.Texts.{AreRemarks}
use Rattle.view_parts.specs.Parts.{arithmetic_of, below_256, bounds_in, both_part, cell_of, cells_in, cells_named, comparison_of, constant_part, extended_part, joined_part, op1_of, op2_of, or_else, pair_part, part_of, read_part, register_part, sliced_part, unary_part}
use Rattle.view_parts.specs.Said.{view_said, views_said}

-- there is something
abbrev Given : {A : Type 0} → Option A → Type 0
Given {A} o = (x : A) × (o ≡ Some x)

-- something is there, and a width is one of 64 bits at most
record HasPart (part : Option ExprModel) (w : ℕ) : Type 0 where
  narrow : w ≤ 64
  expr : ExprModel
  is : part ≡ Some expr

-- one step behind another, and the first of two readings
bind_has : (o : Option ℕ) (f : ℕ → Option ℕ) (part : Option ExprModel) (g : ExprModel → Option ExprModel) (w : ℕ)
    → ((x : ℕ) → o ≡ Some x → HasPart part x) → ((x : ℕ) (y : ExprModel) → x ≤ 64 → f x ≡ Some w → HasPart (g y) w) → (o >>= f) ≡ Some w → HasPart (part >>= g) w
bind_has o f part g w first next e =
    let x = bind_ok o f w e in
    let p = first x.value x.first in
    let made = next x.value p.expr p.narrow x.then in
    record { narrow = made.narrow; expr = made.expr; is = bind_again part g p.expr _ p.is made.is }

when_has : {A : Type 0} (o : Option A) (f : A → Option ℕ) (other : Option ℕ) (g : A → Option ExprModel) (next : Option ExprModel) (w : ℕ)
    → ((x : A) → f x ≡ Some w → HasPart (g x) w) → (other ≡ Some w → HasPart next w) → when o f other ≡ Some w → HasPart (when o g next) w
when_has None f other g next w here there e = there e
when_has (Some x) f other g next w here there e = here x e

-- ---- operators

one_of_two : (a b : Bool) → (a || b) ≡ true → Given (cond a (Some Not) (cond b (Some Neg) None))
one_of_two true b p = (Not, refl)
one_of_two false true p = (Neg, refl)
one_of_two false false p = absurd cc

one_of_twelve : (a b c d e f g h i j k l : Bool)
    → ((a || b || c || d || e || f || g || h || i) || (j || k || l)) ≡ true
    → Given (or_else
    (cond a (Some Add) (cond b (Some Sub) (cond c (Some Mul) (cond d (Some And) (cond e (Some Or) (cond f (Some Xor) None))))))
    (cond g (Some Shl) (cond h (Some Shr) (cond i (Some Sar) (cond j (Some Eq) (cond k (Some Ltu) (cond l (Some Lts) None)))))))
one_of_twelve true b c d e f g h i j k l p = (Add, refl)
one_of_twelve false true c d e f g h i j k l p = (Sub, refl)
one_of_twelve false false true d e f g h i j k l p = (Mul, refl)
one_of_twelve false false false true e f g h i j k l p = (And, refl)
one_of_twelve false false false false true f g h i j k l p = (Or, refl)
one_of_twelve false false false false false true g h i j k l p = (Xor, refl)
one_of_twelve false false false false false false true h i j k l p = (Shl, refl)
one_of_twelve false false false false false false false true i j k l p = (Shr, refl)
one_of_twelve false false false false false false false false true j k l p = (Sar, refl)
one_of_twelve false false false false false false false false false true k l p = (Eq, refl)
one_of_twelve false false false false false false false false false false true l p = (Ltu, refl)
one_of_twelve false false false false false false false false false false false true p = (Lts, refl)
one_of_twelve false false false false false false false false false false false false p = absurd cc

operator_of : (word : List ℕ) → (is_arithmetic word || is_comparison word) ≡ true → Given (op2_of word)
unfolding op2_of arithmetic_of comparison_of
operator_of word p = one_of_twelve _ _ _ _ _ _ _ _ _ _ _ _ p

-- ---- what each width tells

constant_has : (v w x : ℕ) → constant_width v w ≡ Some x → HasPart (constant_part v w) x
unfolding constant_width constant_part
constant_has v w x e =
    let some = unrefused (nat_lt w 1 || nat_lt 64 w) refl e in
    record { narrow = some; expr = const x v; is = bind_again (constant_width v w) _ x _ e refl }
  where
    within : nat_lt 64 w ≡ false → w ≤ 64
    within p = elim (cases_lt 64 w) [
      | inl lt ↦ absurd (true≢false (sym (lt-ltb 64 w lt) ∙ p))
      | inr le ↦ le
    ]

    given : (t : Bool) → cond t (Some w) None ≡ Some x → w ≡ x
    given true q = same_Some w x q
    given false q = absurd cc

    unrefused : (t : Bool) → (nat_lt w 1 || nat_lt 64 w) ≡ t → cond t None (cond (nat_lt v (2 ^ w)) (Some w) None) ≡ Some x → x ≤ 64
    unrefused true p q = absurd cc
    unrefused false p q = subst (λ n. n ≤ 64) (given (nat_lt v (2 ^ w)) q) (within (or_parts (nat_lt w 1) (nat_lt 64 w) p).1)

unary_has : (word : List ℕ) (a w : ℕ) (x : ExprModel) → a ≤ 64 → unary_width word a ≡ Some w → HasPart (unary_part word x) w
unfolding unary_width unary_part op1_of
unary_has word a w x narrow e =
    let is = picked (bytes_eq word (codes "not") || bytes_eq word (codes "neg")) (Some a) w e in
    let op = one_of_two (bytes_eq word (codes "not")) (bytes_eq word (codes "neg")) is.0 in
    record { narrow = subst (λ n. n ≤ 64) (same_Some a w is.1) narrow; expr = un op.0 x; is = bind_again _ _ op.0 _ op.1 refl }

extended_has : (word : List ℕ) (a width w : ℕ) (x : ExprModel) → extended_width word a width ≡ Some w → HasPart (extended_part word x width) w
unfolding extended_width extended_part
extended_has word a width w x e =
    let is = picked (is_extension word && nat_lt a width && nat_le width 64) (Some width) w e in
    let tests = and_parts (is_extension word && nat_lt a width) (nat_le width 64) is.0 in
    let word_is = (and_parts (is_extension word) (nat_lt a width) tests.0).0 in
    let few : width ≤ 64 = leb-true width 64 tests.1 in
    let small : nat_lt width 256 ≡ true = lt-ltb width 256 (omega (arith, few)) in
    let made = extended (bytes_eq word (codes "zext")) (bytes_eq word (codes "sext")) word_is in
    record { narrow = subst (λ n. n ≤ 64) (same_Some width w is.1) few; expr = made.0; is = bind_again (below_256 width) _ width _ (ap (λ t. cond t (Some width) None) small) made.1 }
  where
    extended : (s t : Bool) → (s || t) ≡ true → Given (cond s (Some (zext x width)) (cond t (Some (sext x width)) None))
    extended true t p = (zext x width, refl)
    extended false true p = (sext x width, refl)
    extended false false p = absurd cc

joined_has : (word : List ℕ) (x y : ExprModel) (o : Option Op2) → Given o → Given (joined_part word o x y)
joined_has word x y None p = absurd (none-some p.0 p.1)
joined_has word x y (Some op) p = (_, refl)

cat_has : (word : List ℕ) (x y : ExprModel) (o : Option Op2) → bytes_eq word (codes "cat") ≡ true → Given (joined_part word o x y)
cat_has word x y None p = (_, ap (λ t. cond t (Some (cat x y)) None) p)
cat_has word x y (Some op) p = (_, refl)

pair_has : (word : List ℕ) (a b w : ℕ) (x y : ExprModel) → a ≤ 64 → pair_width word a b ≡ Some w → HasPart (pair_part word x y) w
unfolding pair_width pair_part
pair_has word a b w x y narrow e = by (is_arithmetic word) refl (is_comparison word) refl (bytes_eq word (codes "cat")) refl e
  where
    of_operator : w ≤ 64 → (is_arithmetic word || is_comparison word) ≡ true → HasPart (joined_part word (op2_of word) x y) w
    of_operator bound p = (let made = joined_has word x y (op2_of word) (operator_of word p) in record { narrow = bound; expr = made.0; is = made.1 })

    by : (s : Bool) → is_arithmetic word ≡ s → (t : Bool) → is_comparison word ≡ t → (u : Bool) → bytes_eq word (codes "cat") ≡ u
        → cond s (cond (a == b) (Some a) None) (cond t (cond (a == b) (Some 1) None) (cond u (cond (nat_le (a + b) 64) (Some (a + b)) None) None)) ≡ Some w
        → HasPart (joined_part word (op2_of word) x y) w
    by true p t q u r f =
        let is = picked (a == b) (Some a) w f in
        of_operator (subst (λ n. n ≤ 64) (same_Some a w is.1) narrow) (ap (λ s. s || is_comparison word) p)
    by false p true q u r f =
        let is = picked (a == b) (Some 1) w f in
        of_operator (subst (λ n. n ≤ 64) (same_Some 1 w is.1) (omega arith)) (ap (λ s. s || is_comparison word) p ∙ q)
    by false p false q true r f =
        let is = picked (nat_le (a + b) 64) (Some (a + b)) w f in
        let made = cat_has word x y (op2_of word) r in
        record { narrow = subst (λ n. n ≤ 64) (same_Some (a + b) w is.1) (leb-true (a + b) 64 is.0); expr = made.0; is = made.1 }
    by false p false q false r f = absurd cc

sliced_is : (word : List ℕ) (x : ExprModel) (hi lo : TermModel) (h l : ℕ) → bytes_eq word (codes "slice") ≡ true → number_in hi ≡ Some h → number_in lo ≡ Some l
    → nat_lt h 256 ≡ true → nat_lt l 256 ≡ true → sliced_part word x hi lo ≡ Some (slice x h l)
unfolding sliced_part bounds_in
sliced_is word x hi lo h l p q r s t = rw (p, q, s, r, t) refl

sliced_has : (word : List ℕ) (a h l w : ℕ) (x : ExprModel) (hi lo : TermModel) → a ≤ 64 → number_in hi ≡ Some h → number_in lo ≡ Some l
    → sliced_width word a h l ≡ Some w → HasPart (sliced_part word x hi lo) w
unfolding sliced_width
sliced_has word a h l w x hi lo narrow q r e =
    let is = picked (bytes_eq word (codes "slice") && nat_le l h && nat_lt h a) (Some (h + 1 - l)) w e in
    let tests = and_parts (bytes_eq word (codes "slice") && nat_le l h) (nat_lt h a) is.0 in
    let first = and_parts (bytes_eq word (codes "slice")) (nat_le l h) tests.0 in
    let below : h < a = ltb-true h a tests.1 in
    let order : l ≤ h = leb-true l h first.1 in
    record {
      narrow = subst (λ n. n ≤ 64) (same_Some (h + 1 - l) w is.1) (omega (arith, below, order, narrow));
      expr = slice x h l;
      is = sliced_is word x hi lo h l first.0 q r (lt-ltb h 256 (omega (arith, below, narrow))) (lt-ltb l 256 (omega (arith, below, order, narrow)));
    }

-- ---- storages

module _ (netlist : Netlist) where
  named_within : (storages : List Storage) (text : List ℕ) (w : ℕ) → register_width storages text ≡ Some w → position_or_len (is_register_named text) storages < length storages
  named_within [] text w e = absurd cc
  named_within (Register own width input on ∷ storages) text w e = by (bytes_eq own text) (λ f. named_within storages text w f) e
    where
      by : (t : Bool) → (register_width storages text ≡ Some w → position_or_len (is_register_named text) storages < length storages)
          → cond t (Some width) (register_width storages text) ≡ Some w → cond (not t) (1 + position_or_len (is_register_named text) storages) 0 < suc (length storages)
      by true next f = omega arith
      by false next f = (let inside = next f in omega (arith, inside))
  named_within (Memory cells ∷ storages) text w e = (let inside = named_within storages text w e in omega (arith, inside))
  named_within (File cells ∷ storages) text w e = (let inside = named_within storages text w e in omega (arith, inside))

  register_narrow : (storages : List Storage) → AllByRecursion (StorageKeeps netlist) storages → (text : List ℕ) (w : ℕ) → register_width storages text ≡ Some w → w ≤ 64
  register_narrow [] keep text w e = absurd cc
  register_narrow (Register own width input on ∷ storages) keep text w e = by (bytes_eq own text) (λ f. register_narrow storages keep.1 text w f) e
    where
      by : (t : Bool) → (register_width storages text ≡ Some w → w ≤ 64) → cond t (Some width) (register_width storages text) ≡ Some w → w ≤ 64
      by true next f = subst (λ n. n ≤ 64) (same_Some width w f) keep.0.0.1
      by false next f = next f
  register_narrow (Memory cells ∷ storages) keep text w e = register_narrow storages keep.1 text w e
  register_narrow (File cells ∷ storages) keep text w e = register_narrow storages keep.1 text w e

  -- cells that are read are named, and narrow
  abbrev CellsHave : (part : Option (Bool × ℕ)) (w : ℕ) → Type 0
  CellsHave part w = (w ≤ 64) × Given part

  cells_here : (cells : Cells) (is_file : Bool) (addr w : ℕ) → cells.width ≤ 64 → (t : Bool) (other : Option ℕ) (part : Option (Bool × ℕ)) → (other ≡ Some w → CellsHave part w)
      → cond t (read_width cells addr) other ≡ Some w → CellsHave (cond t (Some (is_file, cells.width)) part) w
  cells_here cells is_file addr w narrow true other part next e =
      let is = picked (cells.addr_width == addr) (Some cells.width) w e in
      (subst (λ n. n ≤ 64) (same_Some cells.width w is.1) narrow, ((is_file, cells.width), refl))
  cells_here cells is_file addr w narrow false other part next e = next e

  cells_have : (storages : List Storage) → AllByRecursion (StorageKeeps netlist) storages → (text : List ℕ) (addr w : ℕ) → cell_width storages text addr ≡ Some w
      → CellsHave (cells_named storages text) w
  cells_have [] keep text addr w e = absurd cc
  cells_have (Register own width input on ∷ storages) keep text addr w e = cells_have storages keep.1 text addr w e
  cells_have (Memory cells ∷ storages) keep text addr w e =
      cells_here cells false addr w keep.0.0.1 (bytes_eq cells.name text) (cell_width storages text addr) (cells_named storages text) (λ f. cells_have storages keep.1 text addr w f) e
  cells_have (File cells ∷ storages) keep text addr w e =
      cells_here cells true addr w keep.0.0.1 (bytes_eq cells.name text) (cell_width storages text addr) (cells_named storages text) (λ f. cells_have storages keep.1 text addr w f) e

  -- ---- terms

  module _ (storages : List Storage) (keep : AllByRecursion (StorageKeeps netlist) storages) (few : length storages < 2 ^ 32) where
    register_has : (text : List ℕ) (w : ℕ) → register_width storages text ≡ Some w → HasPart (register_part storages text) w
    unfolding register_part register_spot
    register_has text w e =
        let at = position_or_len (is_register_named text) storages in
        let inside = named_within storages text w e in
        let found : nat_lt at (length storages) ≡ true = lt-ltb at (length storages) inside in
        let small : nat_lt at (2 ^ 32) ≡ true = lt-ltb at (2 ^ 32) (omega (arith, inside, few)) in
        record { narrow = register_narrow storages keep text w e; expr = reg at w; is = rw (found, e, small) refl }

    read_is : (text : List ℕ) (a : TermModel) (y : ExprModel) (c : Bool × ℕ) → name_in a ≡ Some text → cells_named storages text ≡ Some c → Given (read_part (cells_in storages a) y)
    unfolding read_part cells_in
    read_is text a y c p q = (cell_of c.0 y c.1, rw (p, q) refl)

    -- where a term has a width, it stands for an expression
    abbrev Part : TermModel → Type 0
    Part t = (x : ℕ) → part_width storages t ≡ Some x → HasPart (part_of storages t) x

    one_has : (word : List ℕ) (a : TermModel) (w : ℕ) → Part a → one_width word (part_width storages a) ≡ Some w → HasPart (part_of storages a >>= unary_part word) w
    unfolding one_width
    one_has word a w part e =
        bind_has (part_width storages a) (unary_width word) (part_of storages a) (unary_part word) w part (λ x y narrow f. unary_has word x w y narrow f) e

    extended_two : (word : List ℕ) (a : TermModel) (width w : ℕ) → Part a → (part_width storages a >>= λ x. extended_width word x width) ≡ Some w
        → HasPart (part_of storages a >>= λ x. extended_part word x width) w
    extended_two word a width w part e =
        bind_has (part_width storages a) (λ x. extended_width word x width) (part_of storages a) (λ x. extended_part word x width) w part
        (λ x y narrow f. extended_has word x width w y f) e

    read_two : (a b : TermModel) (w : ℕ) → Part b → cell_read storages a (part_width storages b) ≡ Some w → HasPart (part_of storages b >>= λ y. read_part (cells_in storages a) y) w
    unfolding cell_read
    read_two a b w part e =
        let text = bind_ok (name_in a) (λ text. part_width storages b >>= cell_width storages text) w e in
        bind_has (part_width storages b) (cell_width storages text.value) (part_of storages b) (λ y. read_part (cells_in storages a) y) w part
        (λ addr y narrow f. (let cells = cells_have storages keep text.value addr w f in
        let made = read_is text.value a y cells.1.0 text.first cells.1.1 in
        record { narrow = cells.0; expr = made.0; is = made.1 })) text.then

    pair_two : (word : List ℕ) (a b : TermModel) (w : ℕ) → Part a → Part b → both_width word (part_width storages a) (part_width storages b) ≡ Some w
        → HasPart (part_of storages b >>= λ y. part_of storages a >>= λ x. pair_part word x y) w
    unfolding both_width
    pair_two word a b w first second e =
        let x = bind_ok (part_width storages a) _ w e in
        let y = bind_ok (part_width storages b) _ w x.then in
        let p = first x.value x.first in
        let q = second y.value y.first in
        let made = pair_has word x.value y.value w p.expr q.expr p.narrow y.then in
        record { narrow = made.narrow; expr = made.expr; is = bind_again (part_of storages b) _ q.expr _ q.is (bind_again (part_of storages a) _ p.expr _ p.is made.is) }

    both_has : (word : List ℕ) (a b : TermModel) (w : ℕ) → Part a → Part b → (t : Bool) → cond t (cell_read storages a (part_width storages b)) (both_width word (part_width storages a) (part_width storages b)) ≡ Some w
        → HasPart (part_of storages b >>= λ y. cond t (read_part (cells_in storages a) y) (part_of storages a >>= λ x. pair_part word x y)) w
    both_has word a b w first second true e = read_two a b w second e
    both_has word a b w first second false e = pair_two word a b w first second e

    two_has : (word : List ℕ) (a b : TermModel) (w : ℕ) → Part a → Part b
        → two_width word b (cell_read storages a (part_width storages b)) (part_width storages a) (part_width storages b) ≡ Some w
        → HasPart (when (number_in b) (λ width. part_of storages a >>= λ x. extended_part word x width) (both_part storages word a (part_of storages a) (part_of storages b))) w
    unfolding two_width both_part
    two_has word a b w first second e =
        when_has (number_in b) _ _ _ _ w (λ width f. extended_two word a width w first f) (λ f. both_has word a b w first second (bytes_eq word (codes "read")) f) e

    three_has : (word : List ℕ) (a hi lo : TermModel) (w : ℕ) → Part a → three_width word (part_width storages a) hi lo ≡ Some w
        → HasPart (part_of storages a >>= λ x. sliced_part word x hi lo) w
    unfolding three_width
    three_has word a hi lo w part e =
        bind_has (part_width storages a) (λ x. number_in hi >>= λ h. number_in lo >>= λ l. sliced_width word x h l) (part_of storages a) (λ x. sliced_part word x hi lo) w part
        (λ x y narrow f. (let h = bind_ok (number_in hi) (λ h. number_in lo >>= λ l. sliced_width word x h l) w f in
        let l = bind_ok (number_in lo) (λ l. sliced_width word x h.value l) w h.then in
        sliced_has word x h.value l.value w y hi lo narrow h.first l.first l.then)) e

    part_has : (t : TermModel) (w : ℕ) → part_width storages t ≡ Some w → HasPart (part_of storages t) w
    part_has (name n) w e = register_has n w e
    part_has (number n) w e = absurd cc
    part_has (constant v n) w e = constant_has v n w e
    part_has (one word a) w e = one_has word a w (λ x f. part_has a x f) e
    part_has (two word a b) w e = two_has word a b w (λ x f. part_has a x f) (λ x f. part_has b x f) e
    part_has (three word a hi lo) w e = three_has word a hi lo w (λ x f. part_has a x f) e

    -- ---- remarks

    viewed_has : (image : Image) (at : ℕ) (n : List ℕ) (value : TermModel) (turn : Turn) → view_turn storages image at n value ≡ Some turn → Given (view_said storages at n value)
    unfolding view_turn view_said
    viewed_has image at n value turn e =
        let index = bind_ok (place_index image.places n) _ turn e in
        let width = bind_ok (part_width storages value) _ turn index.then in
        let part = part_has value width.value width.first in
        (_, bind_again (part_of storages value) _ part.expr _ part.is refl)

    turned : (image : Image) (word : ℕ) (last : Option Turn) (remark : RemarkModel) (turn : Turn) → accepts storages image word last remark ≡ Some turn → Given (turn_of storages image word remark)
    unfolding accepts
    turned image word last remark turn e = (let found = bind_ok (turn_of storages image word remark) _ turn e in (found.value, found.first))

    more_said : (at : ℕ) (n : List ℕ) (value : TermModel) (remarks : List RemarkModel) → Given (view_said storages at n value) → Given (views_said storages remarks)
        → Given (views_said storages (view at n value ∷ remarks))
    unfolding views_said
    more_said at n value remarks seen views =
        (_, bind_again (view_said storages at n value) _ seen.0 _ seen.1 (bind_again (views_said storages remarks) _ views.0 _ views.1 refl))

    none_said : Given (views_said storages [])
    unfolding views_said
    none_said = ([], refl)

    hide_passed : (label : Option ℕ) (n : List ℕ) (remarks : List RemarkModel) → Given (views_said storages remarks) → Given (views_said storages (hide label n ∷ remarks))
    unfolding views_said
    hide_passed label n remarks views = views

    hold_passed : (at : ℕ) (holder : Holder) (value : TermModel) (remarks : List RemarkModel) → Given (views_said storages remarks) → Given (views_said storages (hold at holder value ∷ remarks))
    unfolding views_said
    hold_passed at holder value remarks views = views

    know_passed : (at : ℕ) (n : List ℕ) (value : ℕ) (remarks : List RemarkModel) → Given (views_said storages remarks) → Given (views_said storages (know at n value ∷ remarks))
    unfolding views_said
    know_passed at n value remarks views = views

    -- remarks that are accepted say views
    pub views_given : (image : Image) (word : ℕ) (last : Option Turn) (remarks : List RemarkModel) → AreRemarks storages image word last remarks → Given (views_said storages remarks)
    views_given image word last [] h = none_said
    views_given image word last (hide label n ∷ remarks) h = hide_passed label n remarks (views_given image word (Some h.1.0) remarks h.1.2)
    views_given image word last (hold at holder value ∷ remarks) h = hold_passed at holder value remarks (views_given image word (Some h.1.0) remarks h.1.2)
    views_given image word last (know at n value ∷ remarks) h = know_passed at n value remarks (views_given image word (Some h.1.0) remarks h.1.2)
    views_given image word last (view at n value ∷ remarks) h =
        let found = turned image word last (view at n value) h.1.0 h.1.1 in
        more_said at n value remarks (viewed_has image at n value found.0 found.1) (views_given image word (Some h.1.0) remarks h.1.2)

-- so none is without them
pub views_told : (netlist : Netlist) (order : List ℕ) → KeepsRules netlist order → (image : Image) (word : ℕ) (remarks : List RemarkModel)
    → AreRemarks netlist.storages image word None remarks → views_said netlist.storages remarks ≡ None → ⊥
views_told netlist order kept image word remarks fit none =
    let few = few_storages netlist order kept in
    let given = views_given netlist netlist.storages kept.formed.storages (omega (arith, few)) image word None remarks fit in
    none-some given.0 (sym none ∙ given.1)
