-- A program that keeps the rules of widths and counters: what is known of its expressions and
-- statements.
use Rattle.std.proofs.Common.{◌≡◌, ℕ, ◌+◌, ◌≤◌, ◌<◌, ◌^◌, Bool, true, false, ◌||◌, nat_lt, nat_le, ◌==◌, if◌then◌else◌, is_some, List, [], ◌∷◌, ◌++◌, None, Result, Ok, Err, refl, sym, ap, subst, ◌∙◌, arith, eqb-true}
use Rattle.std.proofs.lemmas.Bool.Decides.{nat_tests}
use Rattle.rec_bits.specs.Operators.{result_width}
use Rattle.rec_bits.specs.declared.operator.Op2.{Op2}
use Rattle.rec_bits.specs.declared.operator.Op2.TheVariants.{Add, Sub, Mul, And, Or, Xor, Shl, Shr, Sar, Eq, Ltu, Lts}
use Rattle.rec_bits.specs.Faults.{offsets_if, least}
use Rattle.rec_bits.proofs.Booleans.{left_false, right_false}
use Rattle.rec_bits.proofs.Lists.{append_none}
use Rattle.src_model.specs.Written.{SrcNodeModel, num, plain, element, un, bin, zext, sext, low, SrcExprModel, SpotModel, StmtModel, assign, choice, while, count, StmtsModel, no_acts, act, ElseModel, without, otherwise, ProgramModel, stmts_of}
use Rattle.src_model.specs.Widths.{is_literal, whole, alike, asking, operated, extended, lowered, side_by_side, wide, sides, misfit}
use Rattle.src_model.specs.Loops.{Round, place_shape, breaks, breaks_in, breaks_else, changes_rule, miscounted, counters}
use Rattle.src_model.specs.Rules.{widths, first_fault}
use Rattle.src_model.specs.Meaning.{shape_width, operand_width}
use Rattle.src_model.specs.Fitting.{Fitting, FitsWord, FitsSides}
use Rattle.src_model.specs.Inner.Fitting.{FitsCount, FitsStmt, FitsStmts, FitsElse}
use Rattle.src_model.proofs.Bounds.{rules_hold}

ok_is : (a b : ℕ) → (let r : Result ℕ ℕ = Ok a in r) ≡ Ok b → a ≡ b
ok_is a b e = ap width_in e
  where
    width_in : Result ℕ ℕ → ℕ
    width_in (Ok n) = n
    width_in (Err n) = 0

not_ok : {A : Type 0} (at b : ℕ) → (let r : Result ℕ ℕ = Err at in r) ≡ Ok b → A
not_ok at b e = absurd (cc e)

-- a test that chose Ok holds
chosen : (t : Bool) (a b c : ℕ) → (if t then Ok a else Err b) ≡ Ok c → (t ≡ true) × (a ≡ c)
chosen true a b c e = (refl, ok_is a c e)
chosen false a b c e = not_ok b c e

-- ---- literals

literal_width : (word asked : ℕ) (e : SrcNodeModel) → is_literal e ≡ true → shape_width word asked e ≡ asked
literal_width word asked (num n) h = refl
literal_width word asked (un op at x) h = literal_width word asked x h
literal_width word asked (plain name at) h = absurd (cc h)
literal_width word asked (element name at to x) h = absurd (cc h)
literal_width word asked (bin op at x to y) h = absurd (cc h)
literal_width word asked (zext at x width) h = absurd (cc h)
literal_width word asked (sext at x width) h = absurd (cc h)
literal_width word asked (low at x width) h = absurd (cc h)

-- what is asked for is nothing to any other expression
other_width : (word a b : ℕ) (e : SrcNodeModel) → is_literal e ≡ false → shape_width word a e ≡ shape_width word b e
other_width word a b (num n) h = absurd (cc h)
other_width word a b (un op at x) h = other_width word a b x h
other_width word a b (plain name at) h = refl
other_width word a b (element name at to x) h = refl
other_width word a b (bin op at x to y) h = refl
other_width word a b (zext at x width) h = refl
other_width word a b (sext at x width) h = refl
other_width word a b (low at x width) h = refl

other_fitting : (word a b : ℕ) (e : SrcNodeModel) → is_literal e ≡ false → Fitting word a e → Fitting word b e
other_fitting word a b (num n) h f = absurd (cc h)
other_fitting word a b (un op at x) h f = other_fitting word a b x h f
other_fitting word a b (plain name at) h f = f
other_fitting word a b (element name at to x) h f = f
other_fitting word a b (bin op at x to y) h f = f
other_fitting word a b (zext at x width) h f = f
other_fitting word a b (sext at x width) h f = f
other_fitting word a b (low at x width) h f = f

-- ---- expressions

-- an expression that keeps the rule has this width
pub record Wide (word asked : ℕ) (e : SrcNodeModel) (width : ℕ) : Type 0 where
  pub parts : Fitting word asked e
  pub is : shape_width word asked e ≡ width

-- the sides of an operator or a test
pub record Sided (word : ℕ) (x y : SrcNodeModel) (width : ℕ) : Type 0 where
  pub sides : FitsSides word x y
  pub is : operand_width word x y ≡ width

-- both sides at the width of one of them
sides_at : (word width : ℕ) (x y : SrcNodeModel) → operand_width word x y ≡ width → Wide word width x width → Wide word width y width → Sided word x y width
sides_at word width x y o l r = record {
  sides = record {
    left = subst (λ w. Fitting word w x) (sym o) l.parts;
    right = subst (λ w. Fitting word w y) (sym o) r.parts;
    left_width = subst (λ w. shape_width word w x ≡ w) (sym o) l.is;
    right_width = subst (λ w. shape_width word w y ≡ w) (sym o) r.is;
  };
  is = o;
}

at_other : (word a b : ℕ) (e : SrcNodeModel) (width : ℕ) → is_literal e ≡ false → Wide word a e width → Wide word b e width
at_other word a b e width h w = record { parts = other_fitting word a b e h w.parts; is = sym (other_width word a b e h) ∙ w.is }

first_side : (word : ℕ) (x y : SrcNodeModel) → is_literal x ≡ false → operand_width word x y ≡ shape_width word word x
first_side word x y h = ap (λ (b : Bool). if b then shape_width word word y else shape_width word word x) h

second_side : (word : ℕ) (x y : SrcNodeModel) → is_literal x ≡ true → operand_width word x y ≡ shape_width word word y
second_side word x y h = ap (λ (b : Bool). if b then shape_width word word y else shape_width word word x) h

sided : (word : ℕ) (x y : SrcNodeModel) (at to width : ℕ) (lx ly : Bool) → is_literal x ≡ lx → is_literal y ≡ ly
    → ((asked w : ℕ) → wide word asked at x ≡ Ok w → Wide word asked x w) → ((asked w : ℕ) → wide word asked to y ≡ Ok w → Wide word asked y w)
    → side_by_side lx ly to (wide word word at x) (wide word word to y) (λ w. wide word w at x) (λ w. wide word w to y) ≡ Ok width → Sided word x y width
sided word x y at to width true false hx hy fx fy e = by (wide word word to y) refl e
  where
    by : (r : Result ℕ ℕ) → wide word word to y ≡ r → asking r (λ w. wide word w at x) ≡ Ok width → Sided word x y width
    by (Err f) is k = not_ok f width k
    by (Ok v) is k =
        let wy = fy word v is in
        let wx = fx v width k in
        let same : v ≡ width = sym (literal_width word v x hx) ∙ wx.is in
        sides_at word width x y (second_side word x y hx ∙ wy.is ∙ same) (subst (λ w. Wide word w x width) same wx) (at_other word word width y width hy (subst (Wide word word y) same wy))
sided word x y at to width false true hx hy fx fy e = by (wide word word at x) refl e
  where
    by : (r : Result ℕ ℕ) → wide word word at x ≡ r → asking r (λ w. wide word w to y) ≡ Ok width → Sided word x y width
    by (Err f) is k = not_ok f width k
    by (Ok v) is k =
        let wx = fx word v is in
        let wy = fy v width k in
        let same : v ≡ width = sym (literal_width word v y hy) ∙ wy.is in
        sides_at word width x y (first_side word x y hx ∙ wx.is ∙ same) (at_other word word width x width hx (subst (Wide word word x) same wx)) (subst (λ w. Wide word w y width) same wy)
sided word x y at to width true true hx hy fx fy e = by (wide word word at x) (wide word word to y) refl refl e
  where
    by : (r q : Result ℕ ℕ) → wide word word at x ≡ r → wide word word to y ≡ q → alike to r q ≡ Ok width → Sided word x y width
    by (Ok v) (Ok u) is its k =
        let wx = fx word v is in
        let wy = fy word u its in
        let same : word ≡ v = sym (literal_width word word x hx) ∙ wx.is in
        let that : word ≡ u = sym (literal_width word word y hy) ∙ wy.is in
        let end : v ≡ width = (chosen (u == v) v to width k).1 in
        let all : word ≡ width = same ∙ end in
        sides_at word width x y (second_side word x y hx ∙ wy.is ∙ sym that ∙ all) (subst (λ w. Wide word w x width) all (subst (Wide word word x) end wx))
        (subst (λ w. Wide word w y width) all (subst (Wide word word y) (sym that ∙ all) wy))
    by (Ok v) (Err g) is its k = not_ok g width k
    by (Err f) (Ok u) is its k = not_ok f width k
    by (Err f) (Err g) is its k = absurd (cc k)
sided word x y at to width false false hx hy fx fy e = by (wide word word at x) (wide word word to y) refl refl e
  where
    by : (r q : Result ℕ ℕ) → wide word word at x ≡ r → wide word word to y ≡ q → alike to r q ≡ Ok width → Sided word x y width
    by (Ok v) (Ok u) is its k =
        let wx = fx word v is in
        let wy = fy word u its in
        let k2 = chosen (u == v) v to width k in
        let that : u ≡ width = eqb-true u v k2.0 ∙ k2.1 in
        sides_at word width x y (first_side word x y hx ∙ wx.is ∙ k2.1) (at_other word word width x width hx (subst (Wide word word x) k2.1 wx))
        (at_other word word width y width hy (subst (Wide word word y) that wy))
    by (Ok v) (Err g) is its k = not_ok g width k
    by (Err f) (Ok u) is its k = not_ok f width k
    by (Err f) (Err g) is its k = absurd (cc k)

whole_is : (word at width : ℕ) (r : Result ℕ ℕ) → whole word at r ≡ Ok width → (r ≡ Ok word) × (word ≡ width)
whole_is word at width (Err f) k = not_ok f width k
whole_is word at width (Ok v) k =
    let c = chosen (v == word) word at width k in
    (ap (λ w. Ok w) (eqb-true v word c.0), c.1)

extended_is : (to at width : ℕ) (r : Result ℕ ℕ) → extended to at r ≡ Ok width → (v : ℕ) × (r ≡ Ok v) × (v < to) × (to ≤ 64) × (to ≡ width)
extended_is to at width (Err f) k = not_ok f width k
extended_is to at width (Ok v) k =
    let c = chosen _ to at width k in
    let t = c.0 in
    (v, refl, grind (arith, nat_tests, t), grind (arith, nat_tests, t), c.1)

lowered_is : (to at width : ℕ) (r : Result ℕ ℕ) → lowered to at r ≡ Ok width → (v : ℕ) × (r ≡ Ok v) × (1 ≤ to) × (to < v) × (to ≡ width)
lowered_is to at width (Err f) k = not_ok f width k
lowered_is to at width (Ok v) k =
    let c = chosen _ to at width k in
    let t = c.0 in
    (v, refl, grind (arith, nat_tests, t), grind (arith, nat_tests, t), c.1)

operated_is : (f : ℕ → ℕ) (width : ℕ) (r : Result ℕ ℕ) → operated f r ≡ Ok width → (v : ℕ) × (r ≡ Ok v) × (f v ≡ width)
operated_is f width (Err g) k = not_ok g width k
operated_is f width (Ok v) k = (v, refl, ok_is (f v) width k)

-- an expression whose width the rule tells
pub wide_is : (word asked here : ℕ) (e : SrcNodeModel) (width : ℕ) → wide word asked here e ≡ Ok width → Wide word asked e width
wide_is word asked here (num n) width k =
    let c = chosen (nat_lt n (2 ^ asked)) asked here width k in
    let t = c.0 in
    record { parts = grind (arith, nat_tests, t); is = c.1 }
wide_is word asked here (plain name at) width k = record { parts = tt; is = ok_is word width k }
wide_is word asked here (element name at to x) width k =
    let w = whole_is word to width (wide word word to x) k in
    let i = wide_is word word to x word w.0 in
    record { parts = (i.parts, i.is); is = w.1 }
wide_is word asked here (un op at x) width k = let i = wide_is word asked at x width k in record { parts = i.parts; is = i.is }
wide_is word asked here (bin op at x to y) width k =
    let o = operated_is (result_width op) width _ k in
    let s = sided word x y at to o.0 (is_literal x) (is_literal y) refl refl (λ a w. wide_is word a at x w) (λ a w. wide_is word a to y w) o.1 in
    record { parts = (s.sides.left, s.sides.right, s.sides.left_width, s.sides.right_width); is = ap (result_width op) s.is ∙ o.2 }
wide_is word asked here (zext at x to) width k =
    let c = extended_is to here width (wide word word at x) k in
    let i = wide_is word word at x c.0 c.1 in
    record { parts = (i.parts, omega (arith, c.2, i.is), c.3); is = c.4 }
wide_is word asked here (sext at x to) width k =
    let c = extended_is to here width (wide word word at x) k in
    let i = wide_is word word at x c.0 c.1 in
    record { parts = (i.parts, omega (arith, c.2, i.is), c.3); is = c.4 }
wide_is word asked here (low at x to) width k =
    let c = lowered_is to here width (wide word word at x) k in
    let i = wide_is word word at x c.0 c.1 in
    record { parts = (i.parts, c.2, omega (arith, c.3, i.is)); is = c.4 }

-- ---- statements

-- no offset of a misfit: there is a width
fit_is : (r : Result ℕ ℕ) → misfit r ≡ [] → (width : ℕ) × (r ≡ Ok width)
fit_is (Ok width) h = (width, refl)
fit_is (Err at) h = absurd (cc h)

word_fits : (word at : ℕ) (e : SrcNodeModel) → misfit (whole word at (wide word word at e)) ≡ [] → FitsWord word e
word_fits word at e h =
    let f = fit_is (whole word at (wide word word at e)) h in
    let w = whole_is word at f.0 (wide word word at e) f.1 in
    let i = wide_is word word at e word w.0 in
    record { parts = i.parts; width = i.is }

place_fits : (word : ℕ) (place : SpotModel) → misfit (wide word word place.at (place_shape place)) ≡ [] → Fitting word word (place_shape place)
place_fits word place h =
    let f = fit_is (wide word word place.at (place_shape place)) h in
    (wide_is word word place.at (place_shape place) f.0 f.1).parts

pub test_fits : (word : ℕ) (left right : SrcExprModel) → misfit (sides word left right) ≡ [] → FitsSides word left.shape right.shape
test_fits word left right h =
    let f = fit_is (sides word left right) h in
    (sided word left.shape right.shape left.at right.at f.0 (is_literal left.shape) (is_literal right.shape) refl refl
    (λ a w. wide_is word a left.at left.shape w) (λ a w. wide_is word a right.at right.shape w) f.1).sides

pub not_broken : (b : Bool) (at : ℕ) → offsets_if b at ≡ [] → b ≡ false
not_broken false at h = refl
not_broken true at h = absurd (cc h)

count_fits : (word : ℕ) (round : Round) (body : StmtsModel) → miscounted word round body ≡ false → FitsCount word round.from round.to
count_fits word round body h =
    let t = right_false (is_some (least (breaks_in (changes_rule round.counter) [] body)) || nat_lt (round.to + 1) round.from) (nat_le (2 ^ word) (round.to + 1)) h in
    let s = right_false (is_some (least (breaks_in (changes_rule round.counter) [] body))) (nat_lt (round.to + 1) round.from) (left_false _ _ h) in
    record { order = grind (arith, nat_tests, s); below = grind (arith, nat_tests, t) }

mutual
  stmt_fits : (word : ℕ) (rounds : List Round) (a : StmtModel) → breaks (widths word) rounds a ≡ [] → breaks (counters word) rounds a ≡ [] → FitsStmt word a
  stmt_fits word rounds (assign place e) h g = let p = append_none _ _ h in (place_fits word place p.0, word_fits word e.at e.shape p.1)
  stmt_fits word rounds (choice test taken other) h g =
      let p = append_none (misfit (sides word test.left test.right) ++ breaks_in (widths word) rounds taken) _ h in
      let q = append_none (misfit (sides word test.left test.right)) _ p.0 in
      let r = append_none (breaks_in (counters word) rounds taken) _ g in
      (test_fits word test.left test.right q.0, stmts_fit word rounds taken q.1 r.0, else_fits word rounds other p.1 r.1)
  stmt_fits word rounds (while test body) h g =
      let p = append_none (misfit (sides word test.left test.right)) _ h in
      (test_fits word test.left test.right p.0, stmts_fit word rounds body p.1 g)
  stmt_fits word rounds (count counter at from to body) h g =
      let here : Round = record { counter = counter; from = from; to = to } in
      let r = append_none (offsets_if (miscounted word here body) at) _ g in
      (count_fits word here body (not_broken _ at r.0), stmts_fit word (here ∷ rounds) body h r.1)

  stmts_fit : (word : ℕ) (rounds : List Round) (list : StmtsModel) → breaks_in (widths word) rounds list ≡ [] → breaks_in (counters word) rounds list ≡ [] → FitsStmts word list
  stmts_fit word rounds no_acts h g = tt
  stmts_fit word rounds (act a rest) h g =
      let p = append_none (breaks (widths word) rounds a) _ h in
      let q = append_none (breaks (counters word) rounds a) _ g in
      (stmt_fits word rounds a p.0 q.0, stmts_fit word rounds rest p.1 q.1)

  else_fits : (word : ℕ) (rounds : List Round) (o : ElseModel) → breaks_else (widths word) rounds o ≡ [] → breaks_else (counters word) rounds o ≡ [] → FitsElse word o
  else_fits word rounds without h g = tt
  else_fits word rounds (otherwise body) h g = stmts_fit word rounds body h g

-- a program that keeps the rules
pub program_fits : (word : ℕ) (l : ProgramModel) → first_fault word l ≡ None → FitsStmts word (stmts_of l.body)
program_fits word l h =
    let r = rules_hold word l h in
    stmts_fit word [] (stmts_of l.body) (append_none _ _ r.widths_fit).1 r.counters_kept

-- ---- widths of 1 to 64 bits

abbrev pub IsWide : ℕ → Type 0
IsWide width = (1 ≤ width) × (width ≤ 64)

operands_wide : (word : ℕ) (x y : SrcNodeModel) (lx ly : Bool) → is_literal x ≡ lx → is_literal y ≡ ly → IsWide word
    → (Fitting word word x → IsWide (shape_width word word x)) → (Fitting word word y → IsWide (shape_width word word y))
    → Fitting word (operand_width word x y) x → Fitting word (operand_width word x y) y → IsWide (operand_width word x y)
operands_wide word x y true true hx hy w fx fy l r = subst IsWide (sym (literal_width word word y hy) ∙ sym (second_side word x y hx)) w
operands_wide word x y true false hx hy w fx fy l r = subst IsWide (sym (second_side word x y hx)) (fy (other_fitting word (operand_width word x y) word y hy r))
operands_wide word x y false ly hx hy w fx fy l r = subst IsWide (sym (first_side word x y hx)) (fx (other_fitting word (operand_width word x y) word x hx l))

result_wide : (op : Op2) (width : ℕ) → IsWide width → IsWide (result_width op width)
result_wide Eq width w = (omega arith, omega arith)
result_wide Ltu width w = (omega arith, omega arith)
result_wide Lts width w = (omega arith, omega arith)
result_wide Add width w = w
result_wide Sub width w = w
result_wide Mul width w = w
result_wide And width w = w
result_wide Or width w = w
result_wide Xor width w = w
result_wide Shl width w = w
result_wide Shr width w = w
result_wide Sar width w = w

-- an expression that fits has such a width
pub width_wide : (word asked : ℕ) (e : SrcNodeModel) → IsWide word → IsWide asked → Fitting word asked e → IsWide (shape_width word asked e)
width_wide word asked (num n) w a f = a
width_wide word asked (plain name at) w a f = w
width_wide word asked (element name at to x) w a f = w
width_wide word asked (un op at x) w a f = width_wide word asked x w a f
width_wide word asked (bin op at x to y) w a f =
    result_wide op (operand_width word x y) (operands_wide word x y (is_literal x) (is_literal y) refl refl w (λ g. width_wide word word x w w g) (λ g. width_wide word word y w w g) f.0 f.1)
width_wide word asked (zext at x to) w a f = let i = width_wide word word x w w f.0 in (omega (arith, i, f.1), f.2)
width_wide word asked (sext at x to) w a f = let i = width_wide word word x w w f.0 in (omega (arith, i, f.1), f.2)
width_wide word asked (low at x to) w a f = let i = width_wide word word x w w f.0 in (f.1, omega (arith, i, f.2))

-- and so have operands
pub sides_wide : (word : ℕ) (x y : SrcNodeModel) → IsWide word → Fitting word (operand_width word x y) x → Fitting word (operand_width word x y) y → IsWide (operand_width word x y)
sides_wide word x y w l r = operands_wide word x y (is_literal x) (is_literal y) refl refl w (λ g. width_wide word word x w w g) (λ g. width_wide word word y w w g) l r
