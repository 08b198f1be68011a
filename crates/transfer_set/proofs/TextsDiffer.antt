-- Different expressions of a netlist have different texts.
use Rattle.std.proofs.Common.{◌≡◌, ◌≢◌, ◌⊎◌, inl, inr, not, ℕ, zero, suc, ◌+◌, ◌-◌, ◌*◌, ◌/◌, ◌%◌, ◌^◌, ◌<◌, ◌≤◌, ◌==◌, ◌&&◌, ◌||◌, nat_eq, if◌then◌else◌, Bool, true, false, true≢false, List, [], ◌∷◌, ◌++◌, codes, length, map, Some, slice_get, refl, sym, ap, subst, ◌∙◌, append_assoc, arith}
use Rattle.std.specs.List.{concat}
use Rattle.std.specs.Cmp.Lexicographic.{pointwise}
use Rattle.std.specs.Fmt.{decimal}
use Rattle.std.proofs.lemmas.Fmt.{decimal_by_steps}
use Rattle.std.specs.List.{AllByRecursion, IsDistinct, list_all}
use Rattle.std.proofs.lemmas.Bool.{eqb-true}
use Rattle.rec_bits.proofs.Booleans.{or_left}
use Rattle.rec_bits.specs.declared.operator.Op1.{Op1}
use Rattle.rec_bits.specs.declared.operator.Op1.TheVariants.{Not, Neg}
use Rattle.rec_bits.specs.declared.operator.Op2.{Op2}
use Rattle.rec_bits.specs.declared.operator.Op2.TheVariants.{Add, Sub, Mul, And, Or, Xor, Shl, Shr, Sar, Eq, Ltu, Lts}
use Rattle.rec_bits.proofs.Equality.{name_self}
use Rattle.net_model.proofs.Storages.{same_space}
use Rattle.net_model.specs.declared.hardware.Space.{Space}
use Rattle.net_model.specs.declared.hardware.Netlist.{Netlist}
use Rattle.net_model.specs.declared.hardware.Code.{Code}
use Rattle.net_model.specs.declared.hardware.Storage.{Storage}
use Rattle.net_model.specs.declared.hardware.Storage.TheVariants.{Register, Memory, File}
use Rattle.net_model.specs.CheckedRules.{NamesDiffer, storage_names}
use Rattle.net_model.specs.Exprs.{ExprModel, word, reg, const, read, un, bin, slice, cat, zext, sext, select}
use Rattle.net_model.specs.Nets.{place_in, storage_bits, storage_name, width_in}
use Rattle.net_model.specs.Texts.{first_name, space_name, name_of, op1_text, op2_text, name_in, expr_text}
use Rattle.transfer_set.specs.TextMarks.{Closes, HasPlainNames, IsExprOf, Marks, Plain, is_close, is_mark}

-- ---- pieces

marked : (x : List ℕ) → Closes x → Marks x
marked [] c = tt
marked (b ∷ x) c = or_left (is_close b) _ c

-- a text is told apart at its first mark
split : (h k x y : List ℕ) → Plain h → Plain k → Marks x → Marks y → h ++ x ≡ k ++ y → (h ≡ k) × (x ≡ y)
split [] [] x y p q a b e = (refl, e)
split [] (k ∷ ks) [] y p q a b e = absurd (cc)
split [] (k ∷ ks) (c ∷ x) y p q a b e = (let s : c ≡ k = cc in absurd (true≢false (sym a ∙ ap is_mark s ∙ q.0)))
split (h ∷ hs) [] x [] p q a b e = absurd (cc)
split (h ∷ hs) [] x (c ∷ y) p q a b e = (let s : h ≡ c = cc in absurd (true≢false (sym b ∙ ap is_mark (sym s) ∙ p.0)))
split (h ∷ hs) (k ∷ ks) x y p q a b e =
    let s : h ≡ k = cc in
    let t : hs ++ x ≡ ks ++ y = cc in
    let r = split hs ks x y p.1 q.1 a b t in
    ((λ j. s j ∷ r.0 j), r.1)

joined : List (List ℕ) → List ℕ → List ℕ
joined [] x = x
joined (l ∷ ls) x = l ++ joined ls x

joins : (ls : List (List ℕ)) (x : List ℕ) → concat ls ++ x ≡ joined ls x
unfolding joined
joins [] x = refl
joins (l ∷ ls) x = append_assoc l (concat ls) x ∙ ap (λ r. l ++ r) (joins ls x)

-- ---- heads

data Kind : Type 0 where
  leaf : Kind
  one : Op1 → Kind
  two : Op2 → Kind
  reads slices cats zexts sexts selects : Kind

abbrev kind_of : ExprModel → Kind
kind_of (read space a w) = reads
kind_of (un o a) = one o
kind_of (bin o a b) = two o
kind_of (slice a hi lo) = slices
kind_of (cat a b) = cats
kind_of (zext a w) = zexts
kind_of (sext a w) = sexts
kind_of (select c a b) = selects
kind_of _ = leaf

module _ (netlist : Netlist) where
  abbrev head : ExprModel → List ℕ
  head (word w) = first_name netlist.codes
  head (reg r w) = name_of netlist r
  head (const w v) = decimal v
  head (read space a w) = codes "read"
  head (un o a) = op1_text o
  head (bin o a b) = op2_text o
  head (slice a hi lo) = codes "slice"
  head (cat a b) = codes "cat"
  head (zext a w) = codes "zext"
  head (sext a w) = codes "sext"
  head (select c a b) = codes "select"

  abbrev tail : ExprModel → List ℕ → List ℕ
  tail (word w) x = x
  tail (reg r w) x = x
  tail (const w v) x = 35 ∷ (decimal w ++ x)
  tail (read space a w) x = 40 ∷ (space_name netlist space ++ (44 ∷ (expr_text netlist a ++ (41 ∷ x))))
  tail (un o a) x = 40 ∷ (expr_text netlist a ++ (41 ∷ x))
  tail (bin o a b) x = 40 ∷ (expr_text netlist a ++ (44 ∷ (expr_text netlist b ++ (41 ∷ x))))
  tail (slice a hi lo) x = 40 ∷ (expr_text netlist a ++ (44 ∷ (decimal hi ++ (44 ∷ (decimal lo ++ (41 ∷ x))))))
  tail (cat a b) x = 40 ∷ (expr_text netlist a ++ (44 ∷ (expr_text netlist b ++ (41 ∷ x))))
  tail (zext a w) x = 40 ∷ (expr_text netlist a ++ (44 ∷ (decimal w ++ (41 ∷ x))))
  tail (sext a w) x = 40 ∷ (expr_text netlist a ++ (44 ∷ (decimal w ++ (41 ∷ x))))
  tail (select c a b) x = 40 ∷ (expr_text netlist c ++ (44 ∷ (expr_text netlist a ++ (44 ∷ (expr_text netlist b ++ (41 ∷ x))))))

  parts : (t : ExprModel) (x : List ℕ) → expr_text netlist t ++ x ≡ head t ++ tail t x
  unfolding joined
  parts (word w) x = refl
  parts (reg r w) x = refl
  parts (const w v) x = joins (decimal v ∷ codes "#" ∷ decimal w ∷ []) x
  parts (read space a w) x = joins (codes "read(" ∷ space_name netlist space ∷ codes "," ∷ expr_text netlist a ∷ codes ")" ∷ []) x
  parts (un o a) x = joins (op1_text o ∷ codes "(" ∷ expr_text netlist a ∷ codes ")" ∷ []) x
  parts (bin o a b) x = joins (op2_text o ∷ codes "(" ∷ expr_text netlist a ∷ codes "," ∷ expr_text netlist b ∷ codes ")" ∷ []) x
  parts (slice a hi lo) x = joins (codes "slice(" ∷ expr_text netlist a ∷ codes "," ∷ decimal hi ∷ codes "," ∷ decimal lo ∷ codes ")" ∷ []) x
  parts (cat a b) x = joins (codes "cat(" ∷ expr_text netlist a ∷ codes "," ∷ expr_text netlist b ∷ codes ")" ∷ []) x
  parts (zext a w) x = joins (codes "zext(" ∷ expr_text netlist a ∷ codes "," ∷ decimal w ∷ codes ")" ∷ []) x
  parts (sext a w) x = joins (codes "sext(" ∷ expr_text netlist a ∷ codes "," ∷ decimal w ∷ codes ")" ∷ []) x
  parts (select c a b) x = joins (codes "select(" ∷ expr_text netlist c ∷ codes "," ∷ expr_text netlist a ∷ codes "," ∷ expr_text netlist b ∷ codes ")" ∷ []) x

-- ---- what a head tells

abbrev look : List (List ℕ × Kind) → List ℕ → Kind
look [] s = leaf
look (e ∷ es) s = if pointwise nat_eq e.0 s then e.1 else look es s

abbrev kind_at : List ℕ → Kind
kind_at s =
    look ((codes "not", one Not) ∷ (codes "neg", one Neg)
    ∷ (codes "add", two Add) ∷ (codes "sub", two Sub) ∷ (codes "mul", two Mul) ∷ (codes "and", two And) ∷ (codes "or", two Or) ∷ (codes "xor", two Xor)
    ∷ (codes "shl", two Shl) ∷ (codes "shr", two Shr) ∷ (codes "sar", two Sar) ∷ (codes "eq", two Eq) ∷ (codes "ltu", two Ltu) ∷ (codes "lts", two Lts)
    ∷ (codes "read", reads) ∷ (codes "slice", slices) ∷ (codes "cat", cats) ∷ (codes "zext", zexts) ∷ (codes "sext", sexts) ∷ (codes "select", selects) ∷ []) s

one_told : (o : Op1) → kind_at (op1_text o) ≡ one o
one_told Not = refl
one_told Neg = refl

two_told : (o : Op2) → kind_at (op2_text o) ≡ two o
two_told Add = refl
two_told Sub = refl
two_told Mul = refl
two_told And = refl
two_told Or = refl
two_told Xor = refl
two_told Shl = refl
two_told Shr = refl
two_told Sar = refl
two_told Eq = refl
two_told Ltu = refl
two_told Lts = refl

kind_told : (netlist : Netlist) (t : ExprModel) → kind_of t ≢ leaf → kind_at (head netlist t) ≡ kind_of t
kind_told netlist (read space a w) n = refl
kind_told netlist (un o a) n = one_told o
kind_told netlist (bin o a b) n = two_told o
kind_told netlist (slice a hi lo) n = refl
kind_told netlist (cat a b) n = refl
kind_told netlist (zext a w) n = refl
kind_told netlist (sext a w) n = refl
kind_told netlist (select c a b) n = refl
kind_told netlist _ n = absurd (n refl)

-- ---- numbers

differs : (c k : ℕ) → (c ≡ k → ⊥) → (c == k) ≡ false
differs c k n = by (c == k) refl
  where
    by : (b : Bool) → (c == k) ≡ b → (c == k) ≡ false
    by true e = absurd (n (eqb-true c k e))
    by false e = e

digit_plain : (c : ℕ) → 48 ≤ c → c ≤ 57 → is_mark c ≡ false
digit_plain c low high =
    let a = differs c 44 (λ e. omega (arith, e, low)) in
    let b = differs c 41 (λ e. omega (arith, e, low)) in
    let d = differs c 93 (λ e. omega (arith, e, high)) in
    let f = differs c 35 (λ e. omega (arith, e, low)) in
    let g = differs c 40 (λ e. omega (arith, e, low)) in
    let h = differs c 91 (λ e. omega (arith, e, high)) in
    let i = differs c 32 (λ e. omega (arith, e, low)) in
    (λ j. (a j || b j || d j) || (f j || g j || h j || i j))

plain_push : (ds : List ℕ) (c : ℕ) → Plain ds → is_mark c ≡ false → Plain (ds ++ c ∷ [])
plain_push [] c p e = (e, tt)
plain_push (d ∷ ds) c p e = (p.0, plain_push ds c p.1 e)

plain_decimal : (n : ℕ) → n < 2 ^ 64 → Plain (decimal n)
plain_decimal n lt =
    decimal_by_steps (λ m ds. Plain ds)
    (λ m small. (digit_plain (48 + m) (omega arith) (omega (arith, small)), tt))
    (λ m ds big p. plain_push ds (48 + m % 10) p (digit_plain (48 + m % 10) (omega arith) (let r : m % 10 < 10 = omega arith in omega (arith, r))))
    n lt

abbrev value_from : ℕ → List ℕ → ℕ
value_from n [] = n
value_from n (d ∷ ds) = value_from (10 * n + (d - 48)) ds

value_push : (n c : ℕ) (ds : List ℕ) → value_from n (ds ++ c ∷ []) ≡ 10 * value_from n ds + (c - 48)
value_push n c [] = refl
value_push n c (d ∷ ds) = value_push (10 * n + (d - 48)) c ds

value_is : (n : ℕ) → n < 2 ^ 64 → value_from 0 (decimal n) ≡ n
value_is n lt =
    decimal_by_steps (λ m ds. value_from 0 ds ≡ m)
    (λ m small. (let e : 10 * 0 + (48 + m - 48) ≡ m = omega arith in e))
    (λ m ds big e. value_push 0 (48 + m % 10) ds ∙ (let r : 10 * (m / 10) + (48 + m % 10 - 48) ≡ m = omega arith in ap (λ q. 10 * q + (48 + m % 10 - 48)) e ∙ r))
    n lt

number_told : (m n : ℕ) → m < 2 ^ 64 → n < 2 ^ 64 → decimal m ≡ decimal n → m ≡ n
number_told m n a b e = sym (value_is m a) ∙ ap (value_from 0) e ∙ value_is n b

-- ---- names

no_other : (x : List ℕ) (names : List (List ℕ)) (j : ℕ) → AllByRecursion (λ y. pointwise nat_eq x y ≡ false) names → slice_get names j ≡ Some x → ⊥
no_other x [] j all b = cc
no_other x (y ∷ names) zero all b = (let e : y ≡ x = cc in true≢false (sym (name_self x) ∙ ap (pointwise nat_eq x) (sym e) ∙ all.0))
no_other x (y ∷ names) (suc j) all b = no_other x names j all.1 b

-- a name that stands at two places stands at one
once : (names : List (List ℕ)) → IsDistinct (pointwise nat_eq) names → (i j : ℕ) (s : List ℕ) → slice_get names i ≡ Some s → slice_get names j ≡ Some s → i ≡ j
unfolding IsDistinct
once [] d i j s a b = absurd (cc)
once (x ∷ names) d zero zero s a b = refl
once (x ∷ names) d zero (suc j) s a b = absurd (no_other x names j d.0 (b ∙ sym a))
once (x ∷ names) d (suc i) zero s a b = absurd (no_other x names i d.0 (a ∙ sym b))
once (x ∷ names) d (suc i) (suc j) s a b = ap suc (once names d.1 i j s a b)

-- ---- what names stand for

registers_at : (storages : List Storage) (more : List (List ℕ)) (r : ℕ) → r < length storages → slice_get (map storage_name storages ++ more) r ≡ Some (name_in (slice_get storages r))
registers_at [] more r lt = absurd (omega (arith, lt))
registers_at (Register name width input when ∷ storages) more zero lt = refl
registers_at (Memory cells ∷ storages) more zero lt = refl
registers_at (File cells ∷ storages) more zero lt = refl
registers_at (storage ∷ storages) more (suc r) lt = registers_at storages more r (omega (arith, lt))

code_at : (storages : List Storage) (codes : List Code) → length codes ≡ 1 → slice_get (map storage_name storages ++ map (λ (code : Code). code.name) codes) (length storages) ≡ Some (first_name codes)
code_at [] [] e = absurd (omega (arith, e))
code_at [] (code ∷ codes) e = refl
code_at (storage ∷ storages) codes e = code_at storages codes e

module _ (netlist : Netlist) (names : NamesDiffer netlist) (one : length netlist.codes ≡ 1) where
  pub same_register : (r q : ℕ) → r < length netlist.storages → q < length netlist.storages → name_of netlist r ≡ name_of netlist q → r ≡ q
  same_register r q a b e =
      once (storage_names netlist) names r q (name_of netlist q)
      (registers_at netlist.storages (map (λ (code : Code). code.name) netlist.codes) r a ∙ ap Some e)
      (registers_at netlist.storages (map (λ (code : Code). code.name) netlist.codes) q b)

  no_code : (r : ℕ) → r < length netlist.storages → name_of netlist r ≡ first_name netlist.codes → ⊥
  no_code r lt e =
      let same : r ≡ length netlist.storages = once (storage_names netlist) names r (length netlist.storages) (first_name netlist.codes)
      (registers_at netlist.storages (map (λ (code : Code). code.name) netlist.codes) r lt ∙ ap Some e)
      (code_at netlist.storages netlist.codes one) in
      omega (arith, same, lt)

-- ---- kinds

abbrev tag : Kind → ℕ
tag leaf = 0
tag (one o) = 1
tag (two o) = 2
tag reads = 3
tag slices = 4
tag cats = 5
tag zexts = 6
tag sexts = 7
tag selects = 8

is_leaf : (t : ExprModel) → (kind_of t ≡ leaf) ⊎ (kind_of t ≢ leaf)
is_leaf (word w) = inl refl
is_leaf (reg r w) = inl refl
is_leaf (const w v) = inl refl
is_leaf _ = inr (λ e. omega (arith, ap tag e))

one_same : (o p : Op1) → one o ≡ one p → o ≡ p
one_same o p e = cc

two_same : (o p : Op2) → two o ≡ two p → o ≡ p
two_same o p e = cc

first_of : (b c : ℕ) (x y : List ℕ) → b ∷ x ≡ c ∷ y → b ≡ c
first_of b c x y e = cc

rest_of : (b c : ℕ) (x y : List ℕ) → b ∷ x ≡ c ∷ y → x ≡ y
rest_of b c x y e = cc

plain_of : (s : List ℕ) → list_all (λ b. not (is_mark b)) s ≡ true → Plain s
plain_of [] e = tt
plain_of (b ∷ s) e = by (is_mark b) refl (plain_of s) e
  where
    by : (m : Bool) → is_mark b ≡ m → (list_all (λ c. not (is_mark c)) s ≡ true → Plain s) → (not m && list_all (λ c. not (is_mark c)) s) ≡ true → Plain (b ∷ s)
    by true q rest e = absurd (true≢false (sym e))
    by false q rest e = (q, rest e)

plain_one : (o : Op1) → Plain (op1_text o)
plain_one Not = plain_of (codes "not") refl
plain_one Neg = plain_of (codes "neg") refl

plain_two : (o : Op2) → Plain (op2_text o)
plain_two Add = plain_of (codes "add") refl
plain_two Sub = plain_of (codes "sub") refl
plain_two Mul = plain_of (codes "mul") refl
plain_two And = plain_of (codes "and") refl
plain_two Or = plain_of (codes "or") refl
plain_two Xor = plain_of (codes "xor") refl
plain_two Shl = plain_of (codes "shl") refl
plain_two Shr = plain_of (codes "shr") refl
plain_two Sar = plain_of (codes "sar") refl
plain_two Eq = plain_of (codes "eq") refl
plain_two Ltu = plain_of (codes "ltu") refl
plain_two Lts = plain_of (codes "lts") refl

-- ---- expressions

module _ (netlist : Netlist) (plain : HasPlainNames netlist) (names : NamesDiffer netlist) (code : length netlist.codes ≡ 1) where
  plain_head : (t : ExprModel) → IsExprOf netlist t → Plain (head netlist t)
  plain_head (word w) f = plain.code
  plain_head (reg r w) f = plain.storages r
  plain_head (const w v) f = plain_decimal v f.1
  plain_head (read space a w) f = plain_of (codes "read") refl
  plain_head (un o a) f = plain_one o
  plain_head (bin o a b) f = plain_two o
  plain_head (slice a hi lo) f = plain_of (codes "slice") refl
  plain_head (cat a b) f = plain_of (codes "cat") refl
  plain_head (zext a w) f = plain_of (codes "zext") refl
  plain_head (sext a w) f = plain_of (codes "sext") refl
  plain_head (select c a b) f = plain_of (codes "select") refl

  marks : (t : ExprModel) (x : List ℕ) → Closes x → Marks (tail netlist t x)
  marks (word w) x c = marked x c
  marks (reg r w) x c = marked x c
  marks _ x c = refl

  told : (t u : ExprModel) → IsExprOf netlist t → IsExprOf netlist u → (x y : List ℕ) → Closes x → Closes y → expr_text netlist t ++ x ≡ expr_text netlist u ++ y
      → (head netlist t ≡ head netlist u) × (tail netlist t x ≡ tail netlist u y)
  told t u f g x y c d e =
      split (head netlist t) (head netlist u) (tail netlist t x) (tail netlist u y) (plain_head t f) (plain_head u g) (marks t x c) (marks u y d)
      (sym (parts netlist t x) ∙ e ∙ parts netlist u y)

  -- an operator's text goes on with a bracket, and that of a leaf doesn't
  no_leaf : (t u : ExprModel) → kind_of t ≢ leaf → kind_of u ≡ leaf → (x y : List ℕ) → Closes y → tail netlist t x ≡ tail netlist u y → ⊥
  no_leaf t (word v) n m x y d e = opens t n x (subst Closes (sym e) d)
    where
      opens : (t : ExprModel) → kind_of t ≢ leaf → (x : List ℕ) → Closes (tail netlist t x) → ⊥
      opens (word w) n x c = n refl
      opens (reg r w) n x c = n refl
      opens _ n x c = true≢false (sym c)
  no_leaf t (reg r v) n m x y d e = opens t n x (subst Closes (sym e) d)
    where
      opens : (t : ExprModel) → kind_of t ≢ leaf → (x : List ℕ) → Closes (tail netlist t x) → ⊥
      opens (word w) n x c = n refl
      opens (reg r w) n x c = n refl
      opens _ n x c = true≢false (sym c)
  no_leaf t (const w v) n m x y d e = opens t n x e
    where
      opens : (t : ExprModel) → kind_of t ≢ leaf → (x : List ℕ) → tail netlist t x ≡ 35 ∷ (decimal w ++ y) → ⊥
      opens (word v) n x e = n refl
      opens (reg r v) n x e = n refl
      opens (const v k) n x e = n refl
      opens _ n x e = omega (arith, first_of _ _ _ _ e)
  no_leaf t u n m x y d e = omega (arith, ap tag m)

  same_kind : (t u : ExprModel) (x y : List ℕ) → Closes x → Closes y → head netlist t ≡ head netlist u → tail netlist t x ≡ tail netlist u y → kind_of t ≡ kind_of u
  same_kind t u x y c d h e = by (is_leaf t) (is_leaf u)
    where
      by : ((kind_of t ≡ leaf) ⊎ (kind_of t ≢ leaf)) → ((kind_of u ≡ leaf) ⊎ (kind_of u ≢ leaf)) → kind_of t ≡ kind_of u
      by (inl n) (inl m) = n ∙ sym m
      by (inl n) (inr m) = absurd (no_leaf u t m n y x c (sym e))
      by (inr n) (inl m) = absurd (no_leaf t u n m x y d e)
      by (inr n) (inr m) = sym (kind_told netlist t n) ∙ ap kind_at h ∙ kind_told netlist u m

  after : (space other : Space) → place_in space netlist.storages < length netlist.storages → place_in other netlist.storages < length netlist.storages → (p q : List ℕ) → space_name netlist space ++ (44 ∷ p) ≡ space_name netlist other ++ (44 ∷ q) → (space ≡ other) × (p ≡ q)
  after space other h k p q e =
      let s = split (space_name netlist space) (space_name netlist other) (44 ∷ p) (44 ∷ q) (plain.storages (place_in space netlist.storages)) (plain.storages (place_in other netlist.storages)) refl refl e in
      (same_space space other netlist.storages h (same_register netlist names code (place_in space netlist.storages) (place_in other netlist.storages) h k s.0), rest_of 44 44 p q s.1)

  number_then : (m n b : ℕ) (p q : List ℕ) → is_mark b ≡ true → m < 2 ^ 64 → n < 2 ^ 64 → decimal m ++ (b ∷ p) ≡ decimal n ++ (b ∷ q) → (m ≡ n) × (p ≡ q)
  number_then m n b p q k f g e =
      let s = split (decimal m) (decimal n) (b ∷ p) (b ∷ q) (plain_decimal m f) (plain_decimal n g) k k e in
      (number_told m n f g s.0, rest_of b b p q s.1)

  -- texts that are equal are those of equal expressions, whatever closes them
  pub differ : (t u : ExprModel) → IsExprOf netlist t → IsExprOf netlist u → (x y : List ℕ) → Closes x → Closes y → expr_text netlist t ++ x ≡ expr_text netlist u ++ y → (t ≡ u) × (x ≡ y)
  differ (word w) (word v) f g x y c d e = (ap word (f ∙ sym g), (told (word w) (word v) f g x y c d e).1)
  differ (word w) (reg r v) f g x y c d e = absurd (no_code netlist names code r g.0 (sym (told (word w) (reg r v) f g x y c d e).0))
  differ (word w) u f g x y c d e = absurd (true≢false (sym (subst Closes (told (word w) u f g x y c d e).1 c)))
  differ (reg r w) (word v) f g x y c d e = absurd (no_code netlist names code r f.0 (told (reg r w) (word v) f g x y c d e).0)
  differ (reg r w) (reg q v) f g x y c d e =
      let s = told (reg r w) (reg q v) f g x y c d e in
      let same = same_register netlist names code r q f.0 g.0 s.0 in
      let wide = f.1 ∙ ap (λ n. storage_bits (slice_get netlist.storages n)) same ∙ sym g.1 in
      ((λ j. reg (same j) (wide j)), s.1)
  differ (reg r w) u f g x y c d e = absurd (true≢false (sym (subst Closes (told (reg r w) u f g x y c d e).1 c)))
  differ (const w v) (const k n) f g x y c d e =
      let s = told (const w v) (const k n) f g x y c d e in
      let r = split (decimal w) (decimal k) x y (plain_decimal w f.0) (plain_decimal k g.0) (marked x c) (marked y d) (rest_of 35 35 _ _ s.1) in
      let wide = number_told w k f.0 g.0 r.0 in
      let same = number_told v n f.1 g.1 s.0 in
      ((λ j. const (wide j) (same j)), r.1)
  differ (const w v) (word k) f g x y c d e = absurd (true≢false (sym (subst Closes (sym (told (const w v) (word k) f g x y c d e).1) d)))
  differ (const w v) (reg r k) f g x y c d e = absurd (true≢false (sym (subst Closes (sym (told (const w v) (reg r k) f g x y c d e).1) d)))
  differ (read space a w) (read other b v) f g x y c d e =
      let s = told (read space a w) (read other b v) f g x y c d e in
      let n = after space other f.2 g.2 _ _ (rest_of 40 40 _ _ s.1) in
      let r = differ a b f.0 g.0 (41 ∷ x) (41 ∷ y) refl refl n.1 in
      let wide = f.1 ∙ ap (λ (sp : Space). width_in sp netlist.storages) n.0 ∙ sym g.1 in
      ((λ j. read (n.0 j) (r.0 j) (wide j)), rest_of 41 41 x y r.1)
  differ (un o a) (un p b) f g x y c d e =
      let s = told (un o a) (un p b) f g x y c d e in
      let r = differ a b f g (41 ∷ x) (41 ∷ y) refl refl (rest_of 40 40 _ _ s.1) in
      let same = one_same o p (same_kind (un o a) (un p b) x y c d s.0 s.1) in
      ((λ j. un (same j) (r.0 j)), rest_of 41 41 x y r.1)
  differ (bin o a b) (bin p k l) f g x y c d e =
      let s = told (bin o a b) (bin p k l) f g x y c d e in
      let q = differ a k f.0 g.0 (44 ∷ (expr_text netlist b ++ (41 ∷ x))) (44 ∷ (expr_text netlist l ++ (41 ∷ y))) refl refl (rest_of 40 40 _ _ s.1) in
      let r = differ b l f.1 g.1 (41 ∷ x) (41 ∷ y) refl refl (rest_of 44 44 _ _ q.1) in
      let same = two_same o p (same_kind (bin o a b) (bin p k l) x y c d s.0 s.1) in
      ((λ j. bin (same j) (q.0 j) (r.0 j)), rest_of 41 41 x y r.1)
  differ (slice a hi lo) (slice b i l) f g x y c d e =
      let s = told (slice a hi lo) (slice b i l) f g x y c d e in
      let q = differ a b f.0 g.0 (44 ∷ (decimal hi ++ (44 ∷ (decimal lo ++ (41 ∷ x))))) (44 ∷ (decimal i ++ (44 ∷ (decimal l ++ (41 ∷ y))))) refl refl (rest_of 40 40 _ _ s.1) in
      let h = number_then hi i 44 (decimal lo ++ (41 ∷ x)) (decimal l ++ (41 ∷ y)) refl f.1 g.1 (rest_of 44 44 _ _ q.1) in
      let k = number_then lo l 41 x y refl f.2 g.2 h.1 in
      ((λ j. slice (q.0 j) (h.0 j) (k.0 j)), k.1)
  differ (cat a b) (cat k l) f g x y c d e =
      let s = told (cat a b) (cat k l) f g x y c d e in
      let q = differ a k f.0 g.0 (44 ∷ (expr_text netlist b ++ (41 ∷ x))) (44 ∷ (expr_text netlist l ++ (41 ∷ y))) refl refl (rest_of 40 40 _ _ s.1) in
      let r = differ b l f.1 g.1 (41 ∷ x) (41 ∷ y) refl refl (rest_of 44 44 _ _ q.1) in
      ((λ j. cat (q.0 j) (r.0 j)), rest_of 41 41 x y r.1)
  differ (zext a w) (zext b v) f g x y c d e =
      let s = told (zext a w) (zext b v) f g x y c d e in
      let q = differ a b f.0 g.0 (44 ∷ (decimal w ++ (41 ∷ x))) (44 ∷ (decimal v ++ (41 ∷ y))) refl refl (rest_of 40 40 _ _ s.1) in
      let h = number_then w v 41 x y refl f.1 g.1 (rest_of 44 44 _ _ q.1) in
      ((λ j. zext (q.0 j) (h.0 j)), h.1)
  differ (sext a w) (sext b v) f g x y c d e =
      let s = told (sext a w) (sext b v) f g x y c d e in
      let q = differ a b f.0 g.0 (44 ∷ (decimal w ++ (41 ∷ x))) (44 ∷ (decimal v ++ (41 ∷ y))) refl refl (rest_of 40 40 _ _ s.1) in
      let h = number_then w v 41 x y refl f.1 g.1 (rest_of 44 44 _ _ q.1) in
      ((λ j. sext (q.0 j) (h.0 j)), h.1)
  differ (select k a b) (select l m n) f g x y c d e =
      let s = told (select k a b) (select l m n) f g x y c d e in
      let h = differ k l f.0 g.0 (44 ∷ (expr_text netlist a ++ (44 ∷ (expr_text netlist b ++ (41 ∷ x))))) (44 ∷ (expr_text netlist m ++ (44 ∷ (expr_text netlist n ++ (41 ∷ y))))) refl refl (rest_of 40 40 _ _ s.1) in
      let q = differ a m f.1 g.1 (44 ∷ (expr_text netlist b ++ (41 ∷ x))) (44 ∷ (expr_text netlist n ++ (41 ∷ y))) refl refl (rest_of 44 44 _ _ h.1) in
      let r = differ b n f.2 g.2 (41 ∷ x) (41 ∷ y) refl refl (rest_of 44 44 _ _ q.1) in
      ((λ j. select (h.0 j) (q.0 j) (r.0 j)), rest_of 41 41 x y r.1)
  differ t u f g x y c d e =
      let s = told t u f g x y c d e in
      absurd (omega (arith, ap tag (same_kind t u x y c d s.0 s.1)))
