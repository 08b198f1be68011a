-- The bits of a match and of its cuts' cells are among those that occur in the form.
use Rattle.std.proofs.Common.{◌≡◌, ℕ, ◌+◌, ◌-◌, ◌*◌, ◌%◌, ◌^◌, ◌<◌, ◌≤◌, ◌==◌, ◌&&◌, ◌⊎◌, inl, inr, not, max, nat_lt, bit_or, Bool, true, false, if◌then◌else◌, List, [], ◌∷◌, ◌++◌, drop, length, Option, Some, None, refl, sym, ap, ◌∙◌, subst, arith}
use Rattle.std.specs.Prelude.{slice_index}
use Rattle.std.specs.Int.{bit_at}
use Rattle.std.proofs.lemmas.Nat.Bits.{bit_at-zero, bit_at_or, bit_at_above, bit_at_mask_inside, bit_at_ones}
use Rattle.std.proofs.lemmas.Bool.{ltb-true, cases_lt}
use Rattle.rec_bits.specs.Operators.{sext_of}
use Rattle.net_model.specs.declared.hardware.Space.TheVariants.{Memory as InMemory, File as InFile}
use Rattle.net_model.specs.Exprs.{ExprModel, word, reg, const, read, un, bin, slice, cat, zext, sext, select, expr_width}
use Rattle.net_model.specs.Fields.{fields, bits_between}
use Rattle.form_model.specs.Trees.{is_number, is_cell}
use Rattle.form_model.specs.Shapes.{Sum, is_shape, field_setting, less_by, plain_setting, shape_setting, shows_below, sum_setting, summands}
use Rattle.form_model.specs.Matches.{HomeModel, in_register, in_file, LeafModel, operand, cut, MatchModel, open_if, both, shape_match, literal_match, cell_match, read_match, un_match, bin_match, slice_match, zext_match, sext_match, matched, same_op1, same_op2}
use Rattle.form_model.specs.Covers.{operands_of}
use Rattle.form_model.specs.Steps.{CutCellsModel, bits_or_none, cells_setting, home_setting, homes_setting, cut_cells}
use Rattle.rec_bits.specs.declared.operator.Op1.{Op1}
use Rattle.rec_bits.specs.declared.operator.Op2.{Op2}
use Rattle.rec_bits.specs.declared.operator.Op2.TheVariants.{Add}
use Rattle.rec_bits.proofs.Booleans.{either}
use Rattle.rec_bits.proofs.Options.{picked}
use Rattle.form_model.proofs.FieldLaws.{then_some_true}
use Rattle.form_model.proofs.SettingLaws.{up_low, up_high}
use Rattle.emit_seq.proofs.BitUnions.{zero_left, zero_right}
use Rattle.form_model.proofs.SumNumbers.{sum_is_with}
use Rattle.emit_seq.proofs.Matched.{Joined, joined, Literal, literal, opened, pair_bits, open_bits, none_open, bits_in}

-- ---- a shape's setting has none but its bits

above_between : (hi lo k : ℕ) → bit_at (bits_between hi lo) k ≡ 0 → (k < lo) ⊎ (hi < k)
above_between hi lo k h = elim (cases_lt k lo) as (λ _. (k < lo) ⊎ (hi < k)) [ inl l ↦ inl l | inr l ↦ high l (cases_lt hi k) ]
  where
    high : lo ≤ k → (hi < k) ⊎ (k ≤ hi) → (k < lo) ⊎ (hi < k)
    high l (inl m) = inr m
    high l (inr m) = let e : bit_at (bits_between hi lo) k ≡ 1 = bit_at_mask_inside lo (hi + 1) k l (omega arith) in absurd (omega (arith, e, h))

field_within : (e : ExprModel) (v bits : ℕ) → field_setting e v ≡ Some bits → (k : ℕ) → bit_at (fields e) k ≡ 0 → bit_at bits k ≡ 0
field_within (word w) v bits h k z =
    let p : (nat_lt v (2 ^ w) ≡ true) × (v ≡ bits) = then_some_true _ _ _ h in
    elim (cases_lt k w) as (λ _. bit_at bits k ≡ 0) [
      | inl l ↦ let e : bit_at (2 ^ w - 1) k ≡ 1 = bit_at_ones w k l in absurd (omega (arith, e, z))
      | inr l ↦ ap (λ n. bit_at n k) (sym p.1) ∙ bit_at_above v w k (ltb-true v (2 ^ w) p.0) l
    ]
field_within (slice (word w) hi lo) v bits h k z =
    let p : (nat_lt v (2 ^ (hi + 1 - lo)) ≡ true) × (v * 2 ^ lo ≡ bits) = then_some_true _ _ _ h in
    ap (λ n. bit_at n k) (sym p.1) ∙ outside (ltb-true v (2 ^ (hi + 1 - lo)) p.0) (above_between hi lo k z) (cases_lt k lo)
  where
    outside : v < 2 ^ (hi + 1 - lo) → (k < lo) ⊎ (hi < k) → (k < lo) ⊎ (lo ≤ k) → bit_at (v * 2 ^ lo) k ≡ 0
    outside l (inl m) n = up_low v lo k m
    outside l (inr m) (inl n) = up_low v lo k n
    outside l (inr m) (inr n) = up_high v lo k n ∙ bit_at_above v (hi + 1 - lo) (k - lo) l (omega arith)
field_within e v bits h k z = absurd (cc)

plain_within : (e : ExprModel) (v bits : ℕ) → plain_setting e v ≡ Some bits → (k : ℕ) → bit_at (fields e) k ≡ 0 → bit_at bits k ≡ 0
plain_within (const w c) v bits h k z = let p : ((v == c) ≡ true) × (0 ≡ bits) = then_some_true _ _ _ h in ap (λ n. bit_at n k) (sym p.1) ∙ bit_at-zero k
plain_within (zext a w) v bits h k z = field_within a v bits h k z
plain_within (sext a w) v bits h k z =
    let p : ((sext_of (v % 2 ^ expr_width a) (expr_width a) w == v) ≡ true) × (field_setting a (v % 2 ^ expr_width a) ≡ Some bits) = picked _ _ _ h in
    field_within a (v % 2 ^ expr_width a) bits p.1 k z
plain_within (word w) v bits h k z = field_within (word w) v bits h k z
plain_within (slice a hi lo) v bits h k z = field_within (slice a hi lo) v bits h k z
plain_within e v bits h k z = absurd (cc)

no_bits : (a b k : ℕ) → bit_at (bit_or a b) k ≡ 0 → (bit_at a k ≡ 0) × (bit_at b k ≡ 0)
no_bits a b k z = (omega (arith, bit_at_or a b k, z), omega (arith, bit_at_or a b k, z))

sum_within : (a b : ExprModel) (s : Sum) (v bits : ℕ) → summands a b ≡ Some s → plain_setting s.to v ≡ Some bits → (k : ℕ) → bit_at (bit_or (fields a) (fields b)) k ≡ 0 → bit_at bits k ≡ 0
sum_within (const w c) b s v bits e h k z =
    plain_within b v bits (subst (λ (y : Sum). plain_setting y.to v ≡ Some bits) (sym (sum_is_with w c b s e).is) h) k (no_bits 0 (fields b) k z).1
sum_within a (const w c) s v bits e h k z =
    plain_within a v bits (subst (λ (y : Sum). plain_setting y.to v ≡ Some bits) (sym (sum_is_with w c a s e).is) h) k (no_bits (fields a) 0 k z).0
sum_within a b s v bits e h k z = absurd (cc)

pub shape_within : (e : ExprModel) (v bits : ℕ) → shape_setting e v ≡ Some bits → (k : ℕ) → bit_at (fields e) k ≡ 0 → bit_at bits k ≡ 0
shape_within (bin Add a b) v bits h k z = by (summands a b) refl h
  where
    by : (o : Option Sum) → summands a b ≡ o → sum_setting o v ≡ Some bits → bit_at bits k ≡ 0
    by None e h = absurd (cc)
    by (Some s) e h = sum_within a b s (less_by s.width v s.added) bits e (picked _ _ _ h).1 k z
shape_within (bin _ a b) v bits h k z = absurd (cc)
shape_within (const w c) v bits h k z = plain_within (const w c) v bits h k z
shape_within (zext a w) v bits h k z = plain_within (zext a w) v bits h k z
shape_within (sext a w) v bits h k z = plain_within (sext a w) v bits h k z
shape_within (word w) v bits h k z = plain_within (word w) v bits h k z
shape_within (slice a hi lo) v bits h k z = plain_within (slice a hi lo) v bits h k z
shape_within e v bits h k z = absurd (cc)

pub none_within : (o : Option ℕ) (k : ℕ) → ((b : ℕ) → o ≡ Some b → bit_at b k ≡ 0) → bit_at (bits_or_none o) k ≡ 0
none_within None k f = bit_at-zero k
none_within (Some b) k f = f b refl

-- ---- matches

-- the cuts are those of the leaves' cuts
abbrev pub Named : List LeafModel → List CutCellsModel → List (Option ℕ) → Type 0
Named [] cuts homes = (cuts ≡ []) × (homes ≡ [])
Named (operand id tree whole ∷ leaves) cuts [] = ⊥
Named (operand id tree whole ∷ leaves) cuts (h ∷ homes) = Named leaves cuts homes
Named (cut shape tree ∷ leaves) [] homes = ⊥
Named (cut shape tree ∷ leaves) (cells ∷ cuts) homes = (cells.shape ≡ shape) × Named leaves cuts homes

pub cuts_named : (leaves : List LeafModel) (ks ls : List ℕ) (n : ℕ) (homes : List (Option ℕ)) → length homes ≡ length (operands_of leaves) → Named leaves (cut_cells leaves ks ls n) homes
cuts_named [] ks ls n [] e = (refl, refl)
cuts_named [] ks ls n (h ∷ homes) e = absurd (omega (arith, e))
cuts_named (operand id tree whole ∷ leaves) ks ls n [] e = absurd (omega (arith, e))
cuts_named (operand id tree whole ∷ leaves) ks ls n (h ∷ homes) e = cuts_named leaves (drop 1 ks) ls (n + slice_index ks 0) homes (omega (arith, e))
cuts_named (cut shape tree ∷ leaves) ks ls n homes e = (refl, cuts_named leaves ks (drop 1 ls) (n + slice_index ls 0 + 1) homes e)

pub record NamedSplit (xs ys : List LeafModel) (cuts : List CutCellsModel) (homes : List (Option ℕ)) : Type 0 where
  pub front : List CutCellsModel
  pub back : List CutCellsModel
  pub fronts : List (Option ℕ)
  pub backs : List (Option ℕ)
  pub first : Named xs front fronts
  pub second : Named ys back backs
  pub bits_of : (k : ℕ) → bit_at (open_bits (xs ++ ys) cuts homes) k ≡ max (bit_at (open_bits xs front fronts) k) (bit_at (open_bits ys back backs) k)

pub named_split : (xs ys : List LeafModel) (cuts : List CutCellsModel) (homes : List (Option ℕ)) → Named (xs ++ ys) cuts homes → NamedSplit xs ys cuts homes
named_split [] ys cuts homes h = record {
  front = [];
  back = cuts;
  fronts = [];
  backs = homes;
  first = (refl, refl);
  second = h;
  bits_of = λ k. omega (arith, bit_at_or 0 0 k, bit_at-zero k);
}
named_split (operand id tree whole ∷ xs) ys cuts [] h = absurd h
named_split (operand id tree whole ∷ xs) ys cuts (c ∷ homes) h =
    let s : NamedSplit xs ys cuts homes = named_split xs ys cuts homes h in
    let own : ℕ = home_setting id c in
    let all : ℕ = homes_setting (operands_of (xs ++ ys)) homes in
    let some : ℕ = homes_setting (operands_of xs) s.fronts in
    record {
      front = s.front;
      back = s.back;
      fronts = c ∷ s.fronts;
      backs = s.backs;
      first = s.first;
      second = s.second;
      bits_of = λ k. omega (
        arith,
        bit_at_or (cells_setting cuts) (bit_or own all) k,
        bit_at_or own all k,
        bit_at_or (cells_setting cuts) all k,
        bit_at_or (cells_setting s.front) (bit_or own some) k,
        bit_at_or own some k,
        bit_at_or (cells_setting s.front) some k,
        s.bits_of k,
      );
    }
named_split (cut shape tree ∷ xs) ys [] homes h = absurd h
named_split (cut shape tree ∷ xs) ys (cells ∷ cuts) homes h =
    let s : NamedSplit xs ys cuts homes = named_split xs ys cuts homes h.1 in
    let own : ℕ = bits_or_none (shape_setting cells.shape cells.cell) in
    let all : ℕ = homes_setting (operands_of (xs ++ ys)) homes in
    let some : ℕ = homes_setting (operands_of xs) s.fronts in
    record {
      front = cells ∷ s.front;
      back = s.back;
      fronts = s.fronts;
      backs = s.backs;
      first = (h.0, s.first);
      second = s.second;
      bits_of = λ k. omega (
        arith,
        bit_at_or (bit_or own (cells_setting cuts)) all k,
        bit_at_or own (cells_setting cuts) k,
        bit_at_or (cells_setting cuts) all k,
        bit_at_or (bit_or own (cells_setting s.front)) some k,
        bit_at_or own (cells_setting s.front) k,
        bit_at_or (cells_setting s.front) some k,
        s.bits_of k,
      );
    }

-- the bits of a match are among those of the expression
abbrev pub IsIn : ℕ → MatchModel → List CutCellsModel → List (Option ℕ) → Type 0
IsIn mask f cuts homes = (k : ℕ) → bit_at mask k ≡ 0 → bit_at (bits_in f cuts homes) k ≡ 0

pub pair_in : (x y f : MatchModel) (cuts front back : List CutCellsModel) (homes fronts backs : List (Option ℕ)) (a b : ℕ) → record { setting = bit_or x.setting y.setting; leaves = x.leaves ++ y.leaves } ≡ f
    → ((k : ℕ) → bit_at (open_bits (x.leaves ++ y.leaves) cuts homes) k ≡ max (bit_at (open_bits x.leaves front fronts) k) (bit_at (open_bits y.leaves back backs) k)) → IsIn a x front fronts → IsIn b y back backs → IsIn (bit_or a b) f cuts homes
pair_in x y f cuts front back homes fronts backs a b e g p q k z =
    omega (arith, pair_bits x y f cuts front back homes fronts backs e g k, p k (zero_left a b k z), q k (zero_right a b k z))

shape_in : (e t : ExprModel) (f : MatchModel) (cuts : List CutCellsModel) (homes : List (Option ℕ)) → shape_match e t ≡ Some f → Named f.leaves cuts homes → IsIn (fields e) f cuts homes
shape_in e t f cuts homes h n k z =
    let l : Literal e t f = literal e t f h in
    let none : (cuts ≡ []) × (homes ≡ []) = subst (λ (y : MatchModel). Named y.leaves cuts homes) (sym l.is) n in
    ap (λ (y : MatchModel). bit_at (bits_in y cuts homes) k) (sym l.is) ∙ ap (λ y. bit_at (bit_or l.bits (open_bits [] y homes)) k) none.0
    ∙ ap (λ y. bit_at (bit_or l.bits (open_bits [] [] y)) k) none.1 ∙ none_open l.bits k
    ∙ shape_within e l.value l.bits l.shown k z

module _ (temps : ℕ) where
  abbrev IsKept : ExprModel → Type 0
  IsKept a = (t : ExprModel) (whole : Bool) (f : MatchModel) (cuts : List CutCellsModel) (homes : List (Option ℕ)) → matched temps a t whole ≡ Some f → Named f.leaves cuts homes → IsIn (fields a) f cuts homes

  -- the bits of one operand
  home_in : (home : HomeModel) (mask : ℕ) (t : ExprModel) (whole : Bool) (cuts : List CutCellsModel) (homes : List (Option ℕ)) → ((h : Option ℕ) (k : ℕ) → bit_at mask k ≡ 0 → bit_at (home_setting home h) k ≡ 0)
      → Named (operand home t whole ∷ []) cuts homes → (k : ℕ) → bit_at mask k ≡ 0 → bit_at (bit_or 0 (open_bits (operand home t whole ∷ []) cuts homes)) k ≡ 0
  home_in home mask t whole cuts [] g n k z = absurd n
  home_in home mask t whole cuts (h ∷ hs) g n k z =
      ap (λ y. bit_at (bit_or 0 (open_bits (operand home t whole ∷ []) y (h ∷ hs))) k) n.0
      ∙ ap (λ y. bit_at (bit_or 0 (open_bits (operand home t whole ∷ []) [] (h ∷ y))) k) n.1
      ∙ omega (arith, bit_at_or 0 (bit_or 0 (bit_or (home_setting home h) 0)) k, bit_at_or 0 (bit_or (home_setting home h) 0) k, bit_at_or (home_setting home h) 0 k, bit_at-zero k, g h k z)

  reg_in : (id w : ℕ) → IsKept (reg id w)
  reg_in id w t whole f cuts homes h n k z =
      let p : ((w == expr_width t) ≡ true) × (record { setting = 0; leaves = operand (in_register id) t whole ∷ [] } ≡ f) = opened _ _ _ h in
      ap (λ (y : MatchModel). bit_at (bits_in y cuts homes) k) (sym p.1)
      ∙ home_in (in_register id) 0 t whole cuts homes (λ c j q. bit_at-zero j) (subst (λ (y : MatchModel). Named y.leaves cuts homes) (sym p.1) n) k (bit_at-zero k)

  file_in : (a : ExprModel) (w : ℕ) → IsKept (read InFile a w)
  file_in a w t whole f cuts homes h n k z =
      let p : ((w == expr_width t) ≡ true) × (record { setting = 0; leaves = operand (in_file a) t whole ∷ [] } ≡ f) = opened _ _ _ h in
      ap (λ (y : MatchModel). bit_at (bits_in y cuts homes) k) (sym p.1)
      ∙ home_in (in_file a) (fields a) t whole cuts homes named (subst (λ (y : MatchModel). Named y.leaves cuts homes) (sym p.1) n) k z
    where
      named : (c : Option ℕ) (j : ℕ) → bit_at (fields a) j ≡ 0 → bit_at (home_setting (in_file a) c) j ≡ 0
      named None j q = bit_at-zero j
      named (Some c) j q = none_within (shape_setting a c) j (λ b e. shape_within a c b e j q)

  un_in : (a : ExprModel) (op : Op1) → IsKept a → (t : ExprModel) (f : MatchModel) (cuts : List CutCellsModel) (homes : List (Option ℕ)) → un_match (matched temps a) op t ≡ Some f → Named f.leaves cuts homes → IsIn (fields a) f cuts homes
  un_in a op ih (un o b) f cuts homes h n =
      let p : (same_op1 o op ≡ true) × (matched temps a b false ≡ Some f) = picked _ _ _ h in ih b false f cuts homes p.1 n
  un_in a op ih t f cuts homes h n = absurd (cc)

  bin_in : (a b : ExprModel) (op : Op2) → IsKept a → IsKept b → (t : ExprModel) (f : MatchModel) (cuts : List CutCellsModel) (homes : List (Option ℕ)) → bin_match (matched temps a) (matched temps b) op t ≡ Some f
      → Named f.leaves cuts homes → IsIn (bit_or (fields a) (fields b)) f cuts homes
  bin_in a b op iha ihb (bin o c d) f cuts homes h n =
      let p : (same_op2 o op ≡ true) × (both (matched temps a c false) (matched temps b d false) ≡ Some f) = picked _ _ _ h in
      let j : Joined (matched temps a c false) (matched temps b d false) f = joined _ _ _ p.1 in
      let s : NamedSplit j.first.leaves j.second.leaves cuts homes = named_split j.first.leaves j.second.leaves cuts homes (subst (λ (y : MatchModel). Named y.leaves cuts homes) (sym j.is) n) in
      pair_in j.first j.second f cuts s.front s.back homes s.fronts s.backs (fields a) (fields b) j.is s.bits_of (iha c false j.first s.front s.fronts j.is_first s.first) (ihb d false j.second s.back s.backs j.is_second s.second)
  bin_in a b op iha ihb t f cuts homes h n = absurd (cc)

  read_in : (a : ExprModel) (w : ℕ) → IsKept a → (t : ExprModel) (f : MatchModel) (cuts : List CutCellsModel) (homes : List (Option ℕ)) → read_match (matched temps a) w t ≡ Some f → Named f.leaves cuts homes → IsIn (fields a) f cuts homes
  read_in a w ih (read InMemory b v) f cuts homes h n =
      let p : ((v == w) ≡ true) × (matched temps a b (is_number b) ≡ Some f) = picked _ _ _ h in ih b (is_number b) f cuts homes p.1 n
  read_in a w ih t f cuts homes h n = absurd (cc)

  number_in : (a t : ExprModel) (f : MatchModel) (cuts : List CutCellsModel) (homes : List (Option ℕ)) → literal_match a t ≡ Some f → Named f.leaves cuts homes → IsIn (fields a) f cuts homes
  number_in a (read InMemory b v) f cuts homes h n = shape_in a b f cuts homes h n
  number_in a t f cuts homes h n = absurd (cc)

  cut_in : (a t : ExprModel) (b : Bool) (f : MatchModel) (cuts : List CutCellsModel) (homes : List (Option ℕ)) → open_if b (cut a t) ≡ Some f → Named f.leaves cuts homes → IsIn (fields a) f cuts homes
  cut_in a t b f [] homes h n k z =
      let p : (b ≡ true) × (record { setting = 0; leaves = cut a t ∷ [] } ≡ f) = opened _ _ _ h in
      absurd (subst (λ (y : MatchModel). Named y.leaves [] homes) (sym p.1) n)
  cut_in a t b f (cells ∷ cuts) homes h n k z =
      let p : (b ≡ true) × (record { setting = 0; leaves = cut a t ∷ [] } ≡ f) = opened _ _ _ h in
      let held : (cells.shape ≡ a) × ((cuts ≡ []) × (homes ≡ [])) = subst (λ (y : MatchModel). Named y.leaves (cells ∷ cuts) homes) (sym p.1) n in
      let there : ℕ = bits_or_none (shape_setting cells.shape cells.cell) in
      ap (λ (y : MatchModel). bit_at (bits_in y (cells ∷ cuts) homes) k) (sym p.1)
      ∙ ap (λ y. bit_at (bit_or 0 (bit_or (bit_or there (cells_setting y)) (homes_setting [] homes))) k) held.1.0
      ∙ omega (arith, bit_at_or 0 (bit_or (bit_or there 0) 0) k, bit_at_or (bit_or there 0) 0 k, bit_at_or there 0 k, bit_at-zero k)
      ∙ ap (λ y. bit_at (bits_or_none (shape_setting y cells.cell)) k) held.0
      ∙ none_within (shape_setting a cells.cell) k (λ c e. shape_within a cells.cell c e k z)

  cell_in : (a : ExprModel) (w : ℕ) (t : ExprModel) (whole : Bool) (f : MatchModel) (cuts : List CutCellsModel) (homes : List (Option ℕ)) → cell_match temps a w t whole ≡ Some f → Named f.leaves cuts homes → IsIn (fields a) f cuts homes
  cell_in a w t whole f cuts homes h n =
      let p : ((w == expr_width t) ≡ true)
      × ((if is_cell t then literal_match a t else open_if (not whole && shows_below a temps) (cut a t)) ≡ Some f) = picked _ _ _ h in
      elim (either (is_cell t) (literal_match a t) (open_if (not whole && shows_below a temps) (cut a t)) (Some f) p.1) as (λ _. IsIn (fields a) f cuts homes) [
        | inl l ↦ number_in a t f cuts homes l n
        | inr l ↦ cut_in a t _ f cuts homes l n
      ]

  slice_in : (a : ExprModel) (hi lo : ℕ) → IsKept a → (t : ExprModel) (f : MatchModel) (cuts : List CutCellsModel) (homes : List (Option ℕ)) → slice_match (matched temps a) (expr_width a) hi lo t ≡ Some f → Named f.leaves cuts homes → IsIn (fields a) f cuts homes
  slice_in a hi lo ih (slice b h' l') f cuts homes h n =
      let p : (((expr_width b == expr_width a) && ((h' == hi) && (l' == lo))) ≡ true) × (matched temps a b false ≡ Some f) = picked _ _ _ h in ih b false f cuts homes p.1 n
  slice_in a hi lo ih t f cuts homes h n = absurd (cc)

  zext_in : (a : ExprModel) (w : ℕ) → IsKept a → (t : ExprModel) (f : MatchModel) (cuts : List CutCellsModel) (homes : List (Option ℕ)) → zext_match (matched temps a) (expr_width a) w t ≡ Some f → Named f.leaves cuts homes → IsIn (fields a) f cuts homes
  zext_in a w ih (zext b v) f cuts homes h n =
      let p : (((expr_width b == expr_width a) && (v == w)) ≡ true) × (matched temps a b false ≡ Some f) = picked _ _ _ h in ih b false f cuts homes p.1 n
  zext_in a w ih t f cuts homes h n = absurd (cc)

  sext_in : (a : ExprModel) (w : ℕ) → IsKept a → (t : ExprModel) (f : MatchModel) (cuts : List CutCellsModel) (homes : List (Option ℕ)) → sext_match (matched temps a) (expr_width a) w t ≡ Some f → Named f.leaves cuts homes → IsIn (fields a) f cuts homes
  sext_in a w ih (sext b v) f cuts homes h n =
      let p : (((expr_width b == expr_width a) && (v == w)) ≡ true) × (matched temps a b false ≡ Some f) = picked _ _ _ h in ih b false f cuts homes p.1 n
  sext_in a w ih t f cuts homes h n = absurd (cc)

  pub matched_in : (e : ExprModel) → IsKept e
  matched_in (word w) t whole f cuts homes h n = shape_in (word w) t f cuts homes h n
  matched_in (const w v) t whole f cuts homes h n = shape_in (const w v) t f cuts homes h n
  matched_in (reg id w) t whole f cuts homes h n = reg_in id w t whole f cuts homes h n
  matched_in (read InFile a w) t whole f cuts homes h n = file_in a w t whole f cuts homes h n
  matched_in (read InMemory a w) t whole f cuts homes h n =
      elim (either (is_shape a) (cell_match temps a w t whole) (read_match (matched temps a) w t) (Some f) h) as (λ _. IsIn (fields a) f cuts homes) [
        | inl l ↦ cell_in a w t whole f cuts homes l n
        | inr l ↦ read_in a w (matched_in a) t f cuts homes l n
      ]
  matched_in (un op a) t whole f cuts homes h n = un_in a op (matched_in a) t f cuts homes h n
  matched_in (bin op a b) t whole f cuts homes h n =
      elim (either (is_shape (bin op a b)) (shape_match (bin op a b) t) (bin_match (matched temps a) (matched temps b) op t) (Some f) h) as (λ _. IsIn (bit_or (fields a) (fields b)) f cuts homes) [
        | inl l ↦ shape_in (bin op a b) t f cuts homes l n
        | inr l ↦ bin_in a b op (matched_in a) (matched_in b) t f cuts homes l n
      ]
  matched_in (slice (word w) hi lo) t whole f cuts homes h n = shape_in (slice (word w) hi lo) t f cuts homes h n
  matched_in (slice a hi lo) t whole f cuts homes h n = slice_in a hi lo (matched_in a) t f cuts homes h n
  matched_in (zext a w) t whole f cuts homes h n =
      elim (either (is_shape (zext a w)) (shape_match (zext a w) t) (zext_match (matched temps a) (expr_width a) w t) (Some f) h) as (λ _. IsIn (fields a) f cuts homes) [
        | inl l ↦ shape_in (zext a w) t f cuts homes l n
        | inr l ↦ zext_in a w (matched_in a) t f cuts homes l n
      ]
  matched_in (sext a w) t whole f cuts homes h n =
      elim (either (is_shape (sext a w)) (shape_match (sext a w) t) (sext_match (matched temps a) (expr_width a) w t) (Some f) h) as (λ _. IsIn (fields a) f cuts homes) [
        | inl l ↦ shape_in (sext a w) t f cuts homes l n
        | inr l ↦ sext_in a w (matched_in a) t f cuts homes l n
      ]
  matched_in (cat a b) t whole f cuts homes h n = absurd (cc)
  matched_in (select c a b) t whole f cuts homes h n = absurd (cc)
