-- Where a form matches a tree, the form's expression has the tree's value under the setting, once
-- the operands are in their registers and the cuts in their cells.
use Rattle.std.proofs.Common.{◌≡◌, ℕ, zero, suc, ◌<◌, ◌≤◌, ◌==◌, ◌||◌, ◌&&◌, ◌⊎◌, inl, inr, not, max, bit_or, Bool, true, false, if◌then◌else◌, List, [], ◌∷◌, ◌++◌, slice_index, Option, Some, None, is_some, refl, sym, ap, ◌∙◌, subst, arith}
use Rattle.std.specs.Prelude.{slice_get}
use Rattle.std.specs.Int.{bit_at}
use Rattle.std.proofs.lemmas.Nat.Bits.{bit_at-zero, bit_at_or}
use Rattle.std.proofs.lemmas.Bool.{true≢false, eqb-true, and_parts}
use Rattle.rec_bits.specs.declared.operator.Op1.{Op1}
use Rattle.rec_bits.specs.declared.operator.Op2.{Op2}
use Rattle.rec_bits.proofs.Booleans.{or_parts, or_left as true_left, or_right as true_right, either}
use Rattle.rec_bits.proofs.Options.{picked}
use Rattle.rec_bits.proofs.Equality.{op1_is, op2_is}
use Rattle.net_model.specs.declared.hardware.Space.TheVariants.{Memory as InMemory, File as InFile}
use Rattle.net_model.specs.declared.states.State.{State}
use Rattle.net_model.specs.Exprs.{ExprModel, word, reg, const, read, un, bin, slice, cat, zext, sext, select, expr_width}
use Rattle.net_model.specs.Meaning.{mean}
use Rattle.form_model.specs.Trees.{is_number, is_cell}
use Rattle.form_model.specs.Shapes.{is_shape, shape_setting, shows, shows_below}
use Rattle.form_model.specs.Matches.{HomeModel, in_register, in_file, LeafModel, operand, cut, MatchModel, settled, open_if, both, shape_match, literal_match, cell_match, read_match, un_match, bin_match, slice_match, zext_match, sext_match, matched, same_op1, same_op2}
use Rattle.form_model.specs.Covers.{operands_of}
use Rattle.form_model.specs.Steps.{CutCellsModel, bits_or_none, cells_setting, home_setting, homes_setting, open_setting}
use Rattle.form_model.specs.Bits.{uses}
use Rattle.emit_seq.specs.Formed.{BitsApart, IsOnce, CellsShown}
use Rattle.emit_seq.specs.Leaves.{ReadsFrom}
use Rattle.form_model.proofs.SettingLaws.{IsSetting, shape_sets}
use Rattle.emit_seq.proofs.BitUnions.{or_left}

-- ---- parts of a match

pub record Joined (a b : Option MatchModel) (f : MatchModel) : Type 0 where
  pub first : MatchModel
  pub second : MatchModel
  pub is_first : a ≡ Some first
  pub is_second : b ≡ Some second
  pub is : record { setting = bit_or first.setting second.setting; leaves = first.leaves ++ second.leaves } ≡ f

pub joined : (a b : Option MatchModel) (f : MatchModel) → both a b ≡ Some f → Joined a b f
joined None b f h = absurd (cc)
joined (Some x) None f h = absurd (cc)
joined (Some x) (Some y) f h = record { first = x; second = y; is_first = refl; is_second = refl; is = cc }

-- the number that a shape takes
pub record Literal (shape t : ExprModel) (f : MatchModel) : Type 0 where
  pub width : ℕ
  pub value : ℕ
  pub bits : ℕ
  pub is_tree : t ≡ const width value
  pub wide : width ≡ expr_width shape
  pub shown : shape_setting shape value ≡ Some bits
  pub is : record { setting = bits; leaves = [] } ≡ f

pub settled_some : (o : Option ℕ) (f : MatchModel) → settled o ≡ Some f → (b : ℕ) × (o ≡ Some b) × (record { setting = b; leaves = [] } ≡ f)
settled_some None f h = absurd (cc)
settled_some (Some b) f h = (b, refl, cc)

pub literal : (shape t : ExprModel) (f : MatchModel) → shape_match shape t ≡ Some f → Literal shape t f
literal shape (const w v) f h =
    let p : ((w == expr_width shape) ≡ true) × (settled (shape_setting shape v) ≡ Some f) = picked _ _ _ h in
    let (b, e, k) = settled_some (shape_setting shape v) f p.1 in
    record { width = w; value = v; bits = b; is_tree = refl; wide = eqb-true w (expr_width shape) p.0; shown = e; is = k }
literal shape t f h = absurd (cc)

pub opened : (b : Bool) (leaf : LeafModel) (f : MatchModel) → open_if b leaf ≡ Some f → (b ≡ true) × (record { setting = 0; leaves = leaf ∷ [] } ≡ f)
opened true leaf f h = (refl, cc)
opened false leaf f h = absurd (cc)

-- ---- a shape that shows each number below a bound shows this one

pub some_bits : (o : Option ℕ) → is_some o ≡ true → o ≡ Some (bits_or_none o)
some_bits None h = absurd (true≢false (sym h))
some_bits (Some b) h = refl

pub shown_below : (t : ExprModel) (n v : ℕ) → shows_below t n ≡ true → v < n → shows t v ≡ true
shown_below t zero v h l = absurd (omega arith)
shown_below t (suc n) v h l =
    let p : (shows t n ≡ true) × (shows_below t n ≡ true) = and_parts _ _ h in
    elim (last v n l) as (λ _. shows t v ≡ true) [ inl e ↦ subst (λ m. shows t m ≡ true) (sym e) p.0 | inr m ↦ shown_below t n v p.1 m ]
  where
    last : (v n : ℕ) → v < suc n → (v ≡ n) ⊎ (v < n)
    last v n l = grind arith

-- the bits of the cells that leaves ask for
abbrev pub open_bits : List LeafModel → List CutCellsModel → List (Option ℕ) → ℕ
open_bits leaves cuts homes = open_setting (operands_of leaves) cuts homes

-- the bits of a match and of the cells that it leaves open
abbrev pub bits_in : MatchModel → List CutCellsModel → List (Option ℕ) → ℕ
bits_in f cuts homes = bit_or f.setting (open_bits f.leaves cuts homes)

-- no bits where nothing is open
pub none_open : (b k : ℕ) → bit_at (bit_or b (open_bits [] [] [])) k ≡ bit_at b k
none_open b k = or_left b (bit_or 0 0) k (omega (arith, bit_at_or 0 0 k, bit_at-zero k))

module _ (temps size : ℕ) (before now : State) where
  -- an operand is in its home, with the value from before
  abbrev pub AtHome : HomeModel → Option ℕ → ExprModel → Type 0
  AtHome (in_register id) h tree = slice_index now.regs id ≡ mean tree before 0
  AtHome (in_file shape) None tree = ⊥
  AtHome (in_file shape) (Some c) tree = (c < size) × (slice_index now.file c ≡ mean tree before 0)

  -- operands are in their homes and cuts in their cells
  abbrev pub Holds : List LeafModel → List CutCellsModel → List (Option ℕ) → Type 0
  Holds [] cuts homes = (cuts ≡ []) × (homes ≡ [])
  Holds (operand home tree whole ∷ leaves) cuts [] = ⊥
  Holds (operand home tree whole ∷ leaves) cuts (h ∷ homes) = AtHome home h tree × Holds leaves cuts homes
  Holds (cut shape tree ∷ leaves) [] homes = ⊥
  Holds (cut shape tree ∷ leaves) (cells ∷ cuts) homes =
      (cells.shape ≡ shape) × (cells.cell < temps) × (slice_index now.cells cells.cell ≡ mean tree before 0) × Holds leaves cuts homes

  pub record Split (xs ys : List LeafModel) (cuts : List CutCellsModel) (homes : List (Option ℕ)) : Type 0 where
    pub front : List CutCellsModel
    pub back : List CutCellsModel
    pub fronts : List (Option ℕ)
    pub backs : List (Option ℕ)
    pub first : Holds xs front fronts
    pub second : Holds ys back backs
    pub joins : homes ≡ fronts ++ backs
    pub bits_of : (k : ℕ) → bit_at (open_bits (xs ++ ys) cuts homes) k ≡ max (bit_at (open_bits xs front fronts) k) (bit_at (open_bits ys back backs) k)

  pub split : (xs ys : List LeafModel) (cuts : List CutCellsModel) (homes : List (Option ℕ)) → Holds (xs ++ ys) cuts homes → Split xs ys cuts homes
  split [] ys cuts homes h = record {
    front = [];
    back = cuts;
    fronts = [];
    backs = homes;
    first = (refl, refl);
    second = h;
    joins = refl;
    bits_of = λ k. omega (arith, bit_at_or 0 0 k, bit_at-zero k);
  }
  split (operand home tree whole ∷ xs) ys cuts [] h = absurd h
  split (operand home tree whole ∷ xs) ys cuts (c ∷ homes) h =
      let s : Split xs ys cuts homes = split xs ys cuts homes h.1 in
      let own : ℕ = home_setting home c in
      let all : ℕ = homes_setting (operands_of (xs ++ ys)) homes in
      let some : ℕ = homes_setting (operands_of xs) s.fronts in
      record {
        front = s.front;
        back = s.back;
        fronts = c ∷ s.fronts;
        backs = s.backs;
        first = (h.0, s.first);
        second = s.second;
        joins = ap (λ z. c ∷ z) s.joins;
        bits_of = λ k. omega (
          arith,
          bit_at_or (cells_setting cuts) (bit_or own all) k,
          bit_at_or own all k,
          bit_at_or (cells_setting cuts) all k,
          bit_at_or (cells_setting s.front) (bit_or own some) k,
          bit_at_or own some k,
          bit_at_or (cells_setting s.front) some k,
          s.bits_of k,
        );
      }
  split (cut shape tree ∷ xs) ys [] homes h = absurd h
  split (cut shape tree ∷ xs) ys (cells ∷ cuts) homes h =
      let s : Split xs ys cuts homes = split xs ys cuts homes h.3 in
      let own : ℕ = bits_or_none (shape_setting cells.shape cells.cell) in
      let all : ℕ = homes_setting (operands_of (xs ++ ys)) homes in
      let some : ℕ = homes_setting (operands_of xs) s.fronts in
      record {
        front = cells ∷ s.front;
        back = s.back;
        fronts = s.fronts;
        backs = s.backs;
        first = (h.0, h.1, h.2, s.first);
        second = s.second;
        joins = s.joins;
        bits_of = λ k. omega (
          arith,
          bit_at_or (bit_or own (cells_setting cuts)) all k,
          bit_at_or own (cells_setting cuts) k,
          bit_at_or (cells_setting cuts) all k,
          bit_at_or (bit_or own (cells_setting s.front)) some k,
          bit_at_or own (cells_setting s.front) k,
          bit_at_or (cells_setting s.front) some k,
          s.bits_of k,
        );
      }

  -- the expression means what the tree meant before, under each setting that has these bits
  pub record IsMeant (e t : ExprModel) (f : MatchModel) (cuts : List CutCellsModel) (homes : List (Option ℕ)) : Type 0 where
    pub width : expr_width e ≡ expr_width t
    pub within : (k : ℕ) → uses e k ≡ false → bit_at (bits_in f cuts homes) k ≡ 0
    pub means : (i : ℕ) → ((k : ℕ) → uses e k ≡ true → bit_at i k ≡ bit_at (bits_in f cuts homes) k) → mean e now i ≡ mean t before 0

-- a shape takes a number
shape_meant : (temps size : ℕ) (before now : State) (e t : ExprModel) (f : MatchModel) (cuts : List CutCellsModel) (homes : List (Option ℕ)) → shape_match e t ≡ Some f → Holds temps size before now f.leaves cuts homes → IsMeant temps size before now e t f cuts homes
shape_meant temps size before now e t f cuts homes h k =
    let l : Literal e t f = literal e t f h in
    let none : (cuts ≡ []) × (homes ≡ []) = subst (λ (z : MatchModel). Holds temps size before now z.leaves cuts homes) (sym l.is) k in
    let shown : IsSetting e l.value l.bits = shape_sets e l.value l.bits l.shown in
    let set : (j : ℕ) → bit_at (bits_in f cuts homes) j ≡ bit_at l.bits j =
    λ j. ap (λ (z : MatchModel). bit_at (bits_in z cuts homes) j) (sym l.is) ∙ ap (λ z. bit_at (bit_or l.bits (open_bits [] z homes)) j) none.0
    ∙ ap (λ z. bit_at (bit_or l.bits (open_bits [] [] z)) j) none.1 ∙ none_open l.bits j in
    record {
      width = sym l.wide ∙ ap expr_width (sym l.is_tree);
      within = λ j u. set j ∙ shown.within j u;
      means = λ i u. shown.means now i (λ j w. u j w ∙ set j) ∙ ap (λ z. mean z before 0) (sym l.is_tree);
    }

-- the bits of two matches that have no bit in common
pub pair_bits : (x y : MatchModel) (f : MatchModel) (cuts front back : List CutCellsModel) (homes fronts backs : List (Option ℕ)) → record { setting = bit_or x.setting y.setting; leaves = x.leaves ++ y.leaves } ≡ f
    → ((k : ℕ) → bit_at (open_bits (x.leaves ++ y.leaves) cuts homes) k ≡ max (bit_at (open_bits x.leaves front fronts) k) (bit_at (open_bits y.leaves back backs) k))
    → (k : ℕ) → bit_at (bits_in f cuts homes) k ≡ max (bit_at (bits_in x front fronts) k) (bit_at (bits_in y back backs) k)
pair_bits x y f cuts front back homes fronts backs e g k =
    ap (λ (z : MatchModel). bit_at (bits_in z cuts homes) k) (sym e)
    ∙ omega (
      arith,
      bit_at_or (bit_or x.setting y.setting) (open_bits (x.leaves ++ y.leaves) cuts homes) k,
      bit_at_or x.setting y.setting k,
      bit_at_or x.setting (open_bits x.leaves front fronts) k,
      bit_at_or y.setting (open_bits y.leaves back backs) k,
      g k,
    )

module _ (temps size : ℕ) (before now : State) where
  -- two expressions that have no bit in common, under the setting of both
  pub record AreMeant (a b t u : ExprModel) (f : MatchModel) (cuts : List CutCellsModel) (homes : List (Option ℕ)) : Type 0 where
    pub first_width : expr_width a ≡ expr_width t
    pub second_width : expr_width b ≡ expr_width u
    pub within : (k : ℕ) → (uses a k || uses b k) ≡ false → bit_at (bits_in f cuts homes) k ≡ 0
    pub first : (i : ℕ) → ((k : ℕ) → (uses a k || uses b k) ≡ true → bit_at i k ≡ bit_at (bits_in f cuts homes) k) → mean a now i ≡ mean t before 0
    pub second : (i : ℕ) → ((k : ℕ) → (uses a k || uses b k) ≡ true → bit_at i k ≡ bit_at (bits_in f cuts homes) k) → mean b now i ≡ mean u before 0

  pub two_meant : (a b t u : ExprModel) (x y f : MatchModel) (cuts front back : List CutCellsModel) (homes fronts backs : List (Option ℕ)) → record { setting = bit_or x.setting y.setting; leaves = x.leaves ++ y.leaves } ≡ f
      → ((k : ℕ) → bit_at (open_bits (x.leaves ++ y.leaves) cuts homes) k ≡ max (bit_at (open_bits x.leaves front fronts) k) (bit_at (open_bits y.leaves back backs) k))
      → BitsApart a b → BitsApart b a → IsMeant temps size before now a t x front fronts → IsMeant temps size before now b u y back backs → AreMeant a b t u f cuts homes
  two_meant a b t u x y f cuts front back homes fronts backs e g p q m n = record {
    first_width = m.width;
    second_width = n.width;
    within = λ k v. let w : (uses a k ≡ false) × (uses b k ≡ false) = or_parts _ _ v in omega (arith, set k, m.within k w.0, n.within k w.1);
    first = λ i v. m.means i (λ k w. v k (true_left _ (uses b k) w) ∙ omega (arith, set k, n.within k (p k w)));
    second = λ i v. n.means i (λ k w. v k (true_right (uses a k) _ w) ∙ omega (arith, set k, m.within k (q k w)));
  }
    where
      set : (k : ℕ) → bit_at (bits_in f cuts homes) k ≡ max (bit_at (bits_in x front fronts) k) (bit_at (bits_in y back backs) k)
      set = pair_bits x y f cuts front back homes fronts backs e g

-- the bits of one operand in the file are those that name its cell
pub file_bits : (temps size : ℕ) (before now : State) (a t : ExprModel) (whole : Bool) (cuts : List CutCellsModel) (homes : List (Option ℕ)) (c : ℕ) → Holds temps size before now (operand (in_file a) t whole ∷ []) cuts homes
    → slice_get homes 0 ≡ Some (Some c) → (j : ℕ) → bit_at (bit_or 0 (open_bits (operand (in_file a) t whole ∷ []) cuts homes)) j ≡ bit_at (bits_or_none (shape_setting a c)) j
file_bits temps size before now a t whole cuts [] c held get j = absurd held
file_bits temps size before now a t whole cuts (h ∷ hs) c held get j =
    let same : h ≡ Some c = cc in
    let b : ℕ = bits_or_none (shape_setting a c) in
    ap (λ z. bit_at (bit_or 0 (open_bits (operand (in_file a) t whole ∷ []) z (h ∷ hs))) j) held.1.0
    ∙ ap (λ z. bit_at (bit_or 0 (open_bits (operand (in_file a) t whole ∷ []) [] (h ∷ z))) j) held.1.1
    ∙ ap (λ z. bit_at (bit_or 0 (open_bits (operand (in_file a) t whole ∷ []) [] (z ∷ []))) j) same
    ∙ omega (arith, bit_at_or 0 (bit_or 0 (bit_or b 0)) j, bit_at_or 0 (bit_or b 0) j, bit_at_or b 0 j, bit_at-zero j)

module _ (temps size : ℕ) (before now : State) (same : (c : ℕ) → temps ≤ c → slice_index now.cells c ≡ slice_index before.cells c) where
  -- what a match of this expression means
  abbrev Sound : ExprModel → Type 0
  Sound a = (t : ExprModel) (whole : Bool) (f : MatchModel) (cuts : List CutCellsModel) (homes : List (Option ℕ)) → matched temps a t whole ≡ Some f → ReadsFrom temps before t
      → Holds temps size before now f.leaves cuts homes → IsMeant temps size before now a t f cuts homes

  reg_meant : (id w : ℕ) → Sound (reg id w)
  reg_meant id w t whole f cuts homes h r k =
      let p : ((w == expr_width t) ≡ true) × (record { setting = 0; leaves = operand (in_register id) t whole ∷ [] } ≡ f) = opened _ _ _ h in
      let held : Holds temps size before now (operand (in_register id) t whole ∷ []) cuts homes = subst (λ (z : MatchModel). Holds temps size before now z.leaves cuts homes) (sym p.1) k in
      let none : (j : ℕ) → bit_at (bits_in f cuts homes) j ≡ 0 = λ j. ap (λ (z : MatchModel). bit_at (bits_in z cuts homes) j) (sym p.1) ∙ no_bits homes j held in
      record { width = eqb-true w (expr_width t) p.0; within = λ j u. none j; means = λ i u. value homes held }
    where
      no_bits : (hs : List (Option ℕ)) (j : ℕ) → Holds temps size before now (operand (in_register id) t whole ∷ []) cuts hs → bit_at (bit_or 0 (open_bits (operand (in_register id) t whole ∷ []) cuts hs)) j ≡ 0
      no_bits [] j held = absurd held
      no_bits (c ∷ hs) j held =
          ap (λ z. bit_at (bit_or 0 (open_bits (operand (in_register id) t whole ∷ []) z (c ∷ hs))) j) held.1.0
          ∙ ap (λ z. bit_at (bit_or 0 (open_bits (operand (in_register id) t whole ∷ []) [] (c ∷ z))) j) held.1.1
          ∙ bit_at-zero j

      value : (hs : List (Option ℕ)) → Holds temps size before now (operand (in_register id) t whole ∷ []) cuts hs → slice_index now.regs id ≡ mean t before 0
      value [] held = absurd held
      value (c ∷ hs) held = held.0

  -- an operand in the file
  file_meant : (a : ExprModel) (w : ℕ) → shows_below a size ≡ true → Sound (read InFile a w)
  file_meant a w all t whole f cuts homes h r k =
      let p : ((w == expr_width t) ≡ true) × (record { setting = 0; leaves = operand (in_file a) t whole ∷ [] } ≡ f) = opened _ _ _ h in
      let held : Holds temps size before now (operand (in_file a) t whole ∷ []) cuts homes = subst (λ (z : MatchModel). Holds temps size before now z.leaves cuts homes) (sym p.1) k in
      let (c, lt, v, bits) = found_cell homes held in
      let shown : IsSetting a c (bits_or_none (shape_setting a c)) = shape_sets a c _ (some_bits (shape_setting a c) (shown_below a size c all lt)) in
      let set : (j : ℕ) → bit_at (bits_in f cuts homes) j ≡ bit_at (bits_or_none (shape_setting a c)) j =
      λ j. ap (λ (z : MatchModel). bit_at (bits_in z cuts homes) j) (sym p.1) ∙ bits j in
      record {
        width = eqb-true w (expr_width t) p.0;
        within = λ j u. set j ∙ shown.within j u;
        means = λ i u. ap (λ n. slice_index now.file n) (shown.means now i (λ j x. u j x ∙ set j)) ∙ v;
      }
    where
      found_cell : (hs : List (Option ℕ)) → Holds temps size before now (operand (in_file a) t whole ∷ []) cuts hs
          → (c : ℕ) × (c < size) × (slice_index now.file c ≡ mean t before 0)
          × ((j : ℕ) → bit_at (bit_or 0 (open_bits (operand (in_file a) t whole ∷ []) cuts hs)) j ≡ bit_at (bits_or_none (shape_setting a c)) j)
      found_cell [] held = absurd held
      found_cell (None ∷ hs) held = absurd held.0
      found_cell (Some c ∷ hs) held = (c, held.0.0, held.0.1, file_bits temps size before now a t whole cuts (Some c ∷ hs) c held refl)

  un_meant : (a : ExprModel) (op : Op1) → Sound a → (t : ExprModel) (f : MatchModel) (cuts : List CutCellsModel) (homes : List (Option ℕ)) → un_match (matched temps a) op t ≡ Some f → ReadsFrom temps before t
      → Holds temps size before now f.leaves cuts homes → IsMeant temps size before now (un op a) t f cuts homes
  un_meant a op ih (un o b) f cuts homes h r k =
      let p : (same_op1 o op ≡ true) × (matched temps a b false ≡ Some f) = picked _ _ _ h in
      let m : IsMeant temps size before now a b f cuts homes = ih b false f cuts homes p.1 r k in
      let e : o ≡ op = op1_is o op p.0 in
      record { width = m.width; within = m.within; means = λ i u. cc (e, m.width, m.means i u) }
  un_meant a op ih t f cuts homes h r k = absurd (cc)

  bin_meant : (a b : ExprModel) (op : Op2) → Sound a → Sound b → BitsApart a b → BitsApart b a → (t : ExprModel) (f : MatchModel) (cuts : List CutCellsModel) (homes : List (Option ℕ))
      → bin_match (matched temps a) (matched temps b) op t ≡ Some f → ReadsFrom temps before t
      → Holds temps size before now f.leaves cuts homes → IsMeant temps size before now (bin op a b) t f cuts homes
  bin_meant a b op iha ihb ab ba (bin o c d) f cuts homes h r k =
      let p : (same_op2 o op ≡ true) × (both (matched temps a c false) (matched temps b d false) ≡ Some f) = picked _ _ _ h in
      let e : o ≡ op = op2_is o op p.0 in
      let j : Joined (matched temps a c false) (matched temps b d false) f = joined _ _ _ p.1 in
      let s : Split temps size before now j.first.leaves j.second.leaves cuts homes =
      split temps size before now j.first.leaves j.second.leaves cuts homes (subst (λ (z : MatchModel). Holds temps size before now z.leaves cuts homes) (sym j.is) k) in
      let m : AreMeant temps size before now a b c d f cuts homes =
      two_meant temps size before now a b c d j.first j.second f cuts s.front s.back homes s.fronts s.backs j.is s.bits_of ab ba
      (iha c false j.first s.front s.fronts j.is_first r.0 s.first) (ihb d false j.second s.back s.backs j.is_second r.1 s.second) in
      record {
        width = cc (e, m.first_width);
        within = m.within;
        means = λ i u. cc (e, m.first_width, m.first i u, m.second i u);
      }
  bin_meant a b op iha ihb ab ba t f cuts homes h r k = absurd (cc)

  read_meant : (a : ExprModel) (w : ℕ) → Sound a → (t : ExprModel) (f : MatchModel) (cuts : List CutCellsModel) (homes : List (Option ℕ)) → read_match (matched temps a) w t ≡ Some f → ReadsFrom temps before t
      → Holds temps size before now f.leaves cuts homes → IsMeant temps size before now (read InMemory a w) t f cuts homes
  read_meant a w ih (read InMemory b v) f cuts homes h r k =
      let p : ((v == w) ≡ true) × (matched temps a b (is_number b) ≡ Some f) = picked _ _ _ h in
      let m : IsMeant temps size before now a b f cuts homes = ih b (is_number b) f cuts homes p.1 r.1 k in
      record {
        width = sym (eqb-true v w p.0);
        within = m.within;
        means = λ i u. ap (λ c. slice_index now.cells c) (m.means i u) ∙ same (mean b before 0) r.0;
      }
  read_meant a w ih t f cuts homes h r k = absurd (cc)

  -- a read at a number
  at_number : (a : ExprModel) (w : ℕ) (t : ExprModel) (f : MatchModel) (cuts : List CutCellsModel) (homes : List (Option ℕ)) → w ≡ expr_width t → literal_match a t ≡ Some f → ReadsFrom temps before t
      → Holds temps size before now f.leaves cuts homes → IsMeant temps size before now (read InMemory a w) t f cuts homes
  at_number a w (read InMemory b v) f cuts homes e h r k =
      let m : IsMeant temps size before now a b f cuts homes = shape_meant temps size before now a b f cuts homes h k in
      record {
        width = e;
        within = m.within;
        means = λ i u. ap (λ c. slice_index now.cells c) (m.means i u) ∙ same (mean b before 0) r.0;
      }
  at_number a w t f cuts homes e h r k = absurd (cc)

  -- a cut in its cell
  at_cut : (a : ExprModel) (w : ℕ) (t : ExprModel) (b : Bool) (f : MatchModel) (cuts : List CutCellsModel) (homes : List (Option ℕ)) → w ≡ expr_width t
      → open_if (b && shows_below a temps) (cut a t) ≡ Some f
      → Holds temps size before now f.leaves cuts homes → IsMeant temps size before now (read InMemory a w) t f cuts homes
  at_cut a w t b f [] homes e h k =
      let p : ((b && shows_below a temps) ≡ true) × (record { setting = 0; leaves = cut a t ∷ [] } ≡ f) = opened _ _ _ h in
      absurd (subst (λ (z : MatchModel). Holds temps size before now z.leaves [] homes) (sym p.1) k)
  at_cut a w t b f (cells ∷ cuts) homes e h k =
      let p : ((b && shows_below a temps) ≡ true) × (record { setting = 0; leaves = cut a t ∷ [] } ≡ f) = opened _ _ _ h in
      let q : (b ≡ true) × (shows_below a temps ≡ true) = and_parts _ _ p.0 in
      let held : Holds temps size before now (cut a t ∷ []) (cells ∷ cuts) homes = subst (λ (z : MatchModel). Holds temps size before now z.leaves (cells ∷ cuts) homes) (sym p.1) k in
      let own : shape_setting a cells.cell ≡ Some (bits_or_none (shape_setting a cells.cell)) =
      some_bits (shape_setting a cells.cell) (shown_below a temps cells.cell q.1 held.1) in
      let shown : IsSetting a cells.cell (bits_or_none (shape_setting a cells.cell)) = shape_sets a cells.cell _ own in
      let there : ℕ = bits_or_none (shape_setting cells.shape cells.cell) in
      let set : (j : ℕ) → bit_at (bits_in f (cells ∷ cuts) homes) j ≡ bit_at (bits_or_none (shape_setting a cells.cell)) j =
      λ j. ap (λ (z : MatchModel). bit_at (bits_in z (cells ∷ cuts) homes) j) (sym p.1)
      ∙ ap (λ z. bit_at (bit_or 0 (bit_or (bit_or there (cells_setting z)) (homes_setting [] homes))) j) held.3.0
      ∙ omega (arith, bit_at_or 0 (bit_or (bit_or there 0) 0) j, bit_at_or (bit_or there 0) 0 j, bit_at_or there 0 j, bit_at-zero j)
      ∙ ap (λ z. bit_at (bits_or_none (shape_setting z cells.cell)) j) held.0 in
      record {
        width = e;
        within = λ j u. set j ∙ shown.within j u;
        means = λ i u. ap (λ c. slice_index now.cells c) (shown.means now i (λ j v. u j v ∙ set j)) ∙ held.2;
      }

  cell_meant : (a : ExprModel) (w : ℕ) (t : ExprModel) (whole : Bool) (f : MatchModel) (cuts : List CutCellsModel) (homes : List (Option ℕ)) → cell_match temps a w t whole ≡ Some f → ReadsFrom temps before t
      → Holds temps size before now f.leaves cuts homes → IsMeant temps size before now (read InMemory a w) t f cuts homes
  cell_meant a w t whole f cuts homes h r k =
      let p : ((w == expr_width t) ≡ true)
      × ((if is_cell t then literal_match a t else open_if (not whole && shows_below a temps) (cut a t)) ≡ Some f) = picked _ _ _ h in
      elim (either (is_cell t) (literal_match a t) (open_if (not whole && shows_below a temps) (cut a t)) (Some f) p.1)
      as (λ _. IsMeant temps size before now (read InMemory a w) t f cuts homes) [
        | inl l ↦ at_number a w t f cuts homes (eqb-true w (expr_width t) p.0) l r k
        | inr l ↦ at_cut a w t (not whole) f cuts homes (eqb-true w (expr_width t) p.0) l k
      ]

  slice_meant : (a : ExprModel) (hi lo : ℕ) → ((k : ℕ) → uses (slice a hi lo) k ≡ uses a k) → Sound a → (t : ExprModel) (f : MatchModel) (cuts : List CutCellsModel) (homes : List (Option ℕ))
      → slice_match (matched temps a) (expr_width a) hi lo t ≡ Some f → ReadsFrom temps before t
      → Holds temps size before now f.leaves cuts homes → IsMeant temps size before now (slice a hi lo) t f cuts homes
  slice_meant a hi lo eq ih (slice b h' l') f cuts homes h r k =
      let p : (((expr_width b == expr_width a) && ((h' == hi) && (l' == lo))) ≡ true) × (matched temps a b false ≡ Some f) = picked _ _ _ h in
      let q : ((expr_width b == expr_width a) ≡ true) × (((h' == hi) && (l' == lo)) ≡ true) = and_parts _ _ p.0 in
      let q' : ((h' == hi) ≡ true) × ((l' == lo) ≡ true) = and_parts _ _ q.1 in
      let eh : h' ≡ hi = eqb-true _ _ q'.0 in
      let el : l' ≡ lo = eqb-true _ _ q'.1 in
      let m : IsMeant temps size before now a b f cuts homes = ih b false f cuts homes p.1 r k in
      record {
        width = rw (eh, el) refl;
        within = λ j u. m.within j (sym (eq j) ∙ u);
        means = λ i u. let e : mean a now i ≡ mean b before 0 = m.means i (λ j v. u j (eq j ∙ v)) in rw (eh, el, e) refl;
      }
  slice_meant a hi lo eq ih t f cuts homes h r k = absurd (cc)

  zext_meant : (a : ExprModel) (w : ℕ) → Sound a → (t : ExprModel) (f : MatchModel) (cuts : List CutCellsModel) (homes : List (Option ℕ)) → zext_match (matched temps a) (expr_width a) w t ≡ Some f → ReadsFrom temps before t
      → Holds temps size before now f.leaves cuts homes → IsMeant temps size before now (zext a w) t f cuts homes
  zext_meant a w ih (zext b v) f cuts homes h r k =
      let p : (((expr_width b == expr_width a) && (v == w)) ≡ true) × (matched temps a b false ≡ Some f) = picked _ _ _ h in
      let q : ((expr_width b == expr_width a) ≡ true) × ((v == w) ≡ true) = and_parts _ _ p.0 in
      let m : IsMeant temps size before now a b f cuts homes = ih b false f cuts homes p.1 r k in
      record { width = sym (eqb-true v w q.1); within = m.within; means = m.means }
  zext_meant a w ih t f cuts homes h r k = absurd (cc)

  sext_meant : (a : ExprModel) (w : ℕ) → Sound a → (t : ExprModel) (f : MatchModel) (cuts : List CutCellsModel) (homes : List (Option ℕ)) → sext_match (matched temps a) (expr_width a) w t ≡ Some f → ReadsFrom temps before t
      → Holds temps size before now f.leaves cuts homes → IsMeant temps size before now (sext a w) t f cuts homes
  sext_meant a w ih (sext b v) f cuts homes h r k =
      let p : (((expr_width b == expr_width a) && (v == w)) ≡ true) × (matched temps a b false ≡ Some f) = picked _ _ _ h in
      let q : ((expr_width b == expr_width a) ≡ true) × ((v == w) ≡ true) = and_parts _ _ p.0 in
      let m : IsMeant temps size before now a b f cuts homes = ih b false f cuts homes p.1 r k in
      let ev : v ≡ w = eqb-true v w q.1 in
      let ew : expr_width b ≡ expr_width a = eqb-true _ _ q.0 in
      record { width = sym ev; within = m.within; means = λ i u. cc (ev, ew, m.means i u) }
  sext_meant a w ih t f cuts homes h r k = absurd (cc)

  pub matched_meant : (e : ExprModel) → IsOnce e → CellsShown size e → Sound e
  matched_meant (word w) o q t whole f cuts homes h r k = shape_meant temps size before now (word w) t f cuts homes h k
  matched_meant (const w v) o q t whole f cuts homes h r k = shape_meant temps size before now (const w v) t f cuts homes h k
  matched_meant (reg id w) o q t whole f cuts homes h r k = reg_meant id w t whole f cuts homes h r k
  matched_meant (read InFile a w) o q t whole f cuts homes h r k = file_meant a w q.1 t whole f cuts homes h r k
  matched_meant (read InMemory a w) o q t whole f cuts homes h r k =
      elim (either (is_shape a) (cell_match temps a w t whole) (read_match (matched temps a) w t) (Some f) h) as (λ _. IsMeant temps size before now (read InMemory a w) t f cuts homes) [
        | inl l ↦ cell_meant a w t whole f cuts homes l r k
        | inr l ↦ read_meant a w (matched_meant a o q) t f cuts homes l r k
      ]
  matched_meant (un op a) o q t whole f cuts homes h r k = un_meant a op (matched_meant a o q) t f cuts homes h r k
  matched_meant (bin op a b) o q t whole f cuts homes h r k =
      elim (either (is_shape (bin op a b)) (shape_match (bin op a b) t) (bin_match (matched temps a) (matched temps b) op t) (Some f) h) as (λ _. IsMeant temps size before now (bin op a b) t f cuts homes) [
        | inl l ↦ shape_meant temps size before now (bin op a b) t f cuts homes l k
        | inr l ↦ bin_meant a b op (matched_meant a o.0 q.0) (matched_meant b o.1 q.1) o.2 o.3 t f cuts homes l r k
      ]
  matched_meant (slice (word w) hi lo) o q t whole f cuts homes h r k = shape_meant temps size before now (slice (word w) hi lo) t f cuts homes h k
  matched_meant (slice a hi lo) o q t whole f cuts homes h r k = slice_meant a hi lo (λ j. refl) (matched_meant a o q) t f cuts homes h r k
  matched_meant (zext a w) o q t whole f cuts homes h r k =
      elim (either (is_shape (zext a w)) (shape_match (zext a w) t) (zext_match (matched temps a) (expr_width a) w t) (Some f) h) as (λ _. IsMeant temps size before now (zext a w) t f cuts homes) [
        | inl l ↦ shape_meant temps size before now (zext a w) t f cuts homes l k
        | inr l ↦ zext_meant a w (matched_meant a o q) t f cuts homes l r k
      ]
  matched_meant (sext a w) o q t whole f cuts homes h r k =
      elim (either (is_shape (sext a w)) (shape_match (sext a w) t) (sext_match (matched temps a) (expr_width a) w t) (Some f) h) as (λ _. IsMeant temps size before now (sext a w) t f cuts homes) [
        | inl l ↦ shape_meant temps size before now (sext a w) t f cuts homes l k
        | inr l ↦ sext_meant a w (matched_meant a o q) t f cuts homes l r k
      ]
  matched_meant (cat a b) o q t whole f cuts homes h r k = absurd (cc)
  matched_meant (select c a b) o q t whole f cuts homes h r k = absurd (cc)
