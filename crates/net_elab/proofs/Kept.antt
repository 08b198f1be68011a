-- The nets of an expression keep the rules of netlists.
use Rattle.std.proofs.Common.{ℕ, ◌≡◌, ◌+◌, ◌-◌, ◌^◌, ◌<◌, ◌≤◌, ◌==◌, ◌&&◌, Bool, true, false, if◌then◌else◌, List, [], ◌∷◌, ◌++◌, length, map, Option, Some, None, slice_get, refl, sym, ap, subst, arith, IsTrue, nat_le, lit≤, length-append}
use Rattle.std.specs.List.{AllByRecursion}
use Rattle.std.proofs.lemmas.Bool.Decides.{nat_tests}
use Rattle.rec_bits.proofs.Lists.{all_append}
use Rattle.rec_bits.specs.declared.operator.Op2.{Op2}
use Rattle.rec_bits.specs.declared.operator.Op2.TheVariants.{Add, Sub, Mul, And, Or, Xor, Shl, Shr, Sar, Eq, Ltu, Lts}
use Rattle.rec_bits.specs.Operators.{result_width}
use Rattle.grammar.specs.declared.words.Ident.{Ident}
use Rattle.net_model.specs.declared.hardware.Netlist.{Netlist}
use Rattle.net_model.specs.declared.hardware.Net.{Net}
use Rattle.net_model.specs.declared.hardware.Gate.{Gate}
use Rattle.net_model.specs.declared.hardware.Gate.TheVariants as gate
use Rattle.net_model.specs.Widths.{HasWidth, RowsFit, RestFits}
use Rattle.net_model.specs.CheckedRules.{ReadKeeps, GateKeeps, NetKeeps, IsWhole}
use Rattle.rec_bits.specs.Operators.{IsWidth}
use Rattle.net_model.specs.Written.{NetExprModel, named, const, un, bin, cat, slice, zext, sext, read, case, CaseRowsModel, no_rows, row, CaseRestModel, no_rest, rest}
use Rattle.net_model.specs.TextWidths.{wide, is_width, is_below, named_width, memory_widths, MemoryWidthsModel, sliced, paired, joined_width, extended, read_width, numbers_fit}
use Rattle.net_model.specs.DriverRules.{covers, covers_rows, covers_rest, is_covered}
use Rattle.net_model.specs.Numbering.{SiteModel, scope_at, count, count_rows, count_rest, net_named, memory_at}
use Rattle.net_model.specs.Elaborated.{width_or_none, net_of, elaborated, nets_of_rows, nets_of_rest, out_of, row_pairs, rest_out}
use Rattle.rec_bits.proofs.Booleans.{and_left, and_right}
use Rattle.net_elab.proofs.Cases.{RowsHave, RestHas, case_has, no_arms}
use Rattle.net_elab.proofs.Standing.{Stands, stands_left, stands_right, has_at, length_nets, length_rows, length_rest}
use Rattle.net_elab.proofs.RowNumbers.{rows_apart, rows_whole}

pub width_range : (width : ℕ) → IsTrue (is_width width) → IsWidth width
width_range width h = (grind (arith, nat_tests), grind (arith, nat_tests))

-- ---- what the rule of widths says of an expression's parts

pub record Sliced (hi lo : ℕ) (x : Option ℕ) (w : ℕ) : Type 0 where
  pub of : ℕ
  pub of_is : x ≡ Some of
  pub down : lo ≤ hi
  pub within : hi < of
  pub width_is : hi + 1 - lo ≡ w

sliced_so : (b : Bool) (hi lo of w : ℕ) → (nat_le lo hi && nat_le (hi + 1) of) ≡ b → (if b then Some (hi + 1 - lo) else None) ≡ Some w → Sliced hi lo (Some of) w
sliced_so false hi lo of w t h = absurd (cc h)
sliced_so true hi lo of w t h =
    let a : IsTrue (nat_le lo hi) = and_left (nat_le lo hi) (nat_le (hi + 1) of) t in
    let b : IsTrue (nat_le (hi + 1) of) = and_right (nat_le lo hi) (nat_le (hi + 1) of) t in
    record { of = of; of_is = refl; down = grind (arith, nat_tests, a); within = (let k : hi + 1 ≤ of = grind (arith, nat_tests, b) in omega arith); width_is = cc }

pub sliced_has : (hi lo : ℕ) (x : Option ℕ) (w : ℕ) → sliced hi lo x ≡ Some w → Sliced hi lo x w
sliced_has hi lo None w h = absurd (cc h)
sliced_has hi lo (Some of) w h = sliced_so (nat_le lo hi && nat_le (hi + 1) of) hi lo of w refl h

pub record Paired (op : Op2) (x y : Option ℕ) (w : ℕ) : Type 0 where
  pub both : ℕ
  pub left_is : x ≡ Some both
  pub right_is : y ≡ Some both
  pub width_is : result_width op both ≡ w

paired_so : (t : Bool) (op : Op2) (a b w : ℕ) → (a == b) ≡ t → (if t then Some (result_width op a) else None) ≡ Some w → Paired op (Some a) (Some b) w
paired_so false op a b w t h = absurd (cc h)
paired_so true op a b w t h = let e : b ≡ a = grind (arith, nat_tests) in record { both = a; left_is = refl; right_is = ap Some e; width_is = cc }

pub paired_has : (op : Op2) (x y : Option ℕ) (w : ℕ) → paired op x y ≡ Some w → Paired op x y w
paired_has op None y w h = absurd (cc h)
paired_has op (Some a) None w h = absurd (cc h)
paired_has op (Some a) (Some b) w h = paired_so (a == b) op a b w refl h

pub record Joined (x y : Option ℕ) (w : ℕ) : Type 0 where
  pub left : ℕ
  pub right : ℕ
  pub left_is : x ≡ Some left
  pub right_is : y ≡ Some right
  pub width_is : left + right ≡ w
  pub few : w ≤ 64

joined_so : (t : Bool) (a b w : ℕ) → nat_le (a + b) 64 ≡ t → (if t then Some (a + b) else None) ≡ Some w → Joined (Some a) (Some b) w
joined_so false a b w t h = absurd (cc h)
joined_so true a b w t h =
    let k : a + b ≤ 64 = grind (arith, nat_tests) in
    let e : a + b ≡ w = cc in
    record { left = a; right = b; left_is = refl; right_is = refl; width_is = e; few = omega arith }

pub joined_has : (x y : Option ℕ) (w : ℕ) → joined_width x y ≡ Some w → Joined x y w
joined_has None y w h = absurd (cc h)
joined_has (Some a) None w h = absurd (cc h)
joined_has (Some a) (Some b) w h = joined_so (nat_le (a + b) 64) a b w refl h

pub record Extended (width : ℕ) (x : Option ℕ) (w : ℕ) : Type 0 where
  pub inner : ℕ
  pub inner_is : x ≡ Some inner
  pub wider : inner < w
  pub width_is : width ≡ w
  pub range : IsWidth w

extended_so : (t : Bool) (width a w : ℕ) → (is_width width && nat_le (a + 1) width) ≡ t → (if t then Some width else None) ≡ Some w → Extended width (Some a) w
extended_so false width a w t h = absurd (cc h)
extended_so true width a w t h =
    let r = width_range width (and_left (is_width width) (nat_le (a + 1) width) t) in
    let b : IsTrue (nat_le (a + 1) width) = and_right (is_width width) (nat_le (a + 1) width) t in
    let k : a + 1 ≤ width = grind (arith, nat_tests, b) in
    let e : width ≡ w = cc in
    record { inner = a; inner_is = refl; wider = omega arith; width_is = e; range = subst IsWidth e r }

pub extended_has : (width : ℕ) (x : Option ℕ) (w : ℕ) → extended width x ≡ Some w → Extended width x w
extended_has width None w h = absurd (cc h)
extended_has width (Some a) w h = extended_so (is_width width && nat_le (a + 1) width) width a w refl h

pub record IsReadOf (m : Option MemoryWidthsModel) (x : Option ℕ) (w : ℕ) : Type 0 where
  pub found : MemoryWidthsModel
  pub found_is : m ≡ Some found
  pub address_is : x ≡ Some found.address
  pub width_is : found.cell ≡ w

read_so : (t : Bool) (m : MemoryWidthsModel) (a w : ℕ) → (m.address == a) ≡ t → (if t then Some m.cell else None) ≡ Some w → IsReadOf (Some m) (Some a) w
read_so false m a w t h = absurd (cc h)
read_so true m a w t h = let e : a ≡ m.address = grind (arith, nat_tests) in record { found = m; found_is = refl; address_is = ap Some e; width_is = (let k : m.cell ≡ w = cc in k) }

pub read_has : (m : Option MemoryWidthsModel) (x : Option ℕ) (w : ℕ) → read_width m x ≡ Some w → IsReadOf m x w
read_has None x w h = absurd (cc h)
read_has (Some m) None w h = absurd (cc h)
read_has (Some m) (Some a) w h = read_so (m.address == a) m a w refl h

pub record IsConst (value width w : ℕ) : Type 0 where
  pub width_is : width ≡ w
  pub range : IsWidth w
  pub below : value < 2 ^ w

const_so : (t : Bool) (value width w : ℕ) → (is_width width && is_below value width) ≡ t → (if t then Some width else None) ≡ Some w → IsConst value width w
const_so false value width w t h = absurd (cc h)
const_so true value width w t h =
    let r = width_range width (and_left (is_width width) (is_below value width) t) in
    let b : IsTrue (nat_le (value + 1) (2 ^ width)) = and_right (is_width width) (is_below value width) t in
    let k : value < 2 ^ width = grind (arith, nat_tests, b) in
    let e : width ≡ w = cc in
    record { width_is = e; range = subst IsWidth e r; below = subst (λ (n : ℕ). value < 2 ^ n) e k }

pub const_has : (value width w : ℕ) → (if is_width width && is_below value width then Some width else None) ≡ Some w → IsConst value width w
const_has value width w h = const_so (is_width width && is_below value width) value width w refl h

result_range : (op : Op2) (v : ℕ) → IsWidth v → IsWidth (result_width op v)
result_range Eq v r = (lit≤ tt, lit≤ tt)
result_range Ltu v r = (lit≤ tt, lit≤ tt)
result_range Lts v r = (lit≤ tt, lit≤ tt)
result_range Add v r = r
result_range Sub v r = r
result_range Mul v r = r
result_range And v r = r
result_range Or v r = r
result_range Xor v r = r
result_range Shl v r = r
result_range Shr v r = r
result_range Sar v r = r

-- ---- where an expression stands

-- names stand for nets and memories of their widths
pub record SiteSound (netlist : Netlist) (site : SiteModel) : Type 0 where
  pub named_has : (name : List ℕ) (field : Option Ident) (w : ℕ) → named_width (scope_at site) name field ≡ Some w → HasWidth netlist (net_named site name field) w
  pub named_range : (name : List ℕ) (field : Option Ident) (w : ℕ) → named_width (scope_at site) name field ≡ Some w → IsWidth w
  pub cells_read : (name : List ℕ) (m : MemoryWidthsModel) → memory_widths (scope_at site) name ≡ Some m → (addr : ℕ) → HasWidth netlist addr m.address
      → ReadKeeps netlist m.cell addr (slice_get netlist.storages (memory_at site name))
  pub cells_range : (name : List ℕ) (m : MemoryWidthsModel) → memory_widths (scope_at site) name ≡ Some m → IsWidth m.cell

module _ (netlist : Netlist) (site : SiteModel) (sound : SiteSound netlist site) where
  abbrev pub Keeps : Net → Type 0
  Keeps net = NetKeeps netlist (Some net)

  -- ---- every width is 1 to 64

  pub wide_range : (a : NetExprModel) (w : ℕ) → wide (scope_at site) a ≡ Some w → IsWidth w
  wide_range (named name field None) w h = sound.named_range name.name field w h
  wide_range (named name field (Some bits)) w h =
      let k = sliced_has bits.0 bits.1 (named_width (scope_at site) name.name field) w h in
      let r = sound.named_range name.name field k.of k.of_is in
      (omega (arith, k.down, k.width_is), omega (arith, k.within, k.width_is, r.1))
  wide_range (const value width) w h = (const_has value width w h).range
  wide_range (un op a) w h = wide_range a w h
  wide_range (bin op a b) w h =
      let k = paired_has op (wide (scope_at site) a) (wide (scope_at site) b) w h in
      subst IsWidth k.width_is (result_range op k.both (wide_range a k.both k.left_is))
  wide_range (cat a b) w h =
      let k = joined_has (wide (scope_at site) a) (wide (scope_at site) b) w h in
      let r = wide_range a k.left k.left_is in
      (omega (arith, r.0, k.width_is), k.few)
  wide_range (slice a hi lo) w h =
      let k = sliced_has hi lo (wide (scope_at site) a) w h in
      let r = wide_range a k.of k.of_is in
      (omega (arith, k.down, k.width_is), omega (arith, k.within, k.width_is, r.1))
  wide_range (zext a width) w h = (extended_has width (wide (scope_at site) a) w h).range
  wide_range (sext a width) w h = (extended_has width (wide (scope_at site) a) w h).range
  wide_range (read name a) w h =
      let k = read_has (memory_widths (scope_at site) name.name) (wide (scope_at site) a) w h in
      subst IsWidth k.width_is (sound.cells_range name.name k.found k.found_is)
  wide_range (case selector (row numbers a rows) other) w h =
      wide_range a w ((case_has (scope_at site) selector (row numbers a rows) other w h).rows_have.1)
  wide_range (case selector no_rows (rest a)) w h = wide_range a w ((case_has (scope_at site) selector no_rows (rest a) w h).rest_has)
  wide_range (case selector no_rows no_rest) w h = absurd (no_arms (scope_at site) (wide (scope_at site) selector) w h)

  -- ---- the net that has the value has the width

  length_two : (at start : ℕ) (a b : NetExprModel) → length (elaborated site at start a ++ elaborated site at (start + count a) b) ≡ count a + count b
  length_two at start a b = omega (arith, length-append (elaborated site at start a) (elaborated site at (start + count a) b), length_nets site at start a, length_nets site at (start + count a) b)

  length_pair : (at start : ℕ) (selector : NetExprModel) (rows : CaseRowsModel) → length (elaborated site at start selector ++ nets_of_rows site at (start + count selector) rows) ≡ count selector + count_rows rows
  length_pair at start selector rows =
      omega (arith, length-append (elaborated site at start selector) (nets_of_rows site at (start + count selector) rows), length_nets site at start selector, length_rows site at (start + count selector) rows)

  length_three : (at start : ℕ) (selector : NetExprModel) (rows : CaseRowsModel) (other : CaseRestModel)
      → length (elaborated site at start selector ++ nets_of_rows site at (start + count selector) rows ++ nets_of_rest site at (start + count selector + count_rows rows) other)
      ≡ count selector + count_rows rows + count_rest other
  length_three at start selector rows other =
      omega (
        arith,
        length-append (elaborated site at start selector ++ nets_of_rows site at (start + count selector) rows) (nets_of_rest site at (start + count selector + count_rows rows) other),
        length_pair at start selector rows,
        length_rest site at (start + count selector + count_rows rows) other,
      )

  own_at : (at start : ℕ) (pre : List Net) (a : NetExprModel) (g : Gate) (n w : ℕ) → start + length pre ≡ n → wide (scope_at site) a ≡ Some w
      → Stands netlist.nets start (pre ++ net_of site at a g ∷ []) → HasWidth netlist n w
  own_at at start pre a g n w e h k = has_at netlist n (net_of site at a g) w (stands_right netlist.nets start n pre _ e k).0 (ap width_or_none h)

  pub out_has : (at start : ℕ) (a : NetExprModel) (w : ℕ) → wide (scope_at site) a ≡ Some w → Stands netlist.nets start (elaborated site at start a) → HasWidth netlist (out_of site start a) w
  out_has at start (named name field None) w h k = sound.named_has name.name field w h
  out_has at start (named name field (Some bits)) w h k = own_at at start [] (named name field (Some bits)) _ _ w (omega arith) h k
  out_has at start (const value width) w h k = own_at at start [] (const value width) _ _ w (omega arith) h k
  out_has at start (un op a) w h k = own_at at start (elaborated site at start a) (un op a) _ _ w (omega (arith, length_nets site at start a)) h k
  out_has at start (bin op a b) w h k =
      own_at at start (elaborated site at start a ++ elaborated site at (start + count a) b) (bin op a b) _ _ w
      (omega (arith, length_two at start a b)) h k
  out_has at start (cat a b) w h k =
      own_at at start (elaborated site at start a ++ elaborated site at (start + count a) b) (cat a b) _ _ w
      (omega (arith, length_two at start a b)) h k
  out_has at start (slice a hi lo) w h k = own_at at start (elaborated site at start a) (slice a hi lo) _ _ w (omega (arith, length_nets site at start a)) h k
  out_has at start (zext a width) w h k = own_at at start (elaborated site at start a) (zext a width) _ _ w (omega (arith, length_nets site at start a)) h k
  out_has at start (sext a width) w h k = own_at at start (elaborated site at start a) (sext a width) _ _ w (omega (arith, length_nets site at start a)) h k
  out_has at start (read name a) w h k = own_at at start (elaborated site at start a) (read name a) _ _ w (omega (arith, length_nets site at start a)) h k
  out_has at start (case selector rows other) w h k =
      own_at at start
      (elaborated site at start selector ++ nets_of_rows site at (start + count selector) rows ++ nets_of_rest site at (start + count selector + count_rows rows) other)
      (case selector rows other) _ _ w (omega (arith, length_three at start selector rows other)) h k

  -- ---- the parts of an expression stand where they are numbered

  two_stand : (at start : ℕ) (a b : NetExprModel) (behind : List Net) → Stands netlist.nets start (elaborated site at start a ++ elaborated site at (start + count a) b ++ behind)
      → Stands netlist.nets start (elaborated site at start a) × Stands netlist.nets (start + count a) (elaborated site at (start + count a) b)
  two_stand at start a b behind k =
      let l = stands_left netlist.nets start (elaborated site at start a ++ elaborated site at (start + count a) b) behind k in (
        stands_left netlist.nets start (elaborated site at start a) _ l,
        stands_right netlist.nets start (start + count a) (elaborated site at start a) _ (omega (arith, length_nets site at start a)) l,
      )

  three_stand : (at start : ℕ) (selector : NetExprModel) (rows : CaseRowsModel) (other : CaseRestModel) (behind : List Net)
      → Stands netlist.nets start
      (elaborated site at start selector ++ nets_of_rows site at (start + count selector) rows
      ++ nets_of_rest site at (start + count selector + count_rows rows) other ++ behind)
      → Stands netlist.nets start (elaborated site at start selector) × Stands netlist.nets (start + count selector) (nets_of_rows site at (start + count selector) rows)
      × Stands netlist.nets (start + count selector + count_rows rows) (nets_of_rest site at (start + count selector + count_rows rows) other)
  three_stand at start selector rows other behind k =
      let xs = elaborated site at start selector in
      let ys = nets_of_rows site at (start + count selector) rows in
      let zs = nets_of_rest site at (start + count selector + count_rows rows) other in
      let l = stands_left netlist.nets start (xs ++ ys ++ zs) behind k in
      let m = stands_left netlist.nets start (xs ++ ys) zs l in (
        stands_left netlist.nets start xs ys m,
        stands_right netlist.nets start (start + count selector) xs ys (omega (arith, length_nets site at start selector)) m,
        stands_right netlist.nets start (start + count selector + count_rows rows) (xs ++ ys) zs (omega (arith, length_pair at start selector rows)) l,
      )

  -- ---- the rows of a case

  pairs_fit : (key w out : ℕ) (numbers : List ℕ) (pairs : List (ℕ × ℕ)) → IsTrue (numbers_fit key numbers) → HasWidth netlist out w → RowsFit netlist key w pairs
      → RowsFit netlist key w (map (λ (n : ℕ). (n, out)) numbers ++ pairs)
  pairs_fit key w out [] pairs f o r = r
  pairs_fit key w out (n ∷ numbers) pairs f o r =
      let b : IsTrue (nat_le (n + 1) (2 ^ key)) = and_left (is_below n key) (numbers_fit key numbers) f in
      let k : n < 2 ^ key = grind (arith, nat_tests, b) in
      (k, o, pairs_fit key w out numbers pairs (and_right (is_below n key) (numbers_fit key numbers) f) o r)

  rows_fit : (at start key w : ℕ) (rows : CaseRowsModel) → RowsHave (scope_at site) key w rows → Stands netlist.nets start (nets_of_rows site at start rows)
      → RowsFit netlist key w (row_pairs site start rows)
  rows_fit at start key w no_rows h k = tt
  rows_fit at start key w (row numbers a rows) h k =
      pairs_fit key w (out_of site start a) numbers (row_pairs site (start + count a) rows) h.0
      (out_has at start a w h.1 (stands_left netlist.nets start _ _ k))
      (rows_fit at (start + count a) key w rows h.2
      (stands_right netlist.nets start (start + count a) (elaborated site at start a) _ (omega (arith, length_nets site at start a)) k))

  rest_fits : (at start w : ℕ) (other : CaseRestModel) → RestHas (scope_at site) w other → Stands netlist.nets start (nets_of_rest site at start other) → RestFits netlist w (rest_out site start other)
  rest_fits at start w no_rest h k = tt
  rest_fits at start w (rest a) h k = out_has at start a w h k

  -- ---- the nets keep the rules

  own_keeps : (at w : ℕ) (a : NetExprModel) (g : Gate) → wide (scope_at site) a ≡ Some w → IsWidth w → GateKeeps netlist w g → AllByRecursion Keeps (net_of site at a g ∷ [])
  own_keeps at w a g h r k =
      let e : w ≡ width_or_none (wide (scope_at site) a) = ap width_or_none (sym h) in
      ((subst IsWidth e r, subst (λ (n : ℕ). GateKeeps netlist n g) e k), tt)

  mutual
    pub keeps : (at start : ℕ) (a : NetExprModel) (w : ℕ) → wide (scope_at site) a ≡ Some w → IsTrue (covers (scope_at site) a) → Stands netlist.nets start (elaborated site at start a)
        → AllByRecursion Keeps (elaborated site at start a)
    keeps at start (named name field None) w h c k = tt
    keeps at start (named name field (Some bits)) w h c k =
        let p = sliced_has bits.0 bits.1 (named_width (scope_at site) name.name field) w h in
        let o = sound.named_has name.name field p.of p.of_is in
        own_keeps at w (named name field (Some bits)) (gate.Slice (net_named site name.name field) bits.0 bits.1) h (wide_range (named name field (Some bits)) w h)
        (o.0, p.down, rw (o.1) p.within, p.width_is)
    keeps at start (const value width) w h c k =
        own_keeps at w (const value width) (gate.Const value) h (wide_range (const value width) w h) ((const_has value width w h).below)
    keeps at start (un op a) w h c k =
        let l = stands_left netlist.nets start (elaborated site at start a) _ k in
        all_append Keeps (elaborated site at start a) _ (keeps at start a w h c l)
        (own_keeps at w (un op a) (gate.Un op (out_of site start a)) h (wide_range (un op a) w h) (out_has at start a w h l))
    keeps at start (bin op a b) w h c k =
        let p = paired_has op (wide (scope_at site) a) (wide (scope_at site) b) w h in
        let l = two_stand at start a b _ k in
        let x = out_has at start a p.both p.left_is l.0 in
        let y = out_has at (start + count a) b p.both p.right_is l.1 in
        all_append Keeps (elaborated site at start a ++ elaborated site at (start + count a) b) _
        (all_append Keeps (elaborated site at start a) _
        (keeps at start a p.both p.left_is (and_left _ _ c) l.0) (keeps at (start + count a) b p.both p.right_is (and_right _ _ c) l.1))
        (own_keeps at w (bin op a b) (gate.Bin op (out_of site start a) (out_of site (start + count a) b)) h (wide_range (bin op a b) w h)
        (x.0, rw (x.1) y, rw (x.1) (p.width_is)))
    keeps at start (cat a b) w h c k =
        let p = joined_has (wide (scope_at site) a) (wide (scope_at site) b) w h in
        let l = two_stand at start a b _ k in
        let x = out_has at start a p.left p.left_is l.0 in
        let y = out_has at (start + count a) b p.right p.right_is l.1 in
        all_append Keeps (elaborated site at start a ++ elaborated site at (start + count a) b) _
        (all_append Keeps (elaborated site at start a) _
        (keeps at start a p.left p.left_is (and_left _ _ c) l.0) (keeps at (start + count a) b p.right p.right_is (and_right _ _ c) l.1))
        (own_keeps at w (cat a b) (gate.Cat (out_of site start a) (out_of site (start + count a) b)) h (wide_range (cat a b) w h)
        (x.0, y.0, rw (x.1, y.1) (p.width_is)))
    keeps at start (slice a hi lo) w h c k =
        let p = sliced_has hi lo (wide (scope_at site) a) w h in
        let l = stands_left netlist.nets start (elaborated site at start a) _ k in
        let o = out_has at start a p.of p.of_is l in
        all_append Keeps (elaborated site at start a) _ (keeps at start a p.of p.of_is c l)
        (own_keeps at w (slice a hi lo) (gate.Slice (out_of site start a) hi lo) h (wide_range (slice a hi lo) w h)
        (o.0, p.down, rw (o.1) p.within, p.width_is))
    keeps at start (zext a width) w h c k =
        let p = extended_has width (wide (scope_at site) a) w h in
        let l = stands_left netlist.nets start (elaborated site at start a) _ k in
        let o = out_has at start a p.inner p.inner_is l in
        all_append Keeps (elaborated site at start a) _ (keeps at start a p.inner p.inner_is c l)
        (own_keeps at w (zext a width) (gate.Zext (out_of site start a)) h p.range (o.0, rw (o.1) p.wider))
    keeps at start (sext a width) w h c k =
        let p = extended_has width (wide (scope_at site) a) w h in
        let l = stands_left netlist.nets start (elaborated site at start a) _ k in
        let o = out_has at start a p.inner p.inner_is l in
        all_append Keeps (elaborated site at start a) _ (keeps at start a p.inner p.inner_is c l)
        (own_keeps at w (sext a width) (gate.Sext (out_of site start a)) h p.range (o.0, rw (o.1) p.wider))
    keeps at start (read name a) w h c k =
        let p = read_has (memory_widths (scope_at site) name.name) (wide (scope_at site) a) w h in
        let l = stands_left netlist.nets start (elaborated site at start a) _ k in
        let o = out_has at start a p.found.address p.address_is l in
        let r = sound.cells_read name.name p.found p.found_is (out_of site start a) o in
        all_append Keeps (elaborated site at start a) _ (keeps at start a p.found.address p.address_is c l)
        (own_keeps at w (read name a) (gate.Read (memory_at site name.name) (out_of site start a)) h (wide_range (read name a) w h)
        (subst (λ (n : ℕ). ReadKeeps netlist n (out_of site start a) (slice_get netlist.storages (memory_at site name.name))) p.width_is r))
    keeps at start (case selector rows other) w h c k =
        let p = case_has (scope_at site) selector rows other w h in
        let l = three_stand at start selector rows other _ k in
        let o = out_has at start selector p.key p.selector_is l.0 in
        let d : IsTrue (is_covered (wide (scope_at site) selector) rows other) = and_right (covers (scope_at site) selector && covers_rows (scope_at site) rows && covers_rest (scope_at site) other) _ c in
        let d_key : IsTrue (is_covered (Some p.key) rows other) = subst (λ (v : Option ℕ). IsTrue (is_covered v rows other)) p.selector_is d in
        let front = and_left (covers (scope_at site) selector && covers_rows (scope_at site) rows && covers_rest (scope_at site) other) _ c in
        let inner = and_left (covers (scope_at site) selector && covers_rows (scope_at site) rows) _ front in
        all_append Keeps _ _
        (all_append Keeps _ _
        (all_append Keeps (elaborated site at start selector) _
        (keeps at start selector p.key p.selector_is (and_left (covers (scope_at site) selector) _ inner) l.0)
        (rows_keep at (start + count selector) rows p.key w p.rows_have (and_right (covers (scope_at site) selector) _ inner) l.1))
        (rest_keeps at (start + count selector + count_rows rows) other w p.rest_has (and_right (covers (scope_at site) selector && covers_rows (scope_at site) rows) _ front) l.2))
        (own_keeps at w (case selector rows other)
        (gate.Case (out_of site start selector) (row_pairs site (start + count selector) rows) (rest_out site (start + count selector + count_rows rows) other)) h
        (wide_range (case selector rows other) w h) (
          (
            o.0,
            subst (λ (n : ℕ). RowsFit netlist n w (row_pairs site (start + count selector) rows)) (sym (o.1)) (rows_fit at (start + count selector) p.key w rows p.rows_have l.1),
            rest_fits at (start + count selector + count_rows rows) w other p.rest_has l.2,
          ),
          rows_apart site (start + count selector) (Some p.key) rows other d_key,
          subst (λ (n : ℕ). IsWhole n (row_pairs site (start + count selector) rows) (rest_out site (start + count selector + count_rows rows) other)) (sym (o.1))
              (rows_whole site (start + count selector) (start + count selector + count_rows rows) (scope_at site) p.key w rows other p.rows_have d_key),
        ))

    rows_keep : (at start : ℕ) (rows : CaseRowsModel) (key w : ℕ) → RowsHave (scope_at site) key w rows → IsTrue (covers_rows (scope_at site) rows) → Stands netlist.nets start (nets_of_rows site at start rows)
        → AllByRecursion Keeps (nets_of_rows site at start rows)
    rows_keep at start no_rows key w h c k = tt
    rows_keep at start (row numbers a rows) key w h c k =
        all_append Keeps (elaborated site at start a) _
        (keeps at start a w h.1 (and_left _ _ c) (stands_left netlist.nets start (elaborated site at start a) _ k))
        (rows_keep at (start + count a) rows key w h.2 (and_right _ _ c)
        (stands_right netlist.nets start (start + count a) (elaborated site at start a) _ (omega (arith, length_nets site at start a)) k))

    rest_keeps : (at start : ℕ) (other : CaseRestModel) (w : ℕ) → RestHas (scope_at site) w other → IsTrue (covers_rest (scope_at site) other) → Stands netlist.nets start (nets_of_rest site at start other)
        → AllByRecursion Keeps (nets_of_rest site at start other)
    rest_keeps at start no_rest w h c k = tt
    rest_keeps at start (rest a) w h c k = keeps at start a w h c k
