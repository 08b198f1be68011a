-- Where an operand is read at an address in the file, the bits of that address in a match's setting
-- are those that name the operand's cell.
use Rattle.std.proofs.Common.{◌≡◌, ℕ, zero, suc, ◌-◌, ◌<◌, ◌≤◌, ◌==◌, ◌&&◌, ◌||◌, ◌⊎◌, inl, inr, max, not, Bool, true, false, if◌then◌else◌, List, [], ◌∷◌, ◌++◌, length, slice_index, Option, Some, None, refl, sym, ap, ◌∙◌, subst, arith, length-append}
use Rattle.std.specs.Prelude.{slice_get}
use Rattle.std.specs.Int.{bit_at}
use Rattle.std.proofs.lemmas.Bool.{true≢false, cases_lt}
use Rattle.rec_bits.specs.declared.operator.Op1.{Op1}
use Rattle.rec_bits.specs.declared.operator.Op2.{Op2}
use Rattle.rec_bits.specs.declared.operator.Op2.TheVariants.{Add}
use Rattle.rec_bits.proofs.Booleans.{or_left, or_right, either}
use Rattle.rec_bits.proofs.Options.{picked}
use Rattle.rec_bits.proofs.Lists.{get_left_some}
use Rattle.net_model.specs.declared.hardware.Space.TheVariants.{Memory as InMemory, File as InFile}
use Rattle.net_model.specs.declared.states.State.{State}
use Rattle.net_model.specs.Exprs.{ExprModel, word, reg, const, read, un, bin, slice, cat, zext, sext, select, expr_width}
use Rattle.form_model.specs.Trees.{is_number, is_cell}
use Rattle.form_model.specs.Shapes.{Sum, is_plain, is_plain_sum, is_shape, shape_setting, shows_below, summands}
use Rattle.form_model.specs.Matches.{HomeModel, in_register, in_file, operand, cut, MatchModel, open_if, both, shape_match, literal_match, cell_match, read_match, un_match, bin_match, slice_match, zext_match, sext_match, matched, same_op1, same_op2}
use Rattle.form_model.specs.Steps.{CutCellsModel, bits_or_none}
use Rattle.form_model.specs.Bits.{uses}
use Rattle.emit_seq.specs.Formed.{BitsApart, IsOnce, CellsShown, homes_in}
use Rattle.emit_seq.specs.Leaves.{ReadsFrom}
use Rattle.form_model.proofs.SumNumbers.{sum_is_with}
use Rattle.emit_seq.proofs.Matched.{Joined, joined, Literal, literal, opened, bits_in, Holds, Split, split, pair_bits, IsMeant, matched_meant, file_bits}

decided : (b : Bool) (x y : Option MatchModel) (f : MatchModel) → (if b then x else y) ≡ Some f → ((b ≡ true) × (x ≡ Some f)) ⊎ ((b ≡ false) × (y ≡ Some f))
decided true x y f h = inl (refl, h)
decided false x y f h = inr (refl, h)

-- ---- an item of two lists

get_front : {X : Type 0} (xs ys : List X) (i : ℕ) (x : X) → i < length xs → slice_get (xs ++ ys) i ≡ Some x → slice_get xs i ≡ Some x
get_front [] ys i x lt h = absurd (omega (arith, lt))
get_front (z ∷ xs) ys zero x lt h = h
get_front (z ∷ xs) ys (suc i) x lt h = get_front xs ys i x (omega (arith, lt)) h

get_back : {X : Type 0} (xs ys : List X) (i : ℕ) (x : X) → length xs ≤ i → slice_get (xs ++ ys) i ≡ Some x → slice_get ys (i - length xs) ≡ Some x
get_back [] ys i x le h = let e : i - 0 ≡ i = omega arith in ap (slice_get ys) e ∙ h
get_back (z ∷ xs) ys zero x le h = absurd (omega (arith, le))
get_back (z ∷ xs) ys (suc i) x le h = let e : suc i - suc (length xs) ≡ i - length xs = omega arith in ap (slice_get ys) e ∙ get_back xs ys i x (omega (arith, le)) h

put_back : {X : Type 0} (xs ys : List X) (i : ℕ) (x : X) → length xs ≤ i → slice_get ys (i - length xs) ≡ Some x → slice_get (xs ++ ys) i ≡ Some x
put_back [] ys i x le h = let e : i ≡ i - 0 = omega arith in ap (slice_get ys) e ∙ h
put_back (z ∷ xs) ys zero x le h = absurd (omega (arith, le))
put_back (z ∷ xs) ys (suc i) x le h = let e : i - length xs ≡ suc i - suc (length xs) = omega arith in put_back xs ys i x (omega (arith, le)) (ap (slice_get ys) e ∙ h)

pick_none : (b : Bool) (xs : List HomeModel) → b ≡ true → (if b then [] else xs) ≡ []
pick_none true xs e = refl
pick_none false xs e = absurd (cc)

pick_some : (b : Bool) (xs : List HomeModel) → b ≡ false → (if b then [] else xs) ≡ xs
pick_some true xs e = absurd (cc)
pick_some false xs e = refl

-- a field shape takes no operands
plain_homeless : (t : ExprModel) → is_plain t ≡ true → homes_in t ≡ []
plain_homeless (const w v) h = refl
plain_homeless (zext a w) h = pick_none (is_shape (zext a w)) (homes_in a) h
plain_homeless (sext a w) h = pick_none (is_shape (sext a w)) (homes_in a) h
plain_homeless (word w) h = refl
plain_homeless (slice a hi lo) h = pick_none (is_shape (slice a hi lo)) (homes_in a) h
plain_homeless t h = absurd (true≢false (sym h))

sum_homeless : (a b : ExprModel) (s : Sum) → summands a b ≡ Some s → is_plain s.to ≡ true → homes_in a ++ homes_in b ≡ []
sum_homeless (const w c) b s e p = plain_homeless b (ap (λ (z : Sum). is_plain z.to) (sum_is_with w c b s e).is ∙ p)
sum_homeless a (const w c) s e p = ap (λ z. z ++ []) (plain_homeless a (ap (λ (z : Sum). is_plain z.to) (sum_is_with w c a s e).is ∙ p))
sum_homeless a b s e p = absurd (cc)

shape_homeless : (t : ExprModel) → is_shape t ≡ true → homes_in t ≡ []
shape_homeless (bin Add a b) h = by (summands a b) refl h
  where
    by : (o : Option Sum) → summands a b ≡ o → is_plain_sum o ≡ true → homes_in a ++ homes_in b ≡ []
    by None e p = absurd (true≢false (sym p))
    by (Some s) e p = sum_homeless a b s e p
shape_homeless (bin _ a b) h = absurd (true≢false (sym h))
shape_homeless (const w v) h = plain_homeless (const w v) h
shape_homeless (zext a w) h = plain_homeless (zext a w) h
shape_homeless (sext a w) h = plain_homeless (sext a w) h
shape_homeless (word w) h = plain_homeless (word w) h
shape_homeless (slice a hi lo) h = plain_homeless (slice a hi lo) h
shape_homeless t h = absurd (true≢false (sym h))

-- the bits of an address of the file occur in the expression
chosen_used : (b : Bool) (xs : List HomeModel) (place : ℕ) (a : ExprModel) → slice_get (if b then [] else xs) place ≡ Some (in_file a) → slice_get xs place ≡ Some (in_file a)
chosen_used true xs place a h = absurd (cc)
chosen_used false xs place a h = h

home_used : (e : ExprModel) (place : ℕ) (a : ExprModel) (j : ℕ) → slice_get (homes_in e) place ≡ Some (in_file a) → uses a j ≡ true → uses e j ≡ true
home_used (word w) place a j h u = absurd (cc)
home_used (reg r w) zero a j h u = absurd (cc)
home_used (reg r w) (suc place) a j h u = absurd (cc)
home_used (const w v) place a j h u = absurd (cc)
home_used (read InMemory b w) place a j h u = home_used b place a j (chosen_used (is_shape b) (homes_in b) place a h) u
home_used (read InFile b w) zero a j h u = let e : b ≡ a = cc in ap (λ z. uses z j) e ∙ u
home_used (read InFile b w) (suc place) a j h u = absurd (cc)
home_used (un o b) place a j h u = home_used b place a j h u
home_used (bin o b c) place a j h u =
    elim (cases_lt place (length (homes_in b))) as (λ _. (uses b j || uses c j) ≡ true) [
      | inl lt ↦ or_left (uses b j) (uses c j) (home_used b place a j (get_front (homes_in b) (homes_in c) place (in_file a) lt h) u)
      | inr le ↦ or_right (uses b j) (uses c j) (home_used c (place - length (homes_in b)) a j (get_back (homes_in b) (homes_in c) place (in_file a) le h) u)
    ]
home_used (slice (word w) hi lo) place a j h u = absurd (cc)
home_used (slice (reg r w) hi lo) place a j h u = home_used (reg r w) place a j h u
home_used (slice (const w v) hi lo) place a j h u = home_used (const w v) place a j h u
home_used (slice (read space b w) hi lo) place a j h u = home_used (read space b w) place a j h u
home_used (slice (un o b) hi lo) place a j h u = home_used (un o b) place a j h u
home_used (slice (bin o b c) hi lo) place a j h u = home_used (bin o b c) place a j h u
home_used (slice (slice b k l) hi lo) place a j h u = home_used (slice b k l) place a j h u
home_used (slice (cat b c) hi lo) place a j h u = home_used (cat b c) place a j h u
home_used (slice (zext b w) hi lo) place a j h u = home_used (zext b w) place a j h u
home_used (slice (sext b w) hi lo) place a j h u = home_used (sext b w) place a j h u
home_used (slice (select b c d) hi lo) place a j h u = home_used (select b c d) place a j h u
home_used (cat b c) place a j h u =
    elim (cases_lt place (length (homes_in b))) as (λ _. (uses b j || uses c j) ≡ true) [
      | inl lt ↦ or_left (uses b j) (uses c j) (home_used b place a j (get_front (homes_in b) (homes_in c) place (in_file a) lt h) u)
      | inr le ↦ or_right (uses b j) (uses c j) (home_used c (place - length (homes_in b)) a j (get_back (homes_in b) (homes_in c) place (in_file a) le h) u)
    ]
home_used (zext b w) place a j h u = home_used b place a j (chosen_used (is_shape (zext b w)) (homes_in b) place a h) u
home_used (sext b w) place a j h u = home_used b place a j (chosen_used (is_shape (sext b w)) (homes_in b) place a h) u
home_used (select b c d) place a j h u =
    elim (cases_lt place (length (homes_in b))) as (λ _. (uses b j || (uses c j || uses d j)) ≡ true) [
      | inl lt ↦ or_left (uses b j) (uses c j || uses d j) (home_used b place a j (get_front (homes_in b) (homes_in c ++ homes_in d) place (in_file a) lt h) u)
      | inr le ↦ or_right (uses b j) (uses c j || uses d j)
          (let rest = place - length (homes_in b) in
          let k = get_back (homes_in b) (homes_in c ++ homes_in d) place (in_file a) le h in
          elim (cases_lt rest (length (homes_in c))) as (λ _. (uses c j || uses d j) ≡ true) [
            | inl lt ↦ or_left (uses c j) (uses d j) (home_used c rest a j (get_front (homes_in c) (homes_in d) rest (in_file a) lt k) u)
            | inr more ↦ or_right (uses c j) (uses d j) (home_used d (rest - length (homes_in c)) a j (get_back (homes_in c) (homes_in d) rest (in_file a) more k) u)
          ])
    ]

-- a match has as many homes as its expression, and the bits of the address of each that is in the
-- file name its cell
pub record HasHomes (e : ExprModel) (f : MatchModel) (cuts : List CutCellsModel) (homes : List (Option ℕ)) : Type 0 where
  pub long : length homes ≡ length (homes_in e)
  pub filed : (place : ℕ) (a : ExprModel) → slice_get (homes_in e) place ≡ Some (in_file a) → (c : ℕ) × (slice_get homes place ≡ Some (Some c))
  pub bits : (place : ℕ) (a : ExprModel) (c : ℕ) → slice_get (homes_in e) place ≡ Some (in_file a) → slice_get homes place ≡ Some (Some c) → (j : ℕ) → uses a j ≡ true
      → bit_at (bits_in f cuts homes) j ≡ bit_at (bits_or_none (shape_setting a c)) j

none_homes : (e : ExprModel) (f : MatchModel) (cuts : List CutCellsModel) (homes : List (Option ℕ)) → homes_in e ≡ [] → homes ≡ [] → HasHomes e f cuts homes
none_homes e f cuts homes n m = record {
  long = ap (λ (z : List (Option ℕ)). length z) m ∙ sym (ap (λ (z : List HomeModel). length z) n);
  filed = λ place a h. absurd (no_item place (in_file a) (ap (λ z. slice_get z place) (sym n) ∙ h));
  bits = λ place a c h k j u. absurd (let h' : slice_get [] place ≡ Some (in_file a) = ap (λ z. slice_get z place) (sym n) ∙ h in no_item place (in_file a) h');
}
  where
    no_item : (place : ℕ) (x : HomeModel) → slice_get [] place ≡ Some x → ⊥
    no_item zero x h = absurd (cc)
    no_item (suc place) x h = absurd (cc)

same_homes : (e e' : ExprModel) (f : MatchModel) (cuts : List CutCellsModel) (homes : List (Option ℕ)) → homes_in e ≡ homes_in e' → HasHomes e' f cuts homes → HasHomes e f cuts homes
same_homes e e' f cuts homes same h = record {
  long = h.long ∙ sym (ap (λ (z : List HomeModel). length z) same);
  filed = λ place a x. h.filed place a (ap (λ z. slice_get z place) (sym same) ∙ x);
  bits = λ place a c x k j u. h.bits place a c (ap (λ z. slice_get z place) (sym same) ∙ x) k j u;
}

module _ (temps size : ℕ) (before now : State) (same : (c : ℕ) → temps ≤ c → slice_index now.cells c ≡ slice_index before.cells c) where
  shape_homes : (e shape t : ExprModel) (f : MatchModel) (cuts : List CutCellsModel) (homes : List (Option ℕ)) → homes_in e ≡ [] → shape_match shape t ≡ Some f → Holds temps size before now f.leaves cuts homes → HasHomes e f cuts homes
  shape_homes e shape t f cuts homes n h k =
      let l : Literal shape t f = literal shape t f h in
      let none : (cuts ≡ []) × (homes ≡ []) = subst (λ (z : MatchModel). Holds temps size before now z.leaves cuts homes) (sym l.is) k in
      none_homes e f cuts homes n none.1

  cut_homes : (e : ExprModel) (b : Bool) (shape t : ExprModel) (f : MatchModel) (cuts : List CutCellsModel) (homes : List (Option ℕ)) → homes_in e ≡ [] → open_if b (cut shape t) ≡ Some f
      → Holds temps size before now f.leaves cuts homes → HasHomes e f cuts homes
  cut_homes e b shape t f cuts homes n h k =
      let p : (b ≡ true) × (record { setting = 0; leaves = cut shape t ∷ [] } ≡ f) = opened _ _ _ h in
      go cuts (subst (λ (z : MatchModel). Holds temps size before now z.leaves cuts homes) (sym p.1) k)
    where
      go : (cs : List CutCellsModel) → Holds temps size before now (cut shape t ∷ []) cs homes → HasHomes e f cuts homes
      go [] held = absurd held
      go (c ∷ cs) held = none_homes e f cuts homes n held.3.1

  literal_homes : (e shape t : ExprModel) (f : MatchModel) (cuts : List CutCellsModel) (homes : List (Option ℕ)) → homes_in e ≡ [] → literal_match shape t ≡ Some f → Holds temps size before now f.leaves cuts homes → HasHomes e f cuts homes
  literal_homes e shape (read InMemory b w) f cuts homes n h k = shape_homes e shape b f cuts homes n h k
  literal_homes e shape t f cuts homes n h k = absurd (cc)

  cell_homes : (e : ExprModel) (shape : ExprModel) (w : ℕ) (t : ExprModel) (whole : Bool) (f : MatchModel) (cuts : List CutCellsModel) (homes : List (Option ℕ)) → homes_in e ≡ [] → cell_match temps shape w t whole ≡ Some f
      → Holds temps size before now f.leaves cuts homes → HasHomes e f cuts homes
  cell_homes e shape w t whole f cuts homes n h k =
      let p : ((w == expr_width t) ≡ true)
      × ((if is_cell t then literal_match shape t else open_if (not whole && shows_below shape temps) (cut shape t)) ≡ Some f) = picked _ _ _ h in
      elim (either (is_cell t) (literal_match shape t) (open_if (not whole && shows_below shape temps) (cut shape t)) (Some f) p.1) as (λ _. HasHomes e f cuts homes) [
        | inl l ↦ literal_homes e shape t f cuts homes n l k
        | inr l ↦ cut_homes e (not whole && shows_below shape temps) shape t f cuts homes n l k
      ]

  abbrev Homed : ExprModel → Type 0
  Homed e = (t : ExprModel) (whole : Bool) (f : MatchModel) (cuts : List CutCellsModel) (homes : List (Option ℕ)) → matched temps e t whole ≡ Some f → ReadsFrom temps before t
      → Holds temps size before now f.leaves cuts homes → HasHomes e f cuts homes

  reg_homes : (id w : ℕ) → Homed (reg id w)
  reg_homes id w t whole f cuts homes h r k =
      let p : ((w == expr_width t) ≡ true) × (record { setting = 0; leaves = operand (in_register id) t whole ∷ [] } ≡ f) = opened _ _ _ h in
      record { long = long homes (subst (λ (z : MatchModel). Holds temps size before now z.leaves cuts homes) (sym p.1) k); filed = λ place a x. absurd (other place a x); bits = λ place a c x y j u. absurd (other place a x) }
    where
      long : (hs : List (Option ℕ)) → Holds temps size before now (operand (in_register id) t whole ∷ []) cuts hs → length hs ≡ 1
      long [] held = absurd held
      long (c ∷ hs) held = let e = ap (λ (z : List (Option ℕ)). length z) held.1.1 in omega (arith, e)

      other : (place : ℕ) (a : ExprModel) → slice_get (in_register id ∷ []) place ≡ Some (in_file a) → ⊥
      other zero a x = absurd (cc)
      other (suc place) a x = absurd (cc)

  file_homes : (b : ExprModel) (w : ℕ) → Homed (read InFile b w)
  file_homes b w t whole f cuts homes h r k =
      let p : ((w == expr_width t) ≡ true) × (record { setting = 0; leaves = operand (in_file b) t whole ∷ [] } ≡ f) = opened _ _ _ h in
      let held : Holds temps size before now (operand (in_file b) t whole ∷ []) cuts homes = subst (λ (z : MatchModel). Holds temps size before now z.leaves cuts homes) (sym p.1) k in
      record {
        long = long homes held;
        filed = λ place a x. filed place a homes x held;
        bits = λ place a c x y j u.
            let (q, at) = first place a c homes x y held in
            ap (λ (z : MatchModel). bit_at (bits_in z cuts homes) j) (sym p.1) ∙ file_bits temps size before now b t whole cuts homes c held at j
            ∙ ap (λ z. bit_at (bits_or_none (shape_setting z c)) j) q;
      }
    where
      long : (hs : List (Option ℕ)) → Holds temps size before now (operand (in_file b) t whole ∷ []) cuts hs → length hs ≡ 1
      long [] held = absurd held
      long (c ∷ hs) held = let e = ap (λ (z : List (Option ℕ)). length z) held.1.1 in omega (arith, e)

      filed : (place : ℕ) (a : ExprModel) (hs : List (Option ℕ)) → slice_get (in_file b ∷ []) place ≡ Some (in_file a)
          → Holds temps size before now (operand (in_file b) t whole ∷ []) cuts hs → (c : ℕ) × (slice_get hs place ≡ Some (Some c))
      filed place a [] x held = absurd held
      filed zero a (None ∷ hs) x held = absurd held.0
      filed zero a (Some c ∷ hs) x held = (c, refl)
      filed (suc place) a (c ∷ hs) x held = absurd (cc)

      first : (place : ℕ) (a : ExprModel) (c : ℕ) (hs : List (Option ℕ)) → slice_get (in_file b ∷ []) place ≡ Some (in_file a) → slice_get hs place ≡ Some (Some c)
          → Holds temps size before now (operand (in_file b) t whole ∷ []) cuts hs → (b ≡ a) × (slice_get hs 0 ≡ Some (Some c))
      first zero a c hs x y held = (cc, y)
      first (suc place) a c hs x y held = absurd (cc)

  bin_homes : (a b : ExprModel) (op : Op2) → Homed a → Homed b → IsOnce a → IsOnce b → CellsShown size a → CellsShown size b → BitsApart a b → BitsApart b a → (t : ExprModel) (f : MatchModel) (cuts : List CutCellsModel) (homes : List (Option ℕ))
      → bin_match (matched temps a) (matched temps b) op t ≡ Some f → ReadsFrom temps before t → Holds temps size before now f.leaves cuts homes → HasHomes (bin op a b) f cuts homes
  bin_homes a b op iha ihb oa ob qa qb ab ba (bin o c d) f cuts homes h r k =
      let p : (same_op2 o op ≡ true) × (both (matched temps a c false) (matched temps b d false) ≡ Some f) = picked _ _ _ h in
      let j : Joined (matched temps a c false) (matched temps b d false) f = joined _ _ _ p.1 in
      let s : Split temps size before now j.first.leaves j.second.leaves cuts homes =
      split temps size before now j.first.leaves j.second.leaves cuts homes (subst (λ (z : MatchModel). Holds temps size before now z.leaves cuts homes) (sym j.is) k) in
      let x : HasHomes a j.first s.front s.fronts = iha c false j.first s.front s.fronts j.is_first r.0 s.first in
      let y : HasHomes b j.second s.back s.backs = ihb d false j.second s.back s.backs j.is_second r.1 s.second in
      let m : IsMeant temps size before now a c j.first s.front s.fronts = matched_meant temps size before now same a oa qa c false j.first s.front s.fronts j.is_first r.0 s.first in
      let n : IsMeant temps size before now b d j.second s.back s.backs = matched_meant temps size before now same b ob qb d false j.second s.back s.backs j.is_second r.1 s.second in
      let set : (k : ℕ) → bit_at (bits_in f cuts homes) k ≡ max (bit_at (bits_in j.first s.front s.fronts) k) (bit_at (bits_in j.second s.back s.backs) k) =
      pair_bits j.first j.second f cuts s.front s.back homes s.fronts s.backs j.is s.bits_of in
      record {
        long =
            ap (λ (z : List (Option ℕ)). length z) s.joins ∙ length-append s.fronts s.backs
            ∙ (let lx = x.long in let ly = y.long in let l = length-append (homes_in a) (homes_in b) in omega (arith, lx, ly, l));
        filed = λ place e u. elim (cases_lt place (length (homes_in a))) as (λ _. (v : ℕ) × (slice_get homes place ≡ Some (Some v))) [
          | inl lt ↦
              let (v, at) = x.filed place e (get_front (homes_in a) (homes_in b) place (in_file e) lt u) in
              (v, ap (λ z. slice_get z place) s.joins ∙ get_left_some s.fronts s.backs place (Some v) at)
          | inr le ↦
              let (v, at) = y.filed (place - length (homes_in a)) e (get_back (homes_in a) (homes_in b) place (in_file e) le u) in
              let lx = x.long in
              (v, ap (λ z. slice_get z place) s.joins ∙ put_back s.fronts s.backs place (Some v) (omega (arith, lx, le)) (ap (λ z. slice_get s.backs (place - z)) lx ∙ at))
        ];
        bits = λ place e v u w i g.
            let w' : slice_get (s.fronts ++ s.backs) place ≡ Some (Some v) = ap (λ z. slice_get z place) (sym s.joins) ∙ w in
            elim (cases_lt place (length (homes_in a))) as (λ _. bit_at (bits_in f cuts homes) i ≡ bit_at (bits_or_none (shape_setting e v)) i) [
              | inl lt ↦
                  let u' : slice_get (homes_in a) place ≡ Some (in_file e) = get_front (homes_in a) (homes_in b) place (in_file e) lt u in
                  let here = x.bits place e v u' (get_front s.fronts s.backs place (Some v) (let lx = x.long in omega (arith, lx, lt)) w') i g in
                  let there = n.within i (ab i (home_used a place e i u' g)) in
                  omega (arith, set i, here, there)
              | inr le ↦
                  let u' : slice_get (homes_in b) (place - length (homes_in a)) ≡ Some (in_file e) = get_back (homes_in a) (homes_in b) place (in_file e) le u in
                  let lx = x.long in
                  let at : slice_get s.backs (place - length (homes_in a)) ≡ Some (Some v) =
                  ap (λ z. slice_get s.backs (place - z)) (sym lx) ∙ get_back s.fronts s.backs place (Some v) (omega (arith, lx, le)) w' in
                  let here = y.bits (place - length (homes_in a)) e v u' at i g in
                  let there = m.within i (ba i (home_used b (place - length (homes_in a)) e i u' g)) in
                  omega (arith, set i, here, there)
            ];
      }
  bin_homes a b op iha ihb oa ob qa qb ab ba t f cuts homes h r k = absurd (cc)

  un_homes : (a : ExprModel) (op : Op1) → Homed a → (t : ExprModel) (f : MatchModel) (cuts : List CutCellsModel) (homes : List (Option ℕ)) → un_match (matched temps a) op t ≡ Some f → ReadsFrom temps before t
      → Holds temps size before now f.leaves cuts homes → HasHomes (un op a) f cuts homes
  un_homes a op ih (un o b) f cuts homes h r k =
      let p : (same_op1 o op ≡ true) × (matched temps a b false ≡ Some f) = picked _ _ _ h in
      let x : HasHomes a f cuts homes = ih b false f cuts homes p.1 r k in
      record { long = x.long; filed = x.filed; bits = x.bits }
  un_homes a op ih t f cuts homes h r k = absurd (cc)

  read_homes : (a : ExprModel) (w : ℕ) → Homed a → (t : ExprModel) (f : MatchModel) (cuts : List CutCellsModel) (homes : List (Option ℕ)) → read_match (matched temps a) w t ≡ Some f → ReadsFrom temps before t
      → Holds temps size before now f.leaves cuts homes → HasHomes a f cuts homes
  read_homes a w ih (read InMemory b v) f cuts homes h r k =
      let p : ((v == w) ≡ true) × (matched temps a b (is_number b) ≡ Some f) = picked _ _ _ h in
      ih b (is_number b) f cuts homes p.1 r.1 k
  read_homes a w ih t f cuts homes h r k = absurd (cc)

  slice_homes : (a : ExprModel) (hi lo : ℕ) → Homed a → (t : ExprModel) (f : MatchModel) (cuts : List CutCellsModel) (homes : List (Option ℕ)) → slice_match (matched temps a) (expr_width a) hi lo t ≡ Some f → ReadsFrom temps before t
      → Holds temps size before now f.leaves cuts homes → HasHomes a f cuts homes
  slice_homes a hi lo ih (slice b i l) f cuts homes h r k =
      let p : (((expr_width b == expr_width a) && ((i == hi) && (l == lo))) ≡ true) × (matched temps a b false ≡ Some f) = picked _ _ _ h in
      ih b false f cuts homes p.1 r k
  slice_homes a hi lo ih t f cuts homes h r k = absurd (cc)

  zext_homes : (a : ExprModel) (w : ℕ) → Homed a → (t : ExprModel) (f : MatchModel) (cuts : List CutCellsModel) (homes : List (Option ℕ)) → zext_match (matched temps a) (expr_width a) w t ≡ Some f → ReadsFrom temps before t
      → Holds temps size before now f.leaves cuts homes → HasHomes a f cuts homes
  zext_homes a w ih (zext b v) f cuts homes h r k =
      let p : (((expr_width b == expr_width a) && (v == w)) ≡ true) × (matched temps a b false ≡ Some f) = picked _ _ _ h in
      ih b false f cuts homes p.1 r k
  zext_homes a w ih t f cuts homes h r k = absurd (cc)

  sext_homes : (a : ExprModel) (w : ℕ) → Homed a → (t : ExprModel) (f : MatchModel) (cuts : List CutCellsModel) (homes : List (Option ℕ)) → sext_match (matched temps a) (expr_width a) w t ≡ Some f → ReadsFrom temps before t
      → Holds temps size before now f.leaves cuts homes → HasHomes a f cuts homes
  sext_homes a w ih (sext b v) f cuts homes h r k =
      let p : (((expr_width b == expr_width a) && (v == w)) ≡ true) × (matched temps a b false ≡ Some f) = picked _ _ _ h in
      ih b false f cuts homes p.1 r k
  sext_homes a w ih t f cuts homes h r k = absurd (cc)

  pub matched_homes : (e : ExprModel) → IsOnce e → CellsShown size e → Homed e
  matched_homes (word w) o q t whole f cuts homes h r k = shape_homes (word w) (word w) t f cuts homes refl h k
  matched_homes (const w v) o q t whole f cuts homes h r k = shape_homes (const w v) (const w v) t f cuts homes refl h k
  matched_homes (reg id w) o q t whole f cuts homes h r k = reg_homes id w t whole f cuts homes h r k
  matched_homes (read InFile a w) o q t whole f cuts homes h r k = file_homes a w t whole f cuts homes h r k
  matched_homes (read InMemory a w) o q t whole f cuts homes h r k =
      elim (decided (is_shape a) (cell_match temps a w t whole) (read_match (matched temps a) w t) f h) as (λ _. HasHomes (read InMemory a w) f cuts homes) [
        | inl l ↦ cell_homes (read InMemory a w) a w t whole f cuts homes (pick_none (is_shape a) (homes_in a) l.0) l.1 k
        | inr l ↦ same_homes (read InMemory a w) a f cuts homes (pick_some (is_shape a) (homes_in a) l.0) (read_homes a w (matched_homes a o q) t f cuts homes l.1 r k)
      ]
  matched_homes (un op a) o q t whole f cuts homes h r k = un_homes a op (matched_homes a o q) t f cuts homes h r k
  matched_homes (bin op a b) o q t whole f cuts homes h r k =
      elim (decided (is_shape (bin op a b)) (shape_match (bin op a b) t) (bin_match (matched temps a) (matched temps b) op t) f h) as (λ _. HasHomes (bin op a b) f cuts homes) [
        | inl l ↦ shape_homes (bin op a b) (bin op a b) t f cuts homes (shape_homeless (bin op a b) l.0) l.1 k
        | inr l ↦ bin_homes a b op (matched_homes a o.0 q.0) (matched_homes b o.1 q.1) o.0 o.1 q.0 q.1 o.2 o.3 t f cuts homes l.1 r k
      ]
  matched_homes (slice a hi lo) o q t whole f cuts homes h r k =
      elim (decided (is_shape (slice a hi lo)) (shape_match (slice a hi lo) t) (slice_match (matched temps a) (expr_width a) hi lo t) f h) as (λ _. HasHomes (slice a hi lo) f cuts homes) [
        | inl l ↦ shape_homes (slice a hi lo) (slice a hi lo) t f cuts homes (pick_none (is_shape (slice a hi lo)) (homes_in a) l.0) l.1 k
        | inr l ↦ same_homes (slice a hi lo) a f cuts homes (pick_some (is_shape (slice a hi lo)) (homes_in a) l.0) (slice_homes a hi lo (matched_homes a o q) t f cuts homes l.1 r k)
      ]
  matched_homes (zext a w) o q t whole f cuts homes h r k =
      elim (decided (is_shape (zext a w)) (shape_match (zext a w) t) (zext_match (matched temps a) (expr_width a) w t) f h) as (λ _. HasHomes (zext a w) f cuts homes) [
        | inl l ↦ shape_homes (zext a w) (zext a w) t f cuts homes (pick_none (is_shape (zext a w)) (homes_in a) l.0) l.1 k
        | inr l ↦ same_homes (zext a w) a f cuts homes (pick_some (is_shape (zext a w)) (homes_in a) l.0) (zext_homes a w (matched_homes a o q) t f cuts homes l.1 r k)
      ]
  matched_homes (sext a w) o q t whole f cuts homes h r k =
      elim (decided (is_shape (sext a w)) (shape_match (sext a w) t) (sext_match (matched temps a) (expr_width a) w t) f h) as (λ _. HasHomes (sext a w) f cuts homes) [
        | inl l ↦ shape_homes (sext a w) (sext a w) t f cuts homes (pick_none (is_shape (sext a w)) (homes_in a) l.0) l.1 k
        | inr l ↦ same_homes (sext a w) a f cuts homes (pick_some (is_shape (sext a w)) (homes_in a) l.0) (sext_homes a w (matched_homes a o q) t f cuts homes l.1 r k)
      ]
  matched_homes (cat a b) o q t whole f cuts homes h r k = absurd (cc)
  matched_homes (select c a b) o q t whole f cuts homes h r k = absurd (cc)
