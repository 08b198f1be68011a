-- The rows of a case, and its width.
use Rattle.std.proofs.Common.{ℕ, ◌≡◌, ◌+◌, ◌==◌, ◌⊎◌, Bool, true, false, if◌then◌else◌, List, ◌++◌, length, Option, Some, None, refl, sym, ap, ◌∙◌, subst, arith, IsSome, IsTrue, inl, inr}
use Rattle.std.proofs.lemmas.Bool.Decides.{nat_tests}
use Rattle.net_model.specs.declared.hardware.Net.{Net}
use Rattle.net_model.specs.Written.{NetExprModel, case, CaseRowsModel, no_rows, row, CaseRestModel, no_rest, rest}
use Rattle.net_model.specs.TextNames.{ScopeModel}
use Rattle.net_model.specs.TextWidths.{wide, numbers_fit, SeenModel, nothing_yet, seen, broken_already, seen_more, seen_first, seen_rows, seen_rest, seen_width, row_seen}
use Rattle.net_model.specs.Numbering.{count_rows, SiteModel, scope_at}
use Rattle.net_model.specs.Elaborated.{width_or_none, nets_of_rows, row_pairs}
use Rattle.net_elab.specs.Inner.Emissions.{AllWide, IsWideRest, last_width}

-- the rows so far, and those that are left
pub record Rowed (site : SiteModel) (at : ℕ) (old : List Net) (all left : CaseRowsModel) (nets : List Net) (pairs : List (ℕ × ℕ)) (width : ℕ) : Type 0 where
  pub nets_so : nets ++ nets_of_rows site at (length nets) left ≡ old ++ nets_of_rows site at (length old) all
  pub pairs_so : pairs ++ row_pairs site (length nets) left ≡ row_pairs site (length old) all
  pub width_so : last_width (scope_at site) width left ≡ last_width (scope_at site) 0 all
  pub long_so : length nets + count_rows left ≡ length old + count_rows all
  pub wide_so : AllWide (scope_at site) left

pub some_of : (o : Option ℕ) → IsSome o → (w : ℕ) × (o ≡ Some w)
some_of None h = absurd (cc h)
some_of (Some w) h = (w, refl)

-- ---- what the rule of widths says of a case's parts

-- each row's numbers fit the selector, and its value has the width
abbrev pub RowsHave : ScopeModel → ℕ → ℕ → CaseRowsModel → Type 0
RowsHave s key width no_rows = Unit {0}
RowsHave s key width (row numbers a rows) = IsTrue (numbers_fit key numbers) × (wide s a ≡ Some width) × RowsHave s key width rows

abbrev pub RestHas : ScopeModel → ℕ → CaseRestModel → Type 0
RestHas s width no_rest = Unit {0}
RestHas s width (rest a) = wide s a ≡ Some width

more_broken : (v : Option ℕ) → seen_more broken_already v ≡ broken_already
more_broken None = refl
more_broken (Some w) = refl

pick_broken : (b : Bool) (v : Option ℕ) → (if b then seen_more broken_already v else broken_already) ≡ broken_already
pick_broken true v = more_broken v
pick_broken false v = refl

row_broken : (key : Option ℕ) (numbers : List ℕ) (v : Option ℕ) → row_seen key broken_already numbers v ≡ broken_already
row_broken None numbers v = refl
row_broken (Some k) numbers v = pick_broken (numbers_fit k numbers) v

-- one row after others of a width
abbrev AfterSeen : Bool → ℕ → Option ℕ → SeenModel → Type 0
AfterSeen fit x v now = (now ≡ broken_already) ⊎ (IsTrue fit × (v ≡ Some x) × (now ≡ seen x))

same_seen : (b : Bool) (x y : ℕ) → (x == y) ≡ b → AfterSeen true x (Some y) (if b then seen x else broken_already)
same_seen true x y h = let e : y ≡ x = grind (arith, nat_tests) in inr (refl, ap Some e, refl)
same_seen false x y h = inl refl

after_seen : (fit : Bool) (x : ℕ) (v : Option ℕ) → AfterSeen fit x v (if fit then seen_more (seen x) v else broken_already)
after_seen false x v = inl refl
after_seen true x None = inl refl
after_seen true x (Some y) = same_seen (x == y) x y refl

-- the first row
abbrev AfterNothing : Bool → Option ℕ → SeenModel → Type 0
AfterNothing fit v now = (now ≡ broken_already) ⊎ ((y : ℕ) × (IsTrue fit × (v ≡ Some y) × (now ≡ seen y)))

after_nothing : (fit : Bool) (v : Option ℕ) → AfterNothing fit v (if fit then seen_more nothing_yet v else broken_already)
after_nothing false v = inl refl
after_nothing true None = inl refl
after_nothing true (Some y) = inr (y, (refl, refl, refl))

module _ (s : ScopeModel) where
  rows_broken : (key : Option ℕ) (rows : CaseRowsModel) → seen_rows s key broken_already rows ≡ broken_already
  rows_broken key no_rows = refl
  rows_broken key (row numbers a rows) = ap (λ (b : SeenModel). seen_rows s key b rows) (row_broken key numbers (wide s a)) ∙ rows_broken key rows

  rest_broken : (other : CaseRestModel) → seen_rest s broken_already other ≡ broken_already
  rest_broken no_rest = refl
  rest_broken (rest a) = more_broken (wide s a)

  -- nothing comes of what is broken
  broken_none : (key : Option ℕ) (rows : CaseRowsModel) (other : CaseRestModel) (w : ℕ) (before : SeenModel) → before ≡ broken_already → seen_width (seen_rest s (seen_rows s key before rows) other) ≡ Some w → ⊥
  broken_none key rows other w before e h =
      let k : seen_width (seen_rest s (seen_rows s key before rows) other) ≡ None = rw (e, rows_broken key rows, rest_broken other) refl in
      cc

  rest_after : (x w : ℕ) (v : Option ℕ) → seen_width (seen_more (seen x) v) ≡ Some w → (x ≡ w) × (v ≡ Some w)
  rest_after x w v h = elim (after_seen true x v) [
    | inl e ↦ absurd (let k : seen_width (seen_more (seen x) v) ≡ None = ap seen_width e in cc)
    | inr k ↦ let m : seen_width (seen_more (seen x) v) ≡ Some x = ap seen_width k.2 in let e : x ≡ w = cc in (e, k.1 ∙ ap Some e)
  ]

  rest_first : (w : ℕ) (v : Option ℕ) → seen_width (seen_more nothing_yet v) ≡ Some w → v ≡ Some w
  rest_first w None h = absurd (cc h)
  rest_first w (Some y) h = h

  rows_after : (key x w : ℕ) (rows : CaseRowsModel) (other : CaseRestModel) → seen_width (seen_rest s (seen_rows s (Some key) (seen x) rows) other) ≡ Some w
      → (x ≡ w) × RowsHave s key w rows × RestHas s w other
  rows_after key x w no_rows no_rest h = (let e : x ≡ w = cc in e, tt, tt)
  rows_after key x w no_rows (rest a) h = let k = rest_after x w (wide s a) h in (k.0, tt, k.1)
  rows_after key x w (row numbers a rows) other h = elim (after_seen (numbers_fit key numbers) x (wide s a)) [
    | inl e ↦ absurd (broken_none (Some key) rows other w _ e h)
    | inr k ↦
        let m = rows_after key x w rows other (ap (λ (b : SeenModel). seen_width (seen_rest s (seen_rows s (Some key) b rows) other)) (sym k.2) ∙ h) in
        (m.0, (k.0, k.1 ∙ ap Some m.0, m.1), m.2)
  ]

  rows_first : (key w : ℕ) (rows : CaseRowsModel) (other : CaseRestModel) → seen_width (seen_rest s (seen_rows s (Some key) nothing_yet rows) other) ≡ Some w
      → RowsHave s key w rows × RestHas s w other
  rows_first key w no_rows no_rest h = absurd (cc h)
  rows_first key w no_rows (rest a) h = (tt, rest_first w (wide s a) h)
  rows_first key w (row numbers a rows) other h = elim (after_nothing (numbers_fit key numbers) (wide s a)) [
    | inl e ↦ absurd (broken_none (Some key) rows other w _ e h)
    | inr b ↦
        let k = b.1 in
        let m = rows_after key b.0 w rows other (ap (λ (x : SeenModel). seen_width (seen_rest s (seen_rows s (Some key) x rows) other)) (sym k.2) ∙ h) in
        ((k.0, k.1 ∙ ap Some m.0, m.1), m.2)
  ]

  -- a case of a width: its selector's width, and its parts
  pub record CaseHas (selector : Option ℕ) (rows : CaseRowsModel) (other : CaseRestModel) (w : ℕ) : Type 0 where
    pub key : ℕ
    pub selector_is : selector ≡ Some key
    pub rows_have : RowsHave s key w rows
    pub rest_has : RestHas s w other

  parts_have : (v : Option ℕ) (rows : CaseRowsModel) (other : CaseRestModel) (w : ℕ) → seen_width (seen_rest s (seen_rows s v (seen_first v) rows) other) ≡ Some w → CaseHas v rows other w
  parts_have None rows other w h = absurd (broken_none None rows other w broken_already refl h)
  parts_have (Some k) rows other w h =
      let m = rows_first k w rows other h in
      record { key = k; selector_is = refl; rows_have = m.0; rest_has = m.1 }

  pub case_has : (selector : NetExprModel) (rows : CaseRowsModel) (other : CaseRestModel) (w : ℕ) → wide s (case selector rows other) ≡ Some w → CaseHas (wide s selector) rows other w
  case_has selector rows other w h = parts_have (wide s selector) rows other w h

  rows_wide : (key w : ℕ) (rows : CaseRowsModel) → RowsHave s key w rows → AllWide s rows
  rows_wide key w no_rows h = tt
  rows_wide key w (row numbers a rows) h = (rw (h.1) refl, rows_wide key w rows h.2)

  rest_is_wide : (w : ℕ) (other : CaseRestModel) → RestHas s w other → IsWideRest s other
  rest_is_wide w no_rest h = tt
  rest_is_wide w (rest a) h = rw h refl

  -- the same of a case with some width
  pub record CaseWide (selector : NetExprModel) (rows : CaseRowsModel) (other : CaseRestModel) : Type 0 where
    pub selector_wide : IsSome (wide s selector)
    pub rows_are_wide : AllWide s rows
    pub rest_wide_so : IsWideRest s other

  pub case_wide : (selector : NetExprModel) (rows : CaseRowsModel) (other : CaseRestModel) → IsSome (wide s (case selector rows other)) → CaseWide selector rows other
  case_wide selector rows other h =
      let o = some_of (wide s (case selector rows other)) h in
      let k = case_has selector rows other o.0 o.1 in
      record {
        selector_wide = rw (k.selector_is) refl;
        rows_are_wide = rows_wide k.key o.0 rows k.rows_have;
        rest_wide_so = rest_is_wide o.0 other k.rest_has;
      }

  last_kept : (key w : ℕ) (rows : CaseRowsModel) → RowsHave s key w rows → last_width s w rows ≡ w
  last_kept key w no_rows h = refl
  last_kept key w (row numbers a rows) h = ap (λ (o : Option ℕ). last_width s (width_or_none o) rows) h.1 ∙ last_kept key w rows h.2

  pub no_arms : (v : Option ℕ) (w : ℕ) → seen_width (seen_first v) ≡ Some w → ⊥
  no_arms None w h = cc h
  no_arms (Some k) w h = cc h

  last_of : (selector : NetExprModel) (rows : CaseRowsModel) (w : ℕ) → wide s (case selector rows no_rest) ≡ Some w → last_width s 0 rows ≡ w
  last_of selector no_rows w h = absurd (no_arms (wide s selector) w h)
  last_of selector (row numbers a rows) w h =
      let k = case_has selector (row numbers a rows) no_rest w h in
      ap (λ (o : Option ℕ). last_width s (width_or_none o) rows) k.rows_have.1 ∙ last_kept k.key w rows k.rows_have.2

  -- the width of a case without a rest, and with one
  pub width_without : (selector : NetExprModel) (rows : CaseRowsModel) → IsSome (wide s (case selector rows no_rest)) → wide s (case selector rows no_rest) ≡ Some (last_width s 0 rows)
  width_without selector rows h =
      let o = some_of (wide s (case selector rows no_rest)) h in
      o.1 ∙ ap Some (sym (last_of selector rows o.0 o.1))

  pub width_with : (selector : NetExprModel) (rows : CaseRowsModel) (a : NetExprModel) → IsSome (wide s (case selector rows (rest a))) → wide s (case selector rows (rest a)) ≡ wide s a
  width_with selector rows a h =
      let o = some_of (wide s (case selector rows (rest a))) h in
      o.1 ∙ sym ((case_has selector rows (rest a) o.0 o.1).rest_has)

-- the first row of the rows that are left
pub row_wide : (s : ScopeModel) (left : CaseRowsModel) (numbers : List ℕ) (a : NetExprModel) (behind : CaseRowsModel) → left ≡ row numbers a behind → AllWide s left → IsSome (wide s a)
row_wide s left numbers a behind e h = (subst (AllWide s) e h).0
