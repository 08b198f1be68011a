-- What is known of selectors and enables, as the routes of cases and buses want it.
use Rattle.std.proofs.Common.{◌≡◌, inl, inr, ℕ, ◌^◌, ◌<◌, ◌≤◌, List, [], ◌∷◌, length, Option, None, Some, slice_get, sym, ap, subst, ◌∙◌, arith}
use Rattle.std.specs.List.{AllByRecursion}
use Rattle.std.proofs.lemmas.Option.{slice_get_cases}
use Rattle.bit_bdd.specs.Diagrams.{Diagrams}
use Rattle.net_model.specs.declared.hardware.Netlist.{Netlist}
use Rattle.net_model.specs.declared.hardware.Net.{Net}
use Rattle.net_model.specs.Nets.{net_width, width_at}
use Rattle.net_model.specs.Widths.{DriversFit, IsTyped, NetFits, RestFits, RowsFit}
use Rattle.net_model.specs.Symbolic.{no_state, is_static}
use Rattle.net_model.specs.Value.{value_of}
use Rattle.sym_expr.specs.declared.pool.Node.{Node}
use Rattle.ctl_bdd.specs.Bits.{AreSets}
use Rattle.transfer_set.specs.declared.route.Route.{Route}
use Rattle.transfer_set.specs.Routes.{routes_at}
use Rattle.transfer_set.proofs.TermsOf.{narrow}
use Rattle.route_trace.specs.Inner.Gates.{AllWide, HaveWidths}
use Rattle.route_trace.specs.Inner.Tests.{AreEnabledAt, AreRowsWide, HasBits, IsSelectedAt, IsSelector, IsTargetWide, sets_in}

wide_net : (netlist : Netlist) (net : Option Net) → NetFits netlist net → (x : Net) → net ≡ Some x → 1 ≤ net_width net
wide_net netlist None h x e = cc
wide_net netlist (Some net) h x e = h.0

module _ (netlist : Netlist) (book : Diagrams) (sets : List ℕ) (sel : ℕ) (is : IsSelector netlist book sets sel) where
  pub selector_sets : AreSets book sets
  selector_sets = elim is as (λ _. AreSets book sets) [
    | inl h ↦ h.1.0
    | inr h ↦ subst (AreSets book) (sym h.1) tt
  ]

  pub selector_keys : 0 < length sets → (width : ℕ) (rows : List (ℕ × ℕ)) → RowsFit netlist (width_at netlist sel) width rows → AllByRecursion (λ (row : ℕ × ℕ). row.0 < 2 ^ length sets) rows
  selector_keys some width rows fit = by rows fit
    where
      long : length sets ≡ width_at netlist sel
      long = elim is as (λ _. length sets ≡ width_at netlist sel) [
        | inl h ↦ h.1.1.long
        | inr h ↦ (let z : length sets ≡ 0 = ap length h.1 in absurd (omega (arith, z, some)))
      ]

      by : (rows : List (ℕ × ℕ)) → RowsFit netlist (width_at netlist sel) width rows → AllByRecursion (λ (row : ℕ × ℕ). row.0 < 2 ^ length sets) rows
      by [] f = tt
      by (row ∷ rows) f = (subst (λ k. row.0 < 2 ^ k) (sym long) f.0, by rows f.2)

pub selector_few : (netlist : Netlist) → IsTyped netlist → (book : Diagrams) (sets : List ℕ) (sel : ℕ) → IsSelector netlist book sets sel → length sets ≤ 64
selector_few netlist typed book sets sel is = elim is as (λ _. length sets ≤ 64) [
  | inl h ↦ (let n = narrow netlist (slice_get netlist.nets sel) (typed.nets sel) in let e = h.1.1.long in omega (arith, n, e))
  | inr h ↦ (let z : length sets ≡ 0 = ap length h.1 in omega (arith, z))
]

pub selector_bit : (netlist : Netlist) → IsTyped netlist → (book : Diagrams) (pool : List Node) (nets : List (List Route)) → HaveWidths netlist pool nets → (sets : List ℕ) (sel : ℕ) → sel < length netlist.nets → IsSelector netlist book sets sel
    → sets ≡ [] → AllWide pool 1 (routes_at nets sel)
selector_bit netlist typed book pool nets widths sets sel lt is none = elim is as (λ _. AllWide pool 1 (routes_at nets sel)) [
  | inl h ↦ absurd (elim (slice_get_cases netlist.nets sel).1 as (λ _. ⊥) [
    | inl w ↦
        (let wide = wide_net netlist (slice_get netlist.nets sel) (typed.nets sel) w.0 w.2 in
        let z : length sets ≡ 0 = ap length none in
        let e = h.1.1.long in
        omega (arith, wide, z, e))
    | inr w ↦ absurd (omega (arith, w.0, lt))
  ])
  | inr h ↦ subst (λ k. AllWide pool k (routes_at nets sel)) h.2 (widths.widths sel)
]

pub selected_at : (netlist : Netlist) → IsTyped netlist → (book : Diagrams) (sets : List ℕ) (sel word : ℕ) → sel < length netlist.nets → word < 2 ^ book.bits → IsSelector netlist book sets sel
    → IsSelectedAt book sets word (value_of netlist no_state word) (is_static netlist) sel
selected_at netlist typed book sets sel word lt fits is = elim is as (λ _. IsSelectedAt book sets word (value_of netlist no_state word) (is_static netlist) sel) [
  | inl h ↦ inl (some h.1.1.long, h.0, h.1.1.number word fits)
  | inr h ↦ inr (h.1, h.0)
]
  where
    some : length sets ≡ width_at netlist sel → 0 < length sets
    some e = elim (slice_get_cases netlist.nets sel).1 as (λ _. 0 < length sets) [
      | inl w ↦ (let wide = wide_net netlist (slice_get netlist.nets sel) (typed.nets sel) w.0 w.2 in omega (arith, wide, e))
      | inr w ↦ absurd (omega (arith, w.0, lt))
    ]

module _ (netlist : Netlist) (pool : List Node) (nets : List (List Route)) (widths : HaveWidths netlist pool nets) where
  rest_wide : (width : ℕ) (rest : Option ℕ) → RestFits netlist width rest → IsTargetWide pool nets width rest
  rest_wide width None h = tt
  rest_wide width (Some n) h = subst (λ k. AllWide pool k (routes_at nets n)) h.1 (widths.widths n)

  pub rows_wide : (key width : ℕ) (rows : List (ℕ × ℕ)) (rest : Option ℕ) → RowsFit netlist key width rows → RestFits netlist width rest → AreRowsWide pool nets width rows rest
  rows_wide key width [] rest f r = rest_wide width rest r
  rows_wide key width (row ∷ rows) rest f r = (subst (λ k. AllWide pool k (routes_at nets row.1)) f.1.1 (widths.widths row.1), rows_wide key width rows rest f.2 r)

module _ (netlist : Netlist) (book : Diagrams) (bits : List (ℕ × List ℕ)) where
  pub driver_sets : (drivers : List (ℕ × ℕ)) → AllByRecursion (λ (driver : ℕ × ℕ). HasBits netlist book (sets_in bits driver.1) driver.1) drivers → AllByRecursion (λ (driver : ℕ × ℕ). AreSets book (sets_in bits driver.1)) drivers
  driver_sets [] h = tt
  driver_sets (driver ∷ drivers) h = (h.0.0, driver_sets drivers h.1)

  pub driver_one : (width : ℕ) (drivers : List (ℕ × ℕ)) → DriversFit netlist width drivers → AllByRecursion (λ (driver : ℕ × ℕ). HasBits netlist book (sets_in bits driver.1) driver.1) drivers
      → AllByRecursion (λ (driver : ℕ × ℕ). length (sets_in bits driver.1) ≡ 1) drivers
  driver_one width [] f h = tt
  driver_one width (driver ∷ drivers) f h = (h.0.1.long ∙ f.1.1, driver_one width drivers f.2 h.1)

  pub enabled_at : (word : ℕ) → word < 2 ^ book.bits → (drivers : List (ℕ × ℕ)) → AllByRecursion (λ (driver : ℕ × ℕ). HasBits netlist book (sets_in bits driver.1) driver.1) drivers
      → AreEnabledAt book bits word (value_of netlist no_state word) drivers
  enabled_at word fits [] h = tt
  enabled_at word fits (driver ∷ drivers) h = (h.0.1.number word fits, enabled_at word fits drivers h.1)
