-- One net more has its routes.
use Rattle.std.proofs.Common.{◌≡◌, ◌≢◌, replicate, ℕ, zero, suc, ◌+◌, ◌^◌, ◌<◌, ◌≤◌, Bool, true, false, true≢false, if◌then◌else◌, List, [], ◌∷◌, map, length, Option, Some, slice_get, slice_index, slice_set, inl, inr, refl, sym, ap, subst, ◌∙◌, arith}
use Rattle.std.specs.List.{AllByRecursion}
use Rattle.std.proofs.lemmas.Bool.{cases_eq}
use Rattle.bit_bdd.specs.Diagrams.{Diagrams, has_word, Extends}
use Rattle.bit_bdd.proofs.CallerLemmas.{same_words}
use Rattle.net_model.specs.Exprs.{ExprModel}
use Rattle.net_model.specs.declared.hardware.Netlist.{Netlist}
use Rattle.net_model.specs.declared.hardware.Net.{Net}
use Rattle.net_model.specs.Nets.{width_at, gate_nets, nets_of}
use Rattle.net_model.specs.Value.{value_of}
use Rattle.net_model.specs.Widths.{IsTyped}
use Rattle.net_model.specs.Order.{position_of, IsOrder}
use Rattle.net_model.proofs.Orders.{place_at, at_place}
use Rattle.net_model.specs.Symbolic.{no_state, is_static, gate_expr, net_expr, sym_of}
use Rattle.net_model.proofs.Meanings.{width_is}
use Rattle.sym_expr.specs.declared.pool.Node.{Node}
use Rattle.sym_expr.specs.Pools.{expr_of_id, Grows}
use Rattle.transfer_set.specs.declared.route.Route.{Route}
use Rattle.transfer_set.specs.Routes.{exprs_under, models_under, routes_at, IsRouteTable, only}
use Rattle.route_trace.specs.Inner.Routing.{AreTables}
use Rattle.route_trace.specs.Inner.Gates.{AllGive, AllWide, HaveWidths}
use Rattle.route_trace.proofs.Products.{both_later}
use Rattle.route_trace.proofs.Firsts.{tables_later}
use Rattle.route_trace.proofs.Exact.{all_wide}
use Rattle.net_model.proofs.Syms.{sym_is}
use Rattle.route_trace.proofs.Selecting.{wide_later}
use Rattle.std.proofs.lemmas.List.{get_or-set_same, get_or-set_other}
use Rattle.net_model.specs.Depends.{Among, named_by}
use Rattle.net_model.specs.Symbolic.{all_nets}
use Rattle.ctl_bdd.proofs.Alls.{tests_each}
use Rattle.route_trace.specs.Inner.Verdicts.{IsFound, is_kept, kept_at, verdict_at}
use Rattle.route_trace.specs.declared.verdict.Verdict.{Verdict}
use Rattle.route_trace.specs.declared.verdict.Verdict.TheVariants.{Skipped}
use Rattle.route_trace.specs.declared.stop.TraceStop.TheVariants.{Many}
use Rattle.route_trace.specs.Inner.Stops.{IsOver}
use Rattle.route_trace.proofs.Stopping.{many_in}
use Rattle.route_trace.proofs.Judging.{each_among}

get_set_same : (xs : List (List Route)) (n : ℕ) (y : List Route) → n < length xs → slice_get (slice_set xs n y) n ≡ Some y
get_set_same [] n y h = absurd (omega arith)
get_set_same (x ∷ xs) zero y h = refl
get_set_same (x ∷ xs) (suc n) y h = get_set_same xs n y (omega arith)

get_set_other : (xs : List (List Route)) (n m : ℕ) (y : List Route) → m ≢ n → slice_get (slice_set xs n y) m ≡ slice_get xs m
get_set_other [] n m y h = refl
get_set_other (x ∷ xs) zero zero y h = absurd (h refl)
get_set_other (x ∷ xs) zero (suc m) y h = refl
get_set_other (x ∷ xs) (suc n) zero y h = refl
get_set_other (x ∷ xs) (suc n) (suc m) y h = get_set_other xs n m y (λ e. h (ap suc e))

at_same : (xs : List (List Route)) (n : ℕ) (y : List Route) → n < length xs → y ≡ routes_at (slice_set xs n y) n
at_same xs n y h = sym (let e = get_set_same xs n y h in rw e)

at_other : (xs : List (List Route)) (n m : ℕ) (y : List Route) → m ≢ n → routes_at xs m ≡ routes_at (slice_set xs n y) m
at_other xs n m y h = let e = get_set_other xs n m y h in rw e

short : (b : Bool) (t : ℕ → ExprModel) (xs : List ℕ) (x : ExprModel) → map t xs ≡ (if b then x ∷ [] else []) → length xs ≤ 1
short b t [] x e = omega arith
short b t (y ∷ []) x e = omega arith
short true t (y ∷ z ∷ xs) x e = absurd (cc)
short false t (y ∷ z ∷ xs) x e = absurd (cc)

pub earlier : (order : List ℕ) (i : ℕ) → i < length order → (m : ℕ) → position_of order m < i + 1 → (m ≢ slice_index order i) → position_of order m < i
earlier order i within m h q = elim (cases_eq (position_of order m) i) as (λ _. position_of order m < i) [
  | inl p ↦ absurd (q (sym (at_place order m (omega (arith, p, within))) ∙ ap (slice_index order) p))
  | inr p ↦ omega (arith, p, h)
]

verdict_same : (verdicts : List Verdict) (n : ℕ) (verdict : Verdict) → n < length verdicts → verdict_at (slice_set verdicts n verdict) n ≡ verdict
verdict_same verdicts n verdict lt = get_or-set_same verdicts n verdict Skipped lt

verdict_other : (verdicts : List Verdict) (n m : ℕ) (verdict : Verdict) → m ≢ n → verdict_at (slice_set verdicts n verdict) m ≡ verdict_at verdicts m
verdict_other verdicts n m verdict ne = get_or-set_other verdicts n m verdict Skipped ne

kept_other : (verdicts : List Verdict) (n m : ℕ) (verdict : Verdict) → m ≢ n → kept_at (slice_set verdicts n verdict) m ≡ kept_at verdicts m
kept_other verdicts n m verdict ne = ap is_kept (verdict_other verdicts n m verdict ne)

-- one verdict more
pub found_more : (netlist : Netlist) (order : List ℕ) (i : ℕ) → i < length order → (verdicts : List Verdict) → slice_index order i < length verdicts → ((m : ℕ) → position_of order m < i → IsFound netlist m (verdict_at verdicts m))
    → (verdict : Verdict) → IsFound netlist (slice_index order i) verdict → (m : ℕ) → position_of order m < i + 1 → IsFound netlist m (verdict_at (slice_set verdicts (slice_index order i) verdict) m)
found_more netlist order i within verdicts lt found verdict is m h = elim (cases_eq m (slice_index order i)) as (λ _. IsFound netlist m (verdict_at (slice_set verdicts (slice_index order i) verdict) m)) [
  | inl q ↦
      subst (λ k. IsFound netlist k (verdict_at (slice_set verdicts (slice_index order i) verdict) k)) (sym q)
      (subst (IsFound netlist (slice_index order i)) (sym (verdict_same verdicts (slice_index order i) verdict lt)) is)
  | inr q ↦ subst (IsFound netlist m) (sym (verdict_other verdicts (slice_index order i) m verdict q)) (found m (earlier order i within m h q))
]

-- a net that isn't kept changes nothing for those that are
pub lost_done : (order : List ℕ) (i : ℕ) → i < length order → (verdicts : List Verdict) → slice_index order i < length verdicts → (P : ℕ → Type 0) → ((m : ℕ) → position_of order m < i → kept_at verdicts m ≡ true → P m)
    → (verdict : Verdict) → is_kept verdict ≡ false → (m : ℕ) → position_of order m < i + 1 → kept_at (slice_set verdicts (slice_index order i) verdict) m ≡ true → P m
lost_done order i within verdicts lt P done verdict lost m h kept = elim (cases_eq m (slice_index order i)) as (λ _. P m) [
  | inl q ↦
      absurd (true≢false (sym kept ∙ ap (kept_at (slice_set verdicts (slice_index order i) verdict)) q ∙ ap is_kept (verdict_same verdicts (slice_index order i) verdict lt) ∙ lost))
  | inr q ↦ done m (earlier order i within m h q) (sym (kept_other verdicts (slice_index order i) m verdict q) ∙ kept)
]

-- the nets that a net names have their verdicts
pub named_found : (netlist : Netlist) (order : List ℕ) → IsOrder netlist order → (i : ℕ) → i < length order → (verdicts : List Verdict) → ((m : ℕ) → position_of order m < i → IsFound netlist m (verdict_at verdicts m))
    → (b : ℕ) → Among b (named_by netlist (slice_index order i)) → IsFound netlist b (verdict_at verdicts b)
named_found netlist order o i within verdicts found b a =
    let lt = each_among (λ m. position_of order m < position_of order (slice_index order i)) (named_by netlist (slice_index order i)) (o.falls (slice_index order i)) b a in
    found b (omega (arith, lt, place_at order i within))

module _ (netlist : Netlist) (order : List ℕ) (o : IsOrder netlist order) (i : ℕ) (within : i < length order) (book : Diagrams) (pool : List Node) (nets : List (List Route)) (legal : ℕ)
    (verdicts : List Verdict) (done : (m word : ℕ) → position_of order m < i → kept_at verdicts m ≡ true → word < 2 ^ book.bits → models_under book pool (routes_at nets m) word ≡ only book legal word (sym_of netlist word m)) where
  -- the nets that the next net's gate names have their routes
  pub all_given : (net : Net) → slice_get netlist.nets (slice_index order i) ≡ Some net → all_nets (kept_at verdicts) (gate_nets net.gate) ≡ true → (word : ℕ) → word < 2 ^ book.bits → AllGive book pool nets legal (sym_of netlist word) word (gate_nets net.gate)
  all_given net at kept word fits = by (gate_nets net.gate) (tests_each (kept_at verdicts) (gate_nets net.gate) kept) (subst (λ (x : Option Net). AllByRecursion (λ m. position_of order m < position_of order (slice_index order i)) (nets_of x)) at (o.falls (slice_index order i)))
    where
      by : (ms : List ℕ) → AllByRecursion (λ m. kept_at verdicts m ≡ true) ms → AllByRecursion (λ m. position_of order m < position_of order (slice_index order i)) ms → AllGive book pool nets legal (sym_of netlist word) word ms
      by [] k h = tt
      by (m ∷ ms) k h = (done m word (omega (arith, h.0, place_at order i within)) k.0 fits, by ms k.1 h.1)

  module _ (long : length nets ≡ length netlist.nets) (legal_in : legal < length book.nodes) (book' : Diagrams) (pool' : List Node) (e : Extends book book') (g : Grows pool pool') (tables : AreTables book pool nets) where
    low : (word : ℕ) → word < 2 ^ book'.bits → word < 2 ^ book.bits
    low word fits = subst (λ b. word < 2 ^ b) e.bits fits

    n_in : slice_index order i < length nets
    n_in = omega (arith, o.nets i within, long)

    -- the routes that are there stay right
    pub done_later : (m word : ℕ) → position_of order m < i → kept_at verdicts m ≡ true → word < 2 ^ book'.bits → models_under book' pool' (routes_at nets m) word ≡ only book' legal word (sym_of netlist word m)
    done_later m word before kept fits =
        let w = same_words book book' e legal legal_in word in
        both_later book book' pool pool' e g (routes_at nets m) (tables.tables m) word ∙ done m word before kept (low word fits) ∙ (λ j. if sym w j then sym_of netlist word m ∷ [] else [])

    pub widths_later : HaveWidths netlist pool nets → HaveWidths netlist pool' nets
    widths_later w = record { widths = λ m. wide_later pool pool' g (width_at netlist m) (routes_at nets m) (tables.tables m).exprs (w.widths m) }

    -- what the gate gives is the net's symbolic value
    at_sym : (net : Net) → slice_get netlist.nets (slice_index order i) ≡ Some net → (word : ℕ) (exprs : List ExprModel)
        → exprs ≡ only book legal word (gate_expr (sym_of netlist word) (value_of netlist no_state word) (is_static netlist) netlist net.width net.gate) → exprs ≡ only book' legal word (sym_of netlist word (slice_index order i))
    at_sym net at word exprs is =
        let s = sym_is netlist word order o (slice_index order i) (o.nets i within) ∙ ap (net_expr (sym_of netlist word) (value_of netlist no_state word) (is_static netlist) netlist) at in
        let w = same_words book book' e legal legal_in word in
        is ∙ (λ j. if sym w j then sym s j ∷ [] else [])

    -- the routes that were given up are right so far
    pub over_sym : (net : Net) → slice_get netlist.nets (slice_index order i) ≡ Some net → all_nets (kept_at verdicts) (gate_nets net.gate) ≡ true
        → IsOver book' pool' (λ word exprs. (t : ℕ → ExprModel) → AllGive book pool nets legal t word (gate_nets net.gate) → exprs ≡ only book legal word (gate_expr t (value_of netlist no_state word) (is_static netlist) netlist net.width net.gate))
        → IsOver book' pool' (λ word exprs. exprs ≡ only book' legal word (sym_of netlist word (slice_index order i)))
    over_sym net at kept over = many_in Many book' pool' _ _ (λ word fits exprs h. inr (at_sym net at word exprs (h (sym_of netlist word) (all_given net at kept word (low word fits))))) over

    module _ (out : List Route) (table : IsRouteTable book' pool' out)
        (net : Net) (at : slice_get netlist.nets (slice_index order i) ≡ Some net)
        (gives : (word : ℕ) → word < 2 ^ book.bits → models_under book' pool' out word ≡ only book legal word (gate_expr (sym_of netlist word) (value_of netlist no_state word) (is_static netlist) netlist net.width net.gate)) where
      pub new_gives : (word : ℕ) → word < 2 ^ book.bits → models_under book' pool' out word ≡ only book' legal word (sym_of netlist word (slice_index order i))
      new_gives word fits = at_sym net at word (models_under book' pool' out word) (gives word fits)

      pub turn_done : (verdict : Verdict) (m word : ℕ) → position_of order m < i + 1 → kept_at (slice_set verdicts (slice_index order i) verdict) m ≡ true → word < 2 ^ book'.bits → models_under book' pool' (routes_at (slice_set nets (slice_index order i) out) m) word ≡ only book' legal word (sym_of netlist word m)
      turn_done verdict m word h kept fits = elim (cases_eq m (slice_index order i)) as (λ _. models_under book' pool' (routes_at (slice_set nets (slice_index order i) out) m) word ≡ only book' legal word (sym_of netlist word m)) [
        | inl q ↦
            subst (λ k. models_under book' pool' (routes_at (slice_set nets (slice_index order i) out) k) word ≡ only book' legal word (sym_of netlist word k)) (sym q)
            (subst (λ l. models_under book' pool' l word ≡ only book' legal word (sym_of netlist word (slice_index order i))) (at_same nets (slice_index order i) out n_in) (new_gives word (low word fits)))
        | inr q ↦
            subst (λ l. models_under book' pool' l word ≡ only book' legal word (sym_of netlist word m)) (at_other nets (slice_index order i) m out q)
            (done_later m word (earlier order i within m h q) (sym (kept_other verdicts (slice_index order i) m verdict q) ∙ kept) fits)
      ]

      pub turn_tables : AreTables book' pool' (slice_set nets (slice_index order i) out)
      turn_tables =
          let later = tables_later book book' pool pool' e g nets tables in
          record {
            tables = λ m. elim (cases_eq m (slice_index order i)) as (λ _. IsRouteTable book' pool' (routes_at (slice_set nets (slice_index order i) out) m)) [
              | inl q ↦ subst (λ k. IsRouteTable book' pool' (routes_at (slice_set nets (slice_index order i) out) k)) (sym q) (subst (λ l. IsRouteTable book' pool' l) (at_same nets (slice_index order i) out n_in) table)
              | inr q ↦ subst (λ l. IsRouteTable book' pool' l) (at_other nets (slice_index order i) m out q) (later.tables m)
            ];
            one = λ m word fits. elim (cases_eq m (slice_index order i)) as (λ _. length (exprs_under book' (routes_at (slice_set nets (slice_index order i) out) m) word) ≤ 1) [
              | inl q ↦
                  subst (λ k. length (exprs_under book' (routes_at (slice_set nets (slice_index order i) out) k) word) ≤ 1) (sym q)
                  (subst (λ l. length (exprs_under book' l word) ≤ 1) (at_same nets (slice_index order i) out n_in) (short (has_word book' legal word) (expr_of_id pool') (exprs_under book' out word) _ (new_gives word (low word fits))))
              | inr q ↦ subst (λ l. length (exprs_under book' l word) ≤ 1) (at_other nets (slice_index order i) m out q) (later.one m word fits)
            ];
          }

      pub turn_widths : IsTyped netlist → HaveWidths netlist pool nets → HaveWidths netlist pool' (slice_set nets (slice_index order i) out)
      turn_widths t w = record {
        widths = λ m. elim (cases_eq m (slice_index order i)) as (λ _. AllWide pool' (width_at netlist m) (routes_at (slice_set nets (slice_index order i) out) m)) [
          | inl q ↦
              subst (λ k. AllWide pool' (width_at netlist k) (routes_at (slice_set nets (slice_index order i) out) k)) (sym q)
              (subst (λ l. AllWide pool' (width_at netlist (slice_index order i)) l) (at_same nets (slice_index order i) out n_in)
              (all_wide book' pool' legal (λ word. sym_of netlist word (slice_index order i)) _ (λ word fits. width_is netlist word t (length netlist.nets) (slice_index order i)) out table.right.sets (λ word fits. new_gives word (low word fits))))
          | inr q ↦ subst (λ l. AllWide pool' (width_at netlist m) l) (at_other nets (slice_index order i) m out q) ((widths_later w).widths m)
        ];
      }

-- no net has its routes yet
pub no_tables : (book : Diagrams) (pool : List Node) (nets : List (List Route)) → ((n : ℕ) → routes_at nets n ≡ []) → AreTables book pool nets
no_tables book pool nets h = record {
  tables = λ n. subst (λ l. IsRouteTable book pool l) (sym (h n)) (record { right = record { sets = tt; apart = tt }; exprs = tt });
  one = λ n word fits. subst (λ l. length (exprs_under book l word) ≤ 1) (sym (h n)) (omega arith);
}

pub no_widths : (netlist : Netlist) (pool : List Node) (nets : List (List Route)) → ((n : ℕ) → routes_at nets n ≡ []) → HaveWidths netlist pool nets
no_widths netlist pool nets h = record { widths = λ n. subst (λ l. AllWide pool (width_at netlist n) l) (sym (h n)) tt }

-- a net without routes yet
pub none_yet : (k n : ℕ) → routes_at (replicate k []) n ≡ []
none_yet zero n = refl
none_yet (suc k) zero = refl
none_yet (suc k) (suc n) = none_yet k n
