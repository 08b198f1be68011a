-- What is known of ids while the pool grows, and of the gates that take what stands at one net.
use Rattle.std.proofs.Common.{◌≡◌, ℕ, ◌<◌, Bool, true, false, if◌then◌else◌, List, length, Option, Some, None, IfSome, slice_index, refl, sym, ap, subst, ◌∙◌, arith}
use Rattle.std.specs.List.{AllByRecursion}
use Rattle.net_model.specs.declared.hardware.Netlist.{Netlist}
use Rattle.net_model.specs.declared.hardware.Gate.{Gate}
use Rattle.net_model.specs.declared.hardware.Gate.TheVariants.{Case, Bus}
use Rattle.net_model.specs.Exprs.{ExprModel, select, expr_width}
use Rattle.net_model.specs.Nets.{gate_nets, width_at}
use Rattle.net_model.specs.Control.{GateControlled}
use Rattle.net_model.proofs.GateControls.{is_bit}
use Rattle.net_model.specs.Symbolic.{case_expr, gate_expr, is_static}
use Rattle.net_model.specs.Widths.{GateFits}
use Rattle.sym_expr.specs.declared.pool.Node.{Node}
use Rattle.sym_expr.specs.Pools.{Grows, expr_of_id}
use Rattle.sym_expr.proofs.CallerLemmas.{same_expr}
use Rattle.word_moves.specs.Inner.Choices.{case_target, driver_target, expr_there}
use Rattle.word_moves.specs.Inner.Gates.{IsKnown, IsWide, net_exprs}
use Rattle.word_moves.proofs.Targets.{case_known, bus_known, case_expr_there, bus_expr_there}

module _ (old new : List Node) (g : Grows old new) (ids : List ℕ) (width : ℕ) where
  wide_later : (n : ℕ) → IsWide old ids width n → IsWide new ids width n
  wide_later n h = (omega (arith, h.0, g.longer), ap expr_width (same_expr old new g (slice_index ids n) h.0) ∙ h.1)

  pub some_wide_later : (o : Option ℕ) → IfSome o (IsWide old ids width) → IfSome o (IsWide new ids width)
  some_wide_later None h = tt
  some_wide_later (Some n) h = wide_later n h

  pub there_later : (o : Option ℕ) → IfSome o (IsWide old ids width) → expr_there (net_exprs new ids) width o ≡ expr_there (net_exprs old ids) width o
  there_later None h = refl
  there_later (Some n) h = same_expr old new g (slice_index ids n) h.0

pub there_wide : (nodes : List Node) (ids : List ℕ) (width : ℕ) (o : Option ℕ) → IfSome o (IsWide nodes ids width) → expr_width (expr_there (net_exprs nodes ids) width o) ≡ width
there_wide nodes ids width None h = refl
there_wide nodes ids width (Some n) h = h.1

-- ---- a choice between two nets, of which each may add to the pool

module _ (a b c : List Node) (f : Grows a b) (g : Grows b c) (ids : List ℕ) (width : ℕ) (one zero : Option ℕ) (sel test on off : ℕ) (test_is : test ≡ slice_index ids sel)
    (sel_known : IsWide a ids 1 sel) (one_known : IfSome one (IsWide a ids width)) (zero_known : IfSome zero (IsWide a ids width))
    (on_in : on < length b) (on_is : expr_of_id b on ≡ expr_there (net_exprs a ids) width one) (off_is : expr_of_id c off ≡ expr_there (net_exprs b ids) width zero) where
  test_expr : expr_of_id c test ≡ net_exprs a ids sel
  test_expr =
      ap (expr_of_id c) test_is ∙ same_expr b c g (slice_index ids sel) (omega (arith, sel_known.0, f.longer)) ∙ same_expr a b f (slice_index ids sel) sel_known.0

  on_expr : expr_of_id c on ≡ expr_there (net_exprs a ids) width one
  on_expr = same_expr b c g on on_in ∙ on_is

  off_expr : expr_of_id c off ≡ expr_there (net_exprs a ids) width zero
  off_expr = off_is ∙ there_later a b f ids width zero zero_known

  pub choice_fits : (expr_width (expr_of_id c test) ≡ 1) × (expr_width (expr_of_id c off) ≡ expr_width (expr_of_id c on))
  choice_fits = (
    ap expr_width test_expr ∙ sel_known.1,
    ap expr_width off_expr ∙ there_wide a ids width zero zero_known ∙ sym (ap expr_width on_expr ∙ there_wide a ids width one one_known),
  )

  pub choice_is : select (expr_of_id c test) (expr_of_id c on) (expr_of_id c off) ≡ select (net_exprs a ids sel) (expr_there (net_exprs a ids) width one) (expr_there (net_exprs a ids) width zero)
  choice_is = let x = test_expr in let y = on_expr in let z = off_expr in (λ j. select (x j) (y j) (z j))

-- ---- gates that take what stands at one net

module _ (netlist : Netlist) (nodes : List Node) (ids : List ℕ) (width : ℕ) (gate : Gate) (fits : GateFits netlist width gate) (known : AllByRecursion (IsKnown netlist nodes ids) (gate_nets gate)) where
  pub case_wide : (sel key : ℕ) (rows : List (ℕ × ℕ)) (rest target : Option ℕ) → gate ≡ Case sel rows rest → target ≡ case_target key rows rest → IfSome target (IsWide nodes ids width)
  case_wide sel key rows rest target e t =
      let g : GateFits netlist width (Case sel rows rest) = subst (λ x. GateFits netlist width x) e fits in
      let k : AllByRecursion (IsKnown netlist nodes ids) (gate_nets (Case sel rows rest)) = subst (λ x. AllByRecursion (IsKnown netlist nodes ids) (gate_nets x)) e known in
      subst (λ o. IfSome o (IsWide nodes ids width)) (sym t) (case_known netlist nodes ids width (width_at netlist sel) key rows rest g.1 g.2 k.1)

  pub bus_wide : (u : ℕ → ℕ) (drivers : List (ℕ × ℕ)) (target : Option ℕ) → gate ≡ Bus drivers → target ≡ driver_target u drivers → IfSome target (IsWide nodes ids width)
  bus_wide u drivers target e t =
      subst (λ o. IfSome o (IsWide nodes ids width)) (sym t)
      (bus_known netlist nodes ids width u drivers (subst (λ x. GateFits netlist width x) e fits) (subst (λ x. AllByRecursion (IsKnown netlist nodes ids) (gate_nets x)) e known))

  pub selector_wide : (sel : ℕ) (rows : List (ℕ × ℕ)) (rest : Option ℕ) → gate ≡ Case sel rows rest → GateControlled netlist gate → is_static netlist sel ≡ false → IsWide nodes ids 1 sel
  selector_wide sel rows rest e c s =
      let k : AllByRecursion (IsKnown netlist nodes ids) (gate_nets (Case sel rows rest)) = subst (λ x. AllByRecursion (IsKnown netlist nodes ids) (gate_nets x)) e known in
      let d : GateControlled netlist (Case sel rows rest) = subst (GateControlled netlist) e c in
      (k.0.0, k.0.1 ∙ is_bit netlist sel d.selectors.0 s)

module _ (t : ℕ → ExprModel) (u : ℕ → ℕ) (f : ℕ → Bool) (netlist : Netlist) (width : ℕ) (gate : Gate) where
  pub case_static : (sel key : ℕ) (rows : List (ℕ × ℕ)) (rest target : Option ℕ) → gate ≡ Case sel rows rest → f sel ≡ true → key ≡ u sel → target ≡ case_target key rows rest → expr_there t width target ≡ gate_expr t u f netlist width gate
  case_static sel key rows rest target e s k h =
      ap (expr_there t width) h ∙ case_expr_there t width key rows rest ∙ ap (λ n. case_expr t width n rows rest) k
      ∙ sym (ap (gate_expr t u f netlist width) e ∙ ap (λ (b : Bool). if b then case_expr t width (u sel) rows rest else select (t sel) (case_expr t width 1 rows rest) (case_expr t width 0 rows rest)) s)

  pub case_open : (sel : ℕ) (rows : List (ℕ × ℕ)) (rest one zero : Option ℕ) → gate ≡ Case sel rows rest → f sel ≡ false → one ≡ case_target 1 rows rest → zero ≡ case_target 0 rows rest → select (t sel) (expr_there t width one) (expr_there t width zero) ≡ gate_expr t u f netlist width gate
  case_open sel rows rest one zero e s h k =
      let x = ap (expr_there t width) h ∙ case_expr_there t width 1 rows rest in
      let y = ap (expr_there t width) k ∙ case_expr_there t width 0 rows rest in
      (λ j. select (t sel) (x j) (y j))
      ∙ sym (ap (gate_expr t u f netlist width) e ∙ ap (λ (b : Bool). if b then case_expr t width (u sel) rows rest else select (t sel) (case_expr t width 1 rows rest) (case_expr t width 0 rows rest)) s)

  pub bus_is : (drivers : List (ℕ × ℕ)) (target : Option ℕ) → gate ≡ Bus drivers → target ≡ driver_target u drivers → expr_there t width target ≡ gate_expr t u f netlist width gate
  bus_is drivers target e h =
      ap (expr_there t width) h ∙ bus_expr_there t u width drivers ∙ sym (ap (gate_expr t u f netlist width) e)
