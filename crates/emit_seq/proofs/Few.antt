-- A chosen cover has no more cuts than its tree has nodes that can be cut: a cut inside a cover of
-- the same cut would make a dearer cover.
use Rattle.std.proofs.Common.{◌≡◌, ℕ, zero, suc, ◌+◌, ◌<◌, ◌≤◌, ◌⊎◌, inl, inr, bit_and, bit_or, Bool, true, false, List, [], ◌∷◌, Some, refl, sym, ap, ◌∙◌, subst, arith}
use Rattle.std.specs.Prelude.{slice_get, remove}
use Rattle.net_model.specs.Exprs.{ExprModel}
use Rattle.form_model.specs.Forms.{DestinationModel, into, filed, cell, stored, temporary, tested}
use Rattle.form_model.specs.Matches.{HomeModel, in_register, in_file, MatchModel}
use Rattle.form_model.specs.CoverModels.{CoverModel, use_form, CoverOperandsModel, no_operands, operand_then, CoverCutsModel, no_cuts, cut_then, cost, operands_cost, cuts_cost}
use Rattle.form_model.specs.Covers.{StockModel, Operand, operands_of, cuts_of, form_clobbers, home_destination, home_set, need, operands_need, written, all_written, IsOrderly, AreOrderly, AreCut, JobCoverModel, Covers, ChoiceBefore, IsChosen}
use Rattle.form_model.specs.Steps.{cut_count, operands_count, cuts_count}
use Rattle.form_model.specs.WideNodes.{tree_temps, wide_below}
use Rattle.emit_seq.specs.ReadWords.{AllReadWords}
use Rattle.form_model.proofs.NeedLaws.{cells_left}
use Rattle.emit_seq.proofs.Nodes.{goal_nodes, tree_nodes, operands_sum, cuts_sum, leaves_sum, MatchKind, itself, stored_whole, parts, IsPlain, whole_at, goal_kind, goal_sum}

module _ (bits : ℕ) (stock : StockModel) (words : AllReadWords bits stock.forms) where
  abbrev op_sum : List Operand → ℕ
  op_sum left = operands_sum stock.temps bits left

  abbrev cut_sum : List ExprModel → ℕ
  cut_sum trees = cuts_sum stock.temps bits trees

  -- no orderly cover that writes the same and needs no more of the file is cheaper
  abbrev IsMin : CoverModel → DestinationModel → ExprModel → Bool → Type 0
  IsMin p destination tree whole = (q : CoverModel) → IsOrderly stock destination tree whole q → written stock.forms q ≡ written stock.forms p → need stock.forms q ≤ need stock.forms p → cost p ≤ cost q

  abbrev AreMin : CoverOperandsModel → List Operand → Type 0
  AreMin ps left = (qs : CoverOperandsModel) → AreOrderly stock left qs → all_written stock.forms qs ≡ all_written stock.forms ps → operands_need stock.forms qs ≤ operands_need stock.forms ps → operands_cost ps ≤ operands_cost qs

  abbrev CutsMin : CoverCutsModel → List ExprModel → Type 0
  CutsMin cs trees = (ds : CoverCutsModel) → AreCut stock trees ds → cuts_cost cs ≤ cuts_cost ds

  -- no cover of a tree into a temporary cell is cheaper
  abbrev IsLeastCut : ℕ → ExprModel → Type 0
  IsLeastCut n tree = (q : CoverModel) → IsOrderly stock temporary tree false q → need stock.forms q ≤ stock.file → n ≤ cost q

  record IsFew (p : CoverModel) : Type 0 where
    few : (destination : DestinationModel) (tree : ExprModel) (whole : Bool) → IsOrderly stock destination tree whole p → IsMin p destination tree whole → cut_count p ≤ goal_nodes stock.temps bits destination tree whole
    fewer : (destination : DestinationModel) (tree : ExprModel) (whole : Bool) → IsPlain stock.temps bits destination → IsOrderly stock destination tree whole p → IsMin p destination tree whole → IsLeastCut (cost p) tree
        → cut_count p ≤ wide_below bits tree

  record AreFew (ps : CoverOperandsModel) : Type 0 where
    few : (left : List Operand) → AreOrderly stock left ps → AreMin ps left → operands_count ps ≤ op_sum left
    fewer : (o : Operand) → AreOrderly stock (o ∷ []) ps → AreMin ps (o ∷ []) → IsLeastCut (operands_cost ps) o.tree → operands_count ps ≤ wide_below bits o.tree

  record CutsFew (cs : CoverCutsModel) : Type 0 where
    few : (trees : List ExprModel) → AreCut stock trees cs → CutsMin cs trees → cuts_count cs ≤ cut_sum trees

  sum_at : (left : List Operand) (i : ℕ) (o : Operand) → slice_get left i ≡ Some o → op_sum left ≡ tree_nodes stock.temps bits o.tree o.whole + op_sum (remove left i)
  sum_at [] i o e = absurd (cc)
  sum_at (x ∷ left) zero o e = let q : x ≡ o = cc in ap (λ (z : Operand). tree_nodes stock.temps bits z.tree z.whole + op_sum left) q
  sum_at (x ∷ left) (suc i) o e = let h = sum_at left i o e in omega (arith, h)

  home_plain : (home : HomeModel) → IsPlain stock.temps bits (home_destination home)
  home_plain (in_register id) = tt
  home_plain (in_file shape) = tt

  home_nodes : (home : HomeModel) (t : ExprModel) (whole : Bool) → goal_nodes stock.temps bits (home_destination home) t whole ≡ tree_nodes stock.temps bits t whole
  home_nodes (in_register id) t whole = refl
  home_nodes (in_file shape) t whole = refl

  operand_few : (i : ℕ) (p : CoverModel) (ps : CoverOperandsModel) → IsFew p → AreFew ps → AreFew (operand_then i p ps)
  operand_few i p ps h k = record { few = few'; fewer = fewer' i }
    where
      head_min : (j : ℕ) (left : List Operand) → (c : AreOrderly stock left (operand_then j p ps)) → AreMin (operand_then j p ps) left → IsMin p (home_destination c.0.home) c.0.tree c.0.whole
      head_min j left c m q d e b =
          let a = cells_left stock q c.0.home c.0.tree c.0.whole d in
          let a' = cells_left stock p c.0.home c.0.tree c.0.whole c.2 in
          let r : cost p + operands_cost ps ≤ cost q + operands_cost ps =
          m (operand_then j q ps) (c.0, c.1, d, c.3, c.4) (ap (λ z. bit_or z (all_written stock.forms ps)) e) (omega (arith, a, a', b)) in omega (arith, r)

      rest_min : (j : ℕ) (left : List Operand) → AreOrderly stock left (operand_then j p ps) → AreMin (operand_then j p ps) left → AreMin ps (remove left j)
      rest_min j left c m qs d e b =
          let r : cost p + operands_cost ps ≤ cost p + operands_cost qs =
          m (operand_then j p qs) (c.0, c.1, c.2, ap (λ z. bit_and z (home_set c.0.home)) e ∙ c.3, d) (ap (λ z. bit_or (written stock.forms p) z) e) (omega (arith, b)) in omega (arith, r)

      few' : (left : List Operand) → AreOrderly stock left (operand_then i p ps) → AreMin (operand_then i p ps) left → operands_count (operand_then i p ps) ≤ op_sum left
      few' left c m =
          let a : cut_count p ≤ tree_nodes stock.temps bits c.0.tree c.0.whole =
          subst (λ n. cut_count p ≤ n) (home_nodes c.0.home c.0.tree c.0.whole) (h.few (home_destination c.0.home) c.0.tree c.0.whole c.2 (head_min i left c m)) in
          let b : operands_count ps ≤ op_sum (remove left i) = k.few (remove left i) c.4 (rest_min i left c m) in
          omega (arith, a, b, sum_at left i c.0 c.1)

      fewer' : (j : ℕ) (o : Operand) → AreOrderly stock (o ∷ []) (operand_then j p ps) → AreMin (operand_then j p ps) (o ∷ []) → IsLeastCut (operands_cost (operand_then j p ps)) o.tree
          → operands_count (operand_then j p ps) ≤ wide_below bits o.tree
      fewer' zero o c m l =
          let e : o ≡ c.0 = cc (c.1) in
          let least : IsLeastCut (cost p) c.0.tree = λ q d b. let r : cost p + operands_cost ps ≤ cost q = l q (subst (λ (z : Operand). IsOrderly stock temporary z.tree false q) (sym e) d) b in omega (arith, r) in
          let a : cut_count p ≤ wide_below bits c.0.tree = h.fewer (home_destination c.0.home) c.0.tree c.0.whole (home_plain c.0.home) c.2 (head_min zero (o ∷ []) c m) least in
          let b : operands_count ps ≤ 0 = k.few [] c.4 (rest_min zero (o ∷ []) c m) in
          let q : wide_below bits o.tree ≡ wide_below bits c.0.tree = ap (λ (z : Operand). wide_below bits z.tree) e in
          omega (arith, a, b, q)
      fewer' (suc j) o c m l = absurd (cc (c.1))

  none_few : AreFew no_operands
  none_few = record { few = λ left c m. omega arith; fewer = λ o c m l. omega arith }

  cut_few : (p : CoverModel) (cs : CoverCutsModel) → IsFew p → CutsFew cs → CutsFew (cut_then p cs)
  cut_few p cs h k = record { few = few' }
    where
      few' : (trees : List ExprModel) → AreCut stock trees (cut_then p cs) → CutsMin (cut_then p cs) trees → cuts_count (cut_then p cs) ≤ cut_sum trees
      few' trees c m =
          let least : IsLeastCut (cost p) c.0 = λ q d b. let r : cost p + cuts_cost cs ≤ cost q + cuts_cost cs = m (cut_then q cs) (c.0, c.1, c.2, d, b, c.5) in omega (arith, r) in
          let a : cut_count p ≤ wide_below bits c.0 = h.fewer temporary c.0 false tt c.3 (λ q d e b. least q d (let n = c.4 in omega (arith, n, b))) least in
          let later : CutsMin cs c.1 = λ ds d. let r : cost p + cuts_cost cs ≤ cost p + cuts_cost ds = m (cut_then p ds) (c.0, c.1, c.2, c.3, c.4, d) in omega (arith, r) in
          let b : cuts_count cs ≤ cut_sum c.1 = k.few c.1 c.5 later in
          let q : cut_sum trees ≡ wide_below bits c.0 + 1 + cut_sum c.1 = ap cut_sum c.2 in
          omega (arith, a, b, q)

  no_cut_few : CutsFew no_cuts
  no_cut_few = record { few = λ trees c m. omega arith }

  -- a cut of the tree itself has a cover that is cheaper than the form's
  own_cut : (cs : CoverCutsModel) (t : ExprModel) → AreCut stock (t ∷ []) cs → (q : CoverModel) × IsOrderly stock temporary t false q × (need stock.forms q ≤ stock.file) × (cost q ≤ cuts_cost cs)
  own_cut no_cuts t c = absurd (cc)
  own_cut (cut_then p cs) t c =
      let e : c.0 ≡ t = cc (c.2) in
      (p, subst (λ z. IsOrderly stock temporary z false p) e c.3, c.4, omega arith)

  form_few : (k : ℕ) (ps : CoverOperandsModel) (cs : CoverCutsModel) → AreFew ps → CutsFew cs → IsFew (use_form k ps cs)
  form_few k ps cs hp hc = record { few = few'; fewer = fewer' }
    where
      op_min : (destination : DestinationModel) (tree : ExprModel) (whole : Bool) → (c : IsOrderly stock destination tree whole (use_form k ps cs)) → IsMin (use_form k ps cs) destination tree whole → AreMin ps (operands_of c.2.leaves)
      op_min destination tree whole c m qs d e b =
          let r : 1 + operands_cost ps + cuts_cost cs ≤ 1 + operands_cost qs + cuts_cost cs =
          m (use_form k qs cs) (c.0, c.1, c.2, c.3, d, c.5) (ap (λ z. bit_or (form_clobbers (slice_get stock.forms k)) z) e) (omega (arith, b)) in omega (arith, r)

      cut_min : (destination : DestinationModel) (tree : ExprModel) (whole : Bool) → (c : IsOrderly stock destination tree whole (use_form k ps cs)) → IsMin (use_form k ps cs) destination tree whole → CutsMin cs (cuts_of c.2.leaves)
      cut_min destination tree whole c m ds d =
          let r : 1 + operands_cost ps + cuts_cost cs ≤ 1 + operands_cost ps + cuts_cost ds = m (use_form k ps ds) (c.0, c.1, c.2, c.3, c.4, d) refl (omega arith) in omega (arith, r)

      few' : (destination : DestinationModel) (tree : ExprModel) (whole : Bool) → IsOrderly stock destination tree whole (use_form k ps cs) → IsMin (use_form k ps cs) destination tree whole
          → cut_count (use_form k ps cs) ≤ goal_nodes stock.temps bits destination tree whole
      few' destination tree whole c m =
          let a : operands_count ps ≤ op_sum (operands_of c.2.leaves) = hp.few (operands_of c.2.leaves) c.4 (op_min destination tree whole c m) in
          let b : cuts_count cs ≤ cut_sum (cuts_of c.2.leaves) = hc.few (cuts_of c.2.leaves) c.5 (cut_min destination tree whole c m) in
          let s : leaves_sum stock.temps bits c.2.leaves ≤ goal_nodes stock.temps bits destination tree whole = goal_sum stock.temps bits c.0 c.0.goal destination tree whole c.2 (words k c.0 c.1).0 (words k c.0 c.1).1 c.3 in
          omega (arith, a, b, s)

      fewer' : (destination : DestinationModel) (tree : ExprModel) (whole : Bool) → IsPlain stock.temps bits destination → IsOrderly stock destination tree whole (use_form k ps cs) → IsMin (use_form k ps cs) destination tree whole
          → IsLeastCut (cost (use_form k ps cs)) tree → cut_count (use_form k ps cs) ≤ wide_below bits tree
      fewer' destination tree whole pl c m l =
          by_kind (whole_at stock.temps bits destination whole) c.2 (goal_kind stock.temps bits c.0 c.0.goal destination tree whole c.2 (words k c.0 c.1).1 pl c.3) c.4 c.5 (op_min destination tree whole c m) (cut_min destination tree whole c m) l
        where
          by_kind : (w : Bool) (f : MatchModel) → MatchKind stock.temps bits tree w f → AreOrderly stock (operands_of f.leaves) ps → AreCut stock (cuts_of f.leaves) cs → AreMin ps (operands_of f.leaves)
              → CutsMin cs (cuts_of f.leaves) → IsLeastCut (1 + operands_cost ps + cuts_cost cs) tree → operands_count ps + cuts_count cs ≤ wide_below bits tree
          by_kind w f (itself id e) o u om um l =
              let b : cuts_count cs ≤ cut_sum (cuts_of f.leaves) = hc.few (cuts_of f.leaves) u um in
              let z : cut_sum (cuts_of f.leaves) ≡ 0 = ap (λ s. cut_sum (cuts_of s)) e in
              let op : Operand = record { home = id; tree = tree; whole = w } in
              let eo : operands_of f.leaves ≡ op ∷ [] = ap operands_of e in
              let a : operands_count ps ≤ wide_below bits tree =
              hp.fewer op (subst (λ s. AreOrderly stock s ps) eo o) (subst (λ s. AreMin ps s) eo om)
              (λ q d v. let r : 1 + operands_cost ps + cuts_cost cs ≤ cost q = l q d v in omega (arith, r)) in
              omega (arith, a, b, z)
          by_kind w f (stored_whole shape e v) o u om um l =
              let (q, d, w', r) = own_cut cs tree (subst (λ s. AreCut stock s cs) (ap cuts_of e) u) in
              let n : 1 + operands_cost ps + cuts_cost cs ≤ cost q = l q d w' in
              absurd (omega (arith, n, r))
          by_kind w f (parts s) o u om um l =
              let a : operands_count ps ≤ op_sum (operands_of f.leaves) = hp.few (operands_of f.leaves) o om in
              let b : cuts_count cs ≤ cut_sum (cuts_of f.leaves) = hc.few (cuts_of f.leaves) u um in
              omega (arith, a, b, s)

  mutual
    few_cover : (p : CoverModel) → IsFew p
    few_cover (use_form k ps cs) = form_few k ps cs (few_operands ps) (few_cuts cs)

    few_operands : (ps : CoverOperandsModel) → AreFew ps
    few_operands no_operands = none_few
    few_operands (operand_then i p ps) = operand_few i p ps (few_cover p) (few_operands ps)

    few_cuts : (cs : CoverCutsModel) → CutsFew cs
    few_cuts no_cuts = no_cut_few
    few_cuts (cut_then p cs) = cut_few p cs (few_cover p) (few_cuts cs)

  goal_temps : (destination : DestinationModel) (t : ExprModel) → goal_nodes stock.temps bits destination t true ≡ tree_temps bits destination t
  goal_temps (into id) t = refl
  goal_temps filed t = refl
  goal_temps (cell a) t = refl
  goal_temps (stored a) t = refl
  goal_temps temporary t = refl
  goal_temps tested t = refl

  -- a chosen cover has at most as many cuts as its tree has nodes that can be cut
  pub chosen_few : (destination : DestinationModel) (trees : List ExprModel) (choice : JobCoverModel) → (c : IsChosen stock destination trees choice) → cut_count choice.cover ≤ tree_temps bits destination c.covers.tree
  chosen_few destination trees choice c = subst (λ n. cut_count choice.cover ≤ n) (goal_temps destination c.covers.tree) ((few_cover choice.cover).few destination c.covers.tree true c.covers.orderly least)
    where
      least : IsMin choice.cover destination c.covers.tree true
      least q d e b =
          let other : JobCoverModel = record { which = choice.which; cover = q } in
          let cover : Covers stock destination trees other = record { tree = c.covers.tree; used = c.covers.used; orderly = d; enough = (let n = c.covers.enough in omega (arith, n, b)) } in
          at_most (c.first other cover)
        where
          at_most : (cost choice.cover < cost q) ⊎ ((cost choice.cover ≡ cost q) × ((choice ≡ record { which = choice.which; cover = q }) ⊎ ChoiceBefore choice (record { which = choice.which; cover = q })))
              → cost choice.cover ≤ cost q
          at_most (inl l) = omega (arith, l)
          at_most (inr l) = omega (arith, l.0)
