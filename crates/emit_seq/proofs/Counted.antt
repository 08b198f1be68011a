-- A cover has as many steps as it costs.
use Rattle.std.proofs.Common.{◌≡◌, ℕ, zero, suc, ◌+◌, Bool, true, false, List, [], ◌∷◌, length, drop, refl, sym, ap, ◌∙◌, subst, arith, length-append}
use Rattle.std.specs.Prelude.{slice_get, remove, insert}
use Rattle.rec_bits.proofs.Lists.{length_inserted}
use Rattle.net_model.specs.Exprs.{ExprModel}
use Rattle.form_model.specs.declared.forms.Step.{Step}
use Rattle.form_model.specs.Forms.{FormModel, DestinationModel, into, filed, cell, stored, temporary, tested}
use Rattle.form_model.specs.Matches.{HomeModel, in_register, in_file, LeafModel, operand, cut}
use Rattle.form_model.specs.CoverModels.{CoverModel, use_form, CoverOperandsModel, no_operands, operand_then, CoverCutsModel, no_cuts, cut_then, cost, operands_cost, cuts_cost}
use Rattle.form_model.specs.Covers.{StockModel, operands_of, cuts_of, home_destination, IsOrderly, AreOrderly, AreCut, parts_cost, job_cost}
use Rattle.form_model.specs.Steps.{OperandCellsModel, CutCellsModel, holding, cell_of, cut_count, operand_counts, cut_counts, cover_operand_cells, cover_cut_cells, operand_cells_or_none, form_at, match_at, own_steps, operand_steps, woven, cut_steps, inside_operands, into_cells, cover_setting, form_step, cover_steps}
use Rattle.form_model.proofs.Counts.{operands_long, cuts_long}
use Rattle.emit_seq.specs.Leaves.{IsOfJob}
use Rattle.emit_seq.specs.Inner.CellLists.{operands_in, trees_in}
use Rattle.emit_seq.proofs.Walks.{cells_operands, cells_trees}
use Rattle.emit_seq.proofs.Opened.{IsOpened, opened_cover, IsOpenedOperand, opened_operand}

abbrev total_steps : List (List Step) → ℕ
total_steps [] = 0
total_steps (x ∷ xs) = length x + total_steps xs

total_insert : (xs : List (List Step)) (i : ℕ) (x : List Step) → total_steps (insert xs i x) ≡ length x + total_steps xs
total_insert xs zero x = refl
total_insert [] (suc i) x = refl
total_insert (y ∷ xs) (suc i) x = let e = total_insert xs i x in omega (arith, e)

woven_long : (leaves : List LeafModel) (xs ys : List (List Step)) → length xs ≡ length (operands_of leaves) → length ys ≡ length (cuts_of leaves) → length (woven leaves xs ys) ≡ total_steps xs + total_steps ys
woven_long [] [] [] p q = refl
woven_long [] [] (y ∷ ys) p q = absurd (omega arith)
woven_long [] (x ∷ xs) ys p q = absurd (omega arith)
woven_long (operand id tree whole ∷ leaves) [] ys p q = absurd (omega arith)
woven_long (operand id tree whole ∷ leaves) (x ∷ xs) ys p q =
    let e = woven_long leaves xs ys (omega arith) q in omega (arith, e, length-append x (woven leaves xs ys))
woven_long (cut shape tree ∷ leaves) xs [] p q = absurd (omega arith)
woven_long (cut shape tree ∷ leaves) xs (y ∷ ys) p q =
    let e = woven_long leaves xs ys p (omega arith) in omega (arith, e, length-append y (woven leaves xs ys))

module _ (stock : StockModel) where
  inside_long : (ps : CoverOperandsModel) (left : List OperandCellsModel) → length (inside_operands stock ps left) ≡ length (operand_counts ps)
  inside_long no_operands left = refl
  inside_long (operand_then i p ps) left =
      let e = inside_long ps (remove left i) in
      let cells : OperandCellsModel = operand_cells_or_none (slice_get left i) in
      omega (
        arith,
        e,
        length_inserted (inside_operands stock ps (remove left i)) i (cut_steps stock p cells.first (home_destination cells.operand.home) cells.operand.tree cells.operand.whole),
        length_inserted (operand_counts ps) i (cut_count p),
      )

  cells_long : (cs : CoverCutsModel) (cuts : List CutCellsModel) → length (into_cells stock cs cuts) ≡ length (cut_counts cs)
  cells_long no_cuts cuts = refl
  cells_long (cut_then p cs) cuts = let e = cells_long cs (drop 1 cuts) in omega (arith, e)

  record IsCounted (p : CoverModel) : Type 0 where
    all : (n held : ℕ) (destination : DestinationModel) (tree : ExprModel) (whole : Bool) → IsOrderly stock destination tree whole p
        → length (cut_steps stock p n destination tree whole) + length (own_steps stock p n held destination tree whole)
        ≡ parts_cost p + length (form_step (form_at stock 0) destination 0)

  record AreCounted (ps : CoverOperandsModel) : Type 0 where
    all : (held : ℕ) (left : List OperandCellsModel) → AreOrderly stock (operands_in left) ps → total_steps (inside_operands stock ps left) + length (operand_steps stock ps left held) ≡ operands_cost ps

  record AreCutCounted (cs : CoverCutsModel) : Type 0 where
    all : (cuts : List CutCellsModel) → AreCut stock (trees_in cuts) cs → total_steps (into_cells stock cs cuts) ≡ cuts_cost cs

  form_long : (form other : FormModel) (destination : DestinationModel) (i j : ℕ) → length (form_step form destination i) ≡ length (form_step other destination j)
  form_long form other (into id) i j = refl
  form_long form other filed i j = refl
  form_long form other (cell a) i j = refl
  form_long form other (stored a) i j = refl
  form_long form other temporary i j = refl
  form_long form other tested i j = refl

  home_long : (form : FormModel) (home : HomeModel) → length (form_step form (home_destination home) 0) ≡ 1
  home_long form (in_register id) = refl
  home_long form (in_file shape) = refl

  whole_cost : (p : CoverModel) → cost p ≡ parts_cost p + 1
  whole_cost (use_form k ps cs) = omega arith

  operand_counted : (i : ℕ) (p : CoverModel) (ps : CoverOperandsModel) → IsCounted p → AreCounted ps → AreCounted (operand_then i p ps)
  operand_counted i p ps h k = record { all = all' }
    where
      all' : (held : ℕ) (left : List OperandCellsModel) → AreOrderly stock (operands_in left) (operand_then i p ps)
          → total_steps (inside_operands stock (operand_then i p ps) left) + length (operand_steps stock (operand_then i p ps) left held) ≡ operands_cost (operand_then i p ps)
      all' held left o =
          let more : ℕ = holding held (cell_of stock p held) in
          let cells : OperandCellsModel = operand_cells_or_none (slice_get left i) in
          let w : IsOpenedOperand stock left i cells p ps = opened_operand stock left i p ps o in
          let inside : List Step = cut_steps stock p cells.first (home_destination cells.operand.home) cells.operand.tree cells.operand.whole in
          let own : List Step = own_steps stock p cells.first held (home_destination cells.operand.home) cells.operand.tree cells.operand.whole in
          let a : length inside + length own ≡ parts_cost p + 1 = h.all cells.first held (home_destination cells.operand.home) cells.operand.tree cells.operand.whole w.orderly
          ∙ ap (λ z. parts_cost p + z) (home_long (form_at stock 0) cells.operand.home) in
          let b : total_steps (inside_operands stock ps (remove left i)) + length (operand_steps stock ps (remove left i) more) ≡ operands_cost ps = k.all more (remove left i) w.rest in
          omega (arith, a, b, whole_cost p, total_insert (inside_operands stock ps (remove left i)) i inside, length-append own (operand_steps stock ps (remove left i) more))

  cut_counted : (p : CoverModel) (cs : CoverCutsModel) → IsCounted p → AreCutCounted cs → AreCutCounted (cut_then p cs)
  cut_counted p cs h k = record { all = all' }
    where
      all' : (cuts : List CutCellsModel) → AreCut stock (trees_in cuts) (cut_then p cs) → total_steps (into_cells stock (cut_then p cs) cuts) ≡ cuts_cost (cut_then p cs)
      all' [] o = absurd (cc (o.2))
      all' (cells ∷ cuts) o =
          let e : o.0 ≡ cells.tree = cc (o.2) in
          let e' : o.1 ≡ trees_in cuts = cc (o.2) in
          let inside : List Step = cut_steps stock p cells.first temporary cells.tree false in
          let own : List Step = own_steps stock p cells.first 0 temporary cells.tree false in
          let a : length inside + length own ≡ parts_cost p + 1 = h.all cells.first 0 temporary cells.tree false (subst (λ t. IsOrderly stock temporary t false p) e o.3) in
          let b : total_steps (into_cells stock cs cuts) ≡ cuts_cost cs = k.all cuts (subst (λ ts. AreCut stock ts cs) e' o.5) in
          omega (arith, a, b, whole_cost p, length-append inside own)

  form_counted : (k : ℕ) (ps : CoverOperandsModel) (cs : CoverCutsModel) → AreCounted ps → AreCutCounted cs → IsCounted (use_form k ps cs)
  form_counted k ps cs h g = record { all = all' }
    where
      all' : (n held : ℕ) (destination : DestinationModel) (tree : ExprModel) (whole : Bool) → IsOrderly stock destination tree whole (use_form k ps cs)
          → length (cut_steps stock (use_form k ps cs) n destination tree whole) + length (own_steps stock (use_form k ps cs) n held destination tree whole)
          ≡ parts_cost (use_form k ps cs) + length (form_step (form_at stock 0) destination 0)
      all' n held destination tree whole o =
          let w : IsOpened stock k ps cs destination tree whole = opened_cover stock k ps cs destination tree whole o in
          let leaves : List LeafModel = (match_at stock k destination tree whole).leaves in
          let left : List OperandCellsModel = cover_operand_cells leaves ps cs n in
          let cuts : List CutCellsModel = cover_cut_cells leaves ps cs n in
          let a : total_steps (inside_operands stock ps left) + length (operand_steps stock ps left held) ≡ operands_cost ps =
          h.all held left (subst (λ z. AreOrderly stock z ps) (sym (cells_operands leaves (operand_counts ps) (cut_counts cs) n)) w.operands) in
          let b : total_steps (into_cells stock cs cuts) ≡ cuts_cost cs =
          g.all cuts (subst (λ z. AreCut stock z cs) (sym (cells_trees leaves (operand_counts ps) (cut_counts cs) n)) w.cuts) in
          let d : length (woven leaves (inside_operands stock ps left) (into_cells stock cs cuts)) ≡ total_steps (inside_operands stock ps left) + total_steps (into_cells stock cs cuts) =
          woven_long leaves (inside_operands stock ps left) (into_cells stock cs cuts)
          (inside_long ps left ∙ operands_long stock ps (operands_of leaves) w.operands) (cells_long cs cuts ∙ cuts_long stock cs (cuts_of leaves) w.cuts) in
          let setting : ℕ = cover_setting stock (use_form k ps cs) n held destination tree whole in
          omega (arith, a, b, d, length-append (operand_steps stock ps left held) (form_step (form_at stock k) destination setting), form_long (form_at stock k) (form_at stock 0) destination setting 0)

  mutual
    counted : (p : CoverModel) → IsCounted p
    counted (use_form k ps cs) = form_counted k ps cs (counted_operands ps) (counted_cuts cs)

    counted_operands : (ps : CoverOperandsModel) → AreCounted ps
    counted_operands no_operands = record { all = λ held left o. refl }
    counted_operands (operand_then i p ps) = operand_counted i p ps (counted p) (counted_operands ps)

    counted_cuts : (cs : CoverCutsModel) → AreCutCounted cs
    counted_cuts no_cuts = record { all = λ cuts o. refl }
    counted_cuts (cut_then p cs) = cut_counted p cs (counted p) (counted_cuts cs)

  -- a job's cover has as many steps as it costs
  pub steps_cost : (destination : DestinationModel) (tree : ExprModel) (cover : CoverModel) → IsOfJob destination → IsOrderly stock destination tree true cover → length (cover_steps stock destination tree cover) ≡ job_cost destination cover
  steps_cost (cell a) tree cover j o =
      length-append (cut_steps stock cover 0 (cell a) tree true) (own_steps stock cover 0 0 (cell a) tree true) ∙ (counted cover).all 0 0 (cell a) tree true o ∙ sym (whole_cost cover)
  steps_cost (stored a) tree cover j o =
      length-append (cut_steps stock cover 0 (stored a) tree true) (own_steps stock cover 0 0 (stored a) tree true) ∙ (counted cover).all 0 0 (stored a) tree true o ∙ sym (whole_cost cover)
  steps_cost tested tree cover j o =
      let e = (counted cover).all 0 0 tested tree true o in
      omega (arith, e, length-append (cut_steps stock cover 0 tested tree true) (own_steps stock cover 0 0 tested tree true))
  steps_cost (into id) tree cover j o = absurd j
  steps_cost filed tree cover j o = absurd j
  steps_cost temporary tree cover j o = absurd j
