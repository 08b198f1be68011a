-- What an orderly cover says of the code's lists: each place that it names is there.
use Rattle.std.proofs.Common.{◌≡◌, ℕ, suc, ◌<◌, Bool, false, List, ◌∷◌, length, Some, refl, sym, ap, ◌∙◌, subst, arith}
use Rattle.std.specs.Prelude.{IsSome, slice_get, remove}
use Rattle.std.proofs.lemmas.Option.{slice_get_within}
use Rattle.std.proofs.lemmas.List.{length-map}
use Rattle.rec_bits.proofs.Lists.{length_inserted}
use Rattle.net_model.specs.Exprs.{ExprModel}
use Rattle.form_model.specs.declared.forms.Form.{Form}
use Rattle.form_model.specs.Forms.{FormModel, model_of_form, models_of_forms, DestinationModel, temporary}
use Rattle.form_model.specs.Matches.{taken}
use Rattle.form_model.specs.CoverModels.{CoverModel, use_form, CoverOperandsModel, no_operands, operand_then, CoverCutsModel, cut_then}
use Rattle.form_model.specs.Covers.{StockModel, Operand, home_destination, IsOrderly, AreOrderly, AreCut}
use Rattle.form_model.specs.Steps.{OperandCellsModel, cut_count, operand_counts, cut_counts, inside_operands, match_at}
use Rattle.form_model.proofs.Zips.{get_mapped, length_out, map-remove}
use Rattle.form_model.proofs.Counts.{operands_long}
use Rattle.emit_seq.specs.declared.cells.CutCells.{CutCells}
use Rattle.emit_seq.specs.declared.cells.OperandCells.{OperandCells}
use Rattle.emit_seq.specs.declared.roots.Root.{Root}
use Rattle.emit_seq.specs.Emits.{IsFormAtRoot, IsTakenOut}
use Rattle.emit_seq.specs.Inner.CellLists.{AreListed, ArePlaces, IsListed, operands_in, trees_in}
use Rattle.emit_seq.specs.Models.{model_of_cut_cells, models_of_cut_cells, model_of_operand_cells, models_of_operand_cells}
use Rattle.emit_seq.proofs.Opened.{opened_cover}
use Rattle.emit_seq.proofs.Walks.{cells_operands, cells_trees}

pub places_of : (stock : StockModel) (ps : CoverOperandsModel) (left : List Operand) → AreOrderly stock left ps → ArePlaces ps
places_of stock no_operands left c = tt
places_of stock (operand_then i p ps) left c =
    let within = slice_get_within left i c.0 c.1 in
    let long = operands_long stock ps (remove left i) c.4 in
    let out = length_out left i c.0 c.1 in
    (omega (arith, within, long, out), places_of stock ps (remove left i) c.4)

mutual
  pub cover_listed : (stock : StockModel) (p : CoverModel) (destination : DestinationModel) (tree : ExprModel) (whole : Bool) → IsOrderly stock destination tree whole p → IsListed stock p
  cover_listed stock (use_form k ps cs) destination tree whole c =
      (slice_get_within stock.forms k c.0 c.1, operands_listed stock ps _ c.4)

  pub operands_listed : (stock : StockModel) (ps : CoverOperandsModel) (left : List Operand) → AreOrderly stock left ps → AreListed stock ps
  operands_listed stock no_operands left c = tt
  operands_listed stock (operand_then i p ps) left c =
      let within = slice_get_within left i c.0 c.1 in
      let long = operands_long stock ps (remove left i) c.4 in
      let out = length_out left i c.0 c.1 in
      (omega (arith, within, long, out), cover_listed stock p (home_destination c.0.home) c.0.tree c.0.whole c.2, operands_listed stock ps (remove left i) c.4)

-- a form that is listed is one of the code's
pub within_forms : (forms : List Form) (k : ℕ) → k < length (models_of_forms forms) → k < length forms
within_forms forms k h = let e = length-map forms model_of_form in omega (arith, h, e)

-- ---- the form at the root

module _ (stock : StockModel) (k : ℕ) (ps : CoverOperandsModel) (cs : CoverCutsModel) (destination : DestinationModel) (tree : ExprModel) (whole : Bool)
    (c : IsOrderly stock destination tree whole (use_form k ps cs)) where
  pub form_within : (forms : List Form) → stock.forms ≡ models_of_forms forms → k < length forms
  form_within forms e =
      let (form, at, is) = get_mapped model_of_form forms k c.0 (sym (ap (λ models. slice_get models k) e) ∙ c.1) in
      slice_get_within forms k form at

  pub form_takes : (form : FormModel) → slice_get stock.forms k ≡ Some form → IsSome (taken stock.temps form destination tree whole)
  form_takes form e =
      let both : Some c.0 ≡ Some form = sym c.1 ∙ e in
      let same : c.0 ≡ form = cc in
      subst (λ r. IsSome (taken stock.temps r destination tree whole)) same (subst (λ o. IsSome o) (sym c.3) refl)

  pub operand_places : ArePlaces ps
  operand_places = places_of stock ps _ c.4

  module _ (n held : ℕ) (root : Root) (h : IsFormAtRoot stock k ps cs n held destination tree whole root) where
    pub root_operands : AreOrderly stock (operands_in (models_of_operand_cells root.operands.items)) ps
    root_operands =
        let leaves = (match_at stock k destination tree whole).leaves in
        let e = ap operands_in h.operands ∙ cells_operands leaves (operand_counts ps) (cut_counts cs) n in
        subst (λ z. AreOrderly stock z ps) (sym e) (opened_cover stock k ps cs destination tree whole c).operands

    pub root_cuts : AreCut stock (trees_in (models_of_cut_cells root.cuts.items)) cs
    root_cuts =
        let leaves = (match_at stock k destination tree whole).leaves in
        let e = ap trees_in h.cuts ∙ cells_trees leaves (operand_counts ps) (cut_counts cs) n in
        subst (λ z. AreCut stock z cs) (sym e) (opened_cover stock k ps cs destination tree whole c).cuts

-- ---- an operand that is taken out

-- its place is there
pub place_within : (stock : StockModel) (left : List OperandCells) (i : ℕ) (p : CoverModel) (ps : CoverOperandsModel) → AreOrderly stock (operands_in (models_of_operand_cells left)) (operand_then i p ps) → i < length left
place_within stock left i p ps c =
    let (cells, at, is) = get_mapped (λ (s : OperandCellsModel). s.operand) (models_of_operand_cells left) i c.0 c.1 in
    let (code, there, same) = get_mapped model_of_operand_cells left i cells at in
    slice_get_within left i code there

module _ (stock : StockModel) (left : List OperandCellsModel) (i : ℕ) (p : CoverModel) (ps : CoverOperandsModel) (c : AreOrderly stock (operands_in left) (operand_then i p ps))
    (cells : OperandCellsModel) (new : List OperandCellsModel) (t : IsTakenOut left i cells new) where
  pub taken_orderly : IsOrderly stock (home_destination cells.operand.home) cells.operand.tree cells.operand.whole p
  taken_orderly =
      let (there, at, is) = get_mapped (λ (s : OperandCellsModel). s.operand) left i c.0 c.1 in
      let both : Some there ≡ Some cells = sym at ∙ t.at in
      let same : there ≡ cells = cc in
      let e : c.0 ≡ cells.operand = sym is ∙ ap (λ (s : OperandCellsModel). s.operand) same in
      subst (λ (o : Operand). IsOrderly stock (home_destination o.home) o.tree o.whole p) e c.2

  pub left_orderly : AreOrderly stock (operands_in new) ps
  left_orderly = subst (λ z. AreOrderly stock z ps) (sym (ap operands_in t.rest ∙ map-remove (λ (s : OperandCellsModel). s.operand) left i)) c.4

pub inside_long : (stock : StockModel) (ps : CoverOperandsModel) (left : List OperandCellsModel) → length (inside_operands stock ps left) ≡ length (operand_counts ps)
inside_long stock no_operands left = refl
inside_long stock (operand_then i p ps) left =
    let h = inside_long stock ps (remove left i) in
    length_inserted (inside_operands stock ps (remove left i)) i _ ∙ ap (λ n. suc n) h ∙ sym (length_inserted (operand_counts ps) i (cut_count p))

-- ---- a cut

module _ (stock : StockModel) (first : CutCells) (later : List CutCells) (p : CoverModel) (cs : CoverCutsModel)
    (c : AreCut stock (trees_in (models_of_cut_cells (first ∷ later))) (cut_then p cs)) where
  pub cut_orderly : IsOrderly stock temporary (model_of_cut_cells first).tree false p
  cut_orderly = let e : c.0 ≡ (model_of_cut_cells first).tree = cc (c.2) in subst (λ t. IsOrderly stock temporary t false p) e c.3

  pub later_orderly : AreCut stock (trees_in (models_of_cut_cells later)) cs
  later_orderly = let e : c.1 ≡ trees_in (models_of_cut_cells later) = cc (c.2) in subst (λ z. AreCut stock z cs) e c.5
