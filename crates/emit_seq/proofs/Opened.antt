-- What an orderly cover says of its form and its operands, in the words of its steps.
use Rattle.std.proofs.Common.{◌≡◌, ℕ, suc, ◌+◌, ◌<◌, ◌==◌, ◌&&◌, bit_and, ◌^◌, Bool, true, false, List, [], length, Option, Some, None, refl, sym, ap, ◌∙◌, subst, arith}
use Rattle.std.specs.Prelude.{slice_get, remove}
use Rattle.std.specs.Int.{bit_at}
use Rattle.std.proofs.lemmas.Nat.Bits.{bit_at-zero, bit_at_and, bit_at_or, bit_at-pow_same, bit_at-lt}
use Rattle.std.proofs.lemmas.Bool.{eqb-true}
use Rattle.rec_bits.proofs.Options.{picked}
use Rattle.rec_bits.proofs.Lists.{length_inserted}
use Rattle.net_model.specs.declared.states.State.{State}
use Rattle.net_model.specs.Exprs.{ExprModel}
use Rattle.net_model.specs.Patterns.{Pattern}
use Rattle.form_model.specs.Forms.{FormModel, GoalModel, into_reg, into_memory, into_file, branches, DestinationModel, into, filed, cell, stored, temporary, tested}
use Rattle.form_model.specs.Matches.{in_register, LeafModel, MatchModel, settled, both, matched, address_match, goal_match, taken}
use Rattle.form_model.specs.Shapes.{is_shape, shape_setting, shows_below}
use Rattle.form_model.specs.CoverModels.{CoverModel, use_form, CoverOperandsModel, no_operands, operand_then, CoverCutsModel}
use Rattle.form_model.specs.Covers.{StockModel, Operand, operands_of, cuts_of, form_clobbers, written, all_written, home_destination, home_set, IsOrderly, AreOrderly, AreCut}
use Rattle.form_model.specs.Steps.{OperandCellsModel, holding, cell_of, operand_homes, cut_count, operands_count, cuts_count, operand_counts, cut_counts, form_or_none, match_or_none, operand_cells_or_none, form_at, match_at}
use Rattle.emit_seq.specs.Formed.{IsFormed}
use Rattle.emit_seq.specs.Leaves.{ReadsFrom, DestinationReads}
use Rattle.emit_seq.proofs.Matched.{Joined, joined, settled_some}
use Rattle.emit_seq.proofs.MatchLeaves.{LeavesRead, read-append, matched_taken}
use Rattle.form_model.proofs.Zips.{get_mapped, map-remove}
use Rattle.form_model.proofs.Counts.{operands_long, cuts_long, operands_total, cuts_total}
use Rattle.emit_seq.specs.Inner.CellLists.{operands_in}
use Rattle.emit_seq.proofs.Walks.{past_leaves, past_total}

pub record IsOpened (stock : StockModel) (k : ℕ) (ps : CoverOperandsModel) (cs : CoverCutsModel) (destination : DestinationModel) (tree : ExprModel) (whole : Bool) : Type 0 where
  pub listed : slice_get stock.forms k ≡ Some (form_at stock k)
  pub takes : taken stock.temps (form_at stock k) destination tree whole ≡ Some (match_at stock k destination tree whole)
  pub operands : AreOrderly stock (operands_of (match_at stock k destination tree whole).leaves) ps
  pub cuts : AreCut stock (cuts_of (match_at stock k destination tree whole).leaves) cs

pub opened_cover : (stock : StockModel) (k : ℕ) (ps : CoverOperandsModel) (cs : CoverCutsModel) (destination : DestinationModel) (tree : ExprModel) (whole : Bool) → IsOrderly stock destination tree whole (use_form k ps cs)
    → IsOpened stock k ps cs destination tree whole
opened_cover stock k ps cs destination tree whole c =
    let er : form_at stock k ≡ c.0 = ap form_or_none c.1 in
    let et : taken stock.temps (form_at stock k) destination tree whole ≡ Some c.2 = ap (λ r. taken stock.temps r destination tree whole) er ∙ c.3 in
    let em : match_at stock k destination tree whole ≡ c.2 = ap match_or_none et in
    record {
      listed = c.1 ∙ ap (λ (r : FormModel). Some r) (sym er);
      takes = et ∙ ap (λ (f : MatchModel). Some f) (sym em);
      operands = subst (λ (f : MatchModel). AreOrderly stock (operands_of f.leaves) ps) (sym em) c.4;
      cuts = subst (λ (f : MatchModel). AreCut stock (cuts_of f.leaves) cs) (sym em) c.5;
    }

pub record IsOpenedOperand (stock : StockModel) (left : List OperandCellsModel) (i : ℕ) (cells : OperandCellsModel) (p : CoverModel) (ps : CoverOperandsModel) : Type 0 where
  pub at : slice_get left i ≡ Some cells
  pub orderly : IsOrderly stock (home_destination cells.operand.home) cells.operand.tree cells.operand.whole p
  pub apart : (r : ℕ) → cells.operand.home ≡ in_register r → bit_at (all_written stock.forms ps) r ≡ 0
  pub rest : AreOrderly stock (operands_in (remove left i)) ps

apart_bit : (n k : ℕ) → bit_and n (2 ^ k) ≡ 0 → bit_at n k ≡ 0
apart_bit n k e =
    let h : bit_at (bit_and n (2 ^ k)) k ≡ 0 = ap (λ z. bit_at z k) e ∙ bit_at-zero k in
    omega (arith, bit_at_and n (2 ^ k) k, bit_at-pow_same k, bit_at-lt n k, h)

pub opened_operand : (stock : StockModel) (left : List OperandCellsModel) (i : ℕ) (p : CoverModel) (ps : CoverOperandsModel) → AreOrderly stock (operands_in left) (operand_then i p ps)
    → IsOpenedOperand stock left i (operand_cells_or_none (slice_get left i)) p ps
opened_operand stock left i p ps c =
    let (cells, e, eo) = get_mapped (λ (s : OperandCellsModel). s.operand) left i c.0 c.1 in
    let es : operand_cells_or_none (slice_get left i) ≡ cells = ap operand_cells_or_none e in
    let eq : (operand_cells_or_none (slice_get left i)).operand ≡ c.0 = ap (λ (s : OperandCellsModel). s.operand) es ∙ eo in
    record {
      at = e ∙ ap (λ (s : OperandCellsModel). Some s) (sym es);
      orderly = subst (λ (o : Operand). IsOrderly stock (home_destination o.home) o.tree o.whole p) (sym eq) c.2;
      apart = λ r h. apart_bit (all_written stock.forms ps) r (ap (λ z. bit_and (all_written stock.forms ps) (home_set z)) (sym (ap (λ (o : Operand). o.home) (sym eq) ∙ h)) ∙ c.3);
      rest = subst (λ z. AreOrderly stock z ps) (sym (map-remove (λ (s : OperandCellsModel). s.operand) left i)) c.4;
    }

-- ---- how many operands, cuts and cells there are

-- as many homes as there are operands
pub homes_places : (stock : StockModel) (ps : CoverOperandsModel) (held : ℕ) → length (operand_homes stock ps held) ≡ length (operand_counts ps)
homes_places stock no_operands held = refl
homes_places stock (operand_then i p ps) held =
    let h = homes_places stock ps (holding held (cell_of stock p held)) in
    length_inserted (operand_homes stock ps (holding held (cell_of stock p held))) i _ ∙ ap (λ n. suc n) h ∙ sym (length_inserted (operand_counts ps) i (cut_count p))

pub homes_long : (stock : StockModel) (ps : CoverOperandsModel) (left : List Operand) (held : ℕ) → AreOrderly stock left ps → length (operand_homes stock ps held) ≡ length left
homes_long stock ps left held c = homes_places stock ps held ∙ operands_long stock ps left c

-- the cell past those of all leaves is the one past the cover's
pub past_cover : (stock : StockModel) (leaves : List LeafModel) (ps : CoverOperandsModel) (cs : CoverCutsModel) (n : ℕ) → AreOrderly stock (operands_of leaves) ps → AreCut stock (cuts_of leaves) cs
    → past_leaves leaves (operand_counts ps) (cut_counts cs) n ≡ n + (operands_count ps + cuts_count cs)
past_cover stock leaves ps cs n o c =
    omega (arith, past_total leaves (operand_counts ps) (cut_counts cs) n (operands_long stock ps (operands_of leaves) o) (cuts_long stock cs (cuts_of leaves) c), operands_total ps, cuts_total cs)

-- ---- a form that goes into a register is one of that register

pub into_formed : (temps : ℕ) (file_storage : Option ℕ) (patterns : List Pattern) (count size : ℕ) (form : FormModel) (goal : GoalModel) (id : ℕ) (tree : ExprModel) (whole : Bool) (found : MatchModel)
    → IsFormed file_storage patterns count size form goal → goal_match temps form goal (into id) tree whole ≡ Some found → (id < count) × (bit_at form.clobbers id ≡ 1)
into_formed temps file_storage patterns count size form (into_reg q) id tree whole found f h =
    let c : ((q == id) ≡ true) × (matched temps form.value tree whole ≡ Some found) = picked (q == id) (matched temps form.value tree whole) found h in
    let e : q ≡ id = eqb-true q id c.0 in
    (subst (λ z. z < count) e f.below, subst (λ z. bit_at form.clobbers z ≡ 1) e f.clobbered)
into_formed temps file_storage patterns count size form goal id tree whole found f h = absurd (cc)

pub writes_own : (forms : List FormModel) (k : ℕ) (form : FormModel) (ps : CoverOperandsModel) (cs : CoverCutsModel) (id : ℕ) → slice_get forms k ≡ Some form → bit_at form.clobbers id ≡ 1
    → bit_at (written forms (use_form k ps cs)) id ≡ 1
writes_own forms k form ps cs id e h =
    let c : bit_at (form_clobbers (slice_get forms k)) id ≡ 1 = ap (λ z. bit_at (form_clobbers z) id) e ∙ h in
    omega (arith, bit_at_or (form_clobbers (slice_get forms k)) (all_written forms ps) id, c, bit_at-lt (all_written forms ps) id)

-- the trees of all leaves of a form read nothing below, those of a store's address among them
address_leaves : (temps : ℕ) (before : State) (o : Option ExprModel) (destination : DestinationModel) (x : MatchModel) → address_match temps o destination ≡ Some x → DestinationReads temps before destination
    → LeavesRead temps before x.leaves
address_leaves temps before None destination x h p = absurd (cc)
address_leaves temps before (Some addr) (cell a) x h p =
    let c : (is_shape addr ≡ true) × (settled (shape_setting addr a) ≡ Some x) = picked (is_shape addr) (settled (shape_setting addr a)) x h in
    let (b, e, q) = settled_some (shape_setting addr a) x c.1 in
    subst (λ (z : MatchModel). LeavesRead temps before z.leaves) q tt
address_leaves temps before (Some addr) (stored address) x h p = (matched_taken temps before addr address false x h).leaves p
address_leaves temps before (Some addr) temporary x h p =
    let c : ((is_shape addr && shows_below addr temps) ≡ true) × (settled (Some 0) ≡ Some x) = picked (is_shape addr && shows_below addr temps) (settled (Some 0)) x h in
    let q : record { setting = 0; leaves = [] } ≡ x = cc in
    subst (λ (z : MatchModel). LeavesRead temps before z.leaves) q tt
address_leaves temps before (Some addr) (into id) x h p = absurd (cc)
address_leaves temps before (Some addr) filed x h p = absurd (cc)
address_leaves temps before (Some addr) tested x h p = absurd (cc)

memory_leaves : (temps : ℕ) (before : State) (form : FormModel) (destination : DestinationModel) (tree : ExprModel) (whole : Bool) (found : MatchModel)
    → both (address_match temps form.addr destination) (matched temps form.value tree whole) ≡ Some found
    → ReadsFrom temps before tree → DestinationReads temps before destination → LeavesRead temps before found.leaves
memory_leaves temps before form destination tree whole found h r p =
    let j : Joined (address_match temps form.addr destination) (matched temps form.value tree whole) found = joined _ _ _ h in
    subst (λ (z : MatchModel). LeavesRead temps before z.leaves) j.is
    (read-append temps before j.first.leaves j.second.leaves (address_leaves temps before form.addr destination j.first j.is_first p)
    ((matched_taken temps before form.value tree whole j.second j.is_second).leaves r))

pub goal_leaves : (temps : ℕ) (before : State) (form : FormModel) (goal : GoalModel) (destination : DestinationModel) (tree : ExprModel) (whole : Bool) (found : MatchModel)
    → goal_match temps form goal destination tree whole ≡ Some found → ReadsFrom temps before tree → DestinationReads temps before destination → LeavesRead temps before found.leaves
goal_leaves temps before form (into_reg q) (into id) tree whole found h r p =
    let c : ((q == id) ≡ true) × (matched temps form.value tree whole ≡ Some found) = picked (q == id) (matched temps form.value tree whole) found h in
    (matched_taken temps before form.value tree whole found c.1).leaves r
goal_leaves temps before form into_file filed tree whole found h r p = (matched_taken temps before form.value tree whole found h).leaves r
goal_leaves temps before form into_memory (cell a) tree whole found h r p = memory_leaves temps before form (cell a) tree true found h r p
goal_leaves temps before form into_memory (stored a) tree whole found h r p = memory_leaves temps before form (stored a) tree false found h r p
goal_leaves temps before form into_memory temporary tree whole found h r p = memory_leaves temps before form temporary tree false found h r p
goal_leaves temps before form (branches when_one to) tested tree whole found h r p = (matched_taken temps before form.value tree true found h).leaves r
goal_leaves temps before form goal destination tree whole found h r p = absurd (cc)
