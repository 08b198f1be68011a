-- Each step of an orderly cover is one of a form of the list, with values for its bits alone.
use Rattle.std.proofs.Common.{◌≡◌, ℕ, zero, suc, ◌+◌, ◌==◌, ◌&&◌, bit_and, bit_or, Bool, true, false, List, [], ◌∷◌, ◌++◌, Option, Some, None, refl, sym, ap, ◌∙◌, subst}
use Rattle.std.specs.Prelude.{slice_get, remove, insert}
use Rattle.std.specs.Int.{bit_at}
use Rattle.std.proofs.lemmas.Nat.Bits.{bit_at-zero}
use Rattle.rec_bits.proofs.Options.{picked}
use Rattle.rec_bits.proofs.Bits.{within_mask}
use Rattle.net_model.specs.Exprs.{ExprModel}
use Rattle.net_model.specs.Fields.{fields}
use Rattle.form_model.specs.declared.forms.Step.{Step}
use Rattle.form_model.specs.Shapes.{is_shape, shape_setting, shows_below}
use Rattle.form_model.specs.Forms.{FormModel, GoalModel, into_reg, into_memory, into_file, branches, DestinationModel, into, filed, cell, stored, temporary, tested}
use Rattle.form_model.specs.Matches.{LeafModel, operand, cut, MatchModel, settled, both, matched, address_match, goal_match}
use Rattle.form_model.specs.CoverModels.{CoverModel, use_form, CoverOperandsModel, no_operands, operand_then, CoverCutsModel, no_cuts, cut_then}
use Rattle.form_model.specs.Covers.{StockModel, operands_of, home_destination, IsOrderly, AreOrderly, AreCut}
use Rattle.form_model.specs.Steps.{OperandCellsModel, CutCellsModel, cut_count, operand_counts, cut_counts, cover_operand_cells, cover_cut_cells, operand_cells_or_none, holding, cell_of, operand_homes, own_setting, whole_setting, form_at, match_at, own_steps, operand_steps, woven, cut_steps, inside_operands, into_cells, cover_setting, branch_setting, form_step, cover_steps}
use Rattle.emit_seq.specs.Leaves.{condition_of}
use Rattle.emit_seq.specs.Settles.{addr_fields, form_fields, IsStepping, AreOfForms}
use Rattle.emit_seq.proofs.BitUnions.{or_zero, zero_left, zero_right}
use Rattle.emit_seq.proofs.Matched.{Joined, joined, settled_some, open_bits, none_open, bits_in}
use Rattle.emit_seq.proofs.Within.{shape_within, none_within, Named, cuts_named, NamedSplit, named_split, IsIn, pair_in, matched_in}
use Rattle.form_model.proofs.Zips.{Each}
use Rattle.emit_seq.specs.Inner.CellLists.{operands_in, trees_in}
use Rattle.emit_seq.proofs.Walks.{cells_operands, cells_trees}
use Rattle.emit_seq.proofs.Opened.{IsOpened, opened_cover, IsOpenedOperand, opened_operand, homes_long}
use Rattle.emit_seq.proofs.Spared.{HasStep}

-- ---- one form

address_in : (temps : ℕ) (o : Option ExprModel) (destination : DestinationModel) (x : MatchModel) (rs : List CutCellsModel) (hs : List (Option ℕ)) → address_match temps o destination ≡ Some x → Named x.leaves rs hs → IsIn (addr_fields o) x rs hs
address_in temps None destination x rs hs h n = absurd (cc)
address_in temps (Some addr) (cell a) x rs hs h n = λ k z.
    let c : (is_shape addr ≡ true) × (settled (shape_setting addr a) ≡ Some x) = picked (is_shape addr) (settled (shape_setting addr a)) x h in
    let (b, e, q) = settled_some (shape_setting addr a) x c.1 in
    let none : (rs ≡ []) × (hs ≡ []) = subst (λ (y : MatchModel). Named y.leaves rs hs) (sym q) n in
    ap (λ (y : MatchModel). bit_at (bits_in y rs hs) k) (sym q) ∙ ap (λ y. bit_at (bit_or b (open_bits [] y hs)) k) none.0
    ∙ ap (λ y. bit_at (bit_or b (open_bits [] [] y)) k) none.1 ∙ none_open b k ∙ shape_within addr a b e k z
address_in temps (Some addr) (stored address) x rs hs h n = matched_in temps addr address false x rs hs h n
address_in temps (Some addr) temporary x rs hs h n = λ k z.
    let c : ((is_shape addr && shows_below addr temps) ≡ true) × (settled (Some 0) ≡ Some x) = picked (is_shape addr && shows_below addr temps) (settled (Some 0)) x h in
    let q : record { setting = 0; leaves = [] } ≡ x = cc in
    let none : (rs ≡ []) × (hs ≡ []) = subst (λ (y : MatchModel). Named y.leaves rs hs) (sym q) n in
    ap (λ (y : MatchModel). bit_at (bits_in y rs hs) k) (sym q) ∙ ap (λ y. bit_at (bit_or 0 (open_bits [] y hs)) k) none.0
    ∙ ap (λ y. bit_at (bit_or 0 (open_bits [] [] y)) k) none.1 ∙ none_open 0 k ∙ bit_at-zero k
address_in temps (Some addr) (into id) x rs hs h n = absurd (cc)
address_in temps (Some addr) filed x rs hs h n = absurd (cc)
address_in temps (Some addr) tested x rs hs h n = absurd (cc)

memory_in : (temps : ℕ) (form : FormModel) (destination : DestinationModel) (tree : ExprModel) (whole : Bool) (found : MatchModel) (rs : List CutCellsModel) (hs : List (Option ℕ))
    → both (address_match temps form.addr destination) (matched temps form.value tree whole) ≡ Some found → Named found.leaves rs hs → IsIn (form_fields form) found rs hs
memory_in temps form destination tree whole found rs hs h n =
    let j : Joined (address_match temps form.addr destination) (matched temps form.value tree whole) found = joined _ _ _ h in
    let s : NamedSplit j.first.leaves j.second.leaves rs hs = named_split j.first.leaves j.second.leaves rs hs (subst (λ (y : MatchModel). Named y.leaves rs hs) (sym j.is) n) in
    pair_in j.first j.second found rs s.front s.back hs s.fronts s.backs (addr_fields form.addr) (fields form.value) j.is s.bits_of
    (address_in temps form.addr destination j.first s.front s.fronts j.is_first s.first) (matched_in temps form.value tree whole j.second s.back s.backs j.is_second s.second)

goal_in : (temps : ℕ) (form : FormModel) (goal : GoalModel) (destination : DestinationModel) (tree : ExprModel) (whole : Bool) (found : MatchModel) (rs : List CutCellsModel) (hs : List (Option ℕ)) → goal_match temps form goal destination tree whole ≡ Some found
    → Named found.leaves rs hs → IsIn (form_fields form) found rs hs
goal_in temps form (into_reg q) (into id) tree whole found rs hs h n = λ k z.
    let c : ((q == id) ≡ true) × (matched temps form.value tree whole ≡ Some found) = picked (q == id) (matched temps form.value tree whole) found h in
    matched_in temps form.value tree whole found rs hs c.1 n k (zero_right (addr_fields form.addr) (fields form.value) k z)
goal_in temps form into_file filed tree whole found rs hs h n = λ k z.
    matched_in temps form.value tree whole found rs hs h n k (zero_right (addr_fields form.addr) (fields form.value) k z)
goal_in temps form into_memory (cell a) tree whole found rs hs h n = memory_in temps form (cell a) tree true found rs hs h n
goal_in temps form into_memory (stored a) tree whole found rs hs h n = memory_in temps form (stored a) tree false found rs hs h n
goal_in temps form into_memory temporary tree whole found rs hs h n = memory_in temps form temporary tree false found rs hs h n
goal_in temps form (branches when_one to) tested tree whole found rs hs h n = λ k z.
    matched_in temps form.value tree true found rs hs h n k (zero_right (addr_fields form.addr) (fields form.value) k z)
goal_in temps form goal destination tree whole found rs hs h n = absurd (cc)

test_in : (temps : ℕ) (form : FormModel) (goal : GoalModel) (tree : ExprModel) (whole : Bool) (found : MatchModel) (rs : List CutCellsModel) (hs : List (Option ℕ)) → goal_match temps form goal tested tree whole ≡ Some found
    → Named found.leaves rs hs → IsIn (fields form.value) found rs hs
test_in temps form (branches when_one to) tree whole found rs hs h n = matched_in temps form.value tree true found rs hs h n
test_in temps form goal tree whole found rs hs h n = absurd (cc)

own_in : (destination : DestinationModel) (o : Option ExprModel) (own : ℕ) (home : Option ℕ) (k : ℕ) → bit_at (addr_fields o) k ≡ 0 → bit_at (own_setting destination o own home) k ≡ 0
own_in temporary None own home k z = bit_at-zero k
own_in temporary (Some addr) own home k z = none_within (shape_setting addr own) k (λ b e. shape_within addr own b e k z)
own_in filed None own None k z = bit_at-zero k
own_in filed None own (Some c) k z = bit_at-zero k
own_in filed (Some addr) own None k z = bit_at-zero k
own_in filed (Some addr) own (Some c) k z = none_within (shape_setting addr c) k (λ b e. shape_within addr c b e k z)
own_in (into id) o own home k z = bit_at-zero k
own_in (cell a) o own home k z = bit_at-zero k
own_in (stored a) o own home k z = bit_at-zero k
own_in tested o own home k z = bit_at-zero k

setting_in : (temps : ℕ) (form : FormModel) (destination : DestinationModel) (tree : ExprModel) (whole : Bool) (found : MatchModel) (rs : List CutCellsModel) (hs : List (Option ℕ)) (own : ℕ) (home : Option ℕ) → goal_match temps form form.goal destination tree whole ≡ Some found
    → Named found.leaves rs hs → bit_and (whole_setting form destination found rs hs own home) (form_fields form) ≡ whole_setting form destination found rs hs own home
setting_in temps form destination tree whole found rs hs own home h n =
    within_mask (whole_setting form destination found rs hs own home) (form_fields form) (λ k z.
    or_zero (bits_in found rs hs) (own_setting destination form.addr own home) k (goal_in temps form form.goal destination tree whole found rs hs h n k z)
    (own_in destination form.addr own home k (zero_left (addr_fields form.addr) (fields form.value) k z)))

steps_goal : (temps : ℕ) (form : FormModel) (goal : GoalModel) (destination : DestinationModel) (tree : ExprModel) (whole : Bool) (found : MatchModel) → HasStep destination → goal_match temps form goal destination tree whole ≡ Some found → IsStepping goal
steps_goal temps form (into_reg q) destination tree whole found s h = tt
steps_goal temps form into_memory destination tree whole found s h = tt
steps_goal temps form into_file destination tree whole found s h = tt
steps_goal temps form (branches when_one to) tested tree whole found s h = absurd s
steps_goal temps form goal destination tree whole found s h = absurd (cc)

-- ---- lists of steps

of_append : (forms : List FormModel) (xs ys : List Step) → AreOfForms forms xs → AreOfForms forms ys → AreOfForms forms (xs ++ ys)
of_append forms [] ys h k = k
of_append forms (x ∷ xs) ys h k = (h.0, of_append forms xs ys h.1 k)

of_insert : (forms : List FormModel) (xs : List (List Step)) (i : ℕ) (x : List Step) → AreOfForms forms x → Each (AreOfForms forms) xs → Each (AreOfForms forms) (insert xs i x)
of_insert forms xs zero x p h = (p, h)
of_insert forms [] (suc i) x p h = (p, tt)
of_insert forms (y ∷ xs) (suc i) x p h = (h.0, of_insert forms xs i x p h.1)

of_woven : (forms : List FormModel) (leaves : List LeafModel) (xs ys : List (List Step)) → Each (AreOfForms forms) xs → Each (AreOfForms forms) ys → AreOfForms forms (woven leaves xs ys)
of_woven forms [] xs ys h k = tt
of_woven forms (operand id tree whole ∷ leaves) [] ys h k = of_woven forms leaves [] ys h k
of_woven forms (operand id tree whole ∷ leaves) (x ∷ xs) ys h k = of_append forms x (woven leaves xs ys) h.0 (of_woven forms leaves xs ys h.1 k)
of_woven forms (cut shape tree ∷ leaves) xs [] h k = of_woven forms leaves xs [] h k
of_woven forms (cut shape tree ∷ leaves) xs (y ∷ ys) h k = of_append forms y (woven leaves xs ys) k.0 (of_woven forms leaves xs ys h k.1)

module _ (stock : StockModel) where
  record IsSettled (p : CoverModel) : Type 0 where
    own : (n held : ℕ) (destination : DestinationModel) (tree : ExprModel) (whole : Bool) → IsOrderly stock destination tree whole p → AreOfForms stock.forms (own_steps stock p n held destination tree whole)
    cuts : (n : ℕ) (destination : DestinationModel) (tree : ExprModel) (whole : Bool) → IsOrderly stock destination tree whole p → AreOfForms stock.forms (cut_steps stock p n destination tree whole)

  record AreSettled (ps : CoverOperandsModel) : Type 0 where
    own : (held : ℕ) (left : List OperandCellsModel) → AreOrderly stock (operands_in left) ps → AreOfForms stock.forms (operand_steps stock ps left held)
    cuts : (left : List OperandCellsModel) → AreOrderly stock (operands_in left) ps → Each (AreOfForms stock.forms) (inside_operands stock ps left)

  record CutsSettled (cs : CoverCutsModel) : Type 0 where
    cuts : (cuts : List CutCellsModel) → AreCut stock (trees_in cuts) cs → Each (AreOfForms stock.forms) (into_cells stock cs cuts)

  operand_settled : (i : ℕ) (p : CoverModel) (ps : CoverOperandsModel) → IsSettled p → AreSettled ps → AreSettled (operand_then i p ps)
  operand_settled i p ps h k = record { own = own'; cuts = cuts' }
    where
      own' : (held : ℕ) (left : List OperandCellsModel) → AreOrderly stock (operands_in left) (operand_then i p ps) → AreOfForms stock.forms (operand_steps stock (operand_then i p ps) left held)
      own' held left o =
          let cells : OperandCellsModel = operand_cells_or_none (slice_get left i) in
          let w : IsOpenedOperand stock left i cells p ps = opened_operand stock left i p ps o in
          of_append stock.forms (own_steps stock p cells.first held (home_destination cells.operand.home) cells.operand.tree cells.operand.whole) (operand_steps stock ps (remove left i) (holding held (cell_of stock p held)))
          (h.own cells.first held (home_destination cells.operand.home) cells.operand.tree cells.operand.whole w.orderly) (k.own (holding held (cell_of stock p held)) (remove left i) w.rest)

      cuts' : (left : List OperandCellsModel) → AreOrderly stock (operands_in left) (operand_then i p ps) → Each (AreOfForms stock.forms) (inside_operands stock (operand_then i p ps) left)
      cuts' left o =
          let cells : OperandCellsModel = operand_cells_or_none (slice_get left i) in
          let w : IsOpenedOperand stock left i cells p ps = opened_operand stock left i p ps o in
          of_insert stock.forms (inside_operands stock ps (remove left i)) i (cut_steps stock p cells.first (home_destination cells.operand.home) cells.operand.tree cells.operand.whole)
          (h.cuts cells.first (home_destination cells.operand.home) cells.operand.tree cells.operand.whole w.orderly) (k.cuts (remove left i) w.rest)

  cut_settled : (p : CoverModel) (cs : CoverCutsModel) → IsSettled p → CutsSettled cs → CutsSettled (cut_then p cs)
  cut_settled p cs h k = record { cuts = cuts' }
    where
      cuts' : (cuts : List CutCellsModel) → AreCut stock (trees_in cuts) (cut_then p cs) → Each (AreOfForms stock.forms) (into_cells stock (cut_then p cs) cuts)
      cuts' [] o = absurd (cc (o.2))
      cuts' (cells ∷ cuts) o =
          let e : o.0 ≡ cells.tree = cc (o.2) in
          let e' : o.1 ≡ trees_in cuts = cc (o.2) in
          let d : IsOrderly stock temporary cells.tree false p = subst (λ t. IsOrderly stock temporary t false p) e o.3 in (
            of_append stock.forms (cut_steps stock p cells.first temporary cells.tree false) (own_steps stock p cells.first 0 temporary cells.tree false)
                (h.cuts cells.first temporary cells.tree false d) (h.own cells.first 0 temporary cells.tree false d),
            k.cuts cuts (subst (λ ts. AreCut stock ts cs) e' o.5),
          )

  form_of : (k setting : ℕ) (destination : DestinationModel) → slice_get stock.forms k ≡ Some (form_at stock k) → (HasStep destination → IsStepping (form_at stock k).goal)
      → bit_and setting (form_fields (form_at stock k)) ≡ setting → AreOfForms stock.forms (form_step (form_at stock k) destination setting)
  form_of k setting (into id) e g b = (record { destination = k; form = form_at stock k; listed = e; goal = g tt; pattern = refl; within = b }, tt)
  form_of k setting filed e g b = (record { destination = k; form = form_at stock k; listed = e; goal = g tt; pattern = refl; within = b }, tt)
  form_of k setting (cell a) e g b = (record { destination = k; form = form_at stock k; listed = e; goal = g tt; pattern = refl; within = b }, tt)
  form_of k setting (stored a) e g b = (record { destination = k; form = form_at stock k; listed = e; goal = g tt; pattern = refl; within = b }, tt)
  form_of k setting temporary e g b = (record { destination = k; form = form_at stock k; listed = e; goal = g tt; pattern = refl; within = b }, tt)
  form_of k setting tested e g b = tt

  root_setting : (k : ℕ) (ps : CoverOperandsModel) (cs : CoverCutsModel) (n held : ℕ) (destination : DestinationModel) (tree : ExprModel) (whole : Bool) → IsOrderly stock destination tree whole (use_form k ps cs)
      → bit_and (cover_setting stock (use_form k ps cs) n held destination tree whole) (form_fields (form_at stock k)) ≡ cover_setting stock (use_form k ps cs) n held destination tree whole
  root_setting k ps cs n held destination tree whole o =
      let w : IsOpened stock k ps cs destination tree whole = opened_cover stock k ps cs destination tree whole o in
      setting_in stock.temps (form_at stock k) destination tree whole (match_at stock k destination tree whole) (cover_cut_cells (match_at stock k destination tree whole).leaves ps cs n)
      (operand_homes stock ps held) (n + cut_count (use_form k ps cs)) (cell_of stock (use_form k ps cs) held) w.takes
      (cuts_named (match_at stock k destination tree whole).leaves (operand_counts ps) (cut_counts cs) n (operand_homes stock ps held) (homes_long stock ps (operands_of (match_at stock k destination tree whole).leaves) held w.operands))

  form_settled : (k : ℕ) (ps : CoverOperandsModel) (cs : CoverCutsModel) → AreSettled ps → CutsSettled cs → IsSettled (use_form k ps cs)
  form_settled k ps cs hp hc = record { own = own'; cuts = cuts' }
    where
      own' : (n held : ℕ) (destination : DestinationModel) (tree : ExprModel) (whole : Bool) → IsOrderly stock destination tree whole (use_form k ps cs) → AreOfForms stock.forms (own_steps stock (use_form k ps cs) n held destination tree whole)
      own' n held destination tree whole o =
          let w : IsOpened stock k ps cs destination tree whole = opened_cover stock k ps cs destination tree whole o in
          let found : MatchModel = match_at stock k destination tree whole in
          let left : List OperandCellsModel = cover_operand_cells found.leaves ps cs n in
          let setting : ℕ = cover_setting stock (use_form k ps cs) n held destination tree whole in
          of_append stock.forms (operand_steps stock ps left held) (form_step (form_at stock k) destination setting)
          (hp.own held left (subst (λ z. AreOrderly stock z ps) (sym (cells_operands found.leaves (operand_counts ps) (cut_counts cs) n)) w.operands))
          (form_of k setting destination w.listed (λ s. steps_goal stock.temps (form_at stock k) (form_at stock k).goal destination tree whole found s w.takes)
          (root_setting k ps cs n held destination tree whole o))

      cuts' : (n : ℕ) (destination : DestinationModel) (tree : ExprModel) (whole : Bool) → IsOrderly stock destination tree whole (use_form k ps cs) → AreOfForms stock.forms (cut_steps stock (use_form k ps cs) n destination tree whole)
      cuts' n destination tree whole o =
          let w : IsOpened stock k ps cs destination tree whole = opened_cover stock k ps cs destination tree whole o in
          let leaves : List LeafModel = (match_at stock k destination tree whole).leaves in
          of_woven stock.forms leaves (inside_operands stock ps (cover_operand_cells leaves ps cs n)) (into_cells stock cs (cover_cut_cells leaves ps cs n))
          (hp.cuts (cover_operand_cells leaves ps cs n) (subst (λ z. AreOrderly stock z ps) (sym (cells_operands leaves (operand_counts ps) (cut_counts cs) n)) w.operands))
          (hc.cuts (cover_cut_cells leaves ps cs n) (subst (λ z. AreCut stock z cs) (sym (cells_trees leaves (operand_counts ps) (cut_counts cs) n)) w.cuts))

  mutual
    settled_cover : (p : CoverModel) → IsSettled p
    settled_cover (use_form k ps cs) = form_settled k ps cs (settled_operands ps) (settled_cuts cs)

    settled_operands : (ps : CoverOperandsModel) → AreSettled ps
    settled_operands no_operands = record { own = λ held left o. tt; cuts = λ left o. tt }
    settled_operands (operand_then i p ps) = operand_settled i p ps (settled_cover p) (settled_operands ps)

    settled_cuts : (cs : CoverCutsModel) → CutsSettled cs
    settled_cuts no_cuts = record { cuts = λ cuts o. tt }
    settled_cuts (cut_then p cs) = cut_settled p cs (settled_cover p) (settled_cuts cs)

  -- each step of an orderly cover is one of a form, with values for its bits alone
  pub steps_of_forms : (destination : DestinationModel) (tree : ExprModel) (cover : CoverModel) → IsOrderly stock destination tree true cover → AreOfForms stock.forms (cover_steps stock destination tree cover)
  steps_of_forms destination tree cover o =
      of_append stock.forms (cut_steps stock cover 0 destination tree true) (own_steps stock cover 0 0 destination tree true)
      ((settled_cover cover).cuts 0 destination tree true o) ((settled_cover cover).own 0 0 destination tree true o)

  -- the setting of a branch has no bits but those of its condition
  pub branch_in : (tree : ExprModel) (cover : CoverModel) → IsOrderly stock tested tree true cover
      → bit_and (branch_setting stock tree cover) (fields (condition_of stock cover)) ≡ branch_setting stock tree cover
  branch_in tree (use_form k ps cs) o =
      let w : IsOpened stock k ps cs tested tree true = opened_cover stock k ps cs tested tree true o in
      let found : MatchModel = match_at stock k tested tree true in
      let cuts : List CutCellsModel = cover_cut_cells found.leaves ps cs 0 in
      within_mask (branch_setting stock tree (use_form k ps cs)) (fields (form_at stock k).value) (λ j z.
      or_zero (bits_in found cuts (operand_homes stock ps 0)) 0 j
      (test_in stock.temps (form_at stock k) (form_at stock k).goal tree true found cuts (operand_homes stock ps 0) w.takes (cuts_named found.leaves (operand_counts ps) (cut_counts cs) 0 (operand_homes stock ps 0) (homes_long stock ps (operands_of found.leaves) 0 w.operands)) j z) (bit_at-zero j))
