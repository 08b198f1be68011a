-- The steps of an orderly cover leave the tree's value: by induction over covers.
use Rattle.std.proofs.Common.{◌≡◌, ◌≢◌, ℕ, ◌+◌, ◌<◌, ◌≤◌, ◌⊎◌, inl, inr, Bool, false, List, [], ◌∷◌, ◌++◌, Option, Some, None, length, slice_index, slice_set, refl, sym, ap, ◌∙◌, subst, arith}
use Rattle.std.specs.Prelude.{slice_get, remove}
use Rattle.std.specs.Int.{bit_at}
use Rattle.std.specs.List.{AllZip}
use Rattle.std.proofs.lemmas.Nat.Bits.{bit_at-zero}
use Rattle.std.proofs.lemmas.List.{get_or-set_same, get_or-set_other, length-set}
use Rattle.rec_bits.proofs.Bits.{set_same}
use Rattle.net_model.specs.declared.states.State.{State}
use Rattle.net_model.specs.Exprs.{ExprModel}
use Rattle.net_model.specs.Meaning.{mean}
use Rattle.net_model.specs.Patterns.{Pattern}
use Rattle.form_model.specs.declared.forms.Step.{Step}
use Rattle.form_model.specs.Forms.{DestinationModel, into, filed, cell, stored, temporary, tested}
use Rattle.form_model.specs.Matches.{HomeModel, in_register, in_file, LeafModel, MatchModel}
use Rattle.form_model.specs.CoverModels.{CoverModel, use_form, CoverOperandsModel, no_operands, operand_then, CoverCutsModel, no_cuts, cut_then}
use Rattle.form_model.specs.Covers.{StockModel, operands_of, cuts_of, home_destination, home_cells, form_cells, left_cells, need, operands_need, written, all_written, IsOrderly, AreOrderly, AreCut}
use Rattle.form_model.specs.Effects.{Operation, operation_of, steps_effect}
use Rattle.form_model.specs.Steps.{OperandCellsModel, CutCellsModel, cut_count, operand_counts, cut_counts, cover_operand_cells, cover_cut_cells, operand_cells_or_none, form_at, match_at, holding, cell_or, free_cell, cell_of, operand_homes, first_home, own_steps, operand_steps, woven, cut_steps, inside_operands, into_cells, cover_setting, form_step}
use Rattle.emit_seq.specs.Formed.{AreFormed}
use Rattle.emit_seq.specs.Leaves.{ReadsFrom, placed, DestinationReads}
use Rattle.emit_seq.proofs.BitUnions.{zero_left, zero_right}
use Rattle.emit_seq.proofs.Matched.{AtHome, Holds}
use Rattle.emit_seq.proofs.MatchLeaves.{LeavesRead}
use Rattle.form_model.proofs.NeedLaws.{goal_cells, cells_left}
use Rattle.form_model.proofs.Zips.{Each, each_at, each_weaker, each_both, zip_put, zip_at}
use Rattle.form_model.proofs.Counts.{operands_long, cuts_long}
use Rattle.emit_seq.specs.Inner.CellLists.{operands_in, trees_in}
use Rattle.emit_seq.proofs.Walks.{effect-steps, cells_operands, cells_trees, past_leaves, OperandCount, CutCount, operands_counted, cuts_counted, operands_below, cuts_below, operands_read, cuts_read, holds_of, IsLocal, IsKept, kept_local, Fills, Stores, IsFilled, IsWalked, walk}
use Rattle.emit_seq.proofs.Opened.{IsOpened, opened_cover, IsOpenedOperand, opened_operand, past_cover, into_formed, writes_own, goal_leaves}
use Rattle.emit_seq.proofs.Forms.{OwnBelow, OwnIn, form_done}
use Rattle.emit_seq.proofs.FreeCells.{free_count, all_free, held_more, IsFree, left_some, left_none, room_left, cell_free, tied_is}

module _ (stock : StockModel) (file_storage : Option ℕ) (patterns : List Pattern) (before : State) where
  abbrev m : Step → Operation
  m = operation_of file_storage patterns

  abbrev low : ℕ
  low = stock.temps

  abbrev size : ℕ
  size = stock.file

  -- operands in their homes and cuts in their cells, for the form at the root
  abbrev pub CoverHolds : CoverModel → ℕ → ℕ → DestinationModel → ExprModel → Bool → State → Type 0
  CoverHolds (use_form k ps cs) n held destination tree whole mid =
      Holds low size before mid (match_at stock k destination tree whole).leaves (cover_cut_cells (match_at stock k destination tree whole).leaves ps cs n) (operand_homes stock ps held)

  -- from s the cover's own steps lead to a state in which its operands stand, and put the value of
  -- the tree into its destination; the cells of the file that are held stay
  pub record IsDone (p : CoverModel) (n held : ℕ) (destination : DestinationModel) (tree : ExprModel) (whole : Bool) (s : State) : Type 0 where
    pub mid : State
    pub cells : mid.cells ≡ s.cells
    pub regs : length mid.regs ≡ length s.regs
    pub file : length mid.file ≡ length s.file
    pub stay : (c : ℕ) → bit_at held c ≡ 1 → slice_index mid.file c ≡ slice_index s.file c
    pub kept : (r : ℕ) → bit_at (written stock.forms p) r ≡ 0 → slice_index mid.regs r ≡ slice_index s.regs r
    pub holds : CoverHolds p n held destination tree whole mid
    pub ends : steps_effect m (own_steps stock p n held destination tree whole) s ≡ placed before mid destination (n + cut_count p) (cell_of stock p held) (mean tree before 0)

  -- the steps for the cuts of a cover change their cells alone, and its own steps do what they
  -- should once those are filled
  pub record IsGood (p : CoverModel) : Type 0 where
    pub quiet : (n : ℕ) (destination : DestinationModel) (tree : ExprModel) (whole : Bool) → IsOrderly stock destination tree whole p → ReadsFrom low before tree → DestinationReads low before destination
        → n + cut_count p ≤ low → (s : State) → IsKept low before s → IsLocal n (n + cut_count p) s (steps_effect m (cut_steps stock p n destination tree whole) s)
    pub works : (n held : ℕ) (destination : DestinationModel) (tree : ExprModel) (whole : Bool) → IsOrderly stock destination tree whole p → need stock.forms p ≤ free_count held size → ReadsFrom low before tree → DestinationReads low before destination
        → n + cut_count p ≤ low → OwnBelow destination (n + cut_count p) low → (s : State) → IsKept low before s → (from : State) → IsKept low before from
        → ((c : ℕ) → n ≤ c → c < n + cut_count p → slice_index s.cells c ≡ slice_index (steps_effect m (cut_steps stock p n destination tree whole) from).cells c)
        → IsDone p n held destination tree whole s

  three : (a b c d : State) → a ≡ b → b ≡ c → c ≡ d → a ≡ d
  three a b c d p q r = p ∙ q ∙ r

  abbrev OperandFits : OperandCellsModel → Type 0
  OperandFits cells = ReadsFrom low before cells.operand.tree × (cells.past ≤ low)

  abbrev CutFits : CutCellsModel → Type 0
  CutFits cells = ReadsFrom low before cells.tree × (cells.cell < low)

  abbrev IsHeld : State → OperandCellsModel → Option ℕ → Type 0
  IsHeld t cells home = AtHome low size before t cells.operand.home home cells.operand.tree

  record IsEvaluated (ps : CoverOperandsModel) (held : ℕ) (left : List OperandCellsModel) (s t : State) : Type 0 where
    cells : t.cells ≡ s.cells
    regs : length t.regs ≡ length s.regs
    file : length t.file ≡ length s.file
    stay : (c : ℕ) → bit_at held c ≡ 1 → slice_index t.file c ≡ slice_index s.file c
    kept : (r : ℕ) → bit_at (all_written stock.forms ps) r ≡ 0 → slice_index t.regs r ≡ slice_index s.regs r
    homes : AllZip (IsHeld t) left (operand_homes stock ps held)

  record AreGood (ps : CoverOperandsModel) : Type 0 where
    fills : (left : List OperandCellsModel) → AreOrderly stock (operands_in left) ps → Each OperandFits left → AllZip OperandCount left (operand_counts ps)
        → AllZip (Fills m low before) left (inside_operands stock ps left)
    evaluates : (held : ℕ) (left : List OperandCellsModel) → AreOrderly stock (operands_in left) ps → operands_need stock.forms ps ≤ free_count held size → Each OperandFits left → AllZip OperandCount left (operand_counts ps)
        → (s : State) → IsKept low before s → AllZip (IsFilled m low before s) left (inside_operands stock ps left)
        → IsEvaluated ps held left s (steps_effect m (operand_steps stock ps left held) s)

  record AreStored (cs : CoverCutsModel) : Type 0 where
    stores : (cuts : List CutCellsModel) → AreCut stock (trees_in cuts) cs → Each CutFits cuts → AllZip CutCount cuts (cut_counts cs)
        → AllZip (Stores m low before) cuts (into_cells stock cs cuts)

  filled_same : (now next : State) → next.cells ≡ now.cells → (left : List OperandCellsModel) (xs : List (List Step)) → AllZip (IsFilled m low before now) left xs → AllZip (IsFilled m low before next) left xs
  filled_same now next e [] [] h = tt
  filled_same now next e [] (x ∷ xs) h = absurd h
  filled_same now next e (cells ∷ left) [] h = absurd h
  filled_same now next e (cells ∷ left) (x ∷ xs) h =
      let f : IsFilled m low before now cells x = h.0 in
      (record { from = f.from; kept = f.kept; same = λ c lo hi. ap (λ z. slice_index z c) e ∙ f.same c lo hi }, filled_same now next e left xs h.1)

  module _ (count : ℕ) (formed : AreFormed file_storage patterns count stock.file stock.forms) (wide : count ≡ length before.regs) (large : low ≤ length before.cells) (roomy : stock.file ≤ length before.file) where
    -- a cover into a register writes it
    cover_into : (p : CoverModel) (id : ℕ) (tree : ExprModel) (whole : Bool) → IsOrderly stock (into id) tree whole p → (id < count) × (bit_at (written stock.forms p) id ≡ 1)
    cover_into (use_form k ps cs) id tree whole c =
        let w : IsOpened stock k ps cs (into id) tree whole = opened_cover stock k ps cs (into id) tree whole c in
        let f : (id < count) × (bit_at (form_at stock k).clobbers id ≡ 1) =
        into_formed stock.temps file_storage patterns count stock.file (form_at stock k) (form_at stock k).goal id tree whole (match_at stock k (into id) tree whole)
        (formed k (form_at stock k) w.listed) w.takes in
        (f.0, writes_own stock.forms k (form_at stock k) ps cs id w.listed f.1)

    -- a value put into its home: it is there, and no other register and no other cell has changed
    record IsHomed (home : HomeModel) (own_cell : Option ℕ) (v : ℕ) (mid t : State) : Type 0 where
      cells : t.cells ≡ mid.cells
      regs : length t.regs ≡ length mid.regs
      file : length t.file ≡ length mid.file
      others : (r : ℕ) → (home ≡ in_register r → ⊥) → slice_index t.regs r ≡ slice_index mid.regs r
      stay : (c : ℕ) → ((d : ℕ) → home_cells home ≡ 1 → own_cell ≡ Some d → c ≢ d) → slice_index t.file c ≡ slice_index mid.file c
      at_register : (r : ℕ) → home ≡ in_register r → slice_index t.regs r ≡ v
      at_cell : (c : ℕ) → home_cells home ≡ 1 → own_cell ≡ Some c → slice_index t.file c ≡ v

    homed : (home : HomeModel) (own_cell : Option ℕ) (own v : ℕ) (mid : State) → ((r : ℕ) → home ≡ in_register r → r < length mid.regs)
        → (home_cells home ≡ 1 → (c : ℕ) × (own_cell ≡ Some c) × (c < length mid.file))
        → IsHomed home own_cell v mid (placed before mid (home_destination home) own own_cell v)
    homed (in_register id) own_cell own v mid f g = record {
      cells = refl;
      regs = length-set mid.regs id v;
      file = refl;
      others = λ r ne. get_or-set_other mid.regs id r v 0 (λ q. ne (ap in_register (sym q)));
      stay = λ c ne. refl;
      at_register = λ r e. (let q : id ≡ r = cc in ap (λ z. slice_index (slice_set mid.regs id v) z) (sym q) ∙ get_or-set_same mid.regs id v 0 (f id refl));
      at_cell = λ c one e. absurd (omega (arith, one));
    }
    homed (in_file shape) own_cell own v mid f g =
        let (c, e, lt) = g refl in
        let at : cell_or own_cell 0 ≡ c = ap (λ z. cell_or z 0) e in
        record {
          cells = refl;
          regs = refl;
          file = length-set mid.file (cell_or own_cell 0) v;
          others = λ r ne. refl;
          stay = λ d ne. get_or-set_other mid.file (cell_or own_cell 0) d v 0 (λ q. ne c refl e (q ∙ at));
          at_register = λ r e'. absurd (cc);
          at_cell = λ d one e'. (let q : c ≡ d = cc in ap (λ z. slice_index (slice_set mid.file z v) d) at ∙ ap (λ z. slice_index (slice_set mid.file c v) z) (sym q) ∙ get_or-set_same mid.file c v 0 lt);
        }

    -- an operand in its home stays there
    held_at : (home : HomeModel) (own_cell : Option ℕ) (tree : ExprModel) (t : State) → IsFree size 0 own_cell → (home_cells home ≡ 1 → (c : ℕ) × (own_cell ≡ Some c)) → ((r : ℕ) → home ≡ in_register r → slice_index t.regs r ≡ mean tree before 0)
        → ((c : ℕ) → home_cells home ≡ 1 → own_cell ≡ Some c → slice_index t.file c ≡ mean tree before 0) → AtHome low size before t home own_cell tree
    held_at (in_register id) own_cell tree t f s g h = g id refl
    held_at (in_file shape) None tree t f s g h = let (c, e) = s refl in absurd (cc)
    held_at (in_file shape) (Some c) tree t f s g h = (f.0, h c refl refl)

    -- no operand's cover is wider than the operands' together
    own_dest : (home : HomeModel) (own : ℕ) → OwnBelow (home_destination home) own low
    own_dest (in_register id) own = tt
    own_dest (in_file shape) own = tt

    home_reads : (home : HomeModel) → DestinationReads low before (home_destination home)
    home_reads (in_register id) = tt
    home_reads (in_file shape) = tt

    -- one operand's own steps
    operand_done : (held i : ℕ) (p : CoverModel) (ps : CoverOperandsModel) → IsGood p → (left : List OperandCellsModel) → AreOrderly stock (operands_in left) (operand_then i p ps) → need stock.forms p ≤ free_count held size → Each OperandFits left
        → AllZip OperandCount left (operand_counts (operand_then i p ps)) → (s : State) → IsKept low before s
        → AllZip (IsFilled m low before s) left (inside_operands stock (operand_then i p ps) left)
        → IsDone p (operand_cells_or_none (slice_get left i)).first held (home_destination (operand_cells_or_none (slice_get left i)).operand.home) (operand_cells_or_none (slice_get left i)).operand.tree
        (operand_cells_or_none (slice_get left i)).operand.whole s
    operand_done held i p ps good left c room f z s k y =
        let cells : OperandCellsModel = operand_cells_or_none (slice_get left i) in
        let into_home : DestinationModel = home_destination cells.operand.home in
        let w : IsOpenedOperand stock left i cells p ps = opened_operand stock left i p ps c in
        let fits : OperandFits cells = (each_at OperandFits left i cells w.at f).0 in
        let long : OperandCount cells (cut_count p) = (zip_at OperandCount left (operand_counts ps) i cells (cut_count p) w.at z).0 in
        let filled : IsFilled m low before s cells (cut_steps stock p cells.first into_home cells.operand.tree cells.operand.whole) =
        (zip_at (IsFilled m low before s) left (inside_operands stock ps (remove left i)) i cells
        (cut_steps stock p cells.first into_home cells.operand.tree cells.operand.whole) w.at y).0 in
        good.works cells.first held into_home cells.operand.tree cells.operand.whole w.orderly room fits.0 (home_reads cells.operand.home) (omega (arith, fits.1, long)) (own_dest cells.operand.home (cells.first + cut_count p)) s k filled.from filled.kept
        (λ e lo hi. filled.same e lo (omega (arith, hi, long)))

    operand_good : (i : ℕ) (p : CoverModel) (ps : CoverOperandsModel) → IsGood p → AreGood ps → AreGood (operand_then i p ps)
    operand_good i p ps good rest = record { fills = fills'; evaluates = evaluates' }
      where
        fills' : (left : List OperandCellsModel) → AreOrderly stock (operands_in left) (operand_then i p ps) → Each OperandFits left → AllZip OperandCount left (operand_counts (operand_then i p ps))
            → AllZip (Fills m low before) left (inside_operands stock (operand_then i p ps) left)
        fills' left c f z =
            let cells : OperandCellsModel = operand_cells_or_none (slice_get left i) in
            let into_home : DestinationModel = home_destination cells.operand.home in
            let w : IsOpenedOperand stock left i cells p ps = opened_operand stock left i p ps c in
            let fits : OperandFits cells × Each OperandFits (remove left i) = each_at OperandFits left i cells w.at f in
            let long : OperandCount cells (cut_count p) × AllZip OperandCount (remove left i) (operand_counts ps) = zip_at OperandCount left (operand_counts ps) i cells (cut_count p) w.at z in
            let seg : List Step = cut_steps stock p cells.first into_home cells.operand.tree cells.operand.whole in
            let head : Fills m low before cells seg =
            λ s k. subst (λ n. IsLocal cells.first n s (steps_effect m seg s)) (sym long.0)
            (good.quiet cells.first into_home cells.operand.tree cells.operand.whole w.orderly fits.0.0 (home_reads cells.operand.home) (omega (arith, fits.0.1, long.0)) s k) in
            zip_put (Fills m low before) left (inside_operands stock ps (remove left i)) i cells seg w.at head
            (rest.fills (remove left i) w.rest fits.1 long.1)

        evaluates' : (held : ℕ) (left : List OperandCellsModel) → AreOrderly stock (operands_in left) (operand_then i p ps) → operands_need stock.forms (operand_then i p ps) ≤ free_count held size → Each OperandFits left → AllZip OperandCount left (operand_counts (operand_then i p ps))
            → (s : State) → IsKept low before s → AllZip (IsFilled m low before s) left (inside_operands stock (operand_then i p ps) left)
            → IsEvaluated (operand_then i p ps) held left s (steps_effect m (operand_steps stock (operand_then i p ps) left held) s)
        evaluates' held left c room f z s k y =
            let cells : OperandCellsModel = operand_cells_or_none (slice_get left i) in
            let home : HomeModel = cells.operand.home in
            let into_home : DestinationModel = home_destination home in
            let cell : Option ℕ = cell_of stock p held in
            let more : ℕ = holding held cell in
            let v : ℕ = mean cells.operand.tree before 0 in
            let w : IsOpenedOperand stock left i cells p ps = opened_operand stock left i p ps c in
            let own : List Step = own_steps stock p cells.first held into_home cells.operand.tree cells.operand.whole in
            let later : List Step = operand_steps stock ps (remove left i) more in
            let needs : need stock.forms p ≤ free_count held size = omega (arith, room) in
            let free : IsFree size held cell = cell_free stock p held needs in
            let left_more : operands_need stock.forms ps ≤ free_count more size = room_left stock p held (operands_need stock.forms ps) free (omega (arith, room)) in
            let takes : left_cells stock.forms p ≡ home_cells home = cells_left stock p home cells.operand.tree cells.operand.whole w.orderly in
            let given : home_cells home ≡ 1 → (d : ℕ) × (cell ≡ Some d) = λ one. left_some stock p held (takes ∙ one) in
            let none : home_cells home ≡ 0 → cell ≡ None = λ no. left_none stock p held (takes ∙ no) in
            let d : IsDone p cells.first held into_home cells.operand.tree cells.operand.whole s = operand_done held i p ps good left c needs f z s k y in
            let t : State = placed before d.mid into_home (cells.first + cut_count p) cell v in
            let at : (r : ℕ) → home ≡ in_register r → (r < count) × (bit_at (written stock.forms p) r ≡ 1) =
            λ r e. cover_into p r cells.operand.tree cells.operand.whole (subst (λ q. IsOrderly stock (home_destination q) cells.operand.tree cells.operand.whole p) e w.orderly) in
            let h : IsHomed home cell v d.mid t =
            homed home cell (cells.first + cut_count p) v d.mid (λ r e. (let a = (at r e).0 in omega (arith, a, wide, d.regs, k.regs)))
            (λ one. (let (q, e) = given one in (q, e, (let a = (subst (IsFree size held) e free).0 in omega (arith, a, roomy, d.file, k.file))))) in
            let kt : IsKept low before t = record {
              regs = h.regs ∙ d.regs ∙ k.regs;
              cells = ap (λ (q : List ℕ). length q) h.cells ∙ ap (λ (q : List ℕ). length q) d.cells ∙ k.cells;
              file = h.file ∙ d.file ∙ k.file;
              same = λ e b. ap (λ q. slice_index q e) h.cells ∙ ap (λ q. slice_index q e) d.cells ∙ k.same e b;
            } in
            let fits : OperandFits cells × Each OperandFits (remove left i) = each_at OperandFits left i cells w.at f in
            let counts : OperandCount cells (cut_count p) × AllZip OperandCount (remove left i) (operand_counts ps) = zip_at OperandCount left (operand_counts ps) i cells (cut_count p) w.at z in
            let filled : AllZip (IsFilled m low before s) (remove left i) (inside_operands stock ps (remove left i)) =
            (zip_at (IsFilled m low before s) left (inside_operands stock ps (remove left i)) i cells
            (cut_steps stock p cells.first into_home cells.operand.tree cells.operand.whole) w.at y).1 in
            let e : IsEvaluated ps more (remove left i) t (steps_effect m later t) =
            rest.evaluates more (remove left i) w.rest left_more fits.1 counts.1 t kt (filled_same s t (h.cells ∙ d.cells) (remove left i) (inside_operands stock ps (remove left i)) filled) in
            let all : steps_effect m (own ++ later) s ≡ steps_effect m later t = effect-steps m own later s ∙ ap (λ q. steps_effect m later q) d.ends in
            let apart : (r : ℕ) → bit_at (written stock.forms p) r ≡ 0 → home ≡ in_register r → ⊥ = λ r b q. (let a = (at r q).1 in omega (arith, a, b)) in
            let away : (q : ℕ) → bit_at held q ≡ 1 → (x : ℕ) → home_cells home ≡ 1 → cell ≡ Some x → q ≢ x =
            λ q b x one ex same_cell. (let a = (subst (IsFree size held) ex free).1 in let b' : bit_at held x ≡ 1 = ap (bit_at held) (sym same_cell) ∙ b in omega (arith, a, b')) in
            let end : State = steps_effect m later t in
            let waits : AtHome low size before end home cell cells.operand.tree =
            held_at home cell cells.operand.tree end (within_size cell free) given
            (λ r q. e.kept r (w.apart r q) ∙ h.at_register r q)
            (λ q one ex. e.stay q (ap (λ o. bit_at (holding held o) q) ex ∙ set_same held q) ∙ h.at_cell q one ex) in
            subst (λ q. IsEvaluated (operand_then i p ps) held left s q) (sym all) (record {
              cells = e.cells ∙ h.cells ∙ d.cells;
              regs = e.regs ∙ h.regs ∙ d.regs;
              file = e.file ∙ h.file ∙ d.file;
              stay = λ q b. e.stay q (more_held cell q b) ∙ h.stay q (away q b) ∙ d.stay q b;
              kept = λ r b.
                  let hp : bit_at (written stock.forms p) r ≡ 0 = zero_left (written stock.forms p) (all_written stock.forms ps) r b in
                  e.kept r (zero_right (written stock.forms p) (all_written stock.forms ps) r b)
                  ∙ h.others r (apart r hp) ∙ d.kept r hp;
              homes = zip_put (IsHeld end) left (operand_homes stock ps more) i cells cell w.at waits e.homes;
            })
          where
            within_size : (o : Option ℕ) → IsFree size held o → IsFree size 0 o
            within_size None q = tt
            within_size (Some x) q = (q.0, bit_at-zero x)

            more_held : (o : Option ℕ) (q : ℕ) → bit_at held q ≡ 1 → bit_at (holding held o) q ≡ 1
            more_held None q b = b
            more_held (Some x) q b = held_more held x q b

    none_good : AreGood no_operands
    none_good = record { fills = fills'; evaluates = evaluates' }
      where
        fills' : (left : List OperandCellsModel) → AreOrderly stock (operands_in left) no_operands → Each OperandFits left → AllZip OperandCount left [] → AllZip (Fills m low before) left []
        fills' [] c f z = tt
        fills' (cells ∷ left) c f z = absurd (cc)

        evaluates' : (held : ℕ) (left : List OperandCellsModel) → AreOrderly stock (operands_in left) no_operands → operands_need stock.forms no_operands ≤ free_count held size → Each OperandFits left → AllZip OperandCount left []
            → (s : State) → IsKept low before s → AllZip (IsFilled m low before s) left [] → IsEvaluated no_operands held left s s
        evaluates' held [] c room f z s k y = record { cells = refl; regs = refl; file = refl; stay = λ q h. refl; kept = λ r h. refl; homes = tt }
        evaluates' held (cells ∷ left) c room f z s k y = absurd (cc)

    none_stored : AreStored no_cuts
    none_stored = record { stores = stores' }
      where
        stores' : (cuts : List CutCellsModel) → AreCut stock (trees_in cuts) no_cuts → Each CutFits cuts → AllZip CutCount cuts [] → AllZip (Stores m low before) cuts []
        stores' [] c f z = tt
        stores' (cells ∷ cuts) c f z = absurd (cc)

    -- a cut's steps put its value into its cell
    cut_stored : (p : CoverModel) → IsGood p → (cells : CutCellsModel) → IsOrderly stock temporary cells.tree false p → need stock.forms p ≤ size → CutFits cells → CutCount cells (cut_count p)
        → Stores m low before cells (cut_steps stock p cells.first temporary cells.tree false ++ own_steps stock p cells.first 0 temporary cells.tree false)
    cut_stored p good cells c room f z s k =
        let inside : List Step = cut_steps stock p cells.first temporary cells.tree false in
        let own : List Step = own_steps stock p cells.first 0 temporary cells.tree false in
        let t : State = steps_effect m inside s in
        let v : ℕ = mean cells.tree before 0 in
        let l : IsLocal cells.first (cells.first + cut_count p) s t = good.quiet cells.first temporary cells.tree false c f.0 tt (omega (arith, f.1, z)) s k in
        let kt : IsKept low before t = kept_local low before cells.first (cells.first + cut_count p) s t (omega (arith, f.1, z)) k l in
        let d : IsDone p cells.first 0 temporary cells.tree false t =
        good.works cells.first 0 temporary cells.tree false c (let all = all_free size in omega (arith, all, room)) f.0 tt (omega (arith, f.1, z)) (omega (arith, f.1, z)) t kt s k (λ e lo hi. refl) in
        let u : State = record d.mid { cells = slice_set d.mid.cells cells.cell v } in
        let all : steps_effect m (inside ++ own) s ≡ u =
        three (steps_effect m (inside ++ own) s) (steps_effect m own t) (record d.mid { cells = slice_set d.mid.cells (cells.first + cut_count p) v }) u
        (effect-steps m inside own s) d.ends (ap (λ n. record d.mid { cells = slice_set d.mid.cells n v }) (sym {a = cells.cell} {b = cells.first + cut_count p} z)) in
        let long : length u.cells ≡ length s.cells = length-set d.mid.cells cells.cell v ∙ ap length d.cells ∙ l.cells in
        let apart : (e : ℕ) → (e < cells.first) ⊎ (cells.cell + 1 ≤ e) → (e ≢ cells.cell) × ((e < cells.first) ⊎ (cells.first + cut_count p ≤ e)) = λ e h. outside cells.first (cut_count p) cells.cell e z h in
        moved (steps_effect m (inside ++ own) s) u all (
          record {
            regs = d.regs ∙ l.regs;
            cells = long;
            file = d.file ∙ l.file;
            same = λ e h. get_or-set_other d.mid.cells cells.cell e v 0 (apart e h).0 ∙ ap (λ q. slice_index q e) d.cells ∙ l.same e (apart e h).1;
          },
          get_or-set_same d.mid.cells cells.cell v 0 (omega (arith, f.1, large, k.cells, l.cells, ap length d.cells)),
        )
      where
        moved : (t u : State) → t ≡ u → IsLocal cells.first (cells.cell + 1) s u × (slice_index u.cells cells.cell ≡ mean cells.tree before 0)
            → IsLocal cells.first (cells.cell + 1) s t × (slice_index t.cells cells.cell ≡ mean cells.tree before 0)
        moved t u e h = subst (λ q. IsLocal cells.first (cells.cell + 1) s q × (slice_index q.cells cells.cell ≡ mean cells.tree before 0)) (sym e) h

        outside : (a n b e : ℕ) → b ≡ a + n → (e < a) ⊎ (b + 1 ≤ e) → (e ≢ b) × ((e < a) ⊎ (a + n ≤ e))
        outside a n b e z (inl h) = (λ q. omega (arith, q), inl h)
        outside a n b e z (inr h) = (λ q. omega (arith, q), inr (omega arith))

    cut_good : (p : CoverModel) (cs : CoverCutsModel) → IsGood p → AreStored cs → AreStored (cut_then p cs)
    cut_good p cs good rest = record { stores = stores' }
      where
        stores' : (cuts : List CutCellsModel) → AreCut stock (trees_in cuts) (cut_then p cs) → Each CutFits cuts → AllZip CutCount cuts (cut_counts (cut_then p cs))
            → AllZip (Stores m low before) cuts (into_cells stock (cut_then p cs) cuts)
        stores' [] c f z = absurd z
        stores' (cells ∷ cuts) c f z =
            let e : c.0 ≡ cells.tree = cc (c.2) in
            let e' : c.1 ≡ trees_in cuts = cc (c.2) in (
              cut_stored p good cells (subst (λ t. IsOrderly stock temporary t false p) e c.3) c.4 f.0 z.0,
              rest.stores cuts (subst (λ ts. AreCut stock ts cs) e' c.5) f.1 z.1,
            )

    -- what the parts of a form's cover give
    record IsReady (k : ℕ) (ps : CoverOperandsModel) (cs : CoverCutsModel) (n : ℕ) (destination : DestinationModel) (tree : ExprModel) (whole : Bool) : Type 0 where
      opened : IsOpened stock k ps cs destination tree whole
      past : past_leaves (match_at stock k destination tree whole).leaves (operand_counts ps) (cut_counts cs) n ≡ n + cut_count (use_form k ps cs)
      orderly : AreOrderly stock (operands_in (cover_operand_cells (match_at stock k destination tree whole).leaves ps cs n)) ps
      fits : Each OperandFits (cover_operand_cells (match_at stock k destination tree whole).leaves ps cs n)
      counts : AllZip OperandCount (cover_operand_cells (match_at stock k destination tree whole).leaves ps cs n) (operand_counts ps)
      fills : AllZip (Fills m low before) (cover_operand_cells (match_at stock k destination tree whole).leaves ps cs n) (inside_operands stock ps (cover_operand_cells (match_at stock k destination tree whole).leaves ps cs n))
      stores : AllZip (Stores m low before) (cover_cut_cells (match_at stock k destination tree whole).leaves ps cs n) (into_cells stock cs (cover_cut_cells (match_at stock k destination tree whole).leaves ps cs n))

    ready : (k : ℕ) (ps : CoverOperandsModel) (cs : CoverCutsModel) → AreGood ps → AreStored cs → (n : ℕ) (destination : DestinationModel) (tree : ExprModel) (whole : Bool) → IsOrderly stock destination tree whole (use_form k ps cs)
        → ReadsFrom low before tree → DestinationReads low before destination → n + cut_count (use_form k ps cs) ≤ low → IsReady k ps cs n destination tree whole
    ready k ps cs gs gc n destination tree whole c r pr b =
        let w : IsOpened stock k ps cs destination tree whole = opened_cover stock k ps cs destination tree whole c in
        let leaves : List LeafModel = (match_at stock k destination tree whole).leaves in
        let read : LeavesRead low before leaves = goal_leaves low before (form_at stock k) (form_at stock k).goal destination tree whole (match_at stock k destination tree whole) w.takes r pr in
        let past : past_leaves leaves (operand_counts ps) (cut_counts cs) n ≡ n + cut_count (use_form k ps cs) = past_cover stock leaves ps cs n w.operands w.cuts in
        let below : past_leaves leaves (operand_counts ps) (cut_counts cs) n ≤ low = omega (arith, past, b) in
        let orderly : AreOrderly stock (operands_in (cover_operand_cells leaves ps cs n)) ps =
        subst (λ z. AreOrderly stock z ps) (sym (cells_operands leaves (operand_counts ps) (cut_counts cs) n)) w.operands in
        let cuts : AreCut stock (trees_in (cover_cut_cells leaves ps cs n)) cs =
        subst (λ z. AreCut stock z cs) (sym (cells_trees leaves (operand_counts ps) (cut_counts cs) n)) w.cuts in
        let fits : Each OperandFits (cover_operand_cells leaves ps cs n) =
        each_both (λ (cells : OperandCellsModel). ReadsFrom low before cells.operand.tree) (λ (cells : OperandCellsModel). cells.past ≤ low) (cover_operand_cells leaves ps cs n)
        (operands_read low before leaves (operand_counts ps) (cut_counts cs) n read) (operands_below leaves (operand_counts ps) (cut_counts cs) n low below) in
        let cut_fits : Each CutFits (cover_cut_cells leaves ps cs n) =
        each_both (λ (cells : CutCellsModel). ReadsFrom low before cells.tree) (λ (cells : CutCellsModel). cells.cell < low) (cover_cut_cells leaves ps cs n)
        (cuts_read low before leaves (operand_counts ps) (cut_counts cs) n read) (cuts_below leaves (operand_counts ps) (cut_counts cs) n low below) in
        let counts : AllZip OperandCount (cover_operand_cells leaves ps cs n) (operand_counts ps) =
        operands_counted leaves (operand_counts ps) (cut_counts cs) n (operands_long stock ps (operands_of leaves) w.operands) in
        let cut_counted : AllZip CutCount (cover_cut_cells leaves ps cs n) (cut_counts cs) =
        cuts_counted leaves (operand_counts ps) (cut_counts cs) n (cuts_long stock cs (cuts_of leaves) w.cuts) in
        record {
          opened = w;
          past = past;
          orderly = orderly;
          fits = fits;
          counts = counts;
          fills = gs.fills (cover_operand_cells leaves ps cs n) orderly fits counts;
          stores = gc.stores (cover_cut_cells leaves ps cs n) cuts cut_fits cut_counted;
        }

    -- the cell that a form writes is one of the file's, and that of its tied operand
    own_in : (k : ℕ) (ps : CoverOperandsModel) (cs : CoverCutsModel) (held : ℕ) (destination : DestinationModel) (tree : ExprModel) (whole : Bool) → IsOpened stock k ps cs destination tree whole → need stock.forms (use_form k ps cs) ≤ free_count held size
        → OwnIn destination (form_at stock k) (operand_homes stock ps held) (cell_of stock (use_form k ps cs) held) size
    own_in k ps cs held (into id) tree whole w room = tt
    own_in k ps cs held filed tree whole w room =
        let takes : form_cells (slice_get stock.forms k) ≡ 1 = ap form_cells w.listed ∙ goal_cells stock.temps (form_at stock k) (form_at stock k).goal (in_file tree) tree whole (match_at stock k filed tree whole) w.takes in
        let (c, e) = left_some stock (use_form k ps cs) held takes in
        let free : IsFree size held (Some c) = subst (IsFree size held) e (cell_free stock (use_form k ps cs) held room) in
        (c, e, free.0, λ d t. tied_is (slice_get stock.forms k) (form_at stock k) w.listed (operand_homes stock ps held) (first_home stock ps held) (free_cell held stock.file) c d e t)
    own_in k ps cs held (cell a) tree whole w room = tt
    own_in k ps cs held (stored a) tree whole w room = tt
    own_in k ps cs held temporary tree whole w room = tt
    own_in k ps cs held tested tree whole w room = tt

    form_good : (k : ℕ) (ps : CoverOperandsModel) (cs : CoverCutsModel) → AreGood ps → AreStored cs → IsGood (use_form k ps cs)
    form_good k ps cs gs gc = record { quiet = quiet'; works = works' }
      where
        quiet' : (n : ℕ) (destination : DestinationModel) (tree : ExprModel) (whole : Bool) → IsOrderly stock destination tree whole (use_form k ps cs) → ReadsFrom low before tree → DestinationReads low before destination
            → n + cut_count (use_form k ps cs) ≤ low → (s : State) → IsKept low before s
            → IsLocal n (n + cut_count (use_form k ps cs)) s (steps_effect m (cut_steps stock (use_form k ps cs) n destination tree whole) s)
        quiet' n destination tree whole c r pr b s h =
            let y : IsReady k ps cs n destination tree whole = ready k ps cs gs gc n destination tree whole c r pr b in
            let leaves : List LeafModel = (match_at stock k destination tree whole).leaves in
            let segs : List (List Step) = inside_operands stock ps (cover_operand_cells leaves ps cs n) in
            let cuts : List (List Step) = into_cells stock cs (cover_cut_cells leaves ps cs n) in
            let w : IsWalked low before m leaves (operand_counts ps) (cut_counts cs) n segs cuts s (steps_effect m (woven leaves segs cuts) s) =
            walk low before m leaves (operand_counts ps) (cut_counts cs) n segs cuts (omega (arith, y.past, b)) y.fills y.stores s (steps_effect m (woven leaves segs cuts) s) h (λ e lo hi. refl) in
            subst (λ q. IsLocal n q s (steps_effect m (woven leaves segs cuts) s)) y.past w.local

        works' : (n held : ℕ) (destination : DestinationModel) (tree : ExprModel) (whole : Bool) → IsOrderly stock destination tree whole (use_form k ps cs) → need stock.forms (use_form k ps cs) ≤ free_count held size → ReadsFrom low before tree → DestinationReads low before destination
            → n + cut_count (use_form k ps cs) ≤ low → OwnBelow destination (n + cut_count (use_form k ps cs)) low → (s : State) → IsKept low before s → (from : State) → IsKept low before from
            → ((e : ℕ) → n ≤ e → e < n + cut_count (use_form k ps cs) → slice_index s.cells e ≡ slice_index (steps_effect m (cut_steps stock (use_form k ps cs) n destination tree whole) from).cells e)
            → IsDone (use_form k ps cs) n held destination tree whole s
        works' n held destination tree whole c room r pr b o s hs from hf a =
            let y : IsReady k ps cs n destination tree whole = ready k ps cs gs gc n destination tree whole c r pr b in
            let found : MatchModel = match_at stock k destination tree whole in
            let leaves : List LeafModel = found.leaves in
            let left : List OperandCellsModel = cover_operand_cells leaves ps cs n in
            let own_rooms : List CutCellsModel = cover_cut_cells leaves ps cs n in
            let segs : List (List Step) = inside_operands stock ps left in
            let cuts : List (List Step) = into_cells stock cs own_rooms in
            let below : past_leaves leaves (operand_counts ps) (cut_counts cs) n ≤ low = omega (arith, y.past, b) in
            let w : IsWalked low before m leaves (operand_counts ps) (cut_counts cs) n segs cuts from s =
            walk low before m leaves (operand_counts ps) (cut_counts cs) n segs cuts below y.fills y.stores from s hf (λ e lo hi. a e lo (omega (arith, hi, y.past))) in
            let homes : List (Option ℕ) = operand_homes stock ps held in
            let e : IsEvaluated ps held left s (steps_effect m (operand_steps stock ps left held) s) = gs.evaluates held left y.orderly (omega (arith, room)) y.fits y.counts s hs w.filled in
            let mid : State = steps_effect m (operand_steps stock ps left held) s in
            let stored : Each (λ (cells : CutCellsModel). (cells.cell < low) × (slice_index mid.cells cells.cell ≡ mean cells.tree before 0)) own_rooms =
            each_both (λ (cells : CutCellsModel). cells.cell < low) (λ (cells : CutCellsModel). slice_index mid.cells cells.cell ≡ mean cells.tree before 0) own_rooms
            (cuts_below leaves (operand_counts ps) (cut_counts cs) n low below)
            (each_weaker (λ (cells : CutCellsModel). slice_index s.cells cells.cell ≡ mean cells.tree before 0) (λ (cells : CutCellsModel). slice_index mid.cells cells.cell ≡ mean cells.tree before 0)
            (λ cells h. ap (λ q. slice_index q cells.cell) e.cells ∙ h) own_rooms w.stored) in
            let holds : Holds low size before mid leaves own_rooms homes = holds_of low size before mid leaves (operand_counts ps) (cut_counts cs) n homes e.homes stored in
            record {
              mid = mid;
              cells = e.cells;
              regs = e.regs;
              file = e.file;
              stay = e.stay;
              kept = λ q h. e.kept q (zero_right _ (all_written stock.forms ps) q h);
              holds = holds;
              ends = effect-steps m (operand_steps stock ps left held) (form_step (form_at stock k) destination (cover_setting stock (use_form k ps cs) n held destination tree whole)) s
                  ∙ form_done low size before mid (λ q h. ap (λ z. slice_index z q) e.cells ∙ hs.same q h) file_storage patterns count (form_at stock k) (form_at stock k).goal destination tree whole
                  found own_rooms homes (n + cut_count (use_form k ps cs)) (cell_of stock (use_form k ps cs) held) (formed k (form_at stock k) y.opened.listed) y.opened.takes r pr holds o
                  (own_in k ps cs held destination tree whole y.opened room);
            }

    mutual
      pub good_cover : (p : CoverModel) → IsGood p
      good_cover (use_form k ps cs) = form_good k ps cs (good_operands ps) (good_cuts cs)

      good_operands : (ps : CoverOperandsModel) → AreGood ps
      good_operands no_operands = none_good
      good_operands (operand_then i p ps) = operand_good i p ps (good_cover p) (good_operands ps)

      good_cuts : (cs : CoverCutsModel) → AreStored cs
      good_cuts no_cuts = none_stored
      good_cuts (cut_then p cs) = cut_good p cs (good_cover p) (good_cuts cs)
