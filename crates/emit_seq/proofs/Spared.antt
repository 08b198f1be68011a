-- The steps of an orderly cover spare what is still needed: by induction over covers.
use Rattle.std.proofs.Common.{◌≡◌, ℕ, zero, suc, ◌==◌, ◌||◌, ◌&&◌, ◌⊎◌, inl, inr, not, bit_or, Bool, true, false, List, [], ◌∷◌, ◌++◌, Option, Some, refl, sym, ap, ◌∙◌, subst, arith}
use Rattle.std.specs.Prelude.{slice_get, remove}
use Rattle.std.specs.Int.{bit_at}
use Rattle.std.proofs.lemmas.Nat.Bits.{bit_at_or, bit_at-lt}
use Rattle.std.proofs.lemmas.Bool.{true≢false, eqb-true, eq-eqb, cases_Bool, and_parts, false_from_ne_true}
use Rattle.rec_bits.proofs.Booleans.{or_cases}
use Rattle.rec_bits.proofs.Options.{picked}
use Rattle.net_model.specs.Exprs.{ExprModel}
use Rattle.net_model.specs.Symbolic.{no_state}
use Rattle.net_model.specs.Patterns.{Pattern}
use Rattle.form_model.specs.declared.forms.Step.{Step}
use Rattle.form_model.specs.Shapes.{is_shape, shape_setting, shows_below}
use Rattle.form_model.specs.Forms.{FormModel, GoalModel, into_reg, into_memory, into_file, branches, DestinationModel, into, filed, cell, stored, temporary, tested}
use Rattle.form_model.specs.Matches.{HomeModel, in_register, in_file, LeafModel, MatchModel, settled, both, matched, address_match, goal_match}
use Rattle.form_model.specs.CoverModels.{CoverModel, use_form, CoverOperandsModel, no_operands, operand_then, CoverCutsModel, no_cuts, cut_then}
use Rattle.form_model.specs.Covers.{StockModel, Operand, operands_of, home_destination, written, all_written, IsOrderly, AreOrderly, AreCut}
use Rattle.form_model.specs.Effects.{Operation, operation_or_none, operation_of, register, reads, writes, expr_reads}
use Rattle.form_model.specs.Live.{Regs, no_regs, live_before, singles, AllSpare}
use Rattle.form_model.specs.Steps.{OperandCellsModel, CutCellsModel, holding, cell_of, operand_counts, cut_counts, cover_operand_cells, cover_cut_cells, operand_cells_or_none, form_at, match_at, own_steps, operand_steps, cut_steps, inside_operands, into_cells, cover_setting, branch_setting, form_step, cover_steps}
use Rattle.emit_seq.specs.Formed.{CellsShown, IsIntoMemory, IsIntoFile, IsFormed, AreFormed}
use Rattle.emit_seq.specs.Leaves.{IsOfJob}
use Rattle.emit_seq.specs.Spares.{clobbers_of, step_clobbers, AreShared, ReadsCounter, AreDefined, wanted, AreSpare}
use Rattle.emit_seq.proofs.Matched.{Joined, joined}
use Rattle.emit_seq.proofs.MatchLeaves.{IsIdOf, id_left, id_right, shape_unread, matched_taken}
use Rattle.form_model.proofs.Zips.{Each}
use Rattle.form_model.proofs.Counts.{operands-append}
use Rattle.emit_seq.specs.Inner.CellLists.{operands_in, trees_in}
use Rattle.emit_seq.proofs.Walks.{cells_operands, cells_trees}
use Rattle.emit_seq.proofs.Opened.{IsOpened, opened_cover, IsOpenedOperand, opened_operand, writes_own}
use Rattle.emit_seq.proofs.Lives.{spare-append, apart-append, live-steps, IsTidy, tidy_append, IsAlone, alone_append, each_in, given_of, woven_alone}

-- ---- what a form's own step reads, writes and clobbers

-- the register that the destination is
abbrev pub IsOwn : DestinationModel → ℕ → Type 0
IsOwn (into id) r = id ≡ r
IsOwn destination r = ⊥

-- a destination other than a test, which has no step of its own
abbrev pub HasStep : DestinationModel → Type 0
HasStep tested = ⊥
HasStep destination = Unit {0}

record IsFormStep (file_storage : Option ℕ) (patterns : List Pattern) (form : FormModel) (destination : DestinationModel) (found : MatchModel) : Type 0 where
  read : (i r : ℕ) → reads (operation_of file_storage patterns (record { pattern = form.pattern; setting = i })) (register r) ≡ true → IsIdOf (operands_of found.leaves) r
  owns : (i r : ℕ) → IsOwn destination r → writes (operation_of file_storage patterns (record { pattern = form.pattern; setting = i })) r ≡ true
  owned : (i r : ℕ) → writes (operation_of file_storage patterns (record { pattern = form.pattern; setting = i })) r ≡ true → IsOwn destination r

address_given : (temps size : ℕ) (at : ExprModel) (destination : DestinationModel) (x : MatchModel) → CellsShown size at → address_match temps (Some at) destination ≡ Some x → (i r : ℕ) → expr_reads i at (register r) ≡ true
    → IsIdOf (operands_of x.leaves) r
address_given temps size at (cell a) x q h i r e =
    let c : (is_shape at ≡ true) × (settled (shape_setting at a) ≡ Some x) = picked (is_shape at) (settled (shape_setting at a)) x h in
    absurd (true≢false (sym e ∙ shape_unread at i r c.0))
address_given temps size at (stored address) x q h i r e = (matched_taken temps no_state at address false x h).given size q i r e
address_given temps size at temporary x shown h i r e =
    let c : ((is_shape at && shows_below at temps) ≡ true) × (settled (Some 0) ≡ Some x) = picked (is_shape at && shows_below at temps) (settled (Some 0)) x h in
    let q : (is_shape at ≡ true) × (shows_below at temps ≡ true) = and_parts _ _ c.0 in
    absurd (true≢false (sym e ∙ shape_unread at i r q.0))
address_given temps size at (into id) x q h i r e = absurd (cc)
address_given temps size at filed x q h i r e = absurd (cc)
address_given temps size at tested x q h i r e = absurd (cc)

memory_step : (temps size : ℕ) (file_storage : Option ℕ) (patterns : List Pattern) (form : FormModel) (destination : DestinationModel) (tree : ExprModel) (whole : Bool) (found : MatchModel) → IsIntoMemory file_storage patterns size form
    → both (address_match temps form.addr destination) (matched temps form.value tree whole) ≡ Some found → (i r : ℕ)
    → reads (operation_of file_storage patterns (record { pattern = form.pattern; setting = i })) (register r) ≡ true → IsIdOf (operands_of found.leaves) r
memory_step temps size file_storage patterns form destination tree whole found f h i r e =
    let j : Joined (address_match temps form.addr destination) (matched temps form.value tree whole) found = joined _ _ _ h in
    let e' : (expr_reads i f.addr (register r) || expr_reads i f.value (register r)) ≡ true = sym (ap (λ (p : Option Pattern). reads (operation_or_none file_storage p i) (register r)) f.is) ∙ e in
    subst (λ (z : MatchModel). IsIdOf (operands_of z.leaves) r) j.is
    (subst (λ z. IsIdOf z r) (sym (operands-append j.first.leaves j.second.leaves))
    (elim (or_cases (expr_reads i f.addr (register r)) (expr_reads i f.value (register r)) e') as (λ _. IsIdOf (operands_of j.first.leaves ++ operands_of j.second.leaves) r) [
      | inl u ↦ id_left (operands_of j.first.leaves) (operands_of j.second.leaves) r
          (address_given temps size f.at destination j.first f.shown_addr (ap (λ z. address_match temps z destination) (sym f.has) ∙ j.is_first) i r (f.alike_addr.reads i r ∙ u))
      | inr u ↦ id_right (operands_of j.first.leaves) (operands_of j.second.leaves) r
          ((matched_taken temps no_state form.value tree whole j.second j.is_second).given size f.shown_value i r (f.alike_value.reads i r ∙ u))
    ]))

memory_writes : (size : ℕ) (file_storage : Option ℕ) (patterns : List Pattern) (form : FormModel) → IsIntoMemory file_storage patterns size form → (i r : ℕ) → writes (operation_of file_storage patterns (record { pattern = form.pattern; setting = i })) r ≡ true → ⊥
memory_writes size file_storage patterns form f i r e = true≢false (sym e ∙ ap (λ (p : Option Pattern). writes (operation_or_none file_storage p i) r) f.is)

-- a form that writes the file
file_read : (temps size : ℕ) (file_storage : Option ℕ) (patterns : List Pattern) (form : FormModel) (tree : ExprModel) (whole : Bool) (found : MatchModel) → IsIntoFile file_storage patterns size form
    → matched temps form.value tree whole ≡ Some found → (i r : ℕ)
    → reads (operation_of file_storage patterns (record { pattern = form.pattern; setting = i })) (register r) ≡ true → IsIdOf (operands_of found.leaves) r
file_read temps size file_storage patterns form tree whole found f h i r e =
    let e' : (expr_reads i f.addr (register r) || expr_reads i f.value (register r)) ≡ true = sym (ap (λ (p : Option Pattern). reads (operation_or_none file_storage p i) (register r)) f.is) ∙ e in
    elim (or_cases (expr_reads i f.addr (register r)) (expr_reads i f.value (register r)) e') as (λ _. IsIdOf (operands_of found.leaves) r) [
      | inl u ↦ absurd (true≢false (sym (f.alike_addr.reads i r ∙ u) ∙ shape_unread f.at i r f.shape))
      | inr u ↦ (matched_taken temps no_state form.value tree whole found h).given size f.shown_value i r (f.alike_value.reads i r ∙ u)
    ]

file_writes : (size : ℕ) (file_storage : Option ℕ) (patterns : List Pattern) (form : FormModel) → IsIntoFile file_storage patterns size form → (i r : ℕ) → writes (operation_of file_storage patterns (record { pattern = form.pattern; setting = i })) r ≡ true → ⊥
file_writes size file_storage patterns form f i r e = true≢false (sym e ∙ ap (λ (p : Option Pattern). writes (operation_or_none file_storage p i) r) f.is)

form_step_of : (temps size : ℕ) (file_storage : Option ℕ) (patterns : List Pattern) (count : ℕ) (form : FormModel) (goal : GoalModel) (destination : DestinationModel) (tree : ExprModel) (whole : Bool) (found : MatchModel)
    → IsFormed file_storage patterns count size form goal → HasStep destination → goal_match temps form goal destination tree whole ≡ Some found → IsFormStep file_storage patterns form destination found
form_step_of temps size file_storage patterns count form (into_reg q) (into id) tree whole found f s h =
    let c : ((q == id) ≡ true) × (matched temps form.value tree whole ≡ Some found) = picked (q == id) (matched temps form.value tree whole) found h in
    let same : q ≡ id = eqb-true q id c.0 in
    record {
      read = λ i r e. (matched_taken temps no_state form.value tree whole found c.1).given size f.shown i r
          (f.alike.reads i r ∙ sym (ap (λ (p : Option Pattern). reads (operation_or_none file_storage p i) (register r)) f.is) ∙ e);
      owns = λ i r e. ap (λ (p : Option Pattern). writes (operation_or_none file_storage p i) r) f.is ∙ eq-eqb q r (same ∙ e);
      owned = λ i r e. sym same ∙ eqb-true q r (sym (ap (λ (p : Option Pattern). writes (operation_or_none file_storage p i) r) f.is) ∙ e);
    }
form_step_of temps size file_storage patterns count form into_file filed tree whole found f s h =
    record { read = file_read temps size file_storage patterns form tree whole found f h; owns = λ i r e. absurd e; owned = file_writes size file_storage patterns form f }
form_step_of temps size file_storage patterns count form into_memory (cell a) tree whole found f s h =
    record { read = memory_step temps size file_storage patterns form (cell a) tree true found f h; owns = λ i r e. absurd e; owned = memory_writes size file_storage patterns form f }
form_step_of temps size file_storage patterns count form into_memory (stored a) tree whole found f s h =
    record { read = memory_step temps size file_storage patterns form (stored a) tree false found f h; owns = λ i r e. absurd e; owned = memory_writes size file_storage patterns form f }
form_step_of temps size file_storage patterns count form into_memory temporary tree whole found f s h =
    record { read = memory_step temps size file_storage patterns form temporary tree false found f h; owns = λ i r e. absurd e; owned = memory_writes size file_storage patterns form f }
form_step_of temps size file_storage patterns count form (branches when_one to) tested tree whole found f s h = absurd s
form_step_of temps size file_storage patterns count form goal destination tree whole found f s h = absurd (cc)

-- the pattern's clobbers are those of each of its forms
clobbers_first : (forms : List FormModel) (p k : ℕ) (form : FormModel) → slice_get forms k ≡ Some form → form.pattern ≡ p → (j : ℕ) × (a : FormModel) × (slice_get forms j ≡ Some a) × (a.pattern ≡ p) × (clobbers_of forms p ≡ a.clobbers)
clobbers_first [] p k form h e = absurd (cc)
clobbers_first (a ∷ forms) p zero form h e =
    let q : a ≡ form = cc in
    let ep : a.pattern ≡ p = ap (λ (z : FormModel). z.pattern) q ∙ e in
    (0, a, refl, ep, rw (eq-eqb a.pattern p ep) refl)
clobbers_first (a ∷ forms) p (suc k) form h e =
    elim (cases_Bool (a.pattern == p))
    as (λ _. (j : ℕ) × (b : FormModel) × (slice_get (a ∷ forms) j ≡ Some b) × (b.pattern ≡ p) × (clobbers_of (a ∷ forms) p ≡ b.clobbers)) [
      | inl u ↦ (0, a, refl, eqb-true a.pattern p u, rw u refl)
      | inr u ↦ let (j, b, eb, ep, ec) = clobbers_first forms p k form h e in (suc j, b, eb, ep, rw u ec)
    ]

pub clobbers_at : (forms : List FormModel) → AreShared forms → (k : ℕ) (form : FormModel) → slice_get forms k ≡ Some form → clobbers_of forms form.pattern ≡ form.clobbers
clobbers_at forms shared k form h =
    let (j, a, ea, ep, ec) = clobbers_first forms form.pattern k form h refl in
    ec ∙ shared j k a form ea h ep

-- ---- operands

pub id_split : (left : List OperandCellsModel) (i : ℕ) (cells : OperandCellsModel) (r : ℕ) → slice_get left i ≡ Some cells → IsIdOf (operands_in left) r → (cells.operand.home ≡ in_register r) ⊎ IsIdOf (operands_in (remove left i)) r
id_split [] i cells r e h = absurd h
id_split (x ∷ left) zero cells r e (inl h) = inl (let q : cells ≡ x = cc in ap (λ (z : OperandCellsModel). z.operand.home) q ∙ h)
id_split (x ∷ left) zero cells r e (inr h) = inr h
id_split (x ∷ left) (suc i) cells r e (inl h) = inr (inl h)
id_split (x ∷ left) (suc i) cells r e (inr h) =
    elim (id_split left i cells r e h) as (λ _. (cells.operand.home ≡ in_register r) ⊎ IsIdOf (operands_in (remove (x ∷ left) (suc i))) r) [ inl u ↦ inl u | inr u ↦ inr (inr u) ]

operand_split : (left : List Operand) (i : ℕ) (o : Operand) (r : ℕ) → slice_get left i ≡ Some o → IsIdOf left r → (o.home ≡ in_register r) ⊎ IsIdOf (remove left i) r
operand_split [] i o r e h = absurd h
operand_split (x ∷ left) zero o r e (inl h) = inl (let q : o ≡ x = cc in ap (λ (z : Operand). z.home) q ∙ h)
operand_split (x ∷ left) zero o r e (inr h) = inr h
operand_split (x ∷ left) (suc i) o r e (inl h) = inr (inl h)
operand_split (x ∷ left) (suc i) o r e (inr h) =
    elim (operand_split left i o r e h) as (λ _. (o.home ≡ in_register r) ⊎ IsIdOf (remove (x ∷ left) (suc i)) r) [ inl u ↦ inl u | inr u ↦ inr (inr u) ]

-- an operand's home is its cover's own register
pub home_own : (home : HomeModel) (r : ℕ) → home ≡ in_register r → IsOwn (home_destination home) r
home_own (in_register id) r e = cc
home_own (in_file shape) r e = absurd (cc)

pub home_step : (home : HomeModel) → HasStep (home_destination home)
home_step (in_register id) = tt
home_step (in_file shape) = tt

live_parts : (a b d : Bool) → ((a || false) || (b && not (d || false))) ≡ true → (a ≡ true) ⊎ ((b ≡ true) × (d ≡ false))
live_parts true b d e = inl refl
live_parts false true false e = inr (refl, refl)
live_parts false true true e = absurd (true≢false (sym e))
live_parts false false d e = absurd (true≢false (sym e))

spare_or : (n w : Bool) → (n ≡ true → w ≡ false → ⊥) → w ≡ false → n ≡ false
spare_or true w f e = absurd (f refl e)
spare_or false w f e = refl

module _ (m : Step → Operation) (c : Step → Regs) (pc : ℕ) where
  -- the operands' steps, and then the form's own
  tidy_form : (xs : List Step) (x : Step) (after : Regs) (Ids Own : ℕ → Type 0) → IsTidy m c pc xs (live_before m (singles (x ∷ [])) after) Ids
      → ((r : ℕ) → c x r ≡ true → writes (m x) r ≡ false → after r ≡ false) → (reads (m x) (register pc) ≡ false) → (writes (m x) pc ≡ false)
      → ((r : ℕ) → reads (m x) (register r) ≡ true → Ids r) → ((r : ℕ) → Own r → writes (m x) r ≡ true)
      → IsTidy m c pc (xs ++ x ∷ []) after Own
  tidy_form xs x after Ids Own t s ar aw rd wr = record {
    spare = spare-append m c pc xs (x ∷ []) after t.spare (s, tt);
    apart = apart-append m c pc xs (x ∷ []) t.apart (ar, aw, tt);
    live = λ r h. (kept r h).0;
    gone = λ r h o. true≢false (sym (wr r o) ∙ (kept r h).1);
  }
    where
      kept : (r : ℕ) → live_before m (singles (xs ++ x ∷ [])) after r ≡ true → (after r ≡ true) × (writes (m x) r ≡ false)
      kept r h =
          let first : live_before m (singles xs) (live_before m (singles (x ∷ [])) after) r ≡ true = sym (ap (λ (l : Regs). l r) (live-steps m c pc xs (x ∷ []) after)) ∙ h in
          elim (live_parts (reads (m x) (register r)) (after r) (writes (m x) r) (t.live r first)) as (λ _. (after r ≡ true) × (writes (m x) r ≡ false)) [
            | inl u ↦ absurd (t.gone r first (rd r u))
            | inr u ↦ u
          ]

module _ (stock : StockModel) (file_storage : Option ℕ) (patterns : List Pattern) (count pc : ℕ) (formed : AreFormed file_storage patterns count stock.file stock.forms) (shared : AreShared stock.forms) (counter : ReadsCounter stock.forms pc) where
  abbrev m : Step → Operation
  m = operation_of file_storage patterns

  abbrev c : Step → Regs
  c = step_clobbers stock.forms

  -- a clobber of a form's step is written by its cover
  clobber_written : (k : ℕ) (form : FormModel) (ps : CoverOperandsModel) (cs : CoverCutsModel) (i r : ℕ) → slice_get stock.forms k ≡ Some form → c (record { pattern = form.pattern; setting = i }) r ≡ true
      → bit_at (written stock.forms (use_form k ps cs)) r ≡ 1
  clobber_written k form ps cs i r h e =
      writes_own stock.forms k form ps cs r h (ap (λ n. bit_at n r) (sym (clobbers_at stock.forms shared k form h)) ∙ eqb-true (bit_at (clobbers_of stock.forms form.pattern) r) 1 e)

  part_written : (a b r : ℕ) → bit_at b r ≡ 1 → bit_at (bit_or a b) r ≡ 1
  part_written a b r e = omega (arith, bit_at_or a b r, e, bit_at-lt a r)

  part_written_left : (a b r : ℕ) → bit_at a r ≡ 1 → bit_at (bit_or a b) r ≡ 1
  part_written_left a b r e = omega (arith, bit_at_or a b r, e, bit_at-lt b r)

  -- ---- nothing goes into the program counter

  record IsNoCounter (p : CoverModel) : Type 0 where
    none : (tree : ExprModel) (whole : Bool) → IsOrderly stock (into pc) tree whole p → ⊥

  record AreNoCounter (ps : CoverOperandsModel) : Type 0 where
    none : (left : List Operand) → AreOrderly stock left ps → IsIdOf left pc → ⊥

  goal_is : (temps : ℕ) (form : FormModel) (goal : GoalModel) (id : ℕ) (tree : ExprModel) (whole : Bool) (found : MatchModel) → goal_match temps form goal (into id) tree whole ≡ Some found
      → (goal ≡ into_reg id) × (matched temps form.value tree whole ≡ Some found)
  goal_is temps form (into_reg q) id tree whole found h =
      let d : ((q == id) ≡ true) × (matched temps form.value tree whole ≡ Some found) = picked (q == id) (matched temps form.value tree whole) found h in
      (ap (λ n. into_reg n) (eqb-true q id d.0), d.1)
  goal_is temps form goal id tree whole found h = absurd (cc)

  into_shown : (form : FormModel) (r : ℕ) → form.goal ≡ into_reg r → IsFormed file_storage patterns count stock.file form form.goal → CellsShown stock.file form.value
  into_shown form r e f = (subst (IsFormed file_storage patterns count stock.file form) e f).shown

  form_no_counter : (k : ℕ) (ps : CoverOperandsModel) (cs : CoverCutsModel) → AreNoCounter ps → IsNoCounter (use_form k ps cs)
  form_no_counter k ps cs h = record { none = none' }
    where
      none' : (tree : ExprModel) (whole : Bool) → IsOrderly stock (into pc) tree whole (use_form k ps cs) → ⊥
      none' tree whole o =
          let w : IsOpened stock k ps cs (into pc) tree whole = opened_cover stock k ps cs (into pc) tree whole o in
          let g : ((form_at stock k).goal ≡ into_reg pc) × (matched stock.temps (form_at stock k).value tree whole ≡ Some (match_at stock k (into pc) tree whole)) =
          goal_is stock.temps (form_at stock k) (form_at stock k).goal pc tree whole (match_at stock k (into pc) tree whole) w.takes in
          let (i, e) = counter k (form_at stock k) w.listed g.0 in
          h.none (operands_of (match_at stock k (into pc) tree whole).leaves) w.operands
          ((matched_taken stock.temps no_state (form_at stock k).value tree whole (match_at stock k (into pc) tree whole) g.1).given stock.file (into_shown (form_at stock k) pc g.0 (formed k (form_at stock k) w.listed)) i pc e)

  operand_no_counter : (i : ℕ) (p : CoverModel) (ps : CoverOperandsModel) → IsNoCounter p → AreNoCounter ps → AreNoCounter (operand_then i p ps)
  operand_no_counter i p ps h k = record { none = none' }
    where
      none' : (left : List Operand) → AreOrderly stock left (operand_then i p ps) → IsIdOf left pc → ⊥
      none' left o d =
          elim (operand_split left i o.0 pc o.1 d) as (λ _. ⊥) [
            | inl e ↦ h.none o.0.tree o.0.whole (subst (λ n. IsOrderly stock (home_destination n) o.0.tree o.0.whole p) e o.2)
            | inr e ↦ k.none (remove left i) o.4 e
          ]

  none_no_counter : AreNoCounter no_operands
  none_no_counter = record { none = λ left o d. subst (λ z. IsIdOf z pc) o d }

  mutual
    no_counter : (p : CoverModel) → IsNoCounter p
    no_counter (use_form k ps cs) = form_no_counter k ps cs (no_counters ps)

    no_counters : (ps : CoverOperandsModel) → AreNoCounter ps
    no_counters no_operands = none_no_counter
    no_counters (operand_then i p ps) = operand_no_counter i p ps (no_counter p) (no_counters ps)

  -- ---- covers

  record IsSpared (p : CoverModel) : Type 0 where
    own : (n held : ℕ) (destination : DestinationModel) (tree : ExprModel) (whole : Bool) → IsOrderly stock destination tree whole p → HasStep destination → (after : Regs)
        → ((r : ℕ) → after r ≡ true → bit_at (written stock.forms p) r ≡ 1 → IsOwn destination r) → IsTidy m c pc (own_steps stock p n held destination tree whole) after (IsOwn destination)
    cuts : (n : ℕ) (destination : DestinationModel) (tree : ExprModel) (whole : Bool) → IsOrderly stock destination tree whole p → IsAlone m c pc (cut_steps stock p n destination tree whole)

  record AreSpared (ps : CoverOperandsModel) : Type 0 where
    own : (held : ℕ) (left : List OperandCellsModel) → AreOrderly stock (operands_in left) ps → (after : Regs)
        → ((r : ℕ) → after r ≡ true → bit_at (all_written stock.forms ps) r ≡ 1 → IsIdOf (operands_in left) r) → IsTidy m c pc (operand_steps stock ps left held) after (IsIdOf (operands_in left))
    cuts : (left : List OperandCellsModel) → AreOrderly stock (operands_in left) ps → Each (IsAlone m c pc) (inside_operands stock ps left)

  record CutsSpared (cs : CoverCutsModel) : Type 0 where
    cuts : (cuts : List CutCellsModel) → AreCut stock (trees_in cuts) cs → Each (IsAlone m c pc) (into_cells stock cs cuts)

  none_spared : AreSpared no_operands
  none_spared = record { own = own'; cuts = λ left o. tt }
    where
      own' : (held : ℕ) (left : List OperandCellsModel) → AreOrderly stock (operands_in left) no_operands → (after : Regs)
          → ((r : ℕ) → after r ≡ true → bit_at (all_written stock.forms no_operands) r ≡ 1 → IsIdOf (operands_in left) r) → IsTidy m c pc [] after (IsIdOf (operands_in left))
      own' held left o after f = record { spare = tt; apart = tt; live = λ r h. h; gone = λ r h d. subst (λ z. IsIdOf z r) o d }

  operand_spared : (i : ℕ) (p : CoverModel) (ps : CoverOperandsModel) → IsSpared p → AreSpared ps → AreSpared (operand_then i p ps)
  operand_spared i p ps h k = record { own = own'; cuts = cuts' }
    where
      own' : (held : ℕ) (left : List OperandCellsModel) → AreOrderly stock (operands_in left) (operand_then i p ps) → (after : Regs)
          → ((r : ℕ) → after r ≡ true → bit_at (all_written stock.forms (operand_then i p ps)) r ≡ 1 → IsIdOf (operands_in left) r)
          → IsTidy m c pc (operand_steps stock (operand_then i p ps) left held) after (IsIdOf (operands_in left))
      own' held left o after f =
          let cells : OperandCellsModel = operand_cells_or_none (slice_get left i) in
          let w : IsOpenedOperand stock left i cells p ps = opened_operand stock left i p ps o in
          let more : ℕ = holding held (cell_of stock p held) in
          let first : List Step = own_steps stock p cells.first held (home_destination cells.operand.home) cells.operand.tree cells.operand.whole in
          let later : List Step = operand_steps stock ps (remove left i) more in
          let t : IsTidy m c pc later after (IsIdOf (operands_in (remove left i))) = k.own more (remove left i) w.rest after (λ r a b. rest_id r a b cells w) in
          let u : IsTidy m c pc first (live_before m (singles later) after) (IsOwn (home_destination cells.operand.home)) =
          h.own cells.first held (home_destination cells.operand.home) cells.operand.tree cells.operand.whole w.orderly (home_step cells.operand.home) (live_before m (singles later) after)
          (λ r a b. home_own cells.operand.home r (own_id r cells w (t.live r a) (t.gone r a) b)) in
          tidy_append m c pc first later after (IsOwn (home_destination cells.operand.home)) (IsIdOf (operands_in (remove left i))) (IsIdOf (operands_in left)) u t
          (λ r d. elim (id_split left i cells r w.at d) as (λ _. IsOwn (home_destination cells.operand.home) r ⊎ IsIdOf (operands_in (remove left i)) r) [ inl e ↦ inl (home_own cells.operand.home r e) | inr e ↦ inr e ])
        where
          rest_id : (r : ℕ) → after r ≡ true → bit_at (all_written stock.forms ps) r ≡ 1 → (cells : OperandCellsModel) → IsOpenedOperand stock left i cells p ps → IsIdOf (operands_in (remove left i)) r
          rest_id r a b cells w =
              elim (id_split left i cells r w.at (f r a (part_written (written stock.forms p) (all_written stock.forms ps) r b))) as (λ _. IsIdOf (operands_in (remove left i)) r) [
                | inl e ↦ absurd (let z : bit_at (all_written stock.forms ps) r ≡ 0 = w.apart r e in omega (arith, z, b))
                | inr d ↦ d
              ]

          own_id : (r : ℕ) (cells : OperandCellsModel) → IsOpenedOperand stock left i cells p ps → after r ≡ true → (IsIdOf (operands_in (remove left i)) r → ⊥) → bit_at (written stock.forms p) r ≡ 1 → cells.operand.home ≡ in_register r
          own_id r cells w a g b =
              elim (id_split left i cells r w.at (f r a (part_written_left (written stock.forms p) (all_written stock.forms ps) r b))) as (λ _. cells.operand.home ≡ in_register r) [
                | inl e ↦ e
                | inr d ↦ absurd (g d)
              ]

      cuts' : (left : List OperandCellsModel) → AreOrderly stock (operands_in left) (operand_then i p ps) → Each (IsAlone m c pc) (inside_operands stock (operand_then i p ps) left)
      cuts' left o =
          let cells : OperandCellsModel = operand_cells_or_none (slice_get left i) in
          let w : IsOpenedOperand stock left i cells p ps = opened_operand stock left i p ps o in
          each_in m c pc (IsAlone m c pc) (inside_operands stock ps (remove left i)) i
          (cut_steps stock p cells.first (home_destination cells.operand.home) cells.operand.tree cells.operand.whole)
          (h.cuts cells.first (home_destination cells.operand.home) cells.operand.tree cells.operand.whole w.orderly) (k.cuts (remove left i) w.rest)

  cut_spared : (p : CoverModel) (cs : CoverCutsModel) → IsSpared p → CutsSpared cs → CutsSpared (cut_then p cs)
  cut_spared p cs h k = record { cuts = cuts' }
    where
      cuts' : (cuts : List CutCellsModel) → AreCut stock (trees_in cuts) (cut_then p cs) → Each (IsAlone m c pc) (into_cells stock (cut_then p cs) cuts)
      cuts' [] o = absurd (cc (o.2))
      cuts' (cells ∷ cuts) o =
          let e : o.0 ≡ cells.tree = cc (o.2) in
          let e' : o.1 ≡ trees_in cuts = cc (o.2) in
          let d : IsOrderly stock temporary cells.tree false p = subst (λ t. IsOrderly stock temporary t false p) e o.3 in (
            alone_append m c pc (cut_steps stock p cells.first temporary cells.tree false) (own_steps stock p cells.first 0 temporary cells.tree false)
                (h.cuts cells.first temporary cells.tree false d)
                (λ after n. h.own cells.first 0 temporary cells.tree false d tt after (λ r a b. n r a)),
            k.cuts cuts (subst (λ ts. AreCut stock ts cs) e' o.5),
          )

  step_of : (form : FormModel) (destination : DestinationModel) (setting : ℕ) → HasStep destination → form_step form destination setting ≡ record { pattern = form.pattern; setting = setting } ∷ []
  step_of form (into id) setting h = refl
  step_of form filed setting h = refl
  step_of form (cell a) setting h = refl
  step_of form (stored a) setting h = refl
  step_of form temporary setting h = refl
  step_of form tested setting h = absurd h

  -- the program counter is no operand
  no_operand : (ps : CoverOperandsModel) (left : List Operand) → AreOrderly stock left ps → IsIdOf left pc → ⊥
  no_operand ps left o d = (no_counters ps).none left o d

  no_own : (k : ℕ) (ps : CoverOperandsModel) (cs : CoverCutsModel) (destination : DestinationModel) (tree : ExprModel) (whole : Bool) → IsOrderly stock destination tree whole (use_form k ps cs) → IsOwn destination pc → ⊥
  no_own k ps cs (into id) tree whole o e = (no_counter (use_form k ps cs)).none tree whole (subst (λ n. IsOrderly stock (into n) tree whole (use_form k ps cs)) e o)
  no_own k ps cs filed tree whole o e = e
  no_own k ps cs (cell a) tree whole o e = e
  no_own k ps cs (stored a) tree whole o e = e
  no_own k ps cs temporary tree whole o e = e
  no_own k ps cs tested tree whole o e = e

  form_spared : (k : ℕ) (ps : CoverOperandsModel) (cs : CoverCutsModel) → AreSpared ps → CutsSpared cs → IsSpared (use_form k ps cs)
  form_spared k ps cs hp hc = record { own = own'; cuts = cuts' }
    where
      own' : (n held : ℕ) (destination : DestinationModel) (tree : ExprModel) (whole : Bool) → IsOrderly stock destination tree whole (use_form k ps cs) → HasStep destination → (after : Regs)
          → ((r : ℕ) → after r ≡ true → bit_at (written stock.forms (use_form k ps cs)) r ≡ 1 → IsOwn destination r)
          → IsTidy m c pc (own_steps stock (use_form k ps cs) n held destination tree whole) after (IsOwn destination)
      own' n held destination tree whole o s after f =
          let w : IsOpened stock k ps cs destination tree whole = opened_cover stock k ps cs destination tree whole o in
          let form : FormModel = form_at stock k in
          let found : MatchModel = match_at stock k destination tree whole in
          let left : List OperandCellsModel = cover_operand_cells found.leaves ps cs n in
          let e : operands_in left ≡ operands_of found.leaves = cells_operands found.leaves (operand_counts ps) (cut_counts cs) n in
          let orderly : AreOrderly stock (operands_in left) ps = subst (λ z. AreOrderly stock z ps) (sym e) w.operands in
          let setting : ℕ = cover_setting stock (use_form k ps cs) n held destination tree whole in
          let step : Step = record { pattern = form.pattern; setting = setting } in
          let g : IsFormStep file_storage patterns form destination found =
          form_step_of stock.temps stock.file file_storage patterns count form form.goal destination tree whole found (formed k form w.listed) s w.takes in
          let read : (r : ℕ) → reads (m step) (register r) ≡ true → IsIdOf (operands_in left) r = λ r h. subst (λ z. IsIdOf z r) (sym e) (g.read setting r h) in
          let wrote : (r : ℕ) → after r ≡ true → bit_at (written stock.forms (use_form k ps cs)) r ≡ 1 → writes (m step) r ≡ false → ⊥ =
          λ r a b x. true≢false (sym (g.owns setting r (f r a b)) ∙ x) in
          let t : IsTidy m c pc (operand_steps stock ps left held) (live_before m (singles (step ∷ [])) after) (IsIdOf (operands_in left)) =
          hp.own held left orderly (live_before m (singles (step ∷ [])) after)
          (λ r a b. elim (live_parts (reads (m step) (register r)) (after r) (writes (m step) r) a) as (λ _. IsIdOf (operands_in left) r) [
            | inl u ↦ read r u
            | inr u ↦ absurd (wrote r u.0 (part_written _ (all_written stock.forms ps) r b) u.1)
          ]) in
          subst (λ z. IsTidy m c pc (operand_steps stock ps left held ++ z) after (IsOwn destination)) (sym (step_of form destination setting s))
          (tidy_form m c pc (operand_steps stock ps left held) step after (IsIdOf (operands_in left)) (IsOwn destination) t
          (λ r x y. spare_or (after r) (writes (m step) r) (λ a. wrote r a (clobber_written k form ps cs setting r w.listed x)) y)
          (false_from_ne_true (reads (m step) (register pc)) (λ h. no_operand ps (operands_in left) orderly (read pc h)))
          (false_from_ne_true (writes (m step) pc) (λ h. no_own k ps cs destination tree whole o (g.owned setting pc h)))
          read (λ r h. g.owns setting r h))

      cuts' : (n : ℕ) (destination : DestinationModel) (tree : ExprModel) (whole : Bool) → IsOrderly stock destination tree whole (use_form k ps cs) → IsAlone m c pc (cut_steps stock (use_form k ps cs) n destination tree whole)
      cuts' n destination tree whole o =
          let w : IsOpened stock k ps cs destination tree whole = opened_cover stock k ps cs destination tree whole o in
          let leaves : List LeafModel = (match_at stock k destination tree whole).leaves in
          let orderly : AreOrderly stock (operands_in (cover_operand_cells leaves ps cs n)) ps =
          subst (λ z. AreOrderly stock z ps) (sym (cells_operands leaves (operand_counts ps) (cut_counts cs) n)) w.operands in
          let cut : AreCut stock (trees_in (cover_cut_cells leaves ps cs n)) cs =
          subst (λ z. AreCut stock z cs) (sym (cells_trees leaves (operand_counts ps) (cut_counts cs) n)) w.cuts in
          woven_alone m c pc leaves (inside_operands stock ps (cover_operand_cells leaves ps cs n)) (into_cells stock cs (cover_cut_cells leaves ps cs n))
          (hp.cuts (cover_operand_cells leaves ps cs n) orderly) (hc.cuts (cover_cut_cells leaves ps cs n) cut)

  mutual
    spared : (p : CoverModel) → IsSpared p
    spared (use_form k ps cs) = form_spared k ps cs (spared_operands ps) (spared_cuts cs)

    spared_operands : (ps : CoverOperandsModel) → AreSpared ps
    spared_operands no_operands = none_spared
    spared_operands (operand_then i p ps) = operand_spared i p ps (spared p) (spared_operands ps)

    spared_cuts : (cs : CoverCutsModel) → CutsSpared cs
    spared_cuts no_cuts = record { cuts = λ cuts o. tt }
    spared_cuts (cut_then p cs) = cut_spared p cs (spared p) (spared_cuts cs)

  -- ---- the whole list

  left_alone : (r : ℕ) → no_regs r ≡ true → ⊥
  left_alone r h = true≢false (sym h)

  stored_spare : (destination : DestinationModel) (tree : ExprModel) (cover : CoverModel) → HasStep destination → (wanted stock destination tree cover ≡ no_regs) → ((r : ℕ) → IsOwn destination r → ⊥) → IsOrderly stock destination tree true cover
      → AreSpare stock file_storage patterns pc destination tree cover
  stored_spare destination tree cover s e n o =
      let t : IsTidy m c pc (own_steps stock cover 0 0 destination tree true) no_regs (IsOwn destination) = (spared cover).own 0 0 destination tree true o s no_regs (λ r a b. absurd (left_alone r a)) in
      let u : IsTidy m c pc (cut_steps stock cover 0 destination tree true) (live_before m (singles (own_steps stock cover 0 0 destination tree true)) no_regs) (λ r. ⊥) =
      (spared cover).cuts 0 destination tree true o (live_before m (singles (own_steps stock cover 0 0 destination tree true)) no_regs) (λ r a. left_alone r (t.live r a)) in
      let w : IsTidy m c pc (cover_steps stock destination tree cover) no_regs (λ r. ⊥) =
      tidy_append m c pc (cut_steps stock cover 0 destination tree true) (own_steps stock cover 0 0 destination tree true) no_regs (λ r. ⊥) (IsOwn destination) (λ r. ⊥) u t (λ r h. inl h) in
      record {
        spare = subst (λ (z : Regs). AllSpare m c (cover_steps stock destination tree cover) z) (sym e) w.spare;
        given = subst (λ (z : Regs). AreDefined m no_regs (cover_steps stock destination tree cover) z) (sym e)
            (given_of m c pc (cover_steps stock destination tree cover) no_regs no_regs (λ r h. w.live r h));
        apart = w.apart;
        unwanted = ap (λ (z : Regs). z pc) e;
      }

  test_given : (temps : ℕ) (form : FormModel) (goal : GoalModel) (tree : ExprModel) (whole : Bool) (found : MatchModel) → IsFormed file_storage patterns count stock.file form goal → goal_match temps form goal tested tree whole ≡ Some found → (i r : ℕ)
      → expr_reads i form.value (register r) ≡ true → IsIdOf (operands_of found.leaves) r
  test_given temps form (branches when_one to) tree whole found f h i r e = (matched_taken temps no_state form.value tree true found h).given stock.file f.1 i r e
  test_given temps form goal tree whole found f h i r e = absurd (cc)

  append_none : (xs : List Step) → xs ≡ xs ++ []
  append_none [] = refl
  append_none (x ∷ xs) = ap (λ z. x ∷ z) (append_none xs)

  test_spare : (tree : ExprModel) (k : ℕ) (ps : CoverOperandsModel) (cs : CoverCutsModel) → IsOrderly stock tested tree true (use_form k ps cs) → AreSpare stock file_storage patterns pc tested tree (use_form k ps cs)
  test_spare tree k ps cs o =
      let cover : CoverModel = use_form k ps cs in
      let after : Regs = wanted stock tested tree cover in
      let w : IsOpened stock k ps cs tested tree true = opened_cover stock k ps cs tested tree true o in
      let found : MatchModel = match_at stock k tested tree true in
      let left : List OperandCellsModel = cover_operand_cells found.leaves ps cs 0 in
      let e : operands_in left ≡ operands_of found.leaves = cells_operands found.leaves (operand_counts ps) (cut_counts cs) 0 in
      let orderly : AreOrderly stock (operands_in left) ps = subst (λ z. AreOrderly stock z ps) (sym e) w.operands in
      let read : (r : ℕ) → after r ≡ true → IsIdOf (operands_in left) r =
      λ r h. subst (λ z. IsIdOf z r) (sym e) (test_given stock.temps (form_at stock k) (form_at stock k).goal tree true found (formed k (form_at stock k) w.listed) w.takes (branch_setting stock tree cover) r h) in
      let t' : IsTidy m c pc (operand_steps stock ps left 0) after (IsIdOf (operands_in left)) = (spared_operands ps).own 0 left orderly after (λ r a b. read r a) in
      let t : IsTidy m c pc (own_steps stock cover 0 0 tested tree true) after (IsIdOf (operands_in left)) =
      subst (λ z. IsTidy m c pc z after (IsIdOf (operands_in left))) (append_none (operand_steps stock ps left 0)) t' in
      let none : (r : ℕ) → live_before m (singles (own_steps stock cover 0 0 tested tree true)) after r ≡ true → ⊥ = λ r a. t.gone r a (read r (t.live r a)) in
      let u : IsTidy m c pc (cut_steps stock cover 0 tested tree true) (live_before m (singles (own_steps stock cover 0 0 tested tree true)) after) (λ r. ⊥) =
      (spared cover).cuts 0 tested tree true o (live_before m (singles (own_steps stock cover 0 0 tested tree true)) after) none in
      let all : IsTidy m c pc (cover_steps stock tested tree cover) after (IsIdOf (operands_in left)) =
      tidy_append m c pc (cut_steps stock cover 0 tested tree true) (own_steps stock cover 0 0 tested tree true) after (λ r. ⊥) (IsIdOf (operands_in left)) (IsIdOf (operands_in left)) u t (λ r h. inr h) in
      record {
        spare = all.spare;
        given = given_of m c pc (cover_steps stock tested tree cover) no_regs after (λ r h. absurd (all.gone r h (read r (all.live r h))));
        apart = all.apart;
        unwanted = false_from_ne_true (after pc) (λ h. no_operand ps (operands_in left) orderly (read pc h));
      }

  -- the second half of what the steps of an orderly cover promise
  pub steps_spare : (destination : DestinationModel) (tree : ExprModel) (cover : CoverModel) → IsOfJob destination → IsOrderly stock destination tree true cover → AreSpare stock file_storage patterns pc destination tree cover
  steps_spare (cell a) tree cover j o = stored_spare (cell a) tree cover tt refl (λ r h. h) o
  steps_spare (stored a) tree cover j o = stored_spare (stored a) tree cover tt refl (λ r h. h) o
  steps_spare tested tree (use_form k ps cs) j o = test_spare tree k ps cs o
  steps_spare (into id) tree cover j o = absurd j
  steps_spare filed tree cover j o = absurd j
  steps_spare temporary tree cover j o = absurd j
