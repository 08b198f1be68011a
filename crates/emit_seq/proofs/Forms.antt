-- The form's own step puts the tree's value into its destination.
use Rattle.std.proofs.Common.{◌≡◌, ℕ, ◌<◌, ◌≤◌, ◌==◌, ◌&&◌, max, bit_or, Bool, true, false, if◌then◌else◌, List, [], ◌∷◌, ◌++◌, slice_index, slice_set, Option, Some, None, inl, inr, ◌⊎◌, refl, sym, ap, ◌∙◌, subst, arith}
use Rattle.std.specs.Int.{bit_at}
use Rattle.std.proofs.lemmas.Nat.Bits.{bit_at-zero, bit_at_or}
use Rattle.std.proofs.lemmas.Bool.{true≢false, eqb-true, and_parts, cases_Bool}
use Rattle.rec_bits.proofs.Options.{picked}
use Rattle.net_model.specs.declared.states.State.{State}
use Rattle.net_model.specs.Exprs.{ExprModel, const, expr_width}
use Rattle.net_model.specs.Meaning.{mean}
use Rattle.net_model.specs.MemoryText.{with_cell}
use Rattle.net_model.specs.Patterns.{Pattern}
use Rattle.form_model.specs.Shapes.{is_shape, shape_setting, shows_below}
use Rattle.form_model.specs.Forms.{FormModel, GoalModel, into_reg, into_memory, into_file, branches, DestinationModel, into, filed, cell, stored, temporary, tested}
use Rattle.form_model.specs.Matches.{MatchModel, settled, both, matched, address_match, goal_match}
use Rattle.form_model.specs.Effects.{operation_or_none, operation_of, apply_operation, steps_effect}
use Rattle.form_model.specs.Steps.{CutCellsModel, bits_or_none, cell_in, tied_cell, address_setting, own_setting, whole_setting, form_step}
use Rattle.form_model.specs.Bits.{uses}
use Rattle.emit_seq.specs.Formed.{IsOnce, CellsShown, IsTied, IsIntoReg, IsIntoMemory, IsIntoFile, IsFormed}
use Rattle.emit_seq.specs.Leaves.{ReadsFrom, placed, DestinationReads}
use Rattle.form_model.proofs.SettingLaws.{IsSetting, shape_sets}
use Rattle.emit_seq.proofs.BitUnions.{or_left, or_right}
use Rattle.emit_seq.proofs.Matched.{Joined, joined, some_bits, shown_below, settled_some, Holds, Split, split, open_bits, bits_in, none_open, IsMeant, AreMeant, two_meant, matched_meant}
use Rattle.emit_seq.proofs.Tied.{HasHomes, matched_homes}

-- where the temporary cell that is written lies
abbrev pub OwnBelow : DestinationModel → ℕ → ℕ → Type 0
OwnBelow temporary own temps = own < temps
OwnBelow destination own temps = Unit {0}

-- the cell of the file that is written: one of the file's, and that of the tied operand
abbrev pub OwnIn : DestinationModel → FormModel → List (Option ℕ) → Option ℕ → ℕ → Type 0
OwnIn filed form homes home size =
    (c : ℕ) × (home ≡ Some c) × (c < size) × ((d : ℕ) → tied_cell form.tied homes ≡ Some d → d ≡ c)
OwnIn destination form homes home size = Unit {0}

module _ (temps size : ℕ) (before now : State) (same : (c : ℕ) → temps ≤ c → slice_index now.cells c ≡ slice_index before.cells c) (file_storage : Option ℕ) (patterns : List Pattern) (count : ℕ) where
  -- a step of a register
  reg_step : (form : FormModel) (r v setting : ℕ) (f : IsIntoReg patterns count size form r) → mean form.value now setting ≡ v
      → steps_effect (operation_of file_storage patterns) (record { pattern = form.pattern; setting = setting } ∷ []) now ≡ record now { regs = slice_set now.regs r v }
  reg_step form r v setting f e =
      ap (λ (p : Option Pattern). apply_operation (operation_or_none file_storage p setting) now now) f.is
      ∙ ap (λ x. record now { regs = slice_set now.regs r x }) (sym (f.alike.means now setting) ∙ e)

  -- a step of the memory
  memory_step : (form : FormModel) (a v setting : ℕ) (f : IsIntoMemory file_storage patterns size form) → mean f.at now setting ≡ a → mean form.value now setting ≡ v
      → steps_effect (operation_of file_storage patterns) (record { pattern = form.pattern; setting = setting } ∷ []) now ≡ record now { cells = slice_set now.cells a v }
  memory_step form a v setting f ea e =
      ap (λ (p : Option Pattern). apply_operation (operation_or_none file_storage p setting) now now) f.is
      ∙ ap (λ space. with_cell now space (mean f.addr now setting) (mean f.value now setting)) f.other
      ∙ ap (λ x. record now { cells = slice_set now.cells x (mean f.value now setting) }) (sym (f.alike_addr.means now setting) ∙ ea)
      ∙ ap (λ x. record now { cells = slice_set now.cells a x }) (sym (f.alike_value.means now setting) ∙ e)

  -- a step of the file
  file_step : (form : FormModel) (a v setting : ℕ) (f : IsIntoFile file_storage patterns size form) → mean f.at now setting ≡ a → mean form.value now setting ≡ v
      → steps_effect (operation_of file_storage patterns) (record { pattern = form.pattern; setting = setting } ∷ []) now ≡ record now { file = slice_set now.file a v }
  file_step form a v setting f ea e =
      ap (λ (p : Option Pattern). apply_operation (operation_or_none file_storage p setting) now now) f.is
      ∙ ap (λ space. with_cell now space (mean f.addr now setting) (mean f.value now setting)) f.own
      ∙ ap (λ x. record now { file = slice_set now.file x (mean f.value now setting) }) (sym (f.alike_addr.means now setting) ∙ ea)
      ∙ ap (λ x. record now { file = slice_set now.file a x }) (sym (f.alike_value.means now setting) ∙ e)

  -- the value alone, whose setting has no other bits
  value_means : (e t : ExprModel) (whole : Bool) (f : MatchModel) (cuts : List CutCellsModel) (homes : List (Option ℕ)) → matched temps e t whole ≡ Some f → IsOnce e → CellsShown size e → ReadsFrom temps before t → Holds temps size before now f.leaves cuts homes
      → mean e now (bit_or (bits_in f cuts homes) 0) ≡ mean t before 0
  value_means e t whole f cuts homes h o q r k =
      let m : IsMeant temps size before now e t f cuts homes = matched_meant temps size before now same e o q t whole f cuts homes h r k in
      m.means (bit_or (bits_in f cuts homes) 0) (λ j u. or_left (bits_in f cuts homes) 0 j (bit_at-zero j))

  -- an address that is a shape, at a cell
  shape_address : (at : ExprModel) (a : ℕ) (f : MatchModel) (cuts : List CutCellsModel) (homes : List (Option ℕ)) → (if is_shape at then settled (shape_setting at a) else None) ≡ Some f → Holds temps size before now f.leaves cuts homes
      → IsMeant temps size before now at (const (expr_width at) a) f cuts homes
  shape_address at a f cuts homes h k =
      let p : (is_shape at ≡ true) × (settled (shape_setting at a) ≡ Some f) = picked (is_shape at) (settled (shape_setting at a)) f h in
      let (b, e, q) = settled_some (shape_setting at a) f p.1 in
      let shown : IsSetting at a b = shape_sets at a b e in
      let none : (cuts ≡ []) × (homes ≡ []) = subst (λ (z : MatchModel). Holds temps size before now z.leaves cuts homes) (sym q) k in
      let set : (j : ℕ) → bit_at (bits_in f cuts homes) j ≡ bit_at b j =
      λ j. ap (λ (z : MatchModel). bit_at (bits_in z cuts homes) j) (sym q) ∙ ap (λ z. bit_at (bit_or b (open_bits [] z homes)) j) none.0
      ∙ ap (λ z. bit_at (bit_or b (open_bits [] [] z)) j) none.1 ∙ none_open b j in
      record { width = refl; within = λ j u. set j ∙ shown.within j u; means = λ i u. shown.means now i (λ j w. u j w ∙ set j) }

  -- a write at an address that the setting or a tree gives
  address_done : (form : FormModel) (f : IsIntoMemory file_storage patterns size form) (at_tree tree : ExprModel) (whole : Bool) (o : Option MatchModel) (found : MatchModel) (cuts : List CutCellsModel) (homes : List (Option ℕ))
      → both o (matched temps form.value tree whole) ≡ Some found
      → ((x : MatchModel) (rs : List CutCellsModel) (hs : List (Option ℕ)) → o ≡ Some x → Holds temps size before now x.leaves rs hs → IsMeant temps size before now f.at at_tree x rs hs)
      → ReadsFrom temps before tree → Holds temps size before now found.leaves cuts homes
      → steps_effect (operation_of file_storage patterns) (record { pattern = form.pattern; setting = bit_or (bits_in found cuts homes) 0 } ∷ []) now
      ≡ record now { cells = slice_set now.cells (mean at_tree before 0) (mean tree before 0) }
  address_done form f at_tree tree whole o found cuts homes h g r k =
      let j : Joined o (matched temps form.value tree whole) found = joined _ _ _ h in
      let s : Split temps size before now j.first.leaves j.second.leaves cuts homes =
      split temps size before now j.first.leaves j.second.leaves cuts homes (subst (λ (z : MatchModel). Holds temps size before now z.leaves cuts homes) (sym j.is) k) in
      let m : AreMeant temps size before now f.at form.value at_tree tree found cuts homes =
      two_meant temps size before now f.at form.value at_tree tree j.first j.second found cuts s.front s.back homes s.fronts s.backs j.is s.bits_of f.apart f.apart_back
      (g j.first s.front s.fronts j.is_first s.first)
      (matched_meant temps size before now same form.value f.once_value f.shown_value tree whole j.second s.back s.backs j.is_second r s.second) in
      let set : (i : ℕ) → bit_at (bit_or (bits_in found cuts homes) 0) i ≡ bit_at (bits_in found cuts homes) i = λ i. or_left (bits_in found cuts homes) 0 i (bit_at-zero i) in
      memory_step form (mean at_tree before 0) (mean tree before 0) (bit_or (bits_in found cuts homes) 0) f
      (m.first (bit_or (bits_in found cuts homes) 0) (λ i u. set i)) (m.second (bit_or (bits_in found cuts homes) 0) (λ i u. set i))

  -- a write into a temporary cell
  temp_done : (form : FormModel) (f : IsIntoMemory file_storage patterns size form) (tree : ExprModel) (found : MatchModel) (cuts : List CutCellsModel) (homes : List (Option ℕ)) (own : ℕ)
      → both (address_match temps (Some f.at) temporary) (matched temps form.value tree false) ≡ Some found
      → ReadsFrom temps before tree → Holds temps size before now found.leaves cuts homes → own < temps
      → steps_effect (operation_of file_storage patterns) (record { pattern = form.pattern; setting = bit_or (bits_in found cuts homes) (address_setting (Some f.at) own) } ∷ []) now
      ≡ record now { cells = slice_set now.cells own (mean tree before 0) }
  temp_done form f tree found cuts homes own h r k l =
      let j : Joined (address_match temps (Some f.at) temporary) (matched temps form.value tree false) found = joined _ _ _ h in
      let p : ((is_shape f.at && shows_below f.at temps) ≡ true) × (settled (Some 0) ≡ Some j.first) = picked (is_shape f.at && shows_below f.at temps) (settled (Some 0)) j.first j.is_first in
      let q : (is_shape f.at ≡ true) × (shows_below f.at temps ≡ true) = and_parts _ _ p.0 in
      let first : record { setting = 0; leaves = [] } ≡ j.first = cc in
      let whole : record { setting = bit_or 0 j.second.setting; leaves = j.second.leaves } ≡ found =
      ap (λ (z : MatchModel). record { setting = bit_or z.setting j.second.setting; leaves = z.leaves ++ j.second.leaves }) first ∙ j.is in
      let held : Holds temps size before now j.second.leaves cuts homes = subst (λ (z : MatchModel). Holds temps size before now z.leaves cuts homes) (sym whole) k in
      let m : IsMeant temps size before now form.value tree j.second cuts homes = matched_meant temps size before now same form.value f.once_value f.shown_value tree false j.second cuts homes j.is_second r held in
      let set : (i : ℕ) → bit_at (bits_in found cuts homes) i ≡ bit_at (bits_in j.second cuts homes) i =
      λ i. ap (λ (z : MatchModel). bit_at (bits_in z cuts homes) i) (sym whole)
      ∙ bit_at_or (bit_or 0 j.second.setting) (open_bits j.second.leaves cuts homes) i
      ∙ ap (λ n. max n (bit_at (open_bits j.second.leaves cuts homes) i)) (or_right 0 j.second.setting i (bit_at-zero i))
      ∙ sym (bit_at_or j.second.setting (open_bits j.second.leaves cuts homes) i) in
      let own_bits : ℕ = bits_or_none (shape_setting f.at own) in
      let shown : IsSetting f.at own own_bits = shape_sets f.at own own_bits (some_bits (shape_setting f.at own) (shown_below f.at temps own q.1 l)) in
      memory_step form own (mean tree before 0) (bit_or (bits_in found cuts homes) own_bits) f
      (shown.means now (bit_or (bits_in found cuts homes) own_bits)
      (λ i u. or_right (bits_in found cuts homes) own_bits i (set i ∙ m.within i (f.apart i u))))
      (m.means (bit_or (bits_in found cuts homes) own_bits)
      (λ i u. or_left (bits_in found cuts homes) own_bits i (shown.within i (f.apart_back i u)) ∙ set i))

  -- a write into the file, at the cell of the tied operand where there is one
  file_done : (form : FormModel) (f : IsIntoFile file_storage patterns size form) (tree : ExprModel) (whole : Bool) (found : MatchModel) (cuts : List CutCellsModel) (homes : List (Option ℕ)) (c : ℕ)
      → matched temps form.value tree whole ≡ Some found → ReadsFrom temps before tree → Holds temps size before now found.leaves cuts homes → c < size
      → ((d : ℕ) → tied_cell form.tied homes ≡ Some d → d ≡ c)
      → steps_effect (operation_of file_storage patterns) (record { pattern = form.pattern; setting = bit_or (bits_in found cuts homes) (address_setting (Some f.at) c) } ∷ []) now
      ≡ record now { file = slice_set now.file c (mean tree before 0) }
  file_done form f tree whole found cuts homes c h r k lt tied =
      file_step form c (mean tree before 0) (bit_or bits own) f
      (shown.means now (bit_or bits own) over)
      (m.means (bit_or bits own) (λ i u. under i u (cases_Bool (uses f.at i))))
    where
      bits : ℕ
      bits = bits_in found cuts homes

      own : ℕ
      own = bits_or_none (shape_setting f.at c)

      shown : IsSetting f.at c own
      shown = shape_sets f.at c own (some_bits (shape_setting f.at c) (shown_below f.at size c f.shown_addr lt))

      m : IsMeant temps size before now form.value tree found cuts homes
      m = matched_meant temps size before now same form.value f.once_value f.shown_value tree whole found cuts homes h r k

      -- the match gives a bit of the address no other value than the cell does
      agree : (o : Option ℕ) → form.tied ≡ o → IsTied o f.at form.value → (i : ℕ) → uses f.at i ≡ true → ((uses form.value i ≡ false) × (bit_at bits i ≡ 0)) ⊎ (bit_at bits i ≡ bit_at own i)
      agree None e t i u = let w = t.0 i u in inl (w, m.within i w)
      agree (Some place) e t i u =
          let x : HasHomes form.value found cuts homes = matched_homes temps size before now same form.value f.once_value f.shown_value tree whole found cuts homes h r k in
          let (d, at) = x.filed place f.at t in
          inr (x.bits place f.at d t at i u ∙ ap (λ n. bit_at (bits_or_none (shape_setting f.at n)) i) (tied d (ap (λ z. tied_cell z homes) e ∙ ap cell_in at)))

      over : (i : ℕ) → uses f.at i ≡ true → bit_at (bit_or bits own) i ≡ bit_at own i
      over i u = elim (agree form.tied refl f.tied i u) as (λ _. bit_at (bit_or bits own) i ≡ bit_at own i) [
        | inl w ↦ or_right bits own i w.1
        | inr w ↦ omega (arith, bit_at_or bits own i, w)
      ]

      under : (i : ℕ) → uses form.value i ≡ true → ((uses f.at i ≡ true) ⊎ (uses f.at i ≡ false)) → bit_at (bit_or bits own) i ≡ bit_at bits i
      under i u (inr n) = or_left bits own i (shown.within i n)
      under i u (inl y) = elim (agree form.tied refl f.tied i y) as (λ _. bit_at (bit_or bits own) i ≡ bit_at bits i) [
        | inl w ↦ absurd (true≢false (sym u ∙ w.0))
        | inr w ↦ omega (arith, bit_at_or bits own i, w)
      ]

  -- the form's own step
  pub form_done : (form : FormModel) (goal : GoalModel) (destination : DestinationModel) (tree : ExprModel) (whole : Bool) (found : MatchModel) (cuts : List CutCellsModel) (homes : List (Option ℕ)) (own : ℕ) (home : Option ℕ)
      → IsFormed file_storage patterns count size form goal → goal_match temps form goal destination tree whole ≡ Some found
      → ReadsFrom temps before tree → DestinationReads temps before destination → Holds temps size before now found.leaves cuts homes → OwnBelow destination own temps → OwnIn destination form homes home size
      → steps_effect (operation_of file_storage patterns) (form_step form destination (whole_setting form destination found cuts homes own home)) now ≡ placed before now destination own home (mean tree before 0)
  form_done form (into_reg q) (into id) tree whole found cuts homes own home f h r p k l w =
      let c : ((q == id) ≡ true) × (matched temps form.value tree whole ≡ Some found) = picked (q == id) (matched temps form.value tree whole) found h in
      reg_step form q (mean tree before 0) (bit_or (bits_in found cuts homes) 0) f (value_means form.value tree whole found cuts homes c.1 f.once f.shown r k)
      ∙ ap (λ n. record now { regs = slice_set now.regs n (mean tree before 0) }) (eqb-true q id c.0)
  form_done form into_memory (cell a) tree whole found cuts homes own home f h r p k l w =
      address_done form f (const (expr_width f.at) a) tree true (address_match temps form.addr (cell a)) found cuts homes h
      (λ x rs hs e v. shape_address f.at a x rs hs (ap (λ z. address_match temps z (cell a)) (sym f.has) ∙ e) v) r k
  form_done form into_memory (stored address) tree whole found cuts homes own home f h r p k l w =
      address_done form f address tree false (address_match temps form.addr (stored address)) found cuts homes h
      (λ x rs hs e v. matched_meant temps size before now same f.at f.once_addr f.shown_addr address false x rs hs
      (ap (λ z. address_match temps z (stored address)) (sym f.has) ∙ e) p v) r k
  form_done form into_memory temporary tree whole found cuts homes own home f h r p k l w =
      ap (λ (z : Option ExprModel). steps_effect (operation_of file_storage patterns) (record { pattern = form.pattern; setting = bit_or (bits_in found cuts homes) (address_setting z own) } ∷ []) now) f.has
      ∙ temp_done form f tree found cuts homes own
      (ap (λ z. both (address_match temps z temporary) (matched temps form.value tree false)) (sym f.has) ∙ h) r k l
  form_done form into_file filed tree whole found cuts homes own home f h r p k l w =
      let (c, e, lt, tied) = w in
      ap (λ (z : Option ℕ). steps_effect (operation_of file_storage patterns) (record { pattern = form.pattern; setting = bit_or (bits_in found cuts homes) (own_setting filed form.addr own z) } ∷ []) now) e
      ∙ ap (λ (z : Option ExprModel). steps_effect (operation_of file_storage patterns) (record { pattern = form.pattern; setting = bit_or (bits_in found cuts homes) (address_setting z c) } ∷ []) now) f.has
      ∙ file_done form f tree whole found cuts homes c h r k lt tied
      ∙ ap (λ (z : Option ℕ). placed before now filed own z (mean tree before 0)) (sym e)
  form_done form (branches when_one to) tested tree whole found cuts homes own home f h r p k l w = refl
  form_done form goal destination tree whole found cuts homes own home f h r p k l w = absurd (cc)

  -- a branch's condition has the tree's value
  pub test_means : (form : FormModel) (goal : GoalModel) (tree : ExprModel) (whole : Bool) (found : MatchModel) (cuts : List CutCellsModel) (homes : List (Option ℕ)) (own : ℕ) (home : Option ℕ)
      → IsFormed file_storage patterns count size form goal → goal_match temps form goal tested tree whole ≡ Some found
      → ReadsFrom temps before tree → Holds temps size before now found.leaves cuts homes
      → mean form.value now (whole_setting form tested found cuts homes own home) ≡ mean tree before 0
  test_means form (branches when_one to) tree whole found cuts homes own home f h r k = value_means form.value tree true found cuts homes h f.0 f.1 r k
  test_means form goal tree whole found cuts homes own home f h r k = absurd (cc)
