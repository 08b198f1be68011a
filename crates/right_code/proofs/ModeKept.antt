-- Words of groups over forms that keep the mode keep it: no step of a cover by such forms writes it,
-- so it stays live through all groups.
use Rattle.std.proofs.Common.{ℕ, ◌≡◌, ◌+◌, ◌==◌, Bool, true, false, if◌then◌else◌, List, [], ◌∷◌, ◌++◌, Option, Some, None, refl, sym, ap, arith, subst, slice_get, eq-eqb}
use Rattle.std.specs.Int.{bit_at}
use Rattle.std.specs.List.{AllByRecursion, sum_by}
use Rattle.std.proofs.lemmas.List.Sorted.{sum_by-IsPermutation}
use Rattle.std.proofs.lemmas.List.Sums.{sum_by-append, sum_by-cons}
use Rattle.rec_bits.proofs.Booleans.{or_right, or_from}
use Rattle.net_model.specs.declared.hardware.Netlist.{Netlist}
use Rattle.net_model.specs.Nets.{IsRegister}
use Rattle.net_model.specs.Patterns.{Pattern}
use Rattle.form_model.specs.declared.forms.Step.{Step}
use Rattle.form_model.specs.Covers.{JobCoverModel, StockModel}
use Rattle.form_model.specs.Effects.{Operation, operation_of, writes}
use Rattle.form_model.specs.Live.{Regs, group_reads, group_writes, live_before}
use Rattle.form_model.specs.Forms.{GoalModel, FormModel}
use Rattle.emit_seq.specs.Formed.{AreFormed, IsFormed, IsIntoReg}
use Rattle.emit_seq.specs.Settles.{IsStepping}
use Rattle.emit_seq.specs.Spares.{AreApart, AreShared, AreSpare, ReadsCounter}
use Rattle.emit_seq.proofs.Spared.{steps_spare}
use Rattle.compaction.specs.Laws.{operation_in}
use Rattle.word_fit.specs.Fits.{fits_over}
use Rattle.word_fit.specs.Groups.{GroupsFit}
use Rattle.word_fit.proofs.Least.{all_fit}
use Rattle.word_fit.proofs.Needed.{live_kept}
use Rattle.compaction.specs.Packing.{all_steps}
use Rattle.code_model.specs.Words.{KeepsMode}
use Rattle.mode_set.specs.Keeping.{IsModeRegister}
use Rattle.src_trees.specs.Lowered.{JobModel}
use Rattle.right_code.specs.Jobs.{IsCovered, job_steps, jobs_steps, tree_or_none, tree_used}
use Rattle.right_code.specs.Inner.Jobs.{AreCovered}
use Rattle.right_code.specs.Cuts.{with_mode}
use Rattle.right_code.specs.Words.{AreGroupWords, IsPackingOf}

-- ---- groups whose steps don't write the mode

module _ {A : Type 0} (m : A → Operation) (mode : ℕ) where
  abbrev pub hits : A → ℕ
  hits x = if writes (m x) mode then 1 else 0

  none_hit : (xs : List A) → AreApart m mode xs → sum_by hits xs ≡ 0
  none_hit [] h = refl
  none_hit (x ∷ xs) h =
      let a : hits x ≡ 0 = ap (λ (b : Bool). if b then 1 else 0) h.1 in
      let b : sum_by hits xs ≡ 0 = none_hit xs h.2 in
      let c : sum_by hits (x ∷ xs) ≡ hits x + sum_by hits xs = sum_by-cons hits x xs in
      omega (arith, a, b, c)

  unhit : (x : A) → hits x ≡ 0 → writes (m x) mode ≡ false
  unhit x e = by (writes (m x) mode) refl
    where
      by : (b : Bool) → writes (m x) mode ≡ b → writes (m x) mode ≡ false
      by false q = q
      by true q = absurd (let z : hits x ≡ 1 = ap (λ (b : Bool). if b then 1 else 0) q in omega (arith, e, z))

  group_spares : (g : List A) → sum_by hits g ≡ 0 → group_writes m g mode ≡ false
  group_spares [] h = refl
  group_spares (x ∷ g) h =
      let c : sum_by hits (x ∷ g) ≡ hits x + sum_by hits g = sum_by-cons hits x g in
      or_from (writes (m x) mode) (group_writes m g mode) (unhit x (omega (arith, h, c))) (group_spares g (omega (arith, h, c)))

  pub groups_spare : (gs : List (List A)) → sum_by hits (all_steps gs) ≡ 0 → AllByRecursion (λ g. group_writes m g mode ≡ false) gs
  groups_spare [] h = tt
  groups_spare (g ∷ gs) h = let b : sum_by hits (g ++ all_steps gs) ≡ sum_by hits g + sum_by hits (all_steps gs) = sum_by-append hits g (all_steps gs) in (group_spares g (omega (arith, h, b)), groups_spare gs (omega (arith, h, b)))

  -- the mode is live before such groups where it is live behind them
  pub still_live : (gs : List (List A)) (after : Regs) → after mode ≡ true → AllByRecursion (λ g. group_writes m g mode ≡ false) gs → live_before m gs after mode ≡ true
  still_live [] after live h = live
  still_live (g ∷ gs) after live h = live_kept (group_reads m g mode) (live_before m gs after mode) (group_writes m g mode) (still_live gs after live h.1) h.0

  -- so each word that fits them keeps it
  pub words_keep : (netlist : Netlist) → IsRegister (slice_get netlist.storages mode) → (ws : List ℕ) (gs : List (List A)) (after : Regs) → after mode ≡ true → AllByRecursion (λ g. group_writes m g mode ≡ false) gs
      → GroupsFit m (fits_over netlist m) ws gs after → AllByRecursion (KeepsMode (Some mode) netlist) ws
  words_keep netlist r [] [] after live h f = tt
  words_keep netlist r [] (g ∷ gs) after live h f = absurd f
  words_keep netlist r (w ∷ ws) [] after live h f = absurd f
  words_keep netlist r (w ∷ ws) (g ∷ gs) after live h f = ((r, f.0.registers mode r (still_live gs after live h.1) h.0), words_keep netlist r ws gs after live h.1 f.1)

-- ---- steps of covers by forms that keep the mode

-- no clobbers of a form that goes into a register or into cells hold the mode
abbrev pub AllKeep : ℕ → List FormModel → Type 0
AllKeep mode forms = (k : ℕ) (form : FormModel) → slice_get forms k ≡ Some form → IsStepping form.goal → bit_at form.clobbers mode ≡ 0

-- of any forms, where there is no mode
abbrev pub FormsKeep : Option ℕ → List FormModel → Type 0
FormsKeep None forms = Unit {0}
FormsKeep (Some mode) forms = AllKeep mode forms

apart_both : {A : Type 0} (m : A → Operation) (mode : ℕ) (xs ys : List A) → AreApart m mode xs → AreApart m mode ys → AreApart m mode (xs ++ ys)
apart_both m mode [] ys h k = k
apart_both m mode (x ∷ xs) ys h k = (h.0, h.1, apart_both m mode xs ys h.2 k)

module _ (stock : StockModel) (file : Option ℕ) (patterns : List Pattern) (count mode : ℕ) (formed : AreFormed file patterns count stock.file stock.forms) (shared : AreShared stock.forms) (keep : AllKeep mode stock.forms) where
  -- none of these forms goes into the mode, since it would clobber it
  no_form : ReadsCounter stock.forms mode
  no_form k form at goal =
      let f : IsIntoReg patterns count stock.file form mode = subst (λ (g : GoalModel). IsFormed file patterns count stock.file form g) goal (formed k form at) in
      let one : bit_at form.clobbers mode ≡ 1 = f.clobbered in
      let none : bit_at form.clobbers mode ≡ 0 = keep k form at (subst IsStepping (sym goal) tt) in
      absurd (omega (arith, one, none))

  -- so no step of a cover reads or writes it
  pub job_apart : (job : JobModel) (choice : JobCoverModel) → IsCovered stock job choice → AreApart (operation_of file patterns) mode (job_steps stock job choice)
  job_apart job choice c =
      let s : AreSpare stock file patterns mode job.destination c.covers.tree choice.cover = steps_spare stock file patterns count mode formed shared no_form job.destination c.covers.tree choice.cover c.goes c.covers.orderly in
      let is : AreSpare stock file patterns mode job.destination (tree_used job choice) choice.cover = subst (λ t. AreSpare stock file patterns mode job.destination t choice.cover) (sym (ap tree_or_none c.covers.used)) s in
      is.apart

  pub jobs_apart : (jobs : List JobModel) (choices : List JobCoverModel) → AreCovered stock jobs choices → AreApart (operation_of file patterns) mode (jobs_steps stock jobs choices)
  jobs_apart [] [] c = tt
  jobs_apart [] (d ∷ choices) c = absurd c
  jobs_apart (t ∷ jobs) [] c = absurd c
  jobs_apart (t ∷ jobs) (d ∷ choices) c = apart_both (operation_of file patterns) mode (job_steps stock t d) (jobs_steps stock jobs choices) (job_apart t d c.0) (jobs_apart jobs choices c.2)

-- ---- the words of a block

-- the mode is live behind
mode_live : (mode : ℕ) (live : Regs) → with_mode (Some mode) live mode ≡ true
mode_live mode live = or_right (live mode) (mode == mode) (eq-eqb mode mode refl)

-- no step reads or writes the mode
abbrev pub StepsApart : Option ℕ → Netlist → List Pattern → List Step → Type 0
StepsApart None netlist patterns steps = Unit {0}
StepsApart (Some mode) netlist patterns steps = AreApart (operation_in netlist patterns) mode steps

-- the least words of groups that such steps are packed into keep the mode
pub packed_keep : (special : Option ℕ) (netlist : Netlist) (patterns : List Pattern) (steps : List Step) (live : Regs) (groups : List (List Step)) (words : List ℕ)
    → IsModeRegister special netlist → StepsApart special netlist patterns steps → IsPackingOf netlist patterns steps (with_mode special live) groups → AreGroupWords netlist patterns groups (with_mode special live) words
    → AllByRecursion (KeepsMode special netlist) words
packed_keep None netlist patterns steps live groups words r h p w = all_kept words
  where
    all_kept : (ws : List ℕ) → AllByRecursion (KeepsMode None netlist) ws
    all_kept [] = tt
    all_kept (x ∷ ws) = (tt, all_kept ws)
packed_keep (Some mode) netlist patterns steps live groups words r h p w =
    let none : sum_by (hits (operation_in netlist patterns) mode) steps ≡ 0 = none_hit (operation_in netlist patterns) mode steps h in
    let same = sum_by-IsPermutation (hits (operation_in netlist patterns) mode) steps (all_steps groups) p.holds in
    words_keep (operation_in netlist patterns) mode netlist r words groups (with_mode (Some mode) live) (mode_live mode live) (groups_spare (operation_in netlist patterns) mode groups (omega (arith, none, same)))
    (all_fit (operation_in netlist patterns) (fits_over netlist (operation_in netlist patterns)) (with_mode (Some mode) live) words groups w)
