-- The answers of `test`: each is one, as far as packing leaves no choice, and they exclude each
-- other.
use Rattle.std.proofs.Common.{◌≡◌, ℕ, ◌+◌, List, [], ◌∷◌, Option, Some, None, ap, length, refl, sym, ◌∙◌, arith, subst}
use Rattle.net_model.specs.declared.fault.NetFault.{NetFault}
use Rattle.net_model.specs.Clock.{Reached, run}
use Rattle.net_model.specs.declared.hardware.Netlist.{Netlist}
use Rattle.net_model.specs.declared.states.State.{State}
use Rattle.net_front.specs.Fronts.{taken_of}
use Rattle.net_model.specs.Patterns.{Pattern}
use Rattle.net_model.specs.Written.{UnitsModel}
use Rattle.net_parser.specs.Texts.{IsNoNetText}
use Rattle.net_front.proofs.FrontLaws.{no_text_fault}
use Rattle.isa_extract.specs.Taken.{BreaksAnyTaken}
use Rattle.isa_extract.proofs.RoutedTaken.{no_broken_any_taken}
use Rattle.transfer_set.proofs.OnePatterns.{patterns_one}
use Rattle.form_model.specs.Covers.{JobCoverModel, StockModel}
use Rattle.form_model.specs.Forms.{FormModel}
use Rattle.form_set.specs.Listing.{AreForms}
use Rattle.form_set.proofs.OneList.{forms_one}
use Rattle.src_trees.specs.Lowered.{JobModel}
use Rattle.right_code.proofs.OneBound.{chosen_cost_one}
use Rattle.fault_sim.specs.Reports.{IsGoodRun}
use Rattle.code_gen.specs.Refusals.{IsStepless}
use Rattle.self_test.specs.Cells.{test_need, test_jobs}
use Rattle.test_code.specs.Tried.{AreTried, IsMadeFor, cost_sum, skipped_count, test_stock, tested_count}
use Rattle.test_run.specs.Starts.{test_start}
use Rattle.test_run.specs.Texts.{shown_text}
use Rattle.test_command.specs.Refusals.{HasForms, HasTestCells, IsBeyondLimit, IsTestable, IsTestDataFull, IsTestText, IsTestTooLong, test_cost}
use Rattle.test_command.specs.Texts.{IsTested, NetHolds, tested_edition}

-- ---- of a netlist

module _ (netlist : Netlist) where
  -- its patterns and its forms are one list each
  lists_one : (ps qs : List Pattern) (rs ss : List FormModel) → HasForms netlist ps rs → HasForms netlist qs ss → (ps ≡ qs) × (rs ≡ ss)
  lists_one ps qs rs ss a b =
      let same : ps ≡ qs = patterns_one netlist ps qs a.are b.are in
      (same, (forms_one netlist qs rs ss a.reach b.reach (subst (λ xs. AreForms netlist xs rs a.reach) same a.forms) b.forms).0)

  need_one : (ps qs : List Pattern) (rs ss : List FormModel) → HasForms netlist ps rs → HasForms netlist qs ss → test_need netlist rs ps ≡ test_need netlist ss qs
  need_one ps qs rs ss a b =
      let e = lists_one ps qs rs ss a b in
      let f = e.0 in
      let g = e.1 in
      (λ j. test_need netlist (g j) (f j))

  pub has_forms : (tried : List (Option JobCoverModel)) (words : List ℕ) (made : IsMadeFor netlist tried words) → HasForms netlist made.patterns made.all
  has_forms tried words made = record { are = made.are; reach = made.reach; forms = made.forms }

-- the covers of all jobs that have one cost the same
sums_one : (stock : StockModel) (jobs : List JobModel) (a b : List (Option JobCoverModel)) → AreTried stock jobs a → AreTried stock jobs b → cost_sum jobs a ≡ cost_sum jobs b
sums_one stock [] [] [] h k = refl
sums_one stock [] [] (d ∷ b) h k = absurd k
sums_one stock [] (c ∷ a) b h k = absurd h
sums_one stock (job ∷ jobs) [] b h k = absurd h
sums_one stock (job ∷ jobs) (c ∷ a) [] h k = absurd k
sums_one stock (job ∷ jobs) (None ∷ a) (None ∷ b) h k = sums_one stock jobs a b h.1 k.1
sums_one stock (job ∷ jobs) (None ∷ a) (Some d ∷ b) h k = absurd (h.0.none d k.0.covers)
sums_one stock (job ∷ jobs) (Some c ∷ a) (None ∷ b) h k = absurd (k.0.none c h.0.covers)
sums_one stock (job ∷ jobs) (Some c ∷ a) (Some d ∷ b) h k =
    let e = chosen_cost_one stock job c d h.0 k.0 in
    let f = sums_one stock jobs a b h.1 k.1 in
    omega (arith, e, f)

-- what is tried of the jobs of one of two self-tests is tried of those of the other
trials_alike : (netlist : Netlist) (a b : List (Option JobCoverModel)) (ws vs : List ℕ) (p : IsMadeFor netlist a ws) (q : IsMadeFor netlist b vs) → AreTried (test_stock netlist q.all q.patterns) (test_jobs netlist q.all q.patterns) a
trials_alike netlist a b ws vs p q =
    let e = lists_one netlist p.patterns q.patterns p.all q.all (has_forms netlist a ws p) (has_forms netlist b vs q) in
    let f = e.0 in
    let g = e.1 in
    subst (λ (ps : List Pattern). AreTried (test_stock netlist q.all ps) (test_jobs netlist q.all ps) a) f
    (subst (λ (rs : List FormModel). AreTried (test_stock netlist rs p.patterns) (test_jobs netlist rs p.patterns) a) g p.trials)

test_cost_one : (netlist : Netlist) (a b : List (Option JobCoverModel)) (ws vs : List ℕ) (p : IsMadeFor netlist a ws) (q : IsMadeFor netlist b vs) → test_cost netlist a ws p ≡ test_cost netlist b vs q
test_cost_one netlist a b ws vs p q =
    let e = lists_one netlist p.patterns q.patterns p.all q.all (has_forms netlist a ws p) (has_forms netlist b vs q) in
    let f = e.0 in
    let g = e.1 in
    (λ j. cost_sum (test_jobs netlist (g j) (f j)) a)
    ∙ sums_one (test_stock netlist q.all q.patterns) (test_jobs netlist q.all q.patterns) a b (trials_alike netlist a b ws vs p q) q.trials

-- ---- texts

counts_one : (stock : StockModel) (jobs : List JobModel) (a b : List (Option JobCoverModel)) → AreTried stock jobs a → AreTried stock jobs b → (tested_count a ≡ tested_count b) × (skipped_count a ≡ skipped_count b)
counts_one stock [] [] [] h k = (refl, refl)
counts_one stock [] [] (d ∷ b) h k = absurd k
counts_one stock [] (c ∷ a) b h k = absurd h
counts_one stock (job ∷ jobs) [] b h k = absurd h
counts_one stock (job ∷ jobs) (c ∷ a) [] h k = absurd k
counts_one stock (job ∷ jobs) (None ∷ a) (None ∷ b) h k = let e = counts_one stock jobs a b h.1 k.1 in (e.0, ap (λ n. n + 1) e.1)
counts_one stock (job ∷ jobs) (None ∷ a) (Some d ∷ b) h k = absurd (h.0.none d k.0.covers)
counts_one stock (job ∷ jobs) (Some c ∷ a) (None ∷ b) h k = absurd (k.0.none c h.0.covers)
counts_one stock (job ∷ jobs) (Some c ∷ a) (Some d ∷ b) h k = let e = counts_one stock jobs a b h.1 k.1 in (ap (λ n. n + 1) e.0, e.1)

-- the cells that the run leaves
goods_one : (netlist : Netlist) (s : State) (ws vs good other : List ℕ) → ws ≡ vs → IsGoodRun netlist ws s good → IsGoodRun netlist vs s other → good ≡ other
goods_one netlist s ws vs good other e a b =
    let runs : Reached a.ends ≡ Reached b.ends = sym a.runs ∙ ap (λ (xs : List ℕ). run netlist xs s (length xs)) e ∙ b.runs in
    let f = a.cells in
    let g = b.cells in
    cc (runs, f, g)

pub one_text : (netlist : Netlist) (text other : List ℕ) (a : IsTestText netlist text) (b : IsTestText netlist other) → a.words ≡ b.words → text ≡ other
one_text netlist text other a b e =
    let trials = trials_alike netlist a.tried b.tried a.words b.words a.right.made b.right.made in
    let made = b.right.made in
    let counts = counts_one (test_stock netlist made.all made.patterns) (test_jobs netlist made.all made.patterns) a.tried b.tried trials made.trials in
    let tested = counts.0 in
    let skipped = counts.1 in
    let good = goods_one netlist (test_start netlist) a.words b.words a.good b.good e a.right.runs b.right.runs in
    a.is ∙ (λ j. shown_text netlist (tested j) (skipped j) (e j) (test_start netlist) (good j)) ∙ sym b.is

-- ---- of bytes

module _ (net : List ℕ) where
  -- what holds of their netlist, and what else does, holds of the same one
  pub together : (P Q : Netlist → Type 0) (G : Type 0) → ((netlist : Netlist) → P netlist → Q netlist → G) → NetHolds net P → NetHolds net Q → G
  together P Q G f a b =
      f (taken_of a.entries) a.holds (subst (λ (e : UnitsModel). Q (taken_of e)) (b.file.file.says.only a.entries a.file.file.says.text) b.holds)

  -- and so does what follows
  pub weaker : (P Q : Netlist → Type 0) → ((netlist : Netlist) → P netlist → Q netlist) → NetHolds net P → NetHolds net Q
  weaker P Q f h = record { entries = h.entries; file = h.file; taken = h.taken; holds = f (taken_of h.entries) h.holds }

  pub no_net_text : (P : Netlist → Type 0) (at : ℕ) → NetHolds net P → IsNoNetText net at → ⊥
  no_net_text P at h none = no_text_fault net h.entries at h.file.file.says none

  pub no_broken : (P : Netlist → Type 0) (fault : NetFault) → NetHolds net P → BreaksAnyTaken tested_edition net fault → ⊥
  no_broken P fault h broken = no_broken_any_taken tested_edition net h.entries fault h.file h.taken broken

  -- ---- cells and steps

  pub one_full : (p q : ℕ × ℕ) → NetHolds net (λ netlist. IsTestDataFull netlist p.0 p.1) → NetHolds net (λ netlist. IsTestDataFull netlist q.0 q.1) → p ≡ q
  one_full (a, b) (c, d) = together (λ netlist. IsTestDataFull netlist a b) (λ netlist. IsTestDataFull netlist c d) ((a, b) ≡ (c, d)) (λ netlist x y.
      let e = need_one netlist x.patterns y.patterns x.forms y.forms x.has y.has in
      let f = x.needs in let g = y.needs in let h = x.size in let k = y.size in cc)

  pub no_full : (need have : ℕ) → NetHolds net HasTestCells → NetHolds net (λ netlist. IsTestDataFull netlist need have) → ⊥
  no_full need have = together HasTestCells (λ netlist. IsTestDataFull netlist need have) ⊥ (λ netlist x y.
      let e = need_one netlist x.patterns y.patterns x.forms y.forms x.has y.has in
      let a = x.room in let b = y.needs in let c = y.size in let d = y.more in omega arith)

  pub no_stepless : NetHolds net IsTestable → NetHolds net IsStepless → ⊥
  no_stepless = together IsTestable IsStepless ⊥ (λ netlist x y. x.steps y)

  pub cells_of : NetHolds net IsTestable → NetHolds net HasTestCells
  cells_of = weaker IsTestable HasTestCells (λ netlist x. x.cells)

  pub testable_of_text : (text : List ℕ) → IsTested net text → NetHolds net IsTestable
  testable_of_text text = weaker (λ netlist. IsTestText netlist text) IsTestable (λ netlist x. x.testable)

  -- ---- words that are made for the netlist

  -- two lists of words that are too many are so for one code, with one bound
  pub one_too_long : (len size bound other room most : ℕ) → NetHolds net (λ netlist. IsTestTooLong netlist len size bound) → NetHolds net (λ netlist. IsTestTooLong netlist other room most) → (size ≡ room) × (bound ≡ most)
  one_too_long len size bound other room most = together (λ netlist. IsTestTooLong netlist len size bound) (λ netlist. IsTestTooLong netlist other room most) ((size ≡ room) × (bound ≡ most)) (λ netlist x y.
      (x.room ∙ sym y.room, x.sum ∙ test_cost_one netlist x.tried y.tried x.words y.words x.made y.made ∙ sym y.sum))

  pub one_limit : (count bound other most : ℕ) → NetHolds net (λ netlist. IsBeyondLimit netlist count bound) → NetHolds net (λ netlist. IsBeyondLimit netlist other most) → bound ≡ most
  one_limit count bound other most = together (λ netlist. IsBeyondLimit netlist count bound) (λ netlist. IsBeyondLimit netlist other most) (bound ≡ most) (λ netlist x y. x.limit ∙ sym y.limit)
