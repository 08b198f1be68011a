-- The steps of jobs one after the other spare what is still needed.
use Rattle.std.specs.List.{AllByRecursion}
use Rattle.std.proofs.lemmas.Bool.{eqb-true}
use Rattle.std.proofs.Common.{ℕ, ◌≡◌, ◌==◌, ◌||◌, ◌&&◌, Bool, true, false, not, List, [], ◌∷◌, Option, refl, sym, ◌∙◌, ap, subst}
use Rattle.net_model.specs.Patterns.{Pattern}
use Rattle.form_model.specs.declared.forms.Step.{Step}
use Rattle.form_model.specs.Covers.{StockModel, JobCoverModel}
use Rattle.form_model.specs.Effects.{Operation, operation_of, register, reads, writes}
use Rattle.form_model.specs.Live.{Regs, no_regs, group_reads, group_writes, live_before, singles, AllSpare}
use Rattle.emit_seq.specs.Formed.{AreFormed}
use Rattle.emit_seq.specs.Spares.{AreDefined, AreShared, ReadsCounter, AreSpare, step_clobbers, wanted}
use Rattle.emit_seq.proofs.Lives.{live-steps, spare-append}
use Rattle.emit_seq.proofs.Spared.{steps_spare}
use Rattle.src_trees.specs.Lowered.{JobModel}
use Rattle.right_code.specs.Jobs.{tree_or_none, tree_used, job_steps, jobs_steps, IsCovered}
use Rattle.right_code.specs.Inner.Jobs.{AreCovered}

not_live : (l k : Bool) → (l ≡ true → k ≡ true) → k ≡ false → l ≡ false
not_live true k f e = cc (f refl, e)
not_live false k f e = refl

kept : (a b c d w : Bool) → (b ≡ true → d ≡ true) → a ≡ c → (a || (b && not w)) ≡ true → (c || (d && not w)) ≡ true
kept true b true d w f e h = refl
kept true b false d w f e h = cc
kept false true true d w f e h = cc
kept false true false d w f e h = rw (f refl) h
kept false false true d w f e h = cc
kept false false false d w f e h = cc

known_from : (r l w k : Bool) → (r ≡ true → k ≡ true) → (l ≡ true → (k || w) ≡ true) → ((r || false) || (l && not (w || false))) ≡ true → k ≡ true
known_from true l w k f g h = f refl
known_from false true true k f g h = cc
known_from false true false true f g h = refl
known_from false true false false f g h = g refl
known_from false false w k f g h = cc

module _ {A : Type 0} (m : A → Operation) (clobbers : A → Regs) where
  -- fewer registers are needed
  live_less : (gs : List (List A)) (k l : Regs) → ((r : ℕ) → l r ≡ true → k r ≡ true) → (r : ℕ) → live_before m gs l r ≡ true → live_before m gs k r ≡ true
  live_less [] k l f r h = f r h
  live_less (g ∷ gs) k l f r h = kept (group_reads m g r) (live_before m gs l r) (group_reads m g r) (live_before m gs k r) (group_writes m g r) (live_less gs k l f r) refl h

  pub spare_less : (xs : List A) (k l : Regs) → ((r : ℕ) → l r ≡ true → k r ≡ true) → AllSpare m clobbers xs k → AllSpare m clobbers xs l
  spare_less [] k l f h = tt
  spare_less (x ∷ xs) k l f h = (λ r c w. not_live (live_before m (singles xs) l r) (live_before m (singles xs) k r) (live_less (singles xs) k l f r) (h.0 r c w), spare_less xs k l f h.1)

  -- one more register is live before steps where it is live behind them
  live_with : (mode : ℕ) (gs : List (List A)) (after : Regs) (r : ℕ) → (r == mode) ≡ false → live_before m gs (λ q. after q || (q == mode)) r ≡ live_before m gs after r
  live_with mode [] after r e = by (after r)
    where
      by : (b : Bool) → (b || (r == mode)) ≡ b
      by true = refl
      by false = e
  live_with mode (g ∷ gs) after r e = ap (λ b. group_reads m g r || (b && not (group_writes m g r))) (live_with mode gs after r e)

  -- steps that don't clobber it spare it, too
  pub spare_with : (mode : ℕ) (xs : List A) (after : Regs) → AllByRecursion (λ x. clobbers x mode ≡ false) xs → AllSpare m clobbers xs after → AllSpare m clobbers xs (λ q. after q || (q == mode))
  spare_with mode [] after k h = tt
  spare_with mode (x ∷ xs) after k h = (λ r c w. by r c w (r == mode) refl, spare_with mode xs after k.1 h.1)
    where
      by : (r : ℕ) → clobbers x r ≡ true → writes (m x) r ≡ false → (b : Bool) → (r == mode) ≡ b → live_before m (singles xs) (λ q. after q || (q == mode)) r ≡ false
      by r c w true e = let same : r ≡ mode = eqb-true r mode e in absurd (cc (c, k.0, same))
      by r c w false e = live_with mode (singles xs) after r e ∙ h.0 r c w

  pub given_less : (known : Regs) (xs : List A) (k l : Regs) → ((r : ℕ) → l r ≡ true → k r ≡ true) → AreDefined m known xs k → AreDefined m known xs l
  given_less known [] k l f h = λ r e. h r (f r e)
  given_less known (x ∷ xs) k l f h = (h.0, given_less (λ r. known r || writes (m x) r) xs k l f h.1)

  -- what is live before steps is known
  pub live_known : (known : Regs) (xs : List A) (after : Regs) → AreDefined m known xs after → (r : ℕ) → live_before m (singles xs) after r ≡ true → known r ≡ true
  live_known known [] after h r e = h r e
  live_known known (x ∷ xs) after h r e =
      known_from (reads (m x) (register r)) (live_before m (singles xs) after r) (writes (m x) r) (known r) (h.0 r) (live_known (λ q. known q || writes (m x) q) xs after h.1 r) e

  nothing_live : (xs : List A) → ((r : ℕ) → live_before m (singles xs) no_regs r ≡ true → no_regs r ≡ true) → live_before m (singles xs) no_regs ≡ no_regs
  nothing_live xs h =
      let p : (r : ℕ) → live_before m (singles xs) no_regs r ≡ false = (λ r. not_live (live_before m (singles xs) no_regs r) false (h r) refl) in
      (λ j r. p r j)

module _ (stock : StockModel) (file : Option ℕ) (patterns : List Pattern) (count pc : ℕ) (formed : AreFormed file patterns count stock.file stock.forms) (shared : AreShared stock.forms) (counter : ReadsCounter stock.forms pc) where
  abbrev Spares : List Step → Type 0
  Spares xs = AllSpare (operation_of file patterns) (step_clobbers stock.forms) xs no_regs × AreDefined (operation_of file patterns) no_regs xs no_regs

  job_spares : (job : JobModel) (choice : JobCoverModel) → IsCovered stock job choice → Spares (job_steps stock job choice)
  job_spares job choice c =
      let s : AreSpare stock file patterns pc job.destination c.covers.tree choice.cover = steps_spare stock file patterns count pc formed shared counter job.destination c.covers.tree choice.cover c.goes c.covers.orderly in
      let is : AreSpare stock file patterns pc job.destination (tree_used job choice) choice.cover = subst (λ t. AreSpare stock file patterns pc job.destination t choice.cover) (sym (ap tree_or_none c.covers.used)) s in (
        spare_less (operation_of file patterns) (step_clobbers stock.forms) (job_steps stock job choice) (wanted stock job.destination (tree_used job choice) choice.cover) no_regs (λ r e. cc e) is.spare,
        given_less (operation_of file patterns) (step_clobbers stock.forms) no_regs (job_steps stock job choice) (wanted stock job.destination (tree_used job choice) choice.cover) no_regs (λ r e. cc e) is.given,
      )

  -- the steps of a block spare what is still needed, where nothing is live behind it
  pub jobs_spare : (jobs : List JobModel) (choices : List JobCoverModel) → AreCovered stock jobs choices
      → AllSpare (operation_of file patterns) (step_clobbers stock.forms) (jobs_steps stock jobs choices) no_regs × (live_before (operation_of file patterns) (singles (jobs_steps stock jobs choices)) no_regs ≡ no_regs)
  jobs_spare [] [] c = (tt, refl)
  jobs_spare [] (d ∷ choices) c = absurd c
  jobs_spare (t ∷ jobs) [] c = absurd c
  jobs_spare (t ∷ jobs) (d ∷ choices) c =
      let s = job_spares t d c.0 in
      let r = jobs_spare jobs choices c.2 in
      let xs : List Step = job_steps stock t d in
      let ys : List Step = jobs_steps stock jobs choices in (
        spare-append (operation_of file patterns) (step_clobbers stock.forms) pc xs ys no_regs (subst (AllSpare (operation_of file patterns) (step_clobbers stock.forms) xs) (sym r.1) s.0) r.0,
        live-steps (operation_of file patterns) (step_clobbers stock.forms) pc xs ys no_regs ∙ ap (live_before (operation_of file patterns) (singles xs)) r.1
            ∙ nothing_live (operation_of file patterns) (step_clobbers stock.forms) xs (live_known (operation_of file patterns) (step_clobbers stock.forms) no_regs xs no_regs s.1),
      )
