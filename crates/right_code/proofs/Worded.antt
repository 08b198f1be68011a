-- Each step of a block and of a test has a word that keeps what is still needed.
use Rattle.std.specs.List.{AllByRecursion}
use Rattle.std.specs.Int.{bit_at}
use Rattle.form_model.specs.Live.{AllSpare, Regs, no_regs, regs_of, singles}
use Rattle.emit_seq.specs.Spares.{AreShared, ReadsCounter, clobbers_of, AreSpare, step_clobbers, wanted}
use Rattle.std.proofs.Common.{ℕ, ◌≡◌, ◌≢◌, ◌==◌, ◌<◌, true, false, List, [], ◌∷◌, ◌++◌, Option, Some, None, bit_and, bit_or, refl, sym, ◌∙◌, ap, subst, arith, length, slice_get}
use Rattle.std.specs.Int.Bits.{or_add_and}
use Rattle.std.proofs.lemmas.Nat.{and_le_l}
use Rattle.net_model.specs.declared.hardware.Space.TheVariants.{File as InFile}
use Rattle.net_model.specs.Nets.{file_place, size_in, counter_of, word_width}
use Rattle.emit_seq.specs.Formed.{AreFormed}
use Rattle.net_model.specs.declared.hardware.Netlist.{Netlist}
use Rattle.net_model.specs.CheckedRules.{KeepsRules}
use Rattle.net_model.specs.Fields.{fields, transfer_fields}
use Rattle.net_model.specs.Patterns.{Pattern}
use Rattle.net_model.specs.Exprs.{ExprModel, TransferModel, keep, write, write_at}
use Rattle.form_model.specs.declared.forms.Step.{Step}
use Rattle.form_model.specs.Forms.{GoalModel, FormModel, tested}
use Rattle.form_model.specs.Covers.{StockModel, JobCoverModel}
use Rattle.compaction.specs.Laws.{operation_in}
use Rattle.form_model.specs.Steps.{cover_steps}
use Rattle.form_set.specs.Listing.{AreFormModels, sides_of}
use Rattle.form_set.specs.Promises.{IsFormOf, of_branch, of_jump, of_plain}
use Rattle.operand_swaps.specs.Swaps.{SidesModel, swapped}
use Rattle.form_set.proofs.FormLaws.{plain_words}
use Rattle.emit_seq.specs.Settles.{AreOfForms, IsOfForm, IsStepping, addr_fields, form_fields}
use Rattle.emit_seq.proofs.Settled.{steps_of_forms}
use Rattle.emit_seq.proofs.Spared.{clobbers_at, steps_spare}
use Rattle.src_trees.specs.Lowered.{JobModel}
use Rattle.word_fit.specs.Fits.{fits_over}
use Rattle.word_fit.specs.Groups.{AllHaveWords}
use Rattle.compaction.specs.Formed.{AreWorded, IsWorded}
use Rattle.compaction.proofs.Worded.{have_words}
use Rattle.right_code.specs.Inner.Forks.{test_of}
use Rattle.right_code.specs.Jobs.{tree_or_none, tree_used, job_steps, jobs_steps, IsCovered}
use Rattle.right_code.specs.Inner.Jobs.{AreCovered}
use Rattle.right_code.specs.Inner.Known.{AreKnown, IsKnownPattern}
use Rattle.right_code.proofs.Listed.{Placed, are_formed, are_shared, is_counter, placed}
use Rattle.right_code.specs.Cuts.{with_mode}
use Rattle.right_code.proofs.Kept.{ArePart}
use Rattle.right_code.proofs.ModeKept.{AllKeep, FormsKeep}
use Rattle.right_code.proofs.Spares.{spare_with, jobs_spare, spare_less}
use Rattle.right_code.proofs.Swapping.{AreSwapped, swapped_sides}

zero_or : (n : ℕ) → bit_or 0 n ≡ n
zero_or n = let a = or_add_and 0 n in let b = and_le_l 0 n in omega (arith, a, b)

-- the bits of a form are those of its pattern
sides_fields : (a b : Option ExprModel) (v u : ExprModel) → AreSwapped (record { addr = a; value = v }) (record { addr = b; value = u }) → bit_or (addr_fields b) (fields u) ≡ bit_or (addr_fields a) (fields v)
sides_fields None None v u s = ap (λ n. bit_or 0 n) (sym s.value.fields_same)
sides_fields None (Some b) v u s = absurd s.addr
sides_fields (Some a) None v u s = absurd s.addr
sides_fields (Some a) (Some b) v u s = ap (λ n. bit_or n (fields u)) (sym s.addr.fields_same) ∙ ap (λ n. bit_or (fields a) n) (sym s.value.fields_same)

swapped_fields : (choice : ℕ) (move : TransferModel) → move ≢ keep → bit_or (addr_fields (swapped choice (sides_of move)).addr) (fields (swapped choice (sides_of move)).value) ≡ transfer_fields move
swapped_fields choice keep n = absurd (n refl)
swapped_fields choice (write v) n =
    let x : SidesModel = record { addr = None; value = v } in
    sides_fields None (swapped choice x).addr v (swapped choice x).value (swapped_sides choice x) ∙ zero_or (fields v)
swapped_fields choice (write_at a v) n =
    let x : SidesModel = record { addr = Some a; value = v } in
    sides_fields (Some a) (swapped choice x).addr v (swapped choice x).value (swapped_sides choice x)

module _ (netlist : Netlist) (order : List ℕ) (keeps : KeepsRules netlist order) (some : 0 < word_width netlist) (patterns : List Pattern) (known : AreKnown netlist patterns) (reach : ℕ) (all : List FormModel) (list : AreFormModels netlist reach 0 patterns all)
    (stock : StockModel) (sized : stock.file ≡ size_in InFile netlist.storages) (of : ArePart stock.forms all) where
  -- what holds of all forms holds of these
  shared : AreShared stock.forms
  shared j k a b ha hb e =
      let p = of j a ha in
      let q = of k b hb in
      are_shared netlist order keeps some patterns known reach all list p.0 q.0 a b p.1 q.1 e

  counts : ReadsCounter stock.forms (counter_of netlist.codes)
  counts k form at goal = let p = of k form at in is_counter netlist order keeps some patterns known reach all list p.0 form p.1 goal

  no_step : (goal other : GoalModel) → goal ≡ other → IsStepping goal → (IsStepping other → ⊥) → ⊥
  no_step goal other e h n = n (subst IsStepping e h)

  -- a step of a plain form has a word for its setting
  of_form : (x : Step) (form : FormModel) (k : ℕ) → slice_get stock.forms k ≡ Some form → IsStepping form.goal → x.pattern ≡ form.pattern → bit_and x.setting (form_fields form) ≡ x.setting → (number : ℕ) (p : Pattern) → slice_get patterns number ≡ Some p
      → IsFormOf netlist reach number p form → IsWorded netlist patterns x (step_clobbers stock.forms x)
  of_form x form k listed goal same within number p at (of_jump h e) = absurd (no_step form.goal _ (ap (λ (r : FormModel). r.goal) e) goal (λ z. z))
  of_form x form k listed goal same within number p at (of_branch choice parts h e) = absurd (no_step form.goal _ (ap (λ (r : FormModel). r.goal) e) goal (λ z. z))
  of_form x form k listed goal same within number p at (of_plain choice clobbers plain are e) =
      let q : IsKnownPattern netlist p = known number p at in
      let f : form_fields form ≡ transfer_fields p.move = ap (λ (r : FormModel). form_fields r) e ∙ swapped_fields choice p.move q.is.changes in
      record {
        of = record {
          pattern = p;
          at = ap (λ n. slice_get patterns n) (same ∙ ap (λ (r : FormModel). r.pattern) e) ∙ at;
          is = q.is;
          setting = ap (λ n. bit_and x.setting n) (sym f) ∙ within;
        };
        mask = clobbers;
        same = ap (λ n. step_clobbers stock.forms (record { pattern = n; setting = x.setting })) same
            ∙ ap (λ n. regs_of n) (clobbers_at stock.forms shared k form listed ∙ ap (λ (r : FormModel). r.clobbers) e);
        words = plain_words netlist p clobbers plain are;
      }

  all_worded : (xs : List Step) → AreOfForms stock.forms xs → AreWorded netlist patterns (step_clobbers stock.forms) xs
  all_worded [] h = tt
  all_worded (x ∷ xs) h =
      let o : IsOfForm stock.forms x = h.0 in
      let p = of o.destination o.form o.listed in
      let f : Placed netlist order keeps some patterns known reach all list o.form = placed netlist order keeps some patterns known reach all list p.0 o.form p.1 in
      (of_form x o.form o.destination o.listed o.goal o.pattern o.within f.number f.pattern f.at f.of, all_worded xs h.1)

  forms_on : (xs ys : List Step) → AreOfForms stock.forms xs → AreOfForms stock.forms ys → AreOfForms stock.forms (xs ++ ys)
  forms_on [] ys g h = h
  forms_on (x ∷ xs) ys g h = (g.0, forms_on xs ys g.1 h)

  job_forms : (job : JobModel) (choice : JobCoverModel) → IsCovered stock job choice → AreOfForms stock.forms (job_steps stock job choice)
  job_forms job choice c =
      subst (λ t. AreOfForms stock.forms (cover_steps stock job.destination t choice.cover)) (sym (ap tree_or_none c.covers.used)) (steps_of_forms stock job.destination c.covers.tree choice.cover c.covers.orderly)

  jobs_forms : (jobs : List JobModel) (choices : List JobCoverModel) → AreCovered stock jobs choices → AreOfForms stock.forms (jobs_steps stock jobs choices)
  jobs_forms [] [] c = tt
  jobs_forms [] (d ∷ choices) c = absurd c
  jobs_forms (t ∷ jobs) [] c = absurd c
  jobs_forms (t ∷ jobs) (d ∷ choices) c = forms_on (job_steps stock t d) (jobs_steps stock jobs choices) (job_forms t d c.0) (jobs_forms jobs choices c.2)

  formed : AreFormed (file_place netlist.storages) patterns (length netlist.storages) stock.file stock.forms
  formed =
      subst (λ n. AreFormed (file_place netlist.storages) patterns (length netlist.storages) n stock.forms) (sym sized)
      (λ k form at. (let p = of k form at in are_formed netlist order keeps some patterns known reach all list p.0 form p.1))

  -- ---- where the mode is live behind steps, too

  module _ (o : Option ℕ) (keep : FormsKeep o stock.forms) where
    form_spares : (mode : ℕ) → AllKeep mode stock.forms → (x : Step) → IsOfForm stock.forms x → step_clobbers stock.forms x mode ≡ false
    form_spares mode k x h =
        let at : clobbers_of stock.forms x.pattern ≡ h.form.clobbers = ap (clobbers_of stock.forms) h.pattern ∙ clobbers_at stock.forms shared h.destination h.form h.listed in
        ap (λ n. bit_at n mode == 1) at ∙ ap (λ n. n == 1) (k h.destination h.form h.listed h.goal)

    all_spare : (mode : ℕ) → AllKeep mode stock.forms → (xs : List Step) → AreOfForms stock.forms xs → AllByRecursion (λ x. step_clobbers stock.forms x mode ≡ false) xs
    all_spare mode k [] h = tt
    all_spare mode k (x ∷ xs) h = (form_spares mode k x h.0, all_spare mode k xs h.1)

    spare_mode : (p : Option ℕ) → FormsKeep p stock.forms → (xs : List Step) (after : Regs) → AreOfForms stock.forms xs → AllSpare (operation_in netlist patterns) (step_clobbers stock.forms) xs after
        → AllSpare (operation_in netlist patterns) (step_clobbers stock.forms) xs (with_mode p after)
    spare_mode None k xs after h s = s
    spare_mode (Some mode) k xs after h s = spare_with (operation_in netlist patterns) (step_clobbers stock.forms) mode xs after (all_spare mode k xs h) s

    -- the steps of jobs, where at most the mode is live behind them
    pub block_words : (jobs : List JobModel) (choices : List JobCoverModel) (live : Regs) → AreCovered stock jobs choices → ((r : ℕ) → live r ≡ true → with_mode o no_regs r ≡ true)
        → AllHaveWords (operation_in netlist patterns) (fits_over netlist (operation_in netlist patterns)) (singles (jobs_steps stock jobs choices)) live
    block_words jobs choices live c f =
        let xs : List Step = jobs_steps stock jobs choices in
        let h : AreOfForms stock.forms xs = jobs_forms jobs choices c in
        have_words netlist patterns (step_clobbers stock.forms) xs live (all_worded xs h)
        (spare_less (operation_in netlist patterns) (step_clobbers stock.forms) xs (with_mode o no_regs) live f
        (spare_mode o keep xs no_regs h (jobs_spare stock (file_place netlist.storages) patterns (length netlist.storages) (counter_of netlist.codes) formed shared counts jobs choices c).0))

    -- the steps of a test, where the mode and registers of its condition are live behind it
    pub test_words : (job : JobModel) (choice : JobCoverModel) (live : Regs) → IsCovered stock (test_of job) choice → ((r : ℕ) → live r ≡ true → with_mode o (wanted stock tested (tree_used (test_of job) choice) choice.cover) r ≡ true)
        → AllHaveWords (operation_in netlist patterns) (fits_over netlist (operation_in netlist patterns)) (singles (job_steps stock (test_of job) choice)) live
    test_words job choice live c f =
        let used : ExprModel = tree_used (test_of job) choice in
        let xs : List Step = job_steps stock (test_of job) choice in
        let h : AreOfForms stock.forms xs = job_forms (test_of job) choice c in
        let s : AreSpare stock (file_place netlist.storages) patterns (counter_of netlist.codes) tested used choice.cover =
        subst (λ t. AreSpare stock (file_place netlist.storages) patterns (counter_of netlist.codes) tested t choice.cover) (sym (ap tree_or_none c.covers.used))
        (steps_spare stock (file_place netlist.storages) patterns (length netlist.storages) (counter_of netlist.codes) formed shared counts tested c.covers.tree choice.cover tt c.covers.orderly) in
        have_words netlist patterns (step_clobbers stock.forms) xs live (all_worded xs h)
        (spare_less (operation_in netlist patterns) (step_clobbers stock.forms) xs (with_mode o (wanted stock tested used choice.cover)) live f (spare_mode o keep xs (wanted stock tested used choice.cover) h s.spare))
