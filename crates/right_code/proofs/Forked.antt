-- The words of a test do what the flow says.
use Rattle.code_model.specs.Machine.{IsAt}
use Rattle.std.proofs.Common.{ℕ, ◌≡◌, ◌≤◌, ◌<◌, ◌+◌, ◌^◌, Bool, true, false, if◌then◌else◌, bit_and, List, length, drop, Some, refl, sym, ◌∙◌, ap, arith, subst}
use Rattle.net_model.proofs.Spaces.{by_space}
use Rattle.net_model.specs.declared.hardware.Netlist.{Netlist}
use Rattle.net_model.specs.declared.hardware.Space.TheVariants.{File as InFile}
use Rattle.net_model.specs.declared.states.State.{State}
use Rattle.net_model.specs.CheckedRules.{KeepsRules}
use Rattle.net_model.specs.Exprs.{ExprModel}
use Rattle.net_model.specs.Meaning.{mean}
use Rattle.net_model.specs.Nets.{counter_width, file_place, held, size_in}
use Rattle.net_model.specs.Patterns.{Pattern}
use Rattle.code_model.specs.declared.image.Image.{Image}
use Rattle.net_model.specs.Fields.{fields}
use Rattle.form_model.specs.Trees.{is_tree}
use Rattle.form_model.specs.Forms.{TargetModel, tested}
use Rattle.form_model.specs.CoverModels.{CoverModel, use_form}
use Rattle.form_model.specs.Covers.{StockModel, JobCoverModel, IsOrderly}
use Rattle.compaction.specs.Laws.{operation_in}
use Rattle.form_model.specs.Effects.{steps_effect}
use Rattle.form_model.specs.Steps.{branch_setting}
use Rattle.emit_seq.specs.Formed.{AreFormed}
use Rattle.emit_seq.specs.Leaves.{LeaveValue, condition_of}
use Rattle.emit_seq.proofs.Settled.{branch_in}
use Rattle.word_fit.proofs.Occurring.{reads_occurs}
use Rattle.net_model.specs.Occurs.{AgreeOn, has_read, occurs}
use Rattle.net_model.proofs.TermLaws.{mean_alike}
use Rattle.src_trees.specs.Lowered.{JobModel}
use Rattle.net_model.proofs.KeptRules.{sound_of}
use Rattle.net_model.specs.Modes.{IsBase}
use Rattle.code_model.specs.Flow.{GoesTo}
use Rattle.code_model.proofs.Bases.{at_in}
use Rattle.branch_fix.specs.Made.{Walks, DoesOperands, DoesFork, TailGoes, image_word}
use Rattle.branch_fix.proofs.Walking.{branches, goes}
use Rattle.branch_fix.specs.declared.part.BranchedTest.{BranchedTest}
use Rattle.right_code.specs.Jobs.{tree_or_none, tree_used, job_steps}
use Rattle.right_code.specs.Inner.Blocks.{WalksTo}
use Rattle.right_code.specs.Forks.{cover_form}
use Rattle.right_code.specs.Inner.Forks.{IsBranchForm, IsJumpMade, test_of, BehindMade, IsTestMade, IsForkMade}
use Rattle.right_code.proofs.Meant.{tree_mean, same_behind}
use Rattle.right_code.proofs.Jobs.{used_tree, leaves}
use Rattle.right_code.proofs.Walked.{filed, walked}
use Rattle.right_code.proofs.Branching.{mean_under, BranchParts, branch_parts, branch_does, jump_does}
use Rattle.right_code.proofs.Ways.{way_bits, way_leads}

condition_is : (stock : StockModel) (cover : CoverModel) → condition_of stock cover ≡ (cover_form stock cover).value
condition_is stock (use_form k ps cs) = refl

-- the setting of a branch has bits of its condition alone
pub setting_within : (stock : StockModel) (tree : ExprModel) (cover : CoverModel) → IsOrderly stock tested tree true cover
    → bit_and (branch_setting stock tree cover) (fields (cover_form stock cover).value) ≡ branch_setting stock tree cover
setting_within stock tree cover o =
    subst (λ c. bit_and (branch_setting stock tree cover) (fields c) ≡ branch_setting stock tree cover) (condition_is stock cover) (branch_in stock tree cover o)

-- `base` is what the netlist is in mode 0
module _ (netlist base : Netlist) (basis : IsBase netlist netlist.special 0 base) (order : List ℕ) (keeps : KeepsRules base order) (image : Image) (patterns : List Pattern) (stock : StockModel) (sized : stock.file ≡ size_in InFile base.storages) (formed : AreFormed (file_place base.storages) patterns (length base.storages) stock.file stock.forms) where
  -- behind a test's words the condition has the value of its tree
  pub operands_do : (job : JobModel) (choice : JobCoverModel) (at n : ℕ) (when_one : Bool) (way : TargetModel) (form : IsBranchForm base patterns (cover_form stock choice.cover) when_one way) (i bits : ℕ)
      → IsTestMade base netlist.special patterns stock image job choice at n
      → BranchParts base order keeps patterns (cover_form stock choice.cover) when_one way form i (branch_setting stock (tree_used (test_of job) choice) choice.cover) bits
      → at + n < 2 ^ counter_width base → DoesOperands netlist image stock.temps job i form.condition at n
  operands_do job choice at n when_one way form i bits made p b =
      let used : ExprModel = tree_used (test_of job) choice in
      let setting : ℕ = branch_setting stock used choice.cover in
      let is : used ≡ made.covered.covers.tree = ap tree_or_none made.covered.covers.used in
      let t : is_tree used ≡ true = subst (λ x. is_tree x ≡ true) (sym is) (used_tree job.trees choice.which made.covered.covers.tree made.covered.trees made.covered.covers.used) in
      record {
        which = choice.which;
        used = used;
        among = made.covered.covers.used ∙ ap Some (sym is);
        walks = λ s here lie.
            (let u : State = steps_effect (operation_in base patterns) (job_steps stock (test_of job) choice) s in
            let w : WalksTo netlist 0 image at (length made.words) made.live s u =
            walked netlist base 0 basis order keeps image (operation_in base patterns) made.live (job_steps stock (test_of job) choice) made.groups made.words at s made.means made.fit made.kept here.here here.mode made.stand (subst (λ k. at + k < 2 ^ counter_width base) made.long b) in
            let there : IsAt base at s = at_in netlist base at s (sym basis.storages) (sym basis.codes) here.here in
            let h : LeaveValue stock (file_place base.storages) patterns tested used choice.cover s =
            subst (λ x. LeaveValue stock (file_place base.storages) patterns tested x choice.cover s) (sym is)
            (leaves stock (file_place base.storages) patterns (length base.storages) formed (test_of job) choice s made.covered there.state.regs (filed base stock.file s sized there.state) (record { reads = lie.reads; destination = tt; below = lie.below })) in
            let c : ExprModel = condition_of stock choice.cover in
            let a : AgreeOn (λ r. occurs r c) (has_read c) w.last u = record { cells = λ e. by_space (λ space. held w.last space ≡ held u space) w.agree.cells w.agree.file; regs = λ r e. w.agree.regs r (made.wants r (reads_occurs c setting r ∙ e)) } in (
              w.last,
              subst (λ k. Walks netlist image at s k w.last) (sym made.long) w.walks,
              w.mode,
              ap (drop stock.temps) w.agree.cells ∙ same_behind stock.temps u.cells s.cells h.cells (λ c le. h.others c le (λ z. z)),
              mean_under form.condition w.last i setting p.test_fits p.test ∙ sym (form.alike.means w.last setting) ∙ ap (λ x. mean x w.last setting) (sym (condition_is stock choice.cover))
                  ∙ mean_alike (condition_of stock choice.cover) setting w.last u a ∙ h.value ∙ tree_mean used s t,
            ));
      }

  -- the setting of a test's branch has bits of the condition alone
  test_setting : (job : JobModel) (choice : JobCoverModel) (at n : ℕ) (when_one : Bool) (way : TargetModel) (form : IsBranchForm base patterns (cover_form stock choice.cover) when_one way) → IsTestMade base netlist.special patterns stock image job choice at n
      → bit_and (branch_setting stock (tree_used (test_of job) choice) choice.cover) (fields form.condition) ≡ branch_setting stock (tree_used (test_of job) choice) choice.cover
  test_setting job choice at n when_one way form made =
      let used : ExprModel = tree_used (test_of job) choice in
      let is : used ≡ made.covered.covers.tree = ap tree_or_none made.covered.covers.used in
      let o : IsOrderly stock tested used true choice.cover = subst (λ x. IsOrderly stock tested x true choice.cover) (sym is) made.covered.covers.orderly in
      subst (λ k. bit_and (branch_setting stock used choice.cover) k ≡ branch_setting stock used choice.cover) form.same_fields (setting_within stock used choice.cover o)

  -- the word of a jump leads to its address
  pub leads : (at to : ℕ) → IsJumpMade base netlist.special patterns (image_word image at) to → GoesTo netlist image at to
  leads at to h = goes netlist image base basis (sound_of base order keeps) at to (jump_does base order keeps netlist.special patterns (image_word image at) to h) h.mode

  behind_does : (next long : Bool) (at to other : ℕ) → BehindMade base netlist.special patterns image next long at to other → TailGoes netlist image next long at to other
  behind_does next true at to other h = (leads (at + 1) other h.0, leads (at + 2) to h.1)
  behind_does true false at to other h = tt
  behind_does false false at to other h = leads (at + 1) other h

  -- the words of a test do what its part says
  pub fork_does : (job : JobModel) (when_one : Bool) (f : BranchedTest) (at to other : ℕ) → IsForkMade base netlist.special patterns stock image job when_one f at to other
      → counter_width base ≤ 64 → at + f.words + 1 < 2 ^ counter_width base → at + f.words ≤ 2 ^ 64 → (f.long ≡ true → at + f.words + 2 < 2 ^ counter_width base)
      → DoesFork netlist image stock.temps job when_one f at to other
  fork_does job when_one f at to other made few b le far =
      let used : ExprModel = tree_used (test_of job) made.choice in
      let setting : ℕ = branch_setting stock used made.choice.cover in
      let i : ℕ = image_word image (at + f.words) in
      let e : bit_and setting (fields made.form.condition) ≡ setting = test_setting job made.choice at f.words when_one made.way made.form made.operands in
      let p : BranchParts base order keeps patterns (cover_form stock made.choice.cover) when_one made.way made.form i setting made.bits =
      branch_parts base order keeps patterns (cover_form stock made.choice.cover) when_one made.way made.form i setting made.bits e
      (way_bits base made.way made.form.target (at + f.words) to f.long made.bits made.form.goes made.shown) made.word in
      record {
        condition = made.form.condition;
        operands = operands_do job made.choice at f.words when_one made.way made.form i made.bits made.operands p (omega (arith, b));
        branch = branches netlist image base basis (sound_of base order keeps) made.form.condition when_one (at + f.words) (if f.long then at + f.words + 2 else to)
            (branch_does base order keeps patterns (cover_form stock made.choice.cover) when_one made.way made.form i setting made.bits (at + f.words) (if f.long then at + f.words + 2 else to) p
            (λ s here. way_leads base made.way made.form.target (at + f.words) to f.long made.bits i s made.form.goes made.shown p.target_fits p.target few (omega (arith, b)) le far here) b netlist.special made.mode);
        behind = behind_does f.next f.long (at + f.words) to other made.behind;
      }
