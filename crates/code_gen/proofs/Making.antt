-- An image that is put together of the words of its layout is made for its task.
use Rattle.std.proofs.Common.{◌≡◌, ℕ, zero, suc, ◌+◌, ◌<◌, Bool, true, false, if◌then◌else◌, List, [], ◌∷◌, ◌++◌, map, Option, Some, length, slice_get, slice_index, refl, sym, ap, subst, ◌∙◌, arith, length-append, append_assoc}
use Rattle.std.proofs.lemmas.Option.{slice_get_within}
use Rattle.std.proofs.lemmas.Bool.{true≢false}
use Rattle.rec_bits.proofs.Lists.{index_seam}
use Rattle.net_model.specs.declared.hardware.Netlist.{Netlist}
use Rattle.net_model.specs.Patterns.{Pattern}
use Rattle.code_model.specs.declared.image.Word.{Word}
use Rattle.form_model.specs.Live.{Regs, regs_of}
use Rattle.form_model.specs.Forms.{FormModel}
use Rattle.form_model.specs.declared.flow.Flow.{Flow}
use Rattle.form_model.specs.declared.flow.Flow.TheVariants.{Assign, Test as Tested, Jump as Jumped, End as Ended}
use Rattle.src_trees.specs.Blocks.{IsAssignBlock, continues, jobs_at}
use Rattle.src_trees.specs.Lowered.{JobModel}
use Rattle.compaction.specs.Laws.{operation_in}
use Rattle.branch_fix.specs.declared.outline.Branch.{Branch}
use Rattle.branch_fix.specs.declared.laid.Item.{Item}
use Rattle.branch_fix.specs.declared.laid.Item.TheVariants.{Group, Jump as Turn}
use Rattle.branch_fix.specs.declared.part.BranchedTest.{BranchedTest}
use Rattle.branch_fix.specs.declared.part.LayoutPart.{LayoutPart}
use Rattle.branch_fix.specs.declared.part.LayoutPart.TheVariants.{Block, Inner, Test, Jump, End}
use Rattle.branch_fix.specs.Parts.{fork_to, branch_or_zero, part_for, parts_of, form_at_one, blocks_before, tests_before}
use Rattle.branch_fix.specs.Rounds.{IsFixpoint}
use Rattle.mode_set.specs.Costs.{PlanModel}
use Rattle.mode_set.specs.Keeping.{IsModeRegister, Isas}
use Rattle.net_model.specs.ModeRules.{base_at}
use Rattle.right_code.specs.Covered.{mode_stock}
use Rattle.right_code.specs.Cuts.{AreBlockCuts, cuts_of, plans_at}
use Rattle.right_code.specs.Images.{AreTestWords, IsBranchOf}
use Rattle.right_code.specs.Tasks.{Task}
use Rattle.right_code.specs.Words.{IsItemWord, ListItems, StandItems}
use Rattle.compaction.specs.declared.packer.PackedBlock.{PackedBlock}
use Rattle.code_gen.specs.Inner.Coded.{AreItemWords, IsBlockCode, IsKeptWord, groups_at, words_at}
use Rattle.code_gen.specs.Inner.Views.{mode_bits}
use Rattle.code_gen.proofs.ModeRegs.{least_turn}
use Rattle.code_gen.proofs.Places.{settled_part, shortened}

-- ---- words in their order

module _ (netlist : Netlist) (patterns : List Pattern) (kept : Regs) (blocks : List PackedBlock) where
  pub words_long : (items : List Item) (words : List Word) → AreItemWords netlist patterns kept blocks items words → length words ≡ length items
  words_long [] [] h = refl
  words_long [] (w ∷ words) h = absurd h
  words_long (i ∷ items) [] h = absurd h
  words_long (i ∷ items) (w ∷ words) h = ap suc (words_long items words h.1)

  -- they list the patterns of their steps
  pub words_list : (items : List Item) (words : List Word) → AreItemWords netlist patterns kept blocks items words → ListItems (groups_at blocks) items words
  words_list [] [] h = tt
  words_list [] (w ∷ words) h = absurd h
  words_list (i ∷ items) [] h = absurd h
  words_list (i ∷ items) (w ∷ words) h = (h.0.lists, words_list items words h.1)

-- jump and branch words that keep the register that holds the mode keep the mode
module _ (netlist : Netlist) (patterns : List Pattern) (special : Option ℕ) (register : IsModeRegister special netlist) (blocks : List PackedBlock) where
  item_word : (i : ℕ) (item : Item) → IsKeptWord netlist patterns (regs_of (mode_bits special)) (words_at blocks) i item → IsItemWord netlist special patterns (words_at blocks) i item
  item_word i (Group block at) h = h
  item_word i (Turn step) h = least_turn netlist (operation_in netlist patterns step) special register i h

  stand_behind : (front : List ℕ) (items : List Item) (words : List Word) (at : ℕ) → at ≡ length front → AreItemWords netlist patterns (regs_of (mode_bits special)) blocks items words
      → StandItems netlist special patterns (words_at blocks) (front ++ map (λ (w : Word). w.word) words) at items
  stand_behind front [] [] at e h = tt
  stand_behind front [] (w ∷ words) at e h = absurd h
  stand_behind front (i ∷ items) [] at e h = absurd h
  stand_behind front (i ∷ items) (w ∷ words) at e h = (
    subst (λ n. IsItemWord netlist special patterns (words_at blocks) n i) (sym (index_seam front w.word (map (λ (x : Word). x.word) words) at e)) (item_word w.word i h.0.is),
    subst (λ code. StandItems netlist special patterns (words_at blocks) code (at + 1) items) (append_assoc front (w.word ∷ []) (map (λ (x : Word). x.word) words))
        (stand_behind (front ++ w.word ∷ []) items words (at + 1) (let l = length-append front (w.word ∷ []) in omega (arith, e, l)) h.1),
  )

  pub words_stand : (items : List Item) (words : List Word) → AreItemWords netlist patterns (regs_of (mode_bits special)) blocks items words
      → StandItems netlist special patterns (words_at blocks) (map (λ (w : Word). w.word) words) 0 items
  words_stand items words h = stand_behind [] items words 0 refl h

-- ---- sizes

-- how many words each block has
abbrev pub sizes : List PackedBlock → List ℕ
sizes blocks = map (λ (block : PackedBlock). length block.words) blocks

pub sizes_at : (blocks : List PackedBlock) (block : ℕ) → slice_index (sizes blocks) block ≡ length (words_at blocks block)
sizes_at [] block = refl
sizes_at (b ∷ blocks) zero = refl
sizes_at (b ∷ blocks) (suc block) = sizes_at blocks block

-- ---- blocks and tests

-- which block a part is
abbrev block_part : LayoutPart → ℕ × ℕ
block_part (Block block size) = (block, size)
block_part Inner = (0, 0)
block_part (Test f) = (0, 0)
block_part (Jump to) = (0, 0)
block_part End = (0, 0)

abbrev is_run : LayoutPart → Bool
is_run (Block block size) = true
is_run Inner = false
is_run (Test f) = false
is_run (Jump to) = false
is_run End = false

abbrev fork_part : LayoutPart → BranchedTest → BranchedTest
fork_part (Block block size) none = none
fork_part Inner none = none
fork_part (Test f) none = f
fork_part (Jump to) none = none
fork_part End none = none

abbrev is_fork : LayoutPart → Bool
is_fork (Block block size) = false
is_fork Inner = false
is_fork (Test f) = true
is_fork (Jump to) = false
is_fork End = false

pub record IsBlockThere (flow : List Flow) (sizes : List ℕ) (at block size : ℕ) : Type 0 where
  pub number : block ≡ blocks_before flow at
  pub words : size ≡ slice_index sizes (blocks_before flow at)
  pub within : at < length flow

pub record IsTestThere (flow : List Flow) (sizes : List ℕ) (forks : List Branch) (at : ℕ) (f : BranchedTest) : Type 0 where
  pub when_one : ℕ
  pub when_zero : ℕ
  pub place : slice_get flow at ≡ Some (Tested f.tree when_one when_zero)
  pub number : f.block ≡ blocks_before flow at
  pub words : f.words ≡ slice_index sizes (blocks_before flow at)
  pub form : f.form ≡ (branch_or_zero (slice_get forks (tests_before flow at))).form
  pub setting : f.setting ≡ (branch_or_zero (slice_get forks (tests_before flow at))).setting
  pub within : at < length flow

module _ (forms : List FormModel) (flow : List Flow) (sizes : List ℕ) (forks : List Branch) (parts : List LayoutPart) (settled : IsFixpoint forms (parts_of forms flow sizes forks) parts) where
  pub block_there : (at block size : ℕ) → slice_get parts at ≡ Some (Block block size) → IsBlockThere flow sizes at block size
  block_there at block size e =
      let h = settled_part forms flow sizes forks parts settled at (Block block size) e in
      go h.1.f h.1.place (h.2 ∙ ap shortened h.1.is)
    where
      B : ℕ
      B = blocks_before flow at

      T : ℕ
      T = tests_before flow at

      no_fork : (b : Bool) (tree form setting one zero : ℕ) →
          Block block size ≡ shortened (if b then fork_to tree (blocks_before flow at) (slice_index sizes (blocks_before flow at)) form setting at one zero else fork_to tree (blocks_before flow at) (slice_index sizes (blocks_before flow at)) form setting at zero one) → ⊥
      no_fork true tree form setting one none e = true≢false (ap is_run e)
      no_fork false tree form setting one none e = true≢false (ap is_run e)

      by : (c : Bool) → Block block size ≡ shortened (if c then Inner else Block (blocks_before flow at) (slice_index sizes (blocks_before flow at))) → at < length flow → IsBlockThere flow sizes at block size
      by true e lt = absurd (true≢false (ap is_run e))
      by false e lt = record { number = ap (λ p. (block_part p).0) e; words = ap (λ p. (block_part p).1) e; within = lt }

      go : (f : Flow) → slice_get flow at ≡ Some f → Block block size ≡ shortened (part_for forms flow sizes forks f at (blocks_before flow at) (tests_before flow at)) → IsBlockThere flow sizes at block size
      go (Assign tree) place e = by (continues flow at) e (slice_get_within flow at (Assign tree) place)
      go (Tested tree one none) place e = absurd (no_fork (form_at_one (slice_get forms (branch_or_zero (slice_get forks (tests_before flow at))).form)) tree (branch_or_zero (slice_get forks (tests_before flow at))).form (branch_or_zero (slice_get forks (tests_before flow at))).setting one none e)
      go (Jumped to) place e = absurd (true≢false (ap is_run e))
      go Ended place e = absurd (true≢false (ap is_run e))

  pub test_there : (at : ℕ) (f : BranchedTest) → slice_get parts at ≡ Some (Test f) → IsTestThere flow sizes forks at f
  test_there at f e =
      let h = settled_part forms flow sizes forks parts settled at (Test f) e in
      go h.1.f h.1.place (h.2 ∙ ap shortened h.1.is)
    where
      short : BranchedTest
      short = record f { long = false }

      no_run : (c : Bool) → Test (record f { long = false }) ≡ shortened (if c then Inner else Block (blocks_before flow at) (slice_index sizes (blocks_before flow at))) → ⊥
      no_run true e = true≢false (ap is_fork e)
      no_run false e = true≢false (ap is_fork e)

      by : (b : Bool) (tree one zero : ℕ) → slice_get flow at ≡ Some (Tested tree one zero)
          → Test (record f { long = false }) ≡ shortened (if b
          then fork_to tree (blocks_before flow at) (slice_index sizes (blocks_before flow at)) (branch_or_zero (slice_get forks (tests_before flow at))).form (branch_or_zero (slice_get forks (tests_before flow at))).setting at one zero
          else fork_to tree (blocks_before flow at) (slice_index sizes (blocks_before flow at)) (branch_or_zero (slice_get forks (tests_before flow at))).form (branch_or_zero (slice_get forks (tests_before flow at))).setting at zero one)
          → IsTestThere flow sizes forks at f
      by true tree one none place e = record {
        when_one = one;
        when_zero = none;
        place = place ∙ ap (λ t. Some (Tested t one none)) (sym (ap (λ p. (fork_part p f).tree) e));
        number = ap (λ p. (fork_part p f).block) e;
        words = ap (λ p. (fork_part p f).words) e;
        form = ap (λ p. (fork_part p f).form) e;
        setting = ap (λ p. (fork_part p f).setting) e;
        within = slice_get_within flow at (Tested tree one none) place;
      }
      by false tree one none place e = record {
        when_one = one;
        when_zero = none;
        place = place ∙ ap (λ t. Some (Tested t one none)) (sym (ap (λ p. (fork_part p f).tree) e));
        number = ap (λ p. (fork_part p f).block) e;
        words = ap (λ p. (fork_part p f).words) e;
        form = ap (λ p. (fork_part p f).form) e;
        setting = ap (λ p. (fork_part p f).setting) e;
        within = slice_get_within flow at (Tested tree one none) place;
      }

      go : (g : Flow) → slice_get flow at ≡ Some g → Test (record f { long = false }) ≡ shortened (part_for forms flow sizes forks g at (blocks_before flow at) (tests_before flow at)) → IsTestThere flow sizes forks at f
      go (Assign tree) place e = absurd (no_run (continues flow at) e)
      go (Tested tree one none) place e = by (form_at_one (slice_get forms (branch_or_zero (slice_get forks (tests_before flow at))).form)) tree one none place e
      go (Jumped to) place e = absurd (true≢false (ap is_fork e))
      go Ended place e = absurd (true≢false (ap is_fork e))

-- ---- the words of blocks and tests, as the image has them

module _ (task : Task) (isas : Isas task.netlist) (flow : List Flow) (jobs : List JobModel) (plans : List PlanModel) (blocks : List PackedBlock) (branches : List Branch)
    (code : IsBlockCode task isas flow jobs plans (length flow) blocks branches) (parts : List LayoutPart)
    (settled : IsFixpoint (isas 0).keeping (parts_of (isas 0).keeping flow (sizes blocks) branches) parts) where
  pub blocks_made : (at n block size : ℕ) → IsAssignBlock flow at n → slice_get parts at ≡ Some (Block block size)
      → AreBlockCuts task isas (cuts_of (jobs_at flow jobs at n) (plans_at flow plans at n)) (groups_at blocks block) (words_at blocks block)
      × (size ≡ length (words_at blocks block))
  blocks_made at n block size run e =
      let t = block_there (isas 0).keeping flow (sizes blocks) branches parts settled at block size e in
      subst (λ b. AreBlockCuts task isas (cuts_of (jobs_at flow jobs at n) (plans_at flow plans at n)) (groups_at blocks b) (words_at blocks b) × (size ≡ length (words_at blocks b))) (sym t.number)
      ((code.runs at n t.within run).cuts, t.words ∙ sizes_at blocks (blocks_before flow at))

  pub tests_made : (at : ℕ) (f : BranchedTest) → slice_get parts at ≡ Some (Test f) → (job : JobModel) → slice_get jobs f.tree ≡ Some job → (planned : PlanModel) → slice_get plans f.tree ≡ Some planned
      → AreTestWords (base_at task.netlist 0) task.netlist.special (isas 0).patterns (mode_stock task isas 0) job planned.choice (groups_at blocks f.block) (words_at blocks f.block) f
  tests_made at f e job w planned c =
      let t = test_there (isas 0).keeping flow (sizes blocks) branches parts settled at f e in
      let k = code.tests at f.tree t.when_one t.when_zero t.within t.place job planned w c in
      subst (λ b. AreTestWords (base_at task.netlist 0) task.netlist.special (isas 0).patterns (mode_stock task isas 0) job planned.choice (groups_at blocks b) (words_at blocks b) f) (sym t.number)
      (record {
        packing = k.packed.packing;
        least = k.packed.least;
        long = t.words ∙ sizes_at blocks (blocks_before flow at);
        branch = record { form = ap (slice_get (isas 0).keeping) t.form ∙ k.form; setting = t.setting ∙ k.setting };
      })

  -- the branches of the layout are those of the covers
  pub branches_made : (at : ℕ) (f : BranchedTest) → slice_get parts at ≡ Some (Test f) → (job : JobModel) → slice_get jobs f.tree ≡ Some job → (planned : PlanModel) → slice_get plans f.tree ≡ Some planned
      → IsBranchOf (mode_stock task isas 0) job planned.choice f
  branches_made at f e job w planned c = (tests_made at f e job w planned c).branch
