-- Code as the layout orders it is made of its parts.
use Rattle.std.proofs.Common.{Option, ℕ, ◌≡◌, ◌<◌, ◌+◌, ◌++◌, unwrap_or, zero, suc, Bool, true, false, List, [], ◌∷◌, length, Some, None, slice_get, slice_index, sym, ◌∙◌, ap, arith, subst, length-append}
use Rattle.rec_bits.proofs.Lists.{slice_get_within}
use Rattle.net_model.specs.declared.hardware.Netlist.{Netlist}
use Rattle.net_model.specs.CheckedRules.{KeepsRules}
use Rattle.net_model.specs.Nets.{memory_size, memory_width}
use Rattle.net_model.specs.Patterns.{Pattern}
use Rattle.src_model.specs.Written.{ProgramModel, stmts_of}
use Rattle.src_model.specs.Rules.{first_fault}
use Rattle.src_model.specs.Trace.{strace}
use Rattle.code_model.specs.declared.image.Image.{Image}
use Rattle.code_model.specs.Places.{words_of}
use Rattle.form_model.specs.declared.flow.Flow.{Flow}
use Rattle.form_model.specs.Shapes.{shape_setting}
use Rattle.form_model.specs.Forms.{FormModel}
use Rattle.form_model.specs.Covers.{StockModel}
use Rattle.compaction.specs.Laws.{operation_in}
use Rattle.form_model.specs.Steps.{branch_setting}
use Rattle.word_fit.specs.Fits.{fits_over, FitsJump}
use Rattle.word_fit.proofs.Least.{all_fit}
use Rattle.src_trees.specs.Lowered.{MemoryMap, JobModel}
use Rattle.src_trees.specs.Flows.{places_in, program_flow}
use Rattle.src_trees.specs.Held.{HasCellRoom, HoldsVars}
use Rattle.src_trees.specs.Meant.{DoProgram}
use Rattle.src_trees.specs.Turned.{Turns, TurnsTests, jobs_of_told, turned_flow}
use Rattle.branch_fix.specs.Parts.{form_at_one, goal_at_one, room, starts, address}
use Rattle.branch_fix.specs.Items.{groups, jump_form, jump_step, branch_step, behind, part_items}
use Rattle.branch_fix.specs.Made.{image_word}
use Rattle.branch_fix.specs.Inner.Flowing.{IsFlow}
use Rattle.branch_fix.specs.declared.part.BranchedTest.{BranchedTest}
use Rattle.branch_fix.specs.declared.part.LayoutPart.{LayoutPart}
use Rattle.branch_fix.specs.declared.part.LayoutPart.TheVariants.{Block, Test, Jump, End}
use Rattle.branch_fix.proofs.Shapes.{program_is_flow}
use Rattle.branch_fix.proofs.TurnedFlows.{turned_is_flow}
use Rattle.branch_fix.proofs.Words.{groups_length}
use Rattle.right_code.specs.Jobs.{tree_used}
use Rattle.word_fit.specs.Runs.{StandAt}
use Rattle.branch_fix.specs.Sections.{Section, section_room, sections_room}
use Rattle.right_code.specs.Inner.Blocks.{AreSectionsMade, IsBlockMade, IsKit, IsModeBlockMade, IsModeWordMade, IsSectionMade, Kit, Machine}
use Rattle.right_code.specs.Forks.{cover_form}
use Rattle.right_code.specs.Inner.Forks.{IsJumpMade, IsForkMade, BehindMade, test_of}
use Rattle.code_model.specs.Right.{TracesRight}
use Rattle.right_code.specs.Inner.Code.{IsMadeCode}
use Rattle.right_code.specs.Inner.Laid.{AreSectionsReady, AreTurns, IsBlockReady, IsForkReady, IsLaidCode, IsModeBlockReady, IsSectionReady}
use Rattle.right_code.specs.Words.{StandItems}
use Rattle.mode_set.specs.Words.{FitsTurn}
use Rattle.right_code.proofs.Coded.{code_right}
use Rattle.right_code.proofs.Inside.{Upto, program_upto, turned_upto}
use Rattle.right_code.proofs.Standing.{shown_some, stand_split, part_stands, groups_stand}
use Rattle.branch_fix.proofs.Addresses.{address_is}
use Rattle.right_code.proofs.Layouts.{IsBranchStep, branch_step_is, fit, goals, near, ways}

-- ---- the sections of a block

stand_both : (code : List ℕ) (xs ys : List ℕ) (at : ℕ) → StandAt code at (xs ++ ys) → StandAt code at xs × StandAt code (at + length xs) ys
stand_both code [] ys at h = let z : at ≡ at + 0 = omega arith in (tt, subst (λ k. StandAt code k ys) z h)
stand_both code (x ∷ xs) ys at h =
    let r = stand_both code xs ys (at + 1) h.1 in
    let z : at + 1 + length xs ≡ at + suc (length xs) = omega arith in
    ((h.0, r.0), subst (λ k. StandAt code k ys) z r.1)

module _ (m : Machine) (kit : Kit) (image : Image) where
  -- jobs of one mode
  jobs_made : (own : Kit) (jobs : List JobModel) (at n : ℕ) (words : List ℕ) → IsBlockReady own.netlist m.netlist.special own.patterns own.stock jobs words n → StandAt (words_of image) at words
      → IsBlockMade own.netlist m.netlist.special own.patterns own.stock image jobs at n
  jobs_made own jobs at n words r there = record {
    choices = r.choices;
    covered = r.covered;
    live = r.live;
    groups = r.groups;
    means = r.means;
    words = words;
    fit = all_fit (operation_in own.netlist own.patterns) (fits_over own.netlist (operation_in own.netlist own.patterns)) r.live words r.groups r.least;
    long = r.long;
    stand = there;
    kept = r.kept;
  }

  pub record SectionStands (v : ℕ) (jobs : List JobModel) (at n : ℕ) (words : List ℕ) : Type 0 where
    pub made : IsSectionMade m kit image v jobs at n
    pub long : length words ≡ section_room v n

  section_made : (v : ℕ) (jobs : List JobModel) (at n : ℕ) (words : List ℕ) → IsSectionReady m kit v jobs n words → StandAt (words_of image) at words → SectionStands v jobs at n words
  section_made zero jobs at n words r there = record { made = jobs_made kit jobs at n words r there; long = sym r.long }
  section_made (suc v) jobs at n words r there =
      let other : Kit = r.0 in
      let h : StandAt (words_of image) at (r.2 ∷ (r.3 ++ r.4 ∷ [])) = subst (StandAt (words_of image) at) r.5 there in
      let both = stand_both (words_of image) r.3 (r.4 ∷ []) (at + 1) h.1 in
      let n_is : n ≡ length r.3 = r.7.long in
      let far : at + 1 + length r.3 ≡ at + 1 + n = omega (arith, n_is) in
      let all : length words ≡ suc (length (r.3 ++ r.4 ∷ [])) = ap length r.5 in
      let more : length (r.3 ++ r.4 ∷ []) ≡ length r.3 + 1 = length-append r.3 (r.4 ∷ []) in
      record {
        made = (
          r.0,
          r.1,
          subst (λ i. IsModeWordMade kit.netlist m.netlist.special i (suc v)) (sym h.0) r.6,
          jobs_made r.0 jobs (at + 1) n r.3 r.7 both.0,
          subst (λ k. IsModeWordMade r.0.netlist m.netlist.special (image_word image k) 0) far (subst (λ i. IsModeWordMade r.0.netlist m.netlist.special i 0) (sym both.1.0) r.8),
        );
        long = omega (arith, all, more, n_is);
      }

  pub record SectionsStand (sections : List Section) (at : ℕ) (words : List ℕ) : Type 0 where
    pub made : AreSectionsMade m kit image sections at
    pub long : length words ≡ sections_room sections

  pub sections_made : (sections : List Section) (at : ℕ) (words : List ℕ) → AreSectionsReady m kit sections words → StandAt (words_of image) at words → SectionsStand sections at words
  sections_made [] at words r there = record { made = tt; long = ap length r }
  sections_made (x ∷ sections) at words r there =
      let h : StandAt (words_of image) at (r.0 ++ r.1) = subst (StandAt (words_of image) at) r.2 there in
      let both = stand_both (words_of image) r.0 r.1 at h in
      let one : SectionStands x.mode x.jobs at x.words r.0 = section_made x.mode x.jobs at x.words r.0 r.3 both.0 in
      let n : length r.0 ≡ section_room x.mode x.words = one.long in
      let z : at + length r.0 ≡ at + section_room x.mode x.words = omega (arith, n) in
      let later : SectionsStand sections (at + section_room x.mode x.words) r.1 = sections_made sections (at + section_room x.mode x.words) r.1 r.4 (subst (λ k. StandAt (words_of image) k r.1) z both.1) in
      let m : length r.1 ≡ sections_room sections = later.long in
      let all : length words ≡ length r.0 + length r.1 = ap length r.2 ∙ length-append r.0 r.1 in
      record { made = (one.made, later.made); long = omega (arith, all, n, m) }

module _ (m : Machine) (kit : Kit) (order : List ℕ) (keeps : KeepsRules kit.netlist order) (image : Image) (reach : ℕ) (turns : AreTurns kit.netlist kit.patterns kit.stock.forms reach) where
  abbrev special : Option ℕ
  special = m.netlist.special

  abbrev netlist : Netlist
  netlist = kit.netlist

  abbrev patterns : List Pattern
  patterns = kit.patterns

  abbrev stock : StockModel
  stock = kit.stock

  jump_made : (i to : ℕ) → FitsTurn netlist special i (operation_in netlist patterns (jump_step (jump_form stock.forms reach) to)) → to < reach → IsJumpMade netlist special patterns i to
  jump_made i to w lt = record {
    jump = turns.form;
    form = turns.jump;
    bits = unwrap_or (shape_setting turns.form.value to) 0;
    shown = shown_some (shape_setting turns.form.value to) (turns.shown to lt);
    word = subst (λ o. FitsJump netlist i (operation_in netlist patterns (jump_step o to))) turns.first w.fits;
    mode = w.mode;
  }

  behind_made : (words : ℕ → List ℕ) (next long : Bool) (at to other : ℕ) → to < reach → other < reach
      → StandItems netlist special patterns words (words_of image) (at + 1) (behind (jump_form stock.forms reach) next long to other) → BehindMade netlist special patterns image next long at to other
  behind_made words next true at to other lt low h =
      let z : at + 1 + 1 ≡ at + 2 = omega arith in
      (jump_made _ other h.0.is low, jump_made _ to (subst (λ k. FitsTurn netlist special (image_word image k) (operation_in netlist patterns (jump_step (jump_form stock.forms reach) to))) z h.1.0.is) lt)
  behind_made words true false at to other lt low h = tt
  behind_made words false false at to other lt low h = jump_made _ other h.0.is low

  -- ---- the words of its parts

  module _ (flow : List Flow) (jobs : List JobModel) (parts : List LayoutPart) (end : ℕ) (f : IsFlow flow end) (upto : Upto end flow) (laid : IsLaidCode m kit image flow jobs parts reach) where
    stands : (k : ℕ) (p : LayoutPart) → slice_get parts k ≡ Some p
        → StandItems netlist special patterns laid.words (words_of image) (address parts k) (part_items stock.forms (jump_form stock.forms reach) (starts parts) (address parts k) p)
    stands k p e = part_stands netlist special patterns laid.words (words_of image) stock.forms (jump_form stock.forms reach) (starts parts) 0 parts k p (address parts k) e (omega arith) laid.stand

    fork_made : (at : ℕ) (g : BranchedTest) → slice_get parts at ≡ Some (Test g) → (job : JobModel) → IsForkReady netlist special patterns stock job (laid.words g.block) g
        → IsForkMade netlist special patterns stock image job (form_at_one (slice_get stock.forms g.form)) g (address parts at) (address parts g.to) (address parts g.other)
    fork_made at g e job r =
        let branch : FormModel = cover_form stock r.choice.cover in
        let a : ℕ = address parts at in
        let from : ℕ = a + g.words in
        let setting : ℕ = branch_setting stock (tree_used (test_of job) r.choice) r.choice.cover in
        let step : IsBranchStep netlist order keeps patterns stock reach turns flow parts end f upto laid.layout setting r.choice.cover g from (address parts g.to) =
        branch_step_is netlist order keeps patterns stock reach turns flow parts end f upto laid.layout at g e r.covered.covers.tree r.choice.cover setting r.covered.covers.orderly r.form r.setting in
        let in_to = (ways netlist order keeps patterns stock reach turns flow parts end f upto laid.layout at g e).0 in
        let in_other = (ways netlist order keeps patterns stock reach turns flow parts end f upto laid.layout at g e).1 in
        let to_is : slice_index (starts parts) g.to ≡ address parts g.to = address_is parts g.to (omega (arith, in_to)) in
        let other_is : slice_index (starts parts) g.other ≡ address parts g.other = address_is parts g.other (omega (arith, in_other)) in
        let s = stand_split netlist special patterns laid.words (words_of image) (groups g.block 0 g.words) _ a from (ap (λ n. a + n) (sym (groups_length g.block 0 g.words))) (stands at (Test g) e) in
        let word : FitsTurn netlist special (image_word image from) (operation_in netlist patterns (branch_step (slice_get stock.forms g.form) g.setting from (slice_index (starts parts) g.to) g.long)) = s.1.0.is in
        subst (λ b. IsForkMade netlist special patterns stock image job b g a (address parts g.to) (address parts g.other)) (sym (ap form_at_one r.form ∙ ap goal_at_one step.goal)) (record {
          choice = r.choice;
          operands = record {
            covered = r.covered;
            live = r.live;
            groups = r.groups;
            means = r.means;
            words = laid.words g.block;
            fit = all_fit (operation_in netlist patterns) (fits_over netlist (operation_in netlist patterns)) r.live (laid.words g.block) r.groups r.least;
            long = r.long;
            stand = groups_stand netlist special patterns laid.words (words_of image) g.block (laid.words g.block) 0 a (λ j. let z : 0 + j ≡ j = omega arith in ap (slice_index (laid.words g.block)) z)
                (subst (λ n. StandItems netlist special patterns laid.words (words_of image) a (groups g.block 0 n)) r.long s.0);
            kept = r.kept;
            wants = r.wants;
          };
          way = step.way;
          form = turns.forks g.form branch step.when_one step.way r.form step.goal;
          bits = step.bits;
          shown = step.shown;
          word = subst (λ x. FitsJump netlist (image_word image from) (operation_in netlist patterns x)) step.step word.fits;
          mode = word.mode;
          behind = behind_made laid.words g.next g.long from (address parts g.to) (address parts g.other) (near netlist order keeps patterns stock reach turns flow parts end f upto laid.layout g.to in_to) (near netlist order keeps patterns stock reach turns flow parts end f upto laid.layout g.other in_other)
              (subst (λ n. StandItems netlist special patterns laid.words (words_of image) (from + 1) (behind (jump_form stock.forms reach) g.next g.long (address parts g.to) n)) other_is
              (subst (λ n. StandItems netlist special patterns laid.words (words_of image) (from + 1) (behind (jump_form stock.forms reach) g.next g.long n (slice_index (starts parts) g.other))) to_is s.1.1));
        })

    -- the words of a block, where they stand
    block_made : (at n block size : ℕ) → slice_get parts at ≡ Some (Block block size) → (own : List JobModel) → IsModeBlockReady m kit own (laid.words block) size
        → IsModeBlockMade m kit image own (address parts at) size
    block_made at n block size e own r =
        let there : StandAt (words_of image) (address parts at) (laid.words block) =
        groups_stand netlist special patterns laid.words (words_of image) block (laid.words block) 0 (address parts at) (λ j. let z : 0 + j ≡ j = omega arith in ap (slice_index (laid.words block)) z)
        (subst (λ n. StandItems netlist special patterns laid.words (words_of image) (address parts at) (groups block 0 n)) r.long (stands at (Block block size) e)) in
        let m : SectionsStand m kit image r.sections (address parts at) (laid.words block) = sections_made m kit image r.sections (address parts at) (laid.words block) r.ready there in
        record { sections = r.sections; are = r.are; room = r.long ∙ m.long; made = m.made }

    -- code as the layout orders it is made of its parts
    pub laid_made : IsMadeCode m kit image flow jobs parts
    laid_made = record {
      fit = fit netlist order keeps patterns stock reach turns flow parts end f upto laid.layout;
      marks = laid.marks;
      room = laid.room;
      blocks = λ at n block size b e. block_made at n block size e _ (laid.blocks at n block size b e);
      forks = λ at g e job has. fork_made at g e job (laid.forks at g e job has);
      jumps = λ at to e.
          jump_made _ (address parts to)
          (subst (λ n. FitsTurn netlist special (image_word image (address parts at)) (operation_in netlist patterns (jump_step (jump_form stock.forms reach) n))) (let lt = goals netlist order keeps patterns stock reach turns flow parts end f upto laid.layout at to e in address_is parts to (omega (arith, lt))) (stands at (Jump to) e).0.is)
          (near netlist order keeps patterns stock reach turns flow parts end f upto laid.layout to (goals netlist order keeps patterns stock reach turns flow parts end f upto laid.layout at to e));
      ends = λ at e. jump_made _ (address parts at) (stands at End e).0.is (near netlist order keeps patterns stock reach turns flow parts end f upto laid.layout at (slice_get_within parts at End e));
    }

-- and traces the program, with each mark in mode 0
pub ordered_right : (m : Machine) (kit : Kit) (are : IsKit m 0 kit) (image : Image) (reach : ℕ)
    → AreTurns kit.netlist kit.patterns kit.stock.forms reach → (mem : MemoryMap) (l : ProgramModel) (turned : Turns) (jobs : List JobModel) (parts : List LayoutPart) → first_fault mem.word l ≡ None → memory_width m.netlist.storages ≡ mem.word
    → HoldsVars m.temps l.vars mem → HasCellRoom m.temps mem (memory_size m.netlist.storages) → image.places ≡ mem.places → TurnsTests turned (program_flow l) → DoProgram mem m.temps l (jobs_of_told turned jobs)
    → IsLaidCode m kit image (turned_flow turned (program_flow l)) jobs parts reach
    → TracesRight m.netlist image (strace mem.word l)
ordered_right m kit are image reach turns mem l turned jobs parts kept wide held room places only does laid =
    let end : ℕ = places_in (stmts_of l.body) in
    code_right m kit are image mem l turned jobs parts kept wide held room places only does
    (laid_made m kit are.order are.keeps image reach turns (turned_flow turned (program_flow l)) jobs parts end (turned_is_flow turned (program_flow l) end (program_is_flow l)) (turned_upto turned end (program_flow l) (program_upto l)) laid)
    laid.long
