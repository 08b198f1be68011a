-- Code that is made of its parts traces the program.
use Rattle.std.proofs.Common.{ℕ, zero, suc, ◌≡◌, ◌≤◌, ◌<◌, ◌+◌, ◌^◌, inl, inr, Bool, true, false, List, [], ◌∷◌, length, Option, Some, None, slice_get, refl, sym, ◌∙◌, ap, arith, subst}
use Rattle.std.proofs.lemmas.Bool.{cases_eq}
use Rattle.std.proofs.Math.Nat.{pow-le-pow_right}
use Rattle.rec_bits.proofs.Lists.{slice_get_within}
use Rattle.net_model.specs.declared.hardware.Netlist.{Netlist}
use Rattle.net_model.specs.declared.hardware.Storage.{Storage}
use Rattle.net_model.specs.declared.hardware.Storage.TheVariants.{Register, Memory, File}
use Rattle.net_model.specs.CheckedRules.{IsCounter, code_size}
use Rattle.net_model.specs.Nets.{storage_bits, counter_of, counter_width, memory_size, memory_width}
use Rattle.src_model.specs.Written.{ProgramModel, stmts_of}
use Rattle.src_model.specs.Rules.{first_fault}
use Rattle.src_model.specs.Trace.{strace}
use Rattle.code_model.specs.declared.image.Image.{Image}
use Rattle.code_model.specs.Places.{words_of}
use Rattle.code_model.specs.Right.{TracesRight}
use Rattle.form_model.specs.declared.flow.Flow.{Flow}
use Rattle.form_model.specs.declared.flow.Flow.TheVariants.{End as Ended}
use Rattle.form_model.specs.Forms.{FormModel}
use Rattle.src_trees.specs.Lowered.{MemoryMap, JobModel}
use Rattle.src_trees.specs.Flows.{places_in, program_flow}
use Rattle.src_trees.specs.Held.{HasCellRoom, HoldsVars}
use Rattle.src_trees.specs.Meant.{DoProgram}
use Rattle.src_trees.specs.Turned.{Turns, TurnsTests, jobs_of_told, turned_flow}
use Rattle.branch_fix.specs.declared.part.LayoutPart.{LayoutPart}
use Rattle.branch_fix.specs.declared.part.LayoutPart.TheVariants.{Block, Inner, Test, Jump, End}
use Rattle.branch_fix.specs.Parts.{address, total, room, branch_words, form_at_one, PartsFit, FitsPart}
use Rattle.branch_fix.specs.Made.{DoesBlock, DoesFork, IsMade, image_word}
use Rattle.branch_fix.specs.Sections.{DoSections, DoesIn, DoesSection, PutsMode, Section, section_jobs, section_room, sections_room}
use Rattle.branch_fix.proofs.Sections.{sections_do}
use Rattle.branch_fix.specs.Inner.Flowing.{IsFlow}
use Rattle.branch_fix.proofs.Addresses.{address_next, address_rises, part_at, fit_length, some_words}
use Rattle.branch_fix.proofs.Laying.{address_total}
use Rattle.branch_fix.proofs.Shapes.{program_is_flow}
use Rattle.branch_fix.proofs.LaidRight.{turned_right}
use Rattle.branch_fix.proofs.TurnedFlows.{turned_is_flow}
use Rattle.right_code.specs.Inner.Code.{IsMadeCode}
use Rattle.right_code.specs.Inner.Blocks.{AreSectionsMade, IsBlockMade, IsKit, IsModeBlockMade, IsModeWordMade, IsSectionMade, Kit, Machine}
use Rattle.right_code.proofs.Walked.{block_does, word_puts}
use Rattle.right_code.proofs.Forked.{fork_does, leads}

-- a part that isn't the end
abbrev pub is_end : LayoutPart → Bool
is_end End = true
is_end (Block block words) = false
is_end Inner = false
is_end (Test f) = false
is_end (Jump to) = false

pub ended : (forms : List FormModel) (flow : List Flow) (n : ℕ) (p : LayoutPart) → FitsPart forms flow n Ended p → (is_end p ≡ true) × (1 ≤ room p)
ended forms flow n End h = (refl, omega arith)
ended forms flow n (Block block words) h = absurd h
ended forms flow n Inner h = absurd h
ended forms flow n (Test f) h = absurd h
ended forms flow n (Jump to) h = absurd h

-- behind such a part the end still stands
pub before_end : (forms : List FormModel) (flow : List Flow) (end : ℕ) (parts : List LayoutPart) (k : ℕ) (p : LayoutPart) → IsFlow flow end → PartsFit forms flow 0 flow parts → slice_get parts k ≡ Some p → is_end p ≡ false
    → address parts k + room p < total parts
before_end forms flow end parts k p f fit e stays =
    let n : length parts ≡ length flow = fit_length forms flow 0 flow parts fit in
    let long : length flow ≡ end + 1 = f.long in
    let l : k < length parts = slice_get_within parts k p e in
    let at = part_at forms flow 0 flow parts end end Ended fit f.last (omega arith) in
    let last = ended forms flow end at.0 at.2 in
    let one : 1 ≤ room at.0 = last.1 in
    let ne : k ≡ end → ⊥ = (λ z. other p at.0 (sym e ∙ ap (slice_get parts) z ∙ at.1) stays last.0) in
    let le : k + 1 ≤ end = less k end ne (omega (arith, n, long, l)) in
    let a : address parts (k + 1) ≡ address parts k + room p = address_next parts k p e in
    let b : address parts (end + 1) ≡ address parts end + room at.0 = address_next parts end at.0 at.1 in
    let c : address parts (end + 1) ≡ total parts = address_total parts (end + 1) (sym (n ∙ long)) in
    let d : address parts (k + 1) ≤ address parts end = address_rises parts (k + 1) end le in
    omega (arith, one, a, b, c, d)
  where
    other : (p q : LayoutPart) → Some p ≡ Some q → is_end p ≡ false → is_end q ≡ true → ⊥
    other p q e f t = cc

    less : (k n : ℕ) → (k ≡ n → ⊥) → k < n + 1 → k + 1 ≤ n
    less k n ne lt = elim (cases_eq k n) as (λ _. k + 1 ≤ n) [
      | inl z ↦ absurd (ne z)
      | inr z ↦ omega (arith, z, lt)
    ]

-- a program counter has few bits
counter_narrow : (o : Option Storage) → IsCounter o → storage_bits o ≤ 64
counter_narrow (Some (Register name width input None)) h = omega (arith, h)
counter_narrow (Some (Register name width input (Some when))) h = absurd h
counter_narrow (Some (Memory cells)) h = absurd h
counter_narrow (Some (File cells)) h = absurd h
counter_narrow None h = absurd h

powers : (w : ℕ) → w ≤ 64 → 2 ^ w ≤ 2 ^ 64
powers w le = pow-le-pow_right {n = 2} (omega arith) {i = w} {j = 64} le

three_words : (next long : Bool) → long ≡ true → 3 ≤ branch_words next long
three_words next true e = omega arith
three_words next false e = absurd (cc e)

module _ (m : Machine) (kit : Kit) (are : IsKit m 0 kit) (image : Image) where
  -- addresses within the code are within those of the counter, in each mode
  within : (v : ℕ) (other : Kit) → IsKit m v other → (n : ℕ) → n ≤ code_size kit.netlist.codes → n ≤ 2 ^ counter_width other.netlist
  within v other is n le =
      let a : code_size kit.netlist.codes ≡ code_size m.netlist.codes = ap code_size are.base.codes in
      let b : code_size other.netlist.codes ≡ code_size m.netlist.codes = ap code_size is.base.codes in
      let c : code_size other.netlist.codes ≤ 2 ^ counter_width other.netlist = is.keeps.roles.sizes.0.1 in
      omega (arith, le, a, b, c)

  -- ---- the sections of a block

  part_does : (v : ℕ) (other : Kit) → IsKit m v other → (jobs : List JobModel) (at n : ℕ) → IsBlockMade other.netlist m.netlist.special other.patterns other.stock image jobs at n → at + n < code_size kit.netlist.codes
      → DoesIn m.netlist image m.temps v jobs at n
  part_does v other is jobs at n made lt =
      let low : at + n + 1 ≤ 2 ^ counter_width other.netlist = within v other is (at + n + 1) (omega (arith, lt)) in
      subst (λ t. DoesIn m.netlist image t v jobs at n) is.temps
      (block_does m.netlist other.netlist v is.base is.order is.keeps image other.patterns other.stock is.sized is.formed jobs at n made (omega (arith, low)))

  word_does : (v : ℕ) (other : Kit) → IsKit m v other → (at to : ℕ) → IsModeWordMade other.netlist m.netlist.special (image_word image at) to → at + 1 < code_size kit.netlist.codes → PutsMode m.netlist image v to at
  word_does v other is at to made lt =
      let low : at + 1 + 1 ≤ 2 ^ counter_width other.netlist = within v other is (at + 1 + 1) (omega (arith, lt)) in
      word_puts m.netlist other.netlist v is.base is.order is.keeps image at to made (omega (arith, low))

  section_does : (v : ℕ) (jobs : List JobModel) (at n : ℕ) → IsSectionMade m kit image v jobs at n → at + section_room v n < code_size kit.netlist.codes → DoesSection m.netlist image m.temps v jobs at n
  section_does zero jobs at n made lt = part_does 0 kit are jobs at n made (omega (arith, lt))
  section_does (suc v) jobs at n made lt =
      (word_does 0 kit are at (suc v) made.2 (omega (arith, lt)), part_does (suc v) made.0 made.1 jobs (at + 1) n made.3 (omega (arith, lt)), word_does (suc v) made.0 made.1 (at + 1 + n) 0 made.4 (omega (arith, lt)))

  sections_done : (sections : List Section) (at : ℕ) → AreSectionsMade m kit image sections at → at + sections_room sections < code_size kit.netlist.codes → DoSections m.netlist image m.temps sections at
  sections_done [] at made lt = tt
  sections_done (x ∷ sections) at made lt =
      (section_does x.mode x.jobs at x.words made.0 (omega (arith, lt)), sections_done sections (at + section_room x.mode x.words) made.1 (omega (arith, lt)))

  block_done : (jobs : List JobModel) (at n : ℕ) → IsModeBlockMade m kit image jobs at n → at + n < code_size kit.netlist.codes → DoesBlock m.netlist image m.temps jobs at n
  block_done jobs at n made lt =
      let r : n ≡ sections_room made.sections = made.room in
      subst (λ (list : List JobModel). DoesBlock m.netlist image m.temps list at n) (sym made.are)
      (subst (λ k. DoesBlock m.netlist image m.temps (section_jobs made.sections) at k) (sym r)
      (sections_do m.netlist image m.temps made.sections at (sections_done made.sections at made.made (omega (arith, lt, r)))))

  -- ---- the code

  -- code that is made of its parts is made as the flow wants it
  pub made_is : (flow : List Flow) (jobs : List JobModel) (parts : List LayoutPart) (end : ℕ) → IsFlow flow end → IsMadeCode m kit image flow jobs parts
      → IsMade m.netlist image m.temps kit.stock.forms flow jobs parts
  made_is flow jobs parts end f made =
      let base : Netlist = kit.netlist in
      let forms : List FormModel = kit.stock.forms in
      let few : counter_width kit.netlist ≤ 64 = counter_narrow (slice_get kit.netlist.storages (counter_of kit.netlist.codes)) are.keeps.roles.counter in
      let full : total parts ≤ code_size kit.netlist.codes = made.room in
      let big : total parts ≤ 2 ^ counter_width kit.netlist = within 0 kit are (total parts) full in
      record {
        fit = made.fit;
        marks = made.marks;
        blocks = λ at n block words b e.
            (let l : address parts at + words < total parts = before_end kit.stock.forms flow end parts at (Block block words) f made.fit e refl in
            block_done _ (address parts at) words (made.blocks at n block words b e) (omega (arith, l, full)));
        forks = λ at fork e job has.
            (let l : address parts at + (fork.words + branch_words fork.next fork.long) < total parts = before_end kit.stock.forms flow end parts at (Test fork) f made.fit e refl in
            let one : 1 ≤ branch_words fork.next fork.long = some_words fork.next fork.long in
            let wide : 2 ^ counter_width kit.netlist ≤ 2 ^ 64 = powers (counter_width kit.netlist) few in
            subst (λ t. DoesFork m.netlist image t job (form_at_one (slice_get kit.stock.forms fork.form)) fork (address parts at) (address parts fork.to) (address parts fork.other)) are.temps
            (fork_does m.netlist kit.netlist are.base are.order are.keeps image kit.patterns kit.stock are.sized are.formed job _ fork (address parts at) (address parts fork.to) (address parts fork.other) (made.forks at fork e job has) few
            (omega (arith, l, one, big)) (omega (arith, l, one, big, wide)) (λ z. let three : 3 ≤ branch_words fork.next fork.long = three_words fork.next fork.long z in omega (arith, l, three, big))));
        jumps = λ at to e. leads m.netlist kit.netlist are.base are.order are.keeps image kit.patterns kit.stock are.sized are.formed (address parts at) (address parts to) (made.jumps at to e);
        ends = λ at e. leads m.netlist kit.netlist are.base are.order are.keeps image kit.patterns kit.stock are.sized are.formed (address parts at) (address parts at) (made.ends at e);
      }

  -- and traces the program, with each mark in mode 0
  pub code_right : (mem : MemoryMap) (l : ProgramModel) (turned : Turns) (jobs : List JobModel) (parts : List LayoutPart) → first_fault mem.word l ≡ None → memory_width m.netlist.storages ≡ mem.word → HoldsVars m.temps l.vars mem
      → HasCellRoom m.temps mem (memory_size m.netlist.storages) → image.places ≡ mem.places → TurnsTests turned (program_flow l) → DoProgram mem m.temps l (jobs_of_told turned jobs)
      → IsMadeCode m kit image (turned_flow turned (program_flow l)) jobs parts
      → length (words_of image) ≡ total parts → TracesRight m.netlist image (strace mem.word l)
  code_right mem l turned jobs parts kept wide held room places only does made long =
      let f : IsFlow (turned_flow turned (program_flow l)) (places_in (stmts_of l.body)) = turned_is_flow turned (program_flow l) (places_in (stmts_of l.body)) (program_is_flow l) in
      turned_right m.netlist image mem m.temps l turned jobs kit.stock.forms parts kept wide held room places only does
      (made_is (turned_flow turned (program_flow l)) jobs parts (places_in (stmts_of l.body)) f made) long
