-- More is known step by step.
use Rattle.std.proofs.Common.{◌≡◌, ◌<◌, ◌≤◌, inl, inr, ℕ, List, [], ◌∷◌, ◌++◌, sym, subst}
use Rattle.net_model.specs.declared.states.State.{State}
use Rattle.src_trees.specs.Seen.{tree_value}
use Rattle.tree_laws.specs.declared.classes.Classes.{Classes}
use Rattle.tree_laws.specs.Classes.{Grows}
use Rattle.tree_laws.specs.Equal.{memory_alone}
use Rattle.class_values.specs.declared.facts.Fact.{Fact}
use Rattle.sym_run.specs.declared.known.Known.{Known}
use Rattle.sym_run.specs.declared.known.Cell.{Cell}
use Rattle.sym_run.specs.declared.known.Cell.TheVariants.{Array}
use Rattle.sym_run.specs.declared.known.Element.{Element}
use Rattle.class_values.specs.Values.{AreFacts, Holds, IsNumber}
use Rattle.sym_run.specs.Known.{AreInside, IsInside, StandsFor, cell_at}
use Rattle.class_values.proofs.Keeping.{facts_kept, grows_on, grows_same}
use Rattle.sym_run.proofs.Keeping.{known_kept}
use Rattle.mark_start.specs.declared.run.Run.{Run}
use Rattle.mark_start.specs.declared.run.Start.{Start}
use Rattle.form_model.specs.Trees.{model_of_tree}
use Rattle.form_model.specs.declared.trees.Tree.{Tree}
use Rattle.form_model.specs.declared.trees.Tree.TheVariants.{Lit, Read', Un', Bin', Slice', Zext', Sext'}
use Rattle.mark_start.specs.Marked.{IsAddress, IsComputed, IsInArrayAt, IsInArrays}
use Rattle.mark_start.specs.declared.hints.Spot.{Spot}
use Rattle.follow.specs.Safe.{base_in}
use Rattle.mark_start.specs.Runs.{ArraysIn, IsGathered, IsLearnt, IsStore, IsToldReg, IsTreeOf, Stands}

module _ (old new : Classes) (g : Grows old new) where
  pub stands_kept : (run : Run) (memory : List ℕ) (s : State) (now : List ℕ) → Stands old run memory s now → Stands new run memory s now
  stands_kept run memory s now h = record {
    facts = facts_kept old new g memory run.facts h.facts;
    machine = known_kept old new g memory run.machine s h.machine;
    vars = known_kept old new g memory run.vars (memory_alone now) h.vars;
  }

module _ (start : Start) where
  pub learnt_same : (Here : State → List ℕ → Type 0) (t : Classes) (run : Run) → IsLearnt start Here t t run run
  learnt_same Here t run = record { grows = grows_same t; arrays = λ k. k; stands = λ s cells memory m h a k. k }

  -- nothing is
  pub learnt_none : (Here : State → List ℕ → Type 0) (old new : Classes) (run : Run) → Grows old new → IsLearnt start Here old new run run
  learnt_none Here old new run g = record { grows = g; arrays = λ k. k; stands = λ s cells memory m h a k. stands_kept old new g run memory s cells k }

  pub learnt_on : (P Q : State → List ℕ → Type 0) (a b d : Classes) (first middle last : Run) → IsLearnt start P a b first middle → IsLearnt start Q b d middle last
      → IsLearnt start (λ s cells. P s cells × Q s cells) a d first last
  learnt_on P Q a b d first middle last f h = record {
    grows = grows_on a b d f.grows h.grows;
    arrays = λ k. h.arrays (f.arrays k);
    stands = λ s cells memory m p a k. h.stands s cells memory m p.1 (f.arrays a) (f.stands s cells memory m p.0 a k);
  }

  -- in a table that grew before
  pub learnt_after : (P : State → List ℕ → Type 0) (a b d : Classes) (run next : Run) → Grows a b → IsLearnt start P b d run next → IsLearnt start P a d run next
  learnt_after P a b d run next g h = record {
    grows = grows_on a b d g h.grows;
    arrays = h.arrays;
    stands = λ s cells memory m p k w. h.stands s cells memory m p k (stands_kept a b g run memory s cells w);
  }

  -- what holds there, by something else
  pub learnt_as : (P Q : State → List ℕ → Type 0) (old new : Classes) (run next : Run) → ((s : State) (cells : List ℕ) → Q s cells → P s cells) → IsLearnt start P old new run next → IsLearnt start Q old new run next
  learnt_as P Q old new run next f h = record { grows = h.grows; arrays = h.arrays; stands = λ s cells memory m q a k. h.stands s cells memory m (f s cells q) a k }

  pub nothing_on : (a b d : Classes) (first middle last : Run) → IsLearnt start (λ s cells. Unit {0}) a b first middle → IsLearnt start (λ s cells. Unit {0}) b d middle last → IsLearnt start (λ s cells. Unit {0}) a d first last
  nothing_on a b d first middle last f h =
      learnt_as (λ s cells. Unit {0} × Unit {0}) (λ s cells. Unit {0}) a d first last (λ s cells u. (tt, tt))
      (learnt_on (λ s cells. Unit {0}) (λ s cells. Unit {0}) a b d first middle last f h)

  -- of the machine
  pub machine_learnt : (Here : State → List ℕ → Type 0) (old new : Classes) (g : Grows old new) (run : Run) (machine : Known)
      → (ArraysIn start.from.now.spots run.machine.cells → ArraysIn start.from.now.spots machine.cells)
      → ((s : State) (cells memory : List ℕ) → IsStore start s cells memory → Here s cells → Stands old run memory s cells → StandsFor new memory run.machine s → StandsFor new memory machine s)
      → IsLearnt start Here old new run (record { facts = run.facts; machine = machine; vars = run.vars })
  machine_learnt Here old new g run machine arrays told = record {
    grows = g;
    arrays = λ k. record { machine = arrays k.machine; vars = k.vars };
    stands = λ s cells memory m h a k.
        (let n = stands_kept old new g run memory s cells k in
        record { facts = n.facts; machine = told s cells memory m h k n.machine; vars = n.vars });
  }

  -- of the program's cells
  pub vars_learnt : (Here : State → List ℕ → Type 0) (old new : Classes) (g : Grows old new) (run : Run) (vars : Known)
      → (ArraysIn start.from.now.spots run.vars.cells → ArraysIn start.from.now.spots vars.cells)
      → ((s : State) (cells memory : List ℕ) → IsStore start s cells memory → Here s cells → Stands old run memory s cells → StandsFor new memory run.vars (memory_alone cells) → StandsFor new memory vars (memory_alone cells))
      → IsLearnt start Here old new run (record { facts = run.facts; machine = run.machine; vars = vars })
  vars_learnt Here old new g run vars arrays told = record {
    grows = g;
    arrays = λ k. record { machine = k.machine; vars = arrays k.vars };
    stands = λ s cells memory m h a k.
        (let n = stands_kept old new g run memory s cells k in
        record { facts = n.facts; machine = n.machine; vars = told s cells memory m h k n.vars });
  }

  -- a fact
  facts_on : (t : Classes) (memory : List ℕ) (facts : List Fact) (fact : Fact) → AreFacts t memory facts → Holds t memory fact.class fact.number → AreFacts t memory (facts ++ fact ∷ [])
  facts_on t memory [] fact h k = (k, tt)
  facts_on t memory (f ∷ facts) fact h k = (h.0, facts_on t memory facts fact h.1 k)

  pub fact_learnt : (Here : State → List ℕ → Type 0) (old new : Classes) (g : Grows old new) (run : Run) (fact : Fact) (facts : List Fact) → facts ≡ run.facts ++ fact ∷ []
      → ((s : State) (cells memory : List ℕ) → IsStore start s cells memory → Here s cells → Stands old run memory s cells → Holds new memory fact.class fact.number)
      → IsLearnt start Here old new run (record { facts = facts; machine = run.machine; vars = run.vars })
  fact_learnt Here old new g run fact facts e holds = record {
    grows = g;
    arrays = λ k. record { machine = k.machine; vars = k.vars };
    stands = λ s cells memory m h a k.
        (let n = stands_kept old new g run memory s cells k in
        record {
          facts = subst (AreFacts new memory) (sym e) (facts_on new memory run.facts fact n.facts (holds s cells memory m h k));
          machine = n.machine;
          vars = n.vars;
        });
  }

  -- the program counter
  pub counter_learnt : (old new : Classes) (g : Grows old new) (run : Run) (machine : Known) (width class : ℕ) → IsNumber new width start.from.now.address class
      → machine.cells ≡ run.machine.cells → IsToldReg start.counter class run.machine machine
      → IsLearnt start (λ s cells. Unit {0}) old new run (record { facts = run.facts; machine = machine; vars = run.vars })
  counter_learnt old new g run machine width class is same told =
      machine_learnt (λ s cells. Unit {0}) old new g run machine
      (λ k. subst (ArraysIn start.from.now.spots) (sym same) k)
      (λ s cells memory m h k n. told new memory s n (subst (Holds new memory class) (sym m.mark.counter) (is memory).holds))

  -- ---- elements

  pub gathered_none : (Here : List ℕ → Type 0) (old new : Classes) (run : Run) → Grows old new → IsGathered start Here old new run run
  gathered_none Here old new run g = record { grows = g; arrays = λ k. k; stands = λ memory s now h a k. stands_kept old new g run memory s now k }

  pub gathered_on : (P Q : List ℕ → Type 0) (a b d : Classes) (first middle last : Run) → IsGathered start P a b first middle → IsGathered start Q b d middle last
      → IsGathered start (λ now. P now × Q now) a d first last
  gathered_on P Q a b d first middle last f h = record {
    grows = grows_on a b d f.grows h.grows;
    arrays = λ k. h.arrays (f.arrays k);
    stands = λ memory s now p k w. h.stands memory s now p.1 (f.arrays k) (f.stands memory s now p.0 k w);
  }

  pub gathered_as : (P Q : List ℕ → Type 0) (old new : Classes) (run next : Run) → ((now : List ℕ) → Q now → P now) → IsGathered start P old new run next → IsGathered start Q old new run next
  gathered_as P Q old new run next f h = record { grows = h.grows; arrays = h.arrays; stands = λ memory s now q k w. h.stands memory s now (f now q) k w }

  pub gathered_later : (P : List ℕ → Type 0) (a b d : Classes) (run next : Run) → Grows b d → IsGathered start P a b run next → IsGathered start P a d run next
  gathered_later P a b d run next g h = record { grows = grows_on a b d h.grows g; arrays = h.arrays; stands = λ memory s now p k w. stands_kept b d g next memory s now (h.stands memory s now p k w) }

  -- at the mark
  pub learnt_elements : (P : List ℕ → Type 0) (old new : Classes) (run next : Run) → IsGathered start P old new run next → IsLearnt start (λ s cells. P cells) old new run next
  learnt_elements P old new run next h = record { grows = h.grows; arrays = h.arrays; stands = λ s cells memory m p k w. h.stands memory s cells p k w }

  inside_on : (t : Classes) (memory : List ℕ) (cells : List Cell) (elements : List Element) (one : Element) → AreInside t memory cells elements → IsInside t memory cells one → AreInside t memory cells (elements ++ one ∷ [])
  inside_on t memory cells [] one h i = (i, tt)
  inside_on t memory cells (e ∷ elements) one h i = (h.0, inside_on t memory cells elements one h.1 i)

  with_inside : (t : Classes) (memory : List ℕ) (known : Known) (s : State) (inside : List Element) (class first end address : ℕ) → inside ≡ known.inside ++ record { class = class; like = class; first = first; end = end } ∷ [] → cell_at known.cells address ≡ Array
      → (first ≤ address) × (address < end) → Holds t memory class address → StandsFor t memory known s → StandsFor t memory (record { regs = known.regs; cells = known.cells; inside = inside; puts = known.puts; file = known.file }) s
  with_inside t memory known s inside class first end address e array within holds h = record {
    fits = h.fits;
    room = h.room;
    regs = h.regs;
    cells = h.cells;
    arrays = h.arrays;
    file = h.file;
    inside = subst (AreInside t memory known.cells) (sym e)
        (inside_on t memory known.cells known.inside (record { class = class; like = class; first = first; end = end }) h.inside
        (record { address = address; holds = holds; alike = holds; array = array; behind = within.0; within = within.1 }));
  }

  in_one : (spots : List Spot) (base a : ℕ) → IsInArrayAt spots base a → IsInArrays spots a
  in_one [] base a h = absurd h
  in_one (spot ∷ spots) base a (inl h) = inl h.0
  in_one (spot ∷ spots) base a (inr h) = inr (in_one spots base a h)

  address_in : (addr : Tree) (now : List ℕ) → IsComputed addr → IsAddress start.from.now.spots now (model_of_tree addr) → IsInArrayAt start.from.now.spots (base_in (model_of_tree addr)) (tree_value now (model_of_tree addr))
  address_in (Lit w v) now c h = absurd c
  address_in (Read' p a w) now c h = h
  address_in (Un' o p a) now c h = h
  address_in (Bin' o p a q b) now c h = h
  address_in (Slice' p a hi lo) now c h = h
  address_in (Zext' p a w) now c h = h
  address_in (Sext' p a w) now c h = h

  pub element_gathered : (addr : Tree) → IsComputed addr → (old new : Classes) (g : Grows old new) (run : Run) (class first end : ℕ) (near far : List Element) → IsTreeOf old new run (model_of_tree addr) class
      → first ≡ base_in (model_of_tree addr) → ((a : ℕ) → IsInArrayAt start.from.now.spots first a → (first ≤ a) × (a < end))
      → near ≡ run.machine.inside ++ record { class = class; like = class; first = first; end = end } ∷ [] → far ≡ run.vars.inside ++ record { class = class; like = class; first = first; end = end } ∷ []
      → IsGathered start (λ now. IsAddress start.from.now.spots now (model_of_tree addr)) old new run
      (record { facts = run.facts; machine = record { regs = run.machine.regs; cells = run.machine.cells; inside = near; puts = run.machine.puts; file = run.machine.file }; vars = record { regs = run.vars.regs; cells = run.vars.cells; inside = far; puts = run.vars.puts; file = run.vars.file } })
  element_gathered addr computed old new g run class first end near far is at until e f = record {
    grows = g;
    arrays = λ k. record { machine = k.machine; vars = k.vars };
    stands = λ memory s now h k w.
        (let n = stands_kept old new g run memory s now w in
        let address = tree_value now (model_of_tree addr) in
        let there : IsInArrayAt start.from.now.spots first address = subst (λ b. IsInArrayAt start.from.now.spots b address) (sym at) (address_in addr now computed h) in
        let i = in_one start.from.now.spots first address there in
        let within = until address there in
        let holds = is memory now w.facts w.vars in
        record {
          facts = n.facts;
          machine = with_inside new memory run.machine s near class first end address e (k.machine address i) within holds n.machine;
          vars = with_inside new memory run.vars (memory_alone now) far class first end address f (k.vars address i) within holds n.vars;
        });
  }
