-- Words that stand for the parts of a flow do what the flow says.
use Rattle.std.proofs.Common.{ℕ, zero, suc, ◌≡◌, ◌≤◌, ◌<◌, ◌+◌, ◌-◌, ◌==◌, Bool, true, false, if◌then◌else◌, List, length, Option, Some, None, refl, sym, ◌∙◌, ap, subst, arith, slice_get, drop, eqb-true, eq-eqb}
use Rattle.net_model.specs.declared.hardware.Netlist.{Netlist}
use Rattle.net_model.specs.declared.states.State.{State}
use Rattle.code_model.specs.declared.image.Image.{Image}
use Rattle.code_model.specs.Places.{words_of, label_at}
use Rattle.code_model.specs.Flow.{Reaches, Goes, GoesTo}
use Rattle.code_model.specs.Machine.{IsCalm}
use Rattle.code_model.proofs.Flowing.{reaches_on, reaches_one}
use Rattle.form_model.specs.declared.flow.Flow.{Flow}
use Rattle.form_model.specs.declared.flow.Flow.TheVariants.{Assign, Test as Tested, Jump as Jumped, End as Ended}
use Rattle.form_model.specs.Forms.{FormModel}
use Rattle.src_trees.specs.Lowered.{JobModel}
use Rattle.src_trees.specs.Doing.{Lies}
use Rattle.src_trees.specs.Blocks.{is_assign, continues, IsAssignBlock, jobs_at}
use Rattle.src_trees.specs.Placed.{Comes, DoesJobs, Decides, DoesTest, JumpComes, IsPlaced}
use Rattle.branch_fix.specs.declared.part.BranchedTest.{BranchedTest}
use Rattle.branch_fix.specs.declared.part.LayoutPart.{LayoutPart}
use Rattle.branch_fix.specs.declared.part.LayoutPart.TheVariants.{Block, Inner, Test, Jump, End}
use Rattle.branch_fix.specs.Parts.{form_at_one, branch_words, room, address, marks_from, FitsPart}
use Rattle.branch_fix.specs.Made.{DoesBlock, DoesFork, TailGoes, IsMade}
use Rattle.branch_fix.specs.Inner.Flowing.{IsFlow}
use Rattle.branch_fix.proofs.Addresses.{address_next, address_rises, address_first, own_label, first_mark, inner_mark, part_at, end_mark, flow_end}
use Rattle.branch_fix.proofs.Walking.{walks_reaches, walks_end, split, Split}

-- the clocks behind a branch word
abbrev tail_words : Bool → Bool → ℕ
tail_words next long = if long then 1 else if next then 0 else 1

tail_less : (next long : Bool) → tail_words next long < branch_words next long
tail_less true true = omega arith
tail_less false true = omega arith
tail_less true false = omega arith
tail_less false false = omega arith

module _ (netlist : Netlist) (image : Image) where
  record Tail (s : State) (to bound : ℕ) : Type 0 where
    taken : ℕ
    last : State
    within : taken ≤ bound
    reaches : Reaches netlist image s taken last
    here : IsCalm netlist to last
    same : last.cells ≡ s.cells

  stay_tail : (s : State) (to bound : ℕ) → IsCalm netlist to s → Tail s to bound
  stay_tail s to bound here = record { taken = 0; last = s; within = omega arith; reaches = refl; here = here; same = refl }

  jump_tail : (s : State) (at to : ℕ) → GoesTo netlist image at to → label_at image.marks at ≡ None → IsCalm netlist at s → Tail s to 1
  jump_tail s at to does free here =
      let g : Goes netlist image to s = does.goes s here in
      record { taken = 1; last = g.next; within = omega arith; reaches = reaches_one netlist image s g.next (ap (label_at image.marks) here.here.counter ∙ free) g.clocked; here = g.here; same = g.same }

  tail_to : (next long : Bool) (p to other : ℕ) (s : State) → TailGoes netlist image next long p to other
      → ((a : ℕ) → p < a → a < p + branch_words next long → label_at image.marks a ≡ None)
      → IsCalm netlist (if long then p + 2 else to) s → Tail s to (tail_words next long)
  tail_to next true p to other s b free here = jump_tail s (p + 2) to b.1 (free (p + 2) (omega arith) (omega arith)) here
  tail_to true false p to other s b free here = stay_tail s to 0 here
  tail_to false false p to other s b free here = stay_tail s to 1 here

  tail_other : (next long : Bool) (p to other : ℕ) (s : State) → TailGoes netlist image next long p to other
      → ((a : ℕ) → p < a → a < p + branch_words next long → label_at image.marks a ≡ None)
      → (next ≡ true → long ≡ false → p + 1 ≡ other) → IsCalm netlist (p + 1) s → Tail s other (tail_words next long)
  tail_other next true p to other s b free comes here = jump_tail s (p + 1) other b.0 (free (p + 1) (omega arith) (omega arith)) here
  tail_other true false p to other s b free comes here = stay_tail s other 0 (subst (λ a. IsCalm netlist a s) (comes refl refl) here)
  tail_other false false p to other s b free comes here = jump_tail s (p + 1) other b (free (p + 1) (omega arith) (omega arith)) here

  module _ (temps : ℕ) (forms : List FormModel) (flow : List Flow) (jobs : List JobModel) (parts : List LayoutPart) (end : ℕ) (is_flow : IsFlow flow end) (made : IsMade netlist image temps forms flow jobs parts) where
    label_is : (a : ℕ) → label_at image.marks a ≡ label_at (marks_from 0 parts) a
    label_is a = ap (λ ms. label_at ms a) made.marks

    free : (k : ℕ) (p : LayoutPart) → slice_get parts k ≡ Some p → (a : ℕ) → address parts k < a → a < address parts k + room p
        → label_at image.marks a ≡ None
    free k p e a low high = label_is a ∙ inner_mark 0 parts k p a e (omega arith) (omega arith)

    own : (k : ℕ) (p : LayoutPart) → slice_get parts k ≡ Some p → 1 ≤ room p → label_at image.marks (address parts k) ≡ own_label p
    own k p e some = label_is (address parts k) ∙ ap (label_at (marks_from 0 parts)) (let z : address parts k ≡ 0 + address parts k = omega arith in z) ∙ first_mark 0 parts k p e some

    part_of : (k : ℕ) (f : Flow) → slice_get flow k ≡ Some f → (p : LayoutPart) × (slice_get parts k ≡ Some p) × FitsPart forms flow k f p
    part_of k f e = part_at forms flow 0 flow parts k k f made.fit e (omega arith)

    -- ---- jumps

    jump_part : (k to : ℕ) → slice_get flow k ≡ Some (Jumped to) → slice_get parts k ≡ Some (Jump to)
    jump_part k to e = by (part_of k (Jumped to) e)
      where
        by : (p : LayoutPart) × (slice_get parts k ≡ Some p) × FitsPart forms flow k (Jumped to) p → slice_get parts k ≡ Some (Jump to)
        by (Block block words, g, h) = absurd h
        by (Inner, g, h) = absurd h
        by (Test f, g, h) = absurd h
        by (Jump place, g, h) = g ∙ ap (λ x. Some (Jump x)) h
        by (End, g, h) = absurd h

    jump_does : (k to : ℕ) → slice_get flow k ≡ Some (Jumped to) → JumpComes netlist image temps (address parts k) (address parts to)
    jump_does k to e = record {
      goes = λ s here.
          let p = jump_part k to e in
          let t : Tail s (address parts to) 1 = jump_tail s (address parts k) (address parts to) (made.jumps k to p) (own k (Jump to) p (omega arith)) here in
          record { taken = t.taken; last = t.last; within = t.within; reaches = t.reaches; here = t.here; same = ap (drop temps) t.same };
    }

    -- ---- blocks

    assign_at : (k : ℕ) → is_assign (slice_get flow k) ≡ true → (tree : ℕ) × (slice_get flow k ≡ Some (Assign tree))
    assign_at k e = by (slice_get flow k) refl e
      where
        by : (o : Option Flow) → slice_get flow k ≡ o → is_assign o ≡ true → (tree : ℕ) × (slice_get flow k ≡ Some (Assign tree))
        by None g h = absurd (cc h)
        by (Some (Assign tree)) g h = (tree, g)
        by (Some (Tested tree one none)) g h = absurd (cc h)
        by (Some (Jumped to)) g h = absurd (cc h)
        by (Some Ended) g h = absurd (cc h)

    inner_part : (k tree : ℕ) → slice_get flow k ≡ Some (Assign tree) → continues flow k ≡ true → slice_get parts k ≡ Some Inner
    inner_part k tree e c = by (part_of k (Assign tree) e)
      where
        by : (p : LayoutPart) × (slice_get parts k ≡ Some p) × FitsPart forms flow k (Assign tree) p → slice_get parts k ≡ Some Inner
        by (Block block words, g, h) = absurd (cc (c, h))
        by (Inner, g, h) = g
        by (Test f, g, h) = absurd h
        by (Jump place, g, h) = absurd h
        by (End, g, h) = absurd h

    block_part : (k tree : ℕ) → slice_get flow k ≡ Some (Assign tree) → continues flow k ≡ false
        → (block : ℕ) × (words : ℕ) × (slice_get parts k ≡ Some (Block block words))
    block_part k tree e c = by (part_of k (Assign tree) e)
      where
        by : (p : LayoutPart) × (slice_get parts k ≡ Some p) × FitsPart forms flow k (Assign tree) p
            → (block : ℕ) × (words : ℕ) × (slice_get parts k ≡ Some (Block block words))
        by (Block block words, g, h) = (block, words, g)
        by (Inner, g, h) = absurd (cc (c, h))
        by (Test f, g, h) = absurd h
        by (Jump place, g, h) = absurd h
        by (End, g, h) = absurd h

    block_end : (at n words : ℕ) (p : LayoutPart) → slice_get parts at ≡ Some p → room p ≡ words → IsAssignBlock flow at n → (j N : ℕ) → j < n → N ≡ at + j + 1
        → address parts N ≡ address parts at + words
    block_end at n words p e r b zero N lt is =
        let a = address_next parts at p e in
        subst (λ x. address parts x ≡ address parts at + words) (let f : at + 1 ≡ N = omega arith in f) (omega (arith, a, r))
    block_end at n words p e r b (suc j) N lt is =
        let h = block_end at n words p e r b j (at + suc j) (omega arith) (omega arith) in
        let t = assign_at (at + suc j) (b.assigns (suc j) lt) in
        let i = inner_part (at + suc j) t.0 t.1 (b.inner (suc j) lt (omega arith)) in
        let a = address_next parts (at + suc j) Inner i in
        subst (λ x. address parts x ≡ address parts at + words) (let f : at + suc j + 1 ≡ N = omega arith in f) (omega (arith, a, h))

    block_does : (at n : ℕ) → IsAssignBlock flow at n → DoesJobs netlist image temps (jobs_at flow jobs at n) (address parts at) (address parts (at + n))
    block_does at n b =
        let t = assign_at (at + 0) (b.assigns 0 (b.some)) in
        let here : slice_get flow at ≡ Some (Assign t.0) = ap (slice_get flow) (let z : at ≡ at + 0 = omega arith in z) ∙ t.1 in
        let p = block_part at t.0 here b.first in
        let some = b.some in
        let far : address parts (at + n) ≡ address parts at + p.1 = block_end at n p.1 (Block p.0 p.1) p.2 refl b (n - 1) (at + n) (omega arith) (omega arith) in
        let d : DoesBlock netlist image temps (jobs_at flow jobs at n) (address parts at) p.1 = made.blocks at n p.0 p.1 b p.2 in
        record {
          clocks = p.1;
          later = omega (arith, far);
          does = λ s a lie.
              let w = d.walks s a lie in
              record {
                taken = p.1;
                last = w.0;
                within = omega arith;
                reaches = walks_reaches netlist image p.1 (address parts at) (address parts (at + n)) s w.0 far (λ x low high. unmarked at p.0 p.1 p.2 x low (omega (arith, far))) w.1;
                here = record { here = walks_end netlist image p.1 (address parts at) (address parts (at + n)) s w.0 far w.1; mode = w.2 };
                same = w.3;
              };
        }
      where
        unmarked : (at block words : ℕ) → slice_get parts at ≡ Some (Block block words) → (x : ℕ) → address parts at ≤ x
            → x < address parts at + words → label_at image.marks x ≡ None
        unmarked at block words e x low high = by (x == address parts at) refl
          where
            by : (t : Bool) → (x == address parts at) ≡ t → label_at image.marks x ≡ None
            by true q = let s : x ≡ address parts at = eqb-true x (address parts at) q in ap (label_at image.marks) s ∙ own at (Block block words) e (omega arith)
            by false q =
                let ne : x ≡ address parts at → ⊥ = (λ s. let k : (x == address parts at) ≡ true = eq-eqb x (address parts at) s in absurd (cc)) in
                free at (Block block words) e x (omega arith) high

    -- ---- tests

    fork_decides : (at : ℕ) (f : BranchedTest) (job : JobModel) (w : Bool) (to other : ℕ) → slice_get parts at ≡ Some (Test f)
        → (d : DoesFork netlist image temps job w f (address parts at) to other)
        → (f.next ≡ true → f.long ≡ false → address parts at + f.words + 1 ≡ other) → (s : State) → IsCalm netlist (address parts at) s
        → Lies temps s.cells job
        → Decides netlist image temps f.tree d.operands.used (if w then to else other) (if w then other else to) (f.words + tail_words f.next f.long) s
    fork_decides at f job w to other e d comes s here lies =
        let a : ℕ = address parts at in
        let p : ℕ = address parts at + f.words in
        let walk = d.operands.walks s here lies in
        let there : IsCalm netlist (address parts at + f.words) walk.0 = record { here = walks_end netlist image f.words (address parts at) (address parts at + f.words) s walk.0 refl walk.1; mode = walk.2 } in
        let b = d.branch.branches walk.0 there in
        let less = tail_less f.next f.long in
        let open_words = λ (x : ℕ) (low : address parts at < x) (high : x < address parts at + (f.words + branch_words f.next f.long)). free at (Test f) e x low high in
        let sp : Split netlist image s f.words b.next =
        split netlist image f.words (address parts at) (address parts at + f.words + 1) s walk.0 b.next refl (λ x low high. open_words x (omega arith) (omega (arith, less))) walk.1 b.clocked in
        let behind_words = λ (x : ℕ) (low : address parts at + f.words < x) (high : x < address parts at + f.words + branch_words f.next f.long). open_words x (omega arith) (omega arith) in
        record {
          label = ap (label_at image.marks) here.here.counter ∙ own at (Test f) e (omega (arith, less));
          next = sp.next;
          clocked = sp.clocked;
          on_one = λ is. finish s b.next walk.0 sp.next f.words (if w then to else other) (tail_words f.next f.long) sp.reaches walk.3 b.same
              (by_one w b.next behind_words (b.one (walk.4 ∙ is)));
          on_zero = λ is. finish s b.next walk.0 sp.next f.words (if w then other else to) (tail_words f.next f.long) sp.reaches walk.3 b.same
              (by_zero w b.next behind_words (b.none (walk.4 ∙ is)));
        }
      where
        finish : (s u t next : State) (n to bound : ℕ) → Reaches netlist image next n u → drop temps t.cells ≡ drop temps s.cells → u.cells ≡ t.cells
            → Tail u to bound → Comes netlist image temps to s.cells (n + bound) next
        finish s u t next n to bound r kept same tail =
            let le = tail.within in
            record {
              taken = n + tail.taken;
              last = tail.last;
              within = omega (arith, le);
              reaches = reaches_on netlist image n next u tail.last tail.taken (n + tail.taken) refl r tail.reaches;
              here = tail.here;
              same = ap (drop temps) (tail.same ∙ same) ∙ kept;
            }

        by_one : (w : Bool) (u : State)
            → ((x : ℕ) → address parts at + f.words < x → x < address parts at + f.words + branch_words f.next f.long → label_at image.marks x ≡ None)
            → IsCalm netlist (if w then (if f.long then address parts at + f.words + 2 else to) else address parts at + f.words + 1) u
            → Tail u (if w then to else other) (tail_words f.next f.long)
        by_one true u fr q = tail_to f.next f.long (address parts at + f.words) to other u d.behind fr q
        by_one false u fr q = tail_other f.next f.long (address parts at + f.words) to other u d.behind fr comes q

        by_zero : (w : Bool) (u : State)
            → ((x : ℕ) → address parts at + f.words < x → x < address parts at + f.words + branch_words f.next f.long → label_at image.marks x ≡ None)
            → IsCalm netlist (if w then address parts at + f.words + 1 else (if f.long then address parts at + f.words + 2 else to)) u
            → Tail u (if w then other else to) (tail_words f.next f.long)
        by_zero true u fr q = tail_other f.next f.long (address parts at + f.words) to other u d.behind fr comes q
        by_zero false u fr q = tail_to f.next f.long (address parts at + f.words) to other u d.behind fr q

    test_does : (at tree when_one when_zero : ℕ) → slice_get flow at ≡ Some (Tested tree when_one when_zero) → (job : JobModel)
        → slice_get jobs tree ≡ Some job
        → DoesTest netlist image temps tree job (address parts at) (address parts when_one) (address parts when_zero)
    test_does at tree when_one when_zero e job at_jobs = by (part_of at (Tested tree when_one when_zero) e)
      where
        by : (p : LayoutPart) × (slice_get parts at ≡ Some p) × FitsPart forms flow at (Tested tree when_one when_zero) p
            → DoesTest netlist image temps tree job (address parts at) (address parts when_one) (address parts when_zero)
        by (Block block words, g, h) = absurd h
        by (Inner, g, h) = absurd h
        by (Jump place, g, h) = absurd h
        by (End, g, h) = absurd h
        by (Test f, g, h) =
            let d = made.forks at f g job (ap (slice_get jobs) h.0 ∙ at_jobs) in
            let next_at = address_next parts at (Test f) g in
            let comes = λ (n : f.next ≡ true) (l : f.long ≡ false). next_comes f g h.1 n l in
            let one_is : (if form_at_one (slice_get forms f.form) then address parts f.to else address parts f.other) ≡ address parts when_one = pick_one (form_at_one (slice_get forms f.form)) f h.2 h.3 in
            let zero_is : (if form_at_one (slice_get forms f.form) then address parts f.other else address parts f.to) ≡ address parts when_zero = pick_zero (form_at_one (slice_get forms f.form)) f h.2 h.3 in
            let ahead = is_flow.ahead at tree when_one when_zero e in
            let up_one = address_rises parts (at + 1) when_one (omega (arith, ahead)) in
            let up_zero = address_rises parts (at + 1) when_zero (omega (arith, ahead)) in
            let less = tail_less f.next f.long in
            record {
              which = d.operands.which;
              used = d.operands.used;
              among = d.operands.among;
              clocks = f.words + tail_words f.next f.long;
              one_later = omega (arith, next_at, up_one, less);
              zero_later = omega (arith, next_at, up_zero, less);
              asks = λ s here lies.
                  subst (λ t. Decides netlist image temps t d.operands.used (address parts when_one) (address parts when_zero) (f.words + tail_words f.next f.long) s) h.0
                  (subst (λ a. Decides netlist image temps f.tree d.operands.used a (address parts when_zero) (f.words + tail_words f.next f.long) s) one_is
                  (subst (λ a. Decides netlist image temps f.tree d.operands.used (if form_at_one (slice_get forms f.form) then address parts f.to else address parts f.other) a (f.words + tail_words f.next f.long) s) zero_is
                  (fork_decides at f job (form_at_one (slice_get forms f.form)) (address parts f.to) (address parts f.other) g d comes s here lies)));
            }
          where
            next_comes : (f : BranchedTest) → slice_get parts at ≡ Some (Test f) → f.next ≡ (f.other == at + 1) → f.next ≡ true → f.long ≡ false
                → address parts at + f.words + 1 ≡ address parts f.other
            next_comes f g n is l =
                let s : f.other ≡ at + 1 = eqb-true f.other (at + 1) (sym n ∙ is) in
                let a = address_next parts at (Test f) g in
                let one : branch_words f.next f.long ≡ 1 = (λ j. branch_words (is j) (l j)) in
                omega (arith, ap (address parts) s, a, one)

            pick_one : (w : Bool) (f : BranchedTest) → f.to ≡ (if w then when_one else when_zero) → f.other ≡ (if w then when_zero else when_one)
                → (if w then address parts f.to else address parts f.other) ≡ address parts when_one
            pick_one true f x y = ap (address parts) x
            pick_one false f x y = ap (address parts) y

            pick_zero : (w : Bool) (f : BranchedTest) → f.to ≡ (if w then when_one else when_zero) → f.other ≡ (if w then when_zero else when_one)
                → (if w then address parts f.other else address parts f.to) ≡ address parts when_zero
            pick_zero true f x y = ap (address parts) y
            pick_zero false f x y = ap (address parts) x

    -- ---- the end

    end_part : (k : ℕ) → slice_get flow k ≡ Some Ended → slice_get parts k ≡ Some End
    end_part k e = by (part_of k Ended e)
      where
        by : (p : LayoutPart) × (slice_get parts k ≡ Some p) × FitsPart forms flow k Ended p → slice_get parts k ≡ Some End
        by (Block block words, g, h) = absurd h
        by (Inner, g, h) = absurd h
        by (Test f, g, h) = absurd h
        by (Jump place, g, h) = absurd h
        by (End, g, h) = g

    -- all that the flow says is done
    pub made_placed : length (words_of image) ≡ address parts (end + 1)
        → IsPlaced netlist image temps flow jobs (address parts) end
    made_placed long =
        let e = end_part end is_flow.last in
        let a = address_next parts end End e in
        record {
          first = address_first parts;
          rises = address_rises parts;
          blocks = block_does;
          tests = test_does;
          jumps = jump_does;
          behind_jump = λ at to g. let b = address_next parts at (Jump to) (jump_part at to g) in omega (arith, b);
          long = omega (arith, long, a);
          end_label = own end End e (omega arith);
          end_only = λ x l.
              let k = end_mark 0 parts x (sym (label_is x) ∙ l) in
              let f = flow_end forms flow 0 flow parts k.0 made.fit k.1 in
              let same = is_flow.only k.0 f in
              omega (arith, k.2, ap (address parts) same);
          end_word = made.ends end e;
        }
