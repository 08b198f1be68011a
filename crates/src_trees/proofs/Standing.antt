-- The machine stands at each place of a flow for what the program passes from there on.
use Rattle.std.proofs.Common.{ℕ, zero, suc, ◌≡◌, ◌≤◌, ◌<◌, ◌+◌, ◌-◌, ◌^◌, Bool, true, false, not, nat_lt, if◌then◌else◌, List, [], ◌∷◌, ◌++◌, length, Some, None, refl, sym, ◌∙◌, ap, subst, arith, slice_get, slice_index, ◌==◌, eq-eqb, ◌⊎◌, inl, inr, pow_pos}
use Rattle.std.proofs.lemmas.Bool.Decides.{nat_tests}
use Rattle.rec_bits.specs.Operators.{bit_of}
use Rattle.rec_bits.proofs.Booleans.{or_left, or_right, and_from}
use Rattle.net_model.specs.declared.hardware.Space.TheVariants.{Memory as InMemory}
use Rattle.net_model.specs.Exprs.{ExprModel}
use Rattle.net_model.specs.declared.hardware.Netlist.{Netlist}
use Rattle.net_model.specs.declared.states.State.{State}
use Rattle.net_model.specs.Nets.{memory_size, memory_width}
use Rattle.src_model.specs.declared.program.Cmp.{Cmp}
use Rattle.src_model.specs.declared.program.Cmp.TheVariants.{Ne}
use Rattle.src_model.specs.declared.checkpoint.Checkpoint.TheVariants.{At, End as TheEnd}
use Rattle.src_model.specs.declared.program.Var.{Var as Declared}
use Rattle.src_model.specs.Written.{SrcExprModel, SpotModel, SrcTestModel as Tested, StmtModel, assign, choice, while, count, StmtsModel, no_acts, act, ElseModel, without, otherwise, ProgramModel, stmts_of}
use Rattle.src_model.specs.Sizes.{statements, statements_in}
use Rattle.src_model.specs.Loops.{Round, place_shape}
use Rattle.src_model.specs.Meaning.{assigned, holds, FitsStore}
use Rattle.src_model.specs.Ways.{Onward, pass, choose, loop, finish}
use Rattle.src_model.specs.Trace.{started, stepped, counting, after_change, run_stmt, run_in, run_else, strace}
use Rattle.src_model.proofs.WayLemmas.{Keeps, finish_whole, finish_steady}
use Rattle.src_model.proofs.TraceLemmas.{counted_body, body_keeps, counted_keeps, in_whole, in_steady}
use Rattle.code_model.specs.declared.image.Image.{Image}
use Rattle.code_model.specs.Places.{label_at, cells_at}
use Rattle.code_model.specs.Machine.{label_in, store_in, IsCalm, IsRestful}
use Rattle.code_model.specs.Inner.Flow.{Leads, Tests, Follows, Rests, Stands}
use Rattle.code_model.specs.Flow.{Goes, GoesTo}
use Rattle.code_model.specs.Right.{TracesRight}
use Rattle.code_model.proofs.Flowing.{block_stands, end_stands, test_stands, loop_stands, stands_less}
use Rattle.code_model.proofs.Traces.{traces_right}
use Rattle.form_model.specs.declared.flow.Flow.{Flow}
use Rattle.form_model.specs.declared.flow.Flow.TheVariants.{Assign, Test, Jump, End}
use Rattle.src_trees.specs.Lowered.{MemoryMap, JobModel, holds_at_one, answer}
use Rattle.net_model.specs.Widths.{IsState}
use Rattle.net_model.specs.Clock.{counter_in}
use Rattle.src_model.specs.Rules.{first_fault}
use Rattle.src_trees.specs.Flows.{program_flow, places_for, places_in, places_else, else_entry, asked, flow_of, flow_in, flow_else}
use Rattle.src_model.proofs.SoundLemmas.{program_sound}
use Rattle.src_trees.proofs.Parts.{stand_all, Stand, stand_left, stand_right, in_length, flow_length, all_done_more, all_lie_more, all_done_length, all_are_at, entered_by, begins_entered, begins_other, begins_behind}
use Rattle.src_trees.specs.Seen.{seen_store, tree_value, CanAssign, CanTest}
use Rattle.src_trees.specs.Held.{HasCellRoom, HoldsCells, HoldsVars, LieWithin}
use Rattle.src_trees.specs.Meant.{DoesAssign, DoesStart, DoesStep, Tells as TellsTest, count_test, DoStmt, DoStmts, DoElse, DoProgram}
use Rattle.src_trees.specs.Doing.{done, all_done, job_value, Lies, AllLie, AllAre}
use Rattle.src_model.specs.Inner.Sound.{Holds, Turns, SoundAssign, SoundTest, SoundCount, Sound, SoundIn, SoundElse}
use Rattle.src_trees.specs.Blocks.{is_assign, enters, continues, IsAssignBlock, job_list, job_at, jobs_at}
use Rattle.src_trees.specs.Placed.{Comes, DoesJobs, DoesTest, JumpComes, IsPlaced}
use Rattle.src_trees.proofs.Cells.{done_words, seen_behind, seen_length, seen_below}
use Rattle.src_model.proofs.RangeLemmas.{inside}
use Rattle.src_model.proofs.CounterLemmas.{assign_holds, start_turns, turn_holds, step_turns}

-- what a store keeps at a place: in the bodies of loops, or at the test of a `for` within them
data Phase : Type 0 where
  body : List Round → Phase
  turn : List Round → List ℕ → ℕ → ℕ → Phase

abbrev Meets : ℕ → List Declared → Phase → List ℕ → Type 0
Meets bits vars (body rounds) cells = Holds bits vars rounds cells
Meets bits vars (turn rounds counter from to) cells = Turns bits vars rounds counter from to cells

-- a test is no assignment, and goes on at both its targets
asked_other : (cmp : Cmp) (tree yes_to no_to : ℕ) → is_assign (Some (asked cmp tree yes_to no_to)) ≡ false
asked_other cmp tree yes_to no_to = by (holds_at_one cmp)
  where
    by : (b : Bool) → is_assign (Some (if b then Test tree yes_to no_to else Test tree no_to yes_to)) ≡ false
    by true = refl
    by false = refl

asked_enters : (cmp : Cmp) (tree yes_to no_to : ℕ) → enters (asked cmp tree yes_to no_to) no_to ≡ true
asked_enters cmp tree yes_to no_to = by (holds_at_one cmp)
  where
    by : (b : Bool) → enters (if b then Test tree yes_to no_to else Test tree no_to yes_to) no_to ≡ true
    by true = or_right (yes_to == no_to) (no_to == no_to) (eq-eqb no_to no_to refl)
    by false = or_left (no_to == no_to) (yes_to == no_to) (eq-eqb no_to no_to refl)

pub entry_within : (o : ElseModel) (at : ℕ) → else_entry o at ≤ at + places_else o
entry_within without at = omega arith
entry_within (otherwise list) at = omega arith

module _ (netlist : Netlist) (image : Image) (mem : MemoryMap) (temps : ℕ) (vars : List Declared) (flow : List Flow) (jobs : List JobModel) (starts : ℕ → ℕ) (end : ℕ)
    (room : HasCellRoom temps mem (memory_size netlist.storages)) (places : image.places ≡ mem.places) (wide : memory_width netlist.storages ≡ mem.word) (placed : IsPlaced netlist image temps flow jobs starts end) where
  store_is : (s : State) → store_in image s ≡ seen_store mem s.cells
  store_is s = ap (λ ps. cells_at ps s.cells) places

  -- cells of the memory have room for the variables
  room_in : (s : State) → IsState netlist s → HasCellRoom temps mem (length s.cells)
  room_in s h = subst (HasCellRoom temps mem) (sym (h.cells InMemory)) room

  held_in : (s : State) → IsState netlist s → HoldsCells temps mem s.cells
  held_in s h = record { room = room_in s h; words = λ k. subst (λ w. slice_index s.cells k < 2 ^ w) wide (h.fits.cells InMemory k) }

  -- up to a place i, the block that begins at b has n assignments; at b the store keeps c, they
  -- change it by g, and then it keeps j
  record Pending (i b n : ℕ) (c j : Phase) (g : List ℕ → List ℕ) : Type 0 where
    here : b + n ≡ i
    first : continues flow b ≡ false
    inner : (k : ℕ) → k < n → 0 < k → continues flow (b + k) ≡ true
    assigns : (k : ℕ) → k < n → is_assign (slice_get flow (b + k)) ≡ true
    lie : (s : State) → IsCalm netlist (starts b) s → Meets mem.word vars c (store_in image s) → AllLie temps s.cells (jobs_at flow jobs b n)
    store : (s : State) → IsCalm netlist (starts b) s → Meets mem.word vars c (store_in image s) → seen_store mem (all_done (jobs_at flow jobs b n) s.cells) ≡ g (store_in image s)
    meets : (s : State) → IsCalm netlist (starts b) s → Meets mem.word vars c (store_in image s) → Meets mem.word vars j (g (store_in image s))
    words : (s : State) → IsCalm netlist (starts b) s → Meets mem.word vars c (store_in image s) → (k : ℕ) → slice_index (all_done (jobs_at flow jobs b n) s.cells) k < 2 ^ mem.word

  -- the states at a place where a block or something else begins
  abbrev Stated : ℕ → Phase → State → Type 0
  Stated i j s = IsCalm netlist (starts i) s × Meets mem.word vars j (store_in image s)

  restful : (i : ℕ) (j : Phase) (s : State) → Stated i j s → IsRestful netlist s
  restful i j s q = record { state = q.0.here.state; mode = q.0.mode }

  abbrev StandsAt : ℕ → Phase → Onward → ℕ → Type 0
  StandsAt i j way m = Stands netlist image (IsRestful netlist) (starts end) (starts end - starts i) (Stated i j) way m

  -- at any place, maybe in a block's middle
  abbrev StandsIn : ℕ → Phase → Onward → ℕ → Type 0
  StandsIn i j way m = (b n : ℕ) (c : Phase) (g : List ℕ → List ℕ) → Pending i b n c j g →
      Stands netlist image (IsRestful netlist) (starts end) (starts end - starts b) (Stated b c) (λ more cells. way more (g cells)) m

  nothing_pending : (i : ℕ) (j : Phase) → continues flow i ≡ false → Pending i i 0 j j (λ cells. cells)
  nothing_pending i j e = record {
    here = omega arith;
    first = e;
    inner = λ k lt p. absurd (omega arith);
    assigns = λ k lt. absurd (omega arith);
    lie = λ s a k. tt;
    store = λ s a k. sym (store_is s);
    meets = λ s a k. k;
    words = λ s a k. (held_in s a.here.state).words;
  }

  opened : (i : ℕ) (j : Phase) (way : Onward) (m : ℕ) → continues flow i ≡ false → StandsIn i j way m → StandsAt i j way m
  opened i j way m e h = h i 0 j (λ cells. cells) (nothing_pending i j e)

  -- a block that is done
  closed : (i : ℕ) (j : Phase) (way : Onward) (m : ℕ) → i ≤ end → continues flow i ≡ false → StandsAt i j way m → StandsIn i j way m
  closed i j way m within e h b zero c g p = λ k le s q.
      let f : i ≡ b = (let x = p.here in omega arith) in
      let same : store_in image s ≡ g (store_in image s) = store_is s ∙ p.store s q.0 q.1 in
      let here : IsCalm netlist (starts i) s = subst (λ (x : ℕ). IsCalm netlist (starts x) s) (sym f) q.0 in
      let meets : Meets mem.word vars j (store_in image s) = subst (Meets mem.word vars j) (sym same) (p.meets s q.0 q.1) in
      subst (λ (x : ℕ). Follows netlist image (IsRestful netlist) (starts end) (starts end - starts x) s (way k (g (store_in image s)))) f
      (subst (λ cells. Follows netlist image (IsRestful netlist) (starts end) (starts end - starts i) s (way k cells)) same (h k le s (here, meets)))
  closed i j way m within e h b (suc n) c g p =
      let block : IsAssignBlock flow b (suc n) =
      record { some = omega arith; assigns = p.assigns; first = p.first; inner = p.inner; last = subst (λ x. continues flow x ≡ false) (sym p.here) e } in
      let d : DoesJobs netlist image temps (jobs_at flow jobs b (suc n)) (starts b) (starts i) =
      subst (λ x. DoesJobs netlist image temps (jobs_at flow jobs b (suc n)) (starts b) (starts x)) p.here (placed.blocks b (suc n) block) in
      let up : starts i ≤ starts end = placed.rises i end within in
      let later = d.later in
      block_stands netlist image (IsRestful netlist) (starts end) (starts end - starts b) (starts end - starts i) d.clocks (Stated b c) (Stated i j) g way m (omega arith)
      (λ s q.
      let t : Comes netlist image temps (starts i) (all_done (jobs_at flow jobs b (suc n)) s.cells) d.clocks s = d.does s q.0 (p.lie s q.0 q.1) in
      let is : store_in image t.last ≡ g (store_in image s) = store_is t.last ∙ seen_behind temps (memory_size netlist.storages) mem.places _ _ room.within t.same ∙ p.store s q.0 q.1 in
      record { taken = t.taken; last = t.last; within = t.within; reaches = t.reaches; holds = (t.here, subst (Meets mem.word vars j) (sym is) (p.meets s q.0 q.1)); store = is }) h

  -- ---- assignments

  -- a job that does what an assignment says
  record Does (job : JobModel) (j k : Phase) (change : List ℕ → List ℕ) : Type 0 where
    lies : (cells : List ℕ) → HoldsCells temps mem cells → Meets mem.word vars j (seen_store mem cells) → Lies temps cells job
    is : (cells : List ℕ) → HoldsCells temps mem cells → Meets mem.word vars j (seen_store mem cells) → seen_store mem (done job cells) ≡ change (seen_store mem cells)
    fits : (cells : List ℕ) → HoldsCells temps mem cells → Meets mem.word vars j (seen_store mem cells) → job_value cells job.trees < 2 ^ mem.word
    keeps : (store : List ℕ) → Meets mem.word vars j store → Meets mem.word vars k (change store)

  one_more : (i b n : ℕ) (c j k : Phase) (g change : List ℕ → List ℕ) (tree : ℕ) (job : JobModel) → slice_get flow i ≡ Some (Assign tree) → slice_get jobs tree ≡ Some job → Does job j k change
      → (n ≡ 0) ⊎ (continues flow i ≡ true) → Pending i b n c j g → Pending (i + 1) b (suc n) c k (λ cells. change (g cells))
  one_more i b n c j k g change tree job at_flow at_jobs does inside p =
      let h = p.here in
      let item : slice_get flow (b + n) ≡ Some (Assign tree) = ap (slice_get flow) h ∙ at_flow in
      let more : jobs_at flow jobs b (suc n) ≡ jobs_at flow jobs b n ++ job ∷ [] =
      ap (λ o. jobs_at flow jobs b n ++ job_at jobs o) item ∙ ap (λ o. jobs_at flow jobs b n ++ job_list o) at_jobs in
      record {
        here = omega arith;
        first = p.first;
        inner = λ x lt some. by_inner x lt some (order x n lt);
        assigns = λ x lt. by_assigns x item (order x n lt);
        lie = λ s a m. subst (AllLie temps s.cells) (sym more) (all_lie_more temps (jobs_at flow jobs b n) job s.cells (p.lie s a m) (does.lies _ (long s a m) (met s a m)));
        store = λ s a m.
            ap (λ ts. seen_store mem (all_done ts s.cells)) more ∙ ap (seen_store mem) (all_done_more (jobs_at flow jobs b n) job s.cells) ∙ does.is _ (long s a m) (met s a m) ∙ ap change (p.store s a m);
        meets = λ s a m. does.keeps _ (p.meets s a m);
        words = λ s a m. subst (λ cells. (k : ℕ) → slice_index cells k < 2 ^ mem.word) (sym (ap (λ ts. all_done ts s.cells) more ∙ all_done_more (jobs_at flow jobs b n) job s.cells))
            (done_words (2 ^ mem.word) job _ (p.words s a m) (does.fits _ (long s a m) (met s a m)));
      }
    where
      order : (x n : ℕ) → x < suc n → (x < n) ⊎ (x ≡ n)
      order x n lt = cases (nat_lt x n) refl
        where
          cases : (t : Bool) → nat_lt x n ≡ t → (x < n) ⊎ (x ≡ n)
          cases true e = inl (grind (arith, nat_tests, e))
          cases false e = inr (grind (arith, nat_tests, e, lt))

      by_inner : (x : ℕ) → x < suc n → 0 < x → (x < n) ⊎ (x ≡ n) → continues flow (b + x) ≡ true
      by_inner x lt some (inl less) = p.inner x less some
      by_inner x lt some (inr same) = last inside
        where
          last : (n ≡ 0) ⊎ (continues flow i ≡ true) → continues flow (b + x) ≡ true
          last (inl z) = absurd (omega arith)
          last (inr e) = let f : b + x ≡ i = (let h = p.here in omega arith) in ap (continues flow) f ∙ e

      by_assigns : (x : ℕ) → slice_get flow (b + n) ≡ Some (Assign tree) → (x < n) ⊎ (x ≡ n) → is_assign (slice_get flow (b + x)) ≡ true
      by_assigns x item (inl less) = p.assigns x less
      by_assigns x item (inr same) = ap (λ y. is_assign (slice_get flow (b + y))) same ∙ ap is_assign item

      long : (s : State) → IsCalm netlist (starts b) s → Meets mem.word vars c (store_in image s) → HoldsCells temps mem (all_done (jobs_at flow jobs b n) s.cells)
      long s a m = record { room = subst (HasCellRoom temps mem) (sym (all_done_length (jobs_at flow jobs b n) s.cells)) (room_in s a.here.state); words = p.words s a m }

      met : (s : State) → IsCalm netlist (starts b) s → Meets mem.word vars c (store_in image s) → Meets mem.word vars j (seen_store mem (all_done (jobs_at flow jobs b n) s.cells))
      met s a m = subst (Meets mem.word vars j) (sym (p.store s a m)) (p.meets s a m)

  assigned_stands : (i : ℕ) (j k : Phase) (change : List ℕ → List ℕ) (tree : ℕ) (job : JobModel) (way : Onward) (m : ℕ) → i ≤ end → slice_get flow i ≡ Some (Assign tree) → slice_get jobs tree ≡ Some job → Does job j k change
      → StandsIn (i + 1) k way m → StandsIn i j (after_change change way) m
  assigned_stands i j k change tree job way m within at_flow at_jobs does h b n c g p = by (continues flow i) refl
    where
      by : (t : Bool) → continues flow i ≡ t → Stands netlist image (IsRestful netlist) (starts end) (starts end - starts b) (Stated b c) (λ more cells. after_change change way more (g cells)) m
      by true e = h b (suc n) c (λ cells. change (g cells)) (one_more i b n c j k g change tree job at_flow at_jobs does (inr e) p)
      by false e =
          closed i j (after_change change way) m within e (h i 1 j change (one_more i i 0 j j k (λ cells. cells) change tree job at_flow at_jobs does (inl refl) (nothing_pending i j e))) b n c g p

  -- ---- jumps

  comes_leads : (a clocks : ℕ) (s next : State) (k : Phase) → Comes netlist image temps a s.cells clocks next → Meets mem.word vars k (store_in image s)
      → Leads netlist image (λ u. IsCalm netlist a u × Meets mem.word vars k (store_in image u)) (store_in image s) clocks next
  comes_leads a clocks s next k t m =
      let is : store_in image t.last ≡ store_in image s = store_is t.last ∙ seen_behind temps (memory_size netlist.storages) mem.places _ _ room.within t.same ∙ sym (store_is s) in
      record { taken = t.taken; last = t.last; within = t.within; reaches = t.reaches; holds = (t.here, subst (Meets mem.word vars k) (sym is) m); store = is }

  jumped : (i to : ℕ) (j : Phase) (way : Onward) (m : ℕ) → i < to → to ≤ end → slice_get flow i ≡ Some (Jump to) → StandsAt to j way m → StandsIn i j way m
  jumped i to j way m lt within at_flow h =
      let d : JumpComes netlist image temps (starts i) (starts to) = placed.jumps i to at_flow in
      let a = placed.behind_jump i to at_flow in
      let b = placed.rises (i + 1) to (omega arith) in
      let c = placed.rises to end within in
      closed i j way m (omega arith) (begins_other flow i (Jump to) at_flow refl)
      (block_stands netlist image (IsRestful netlist) (starts end) (starts end - starts i) (starts end - starts to) 1 (Stated i j) (Stated to j) (λ cells. cells) way m (omega arith)
      (λ s q. comes_leads (starts to) 1 s s j (d.goes s q.0) q.1) h)

  jumped_back : (i to : ℕ) (j : Phase) (way : Onward) (m : ℕ) → i + 1 ≤ end → slice_get flow i ≡ Some (Jump to) → Stands netlist image (IsRestful netlist) (starts end) 0 (Stated to j) way m → StandsIn i j way m
  jumped_back i to j way m within at_flow h =
      let d : JumpComes netlist image temps (starts i) (starts to) = placed.jumps i to at_flow in
      let a = placed.behind_jump i to at_flow in
      let b = placed.rises (i + 1) end within in
      closed i j way m (omega arith) (begins_other flow i (Jump to) at_flow refl)
      (block_stands netlist image (IsRestful netlist) (starts end) (starts end - starts i) 0 1 (Stated i j) (Stated to j) (λ cells. cells) way m (omega arith)
      (λ s q. comes_leads (starts to) 1 s s j (d.goes s q.0) q.1) h)

  -- ---- tests

  -- a job whose trees tell a test, and what the store keeps behind it
  record Tells (job : JobModel) (cmp : Cmp) (test : List ℕ → Bool) (j k other : Phase) : Type 0 where
    lies : (cells : List ℕ) → HoldsCells temps mem cells → Meets mem.word vars j (seen_store mem cells) → Lies temps cells job
    are : (cells : List ℕ) → HoldsCells temps mem cells → Meets mem.word vars j (seen_store mem cells) → AllAre (bit_of (answer cmp (test (seen_store mem cells)))) cells job.trees
    on_true : (store : List ℕ) → Meets mem.word vars j store → test store ≡ true → Meets mem.word vars k store
    on_false : (store : List ℕ) → Meets mem.word vars j store → test store ≡ false → Meets mem.word vars other store

  -- the words for a test
  record Asking (i tree yes_to no_to : ℕ) (test : List ℕ → Bool) (j k other : Phase) : Type 0 where
    clocks : ℕ
    yes_later : clocks ≤ starts yes_to
    no_later : clocks ≤ starts no_to
    tests : (s : State) → Stated i j s → Tests netlist image tree test (Stated yes_to k) (Stated no_to other) clocks s

  asking : (i tree yes_to no_to : ℕ) (job : JobModel) (cmp : Cmp) (test : List ℕ → Bool) (j k other : Phase) → slice_get flow i ≡ Some (asked cmp tree yes_to no_to) → slice_get jobs tree ≡ Some job
      → Tells job cmp test j k other → Asking i tree yes_to no_to test j k other
  asking i tree yes_to no_to job cmp test j k other at_flow at_jobs tells = by (holds_at_one cmp) refl at_flow
    where
      long : (s : State) → Stated i j s → HoldsCells temps mem s.cells
      long s q = held_in s q.0.here.state

      met : (s : State) → Stated i j s → Meets mem.word vars j (seen_store mem s.cells)
      met s q = subst (Meets mem.word vars j) (store_is s) q.1

      value : (b : Bool) → holds_at_one cmp ≡ b → (s : State) → Stated i j s → (used : ExprModel) (which : ℕ) → slice_get job.trees which ≡ Some used → (h : Bool) → test (store_in image s) ≡ h
          → tree_value s.cells used ≡ bit_of (if b then h else not h)
      value b e s q used which among h is =
          all_are_at _ s.cells job.trees which used (tells.are s.cells (long s q) (met s q)) among
          ∙ (λ x. bit_of (if e x then ((ap test (sym (store_is s)) ∙ is) x) else not ((ap test (sym (store_is s)) ∙ is) x)))

      by : (b : Bool) → holds_at_one cmp ≡ b → slice_get flow i ≡ Some (if b then Test tree yes_to no_to else Test tree no_to yes_to) → Asking i tree yes_to no_to test j k other
      by true e at_flow =
          let d : DoesTest netlist image temps tree job (starts i) (starts yes_to) (starts no_to) = placed.tests i tree yes_to no_to at_flow job at_jobs in
          let a = d.one_later in
          let b = d.zero_later in
          record {
            clocks = d.clocks;
            yes_later = omega arith;
            no_later = omega arith;
            tests = λ s q.
                let x = d.asks s q.0 (tells.lies s.cells (long s q) (met s q)) in
                record {
                  label = x.label;
                  next = x.next;
                  clocked = x.clocked;
                  on_true = λ is. comes_leads (starts yes_to) d.clocks s x.next k (x.on_one (value true e s q d.used d.which d.among true is)) (tells.on_true (store_in image s) q.1 is);
                  on_false = λ is. comes_leads (starts no_to) d.clocks s x.next other (x.on_zero (value true e s q d.used d.which d.among false is)) (tells.on_false (store_in image s) q.1 is);
                };
          }
      by false e at_flow =
          let d : DoesTest netlist image temps tree job (starts i) (starts no_to) (starts yes_to) = placed.tests i tree no_to yes_to at_flow job at_jobs in
          let a = d.one_later in
          let b = d.zero_later in
          record {
            clocks = d.clocks;
            yes_later = omega arith;
            no_later = omega arith;
            tests = λ s q.
                let x = d.asks s q.0 (tells.lies s.cells (long s q) (met s q)) in
                record {
                  label = x.label;
                  next = x.next;
                  clocked = x.clocked;
                  on_true = λ is. comes_leads (starts yes_to) d.clocks s x.next k (x.on_zero (value false e s q d.used d.which d.among true is)) (tells.on_true (store_in image s) q.1 is);
                  on_false = λ is. comes_leads (starts no_to) d.clocks s x.next other (x.on_one (value false e s q d.used d.which d.among false is)) (tells.on_false (store_in image s) q.1 is);
                };
          }

  test_in : (i tree yes_to no_to : ℕ) (cmp : Cmp) (test : List ℕ → Bool) (j k other : Phase) (a b : Onward) (m : ℕ) → i ≤ end → yes_to ≤ end → no_to ≤ end → slice_get flow i ≡ Some (asked cmp tree yes_to no_to)
      → Asking i tree yes_to no_to test j k other → StandsAt yes_to k a m → StandsAt no_to other b m → StandsIn i j (pass (At tree) (choose test a b)) m
  test_in i tree yes_to no_to cmp test j k other a b m le ly ln at_flow asks p q =
      let up_yes = placed.rises yes_to end ly in
      let up_no = placed.rises no_to end ln in
      let yes_later = asks.yes_later in
      let no_later = asks.no_later in
      closed i j (pass (At tree) (choose test a b)) m le (begins_other flow i (asked cmp tree yes_to no_to) at_flow (asked_other cmp tree yes_to no_to))
      (stands_less netlist image (IsRestful netlist) (starts end) (starts end - starts i) (Stated i j) (pass (At tree) (choose test a b)) m
      (test_stands netlist image (IsRestful netlist) (starts end) (starts end - starts i) (starts end - starts yes_to) (starts end - starts no_to) asks.clocks (Stated i j) (Stated yes_to k) (Stated no_to other) tree test a b m
      (omega arith) (omega arith) (restful i j) asks.tests p q))

  loop_in : (i tree yes_to no_to : ℕ) (cmp : Cmp) (test : List ℕ → Bool) (j k other : Phase) (inner : Onward → Onward) (way : Onward) (m : ℕ) → i ≤ end → yes_to ≤ end → no_to ≤ end
      → slice_get flow i ≡ Some (asked cmp tree yes_to no_to) → Asking i tree yes_to no_to test j k other → Keeps inner
      → ((next : Onward) (n : ℕ) → Stands netlist image (IsRestful netlist) (starts end) 0 (Stated i j) next n → StandsAt yes_to k (inner next) n) → StandsAt no_to other way m → StandsIn i j (loop (At tree) test inner way) m
  loop_in i tree yes_to no_to cmp test j k other inner way m le ly ln at_flow asks keeps through q =
      let up_yes = placed.rises yes_to end ly in
      let up_no = placed.rises no_to end ln in
      let yes_later = asks.yes_later in
      let no_later = asks.no_later in
      closed i j (loop (At tree) test inner way) m le (begins_other flow i (asked cmp tree yes_to no_to) at_flow (asked_other cmp tree yes_to no_to))
      (loop_stands netlist image (IsRestful netlist) (starts end) (starts end - starts i) (starts end - starts yes_to) (starts end - starts no_to) asks.clocks (Stated i j) (Stated yes_to k) (Stated no_to other) tree test inner way
      (omega arith) (omega arith) (restful i j) asks.tests keeps through m q)

  -- ---- what the jobs of statements do

  can_assign : (rounds : List Round) (place : SpotModel) (e : SrcExprModel) → SoundAssign mem.word vars rounds place e → (store : List ℕ) → Holds mem.word vars rounds store → CanAssign mem.word vars store place e
  can_assign rounds place e f store h = record {
    left = record { fits = f.left.fits; known = f.left.known; inside = inside mem.word vars store h.fits.below rounds h.counts mem.word (place_shape place) f.left.fits f.left.known f.left.within };
    right = record { fits = f.right.fits; known = f.right.known; inside = inside mem.word vars store h.fits.below rounds h.counts mem.word e.shape f.right.fits f.right.known f.right.within };
  }

  assign_does : (rounds : List Round) (place : SpotModel) (e : SrcExprModel) (job : JobModel) → SoundAssign mem.word vars rounds place e → DoesAssign mem temps vars place e job → Does job (body rounds) (body rounds) (assigned mem.word vars place e)
  assign_does rounds place e job f d = record {
    lies = λ cells long h. d.lies cells long (can_assign rounds place e f (seen_store mem cells) h, f.width);
    is = λ cells long h. d.store cells long (can_assign rounds place e f (seen_store mem cells) h, f.width);
    fits = λ cells long h. d.fits cells long (can_assign rounds place e f (seen_store mem cells) h, f.width);
    keeps = λ store h. assign_holds mem.word vars rounds place e store f (can_assign rounds place e f store h).left.inside h;
  }

  start_does : (rounds : List Round) (counter : List ℕ) (from to : ℕ) (job : JobModel) → SoundCount mem.word vars rounds counter from to → DoesStart mem temps vars counter from job
      → Does job (body rounds) (turn rounds counter from to) (started vars counter from)
  start_does rounds counter from to job f d =
      let below : from < 2 ^ mem.word = omega (arith, f.fits.order, f.fits.below) in
      record {
        lies = λ cells long h. d.lies cells long (f.plain, below);
        is = λ cells long h. d.store cells long (f.plain, below);
        fits = λ cells long h. d.fits cells long (f.plain, below);
        keeps = λ store h. start_turns mem.word vars rounds counter from to f store h;
      }

  step_does : (rounds : List Round) (counter : List ℕ) (from to : ℕ) (job : JobModel) → SoundCount mem.word vars rounds counter from to → DoesStep mem temps vars counter job
      → Does job (body (record { counter = counter; from = from; to = to } ∷ rounds)) (turn rounds counter from to) (stepped mem.word vars counter)
  step_does rounds counter from to job f d = record {
    lies = λ cells long h. d.lies cells long f.plain;
    is = λ cells long h. d.store cells long f.plain;
    fits = λ cells long h. d.fits cells long f.plain;
    keeps = λ store h. step_turns mem.word vars rounds counter from to f store h;
  }

  can_test : (rounds : List Round) (test : Tested) → SoundTest mem.word vars rounds test → (store : List ℕ) → Holds mem.word vars rounds store → CanTest mem.word vars store test
  can_test rounds test f store h = record {
    words = h.fits.below;
    sides = f.sides;
    left_known = f.left_known;
    right_known = f.right_known;
    inside = and_from _ _
        (inside mem.word vars store h.fits.below rounds h.counts _ test.left.shape f.sides.left f.left_known f.left_within)
        (inside mem.word vars store h.fits.below rounds h.counts _ test.right.shape f.sides.right f.right_known f.right_within);
  }

  test_tells : (rounds : List Round) (test : Tested) (job : JobModel) → SoundTest mem.word vars rounds test → TellsTest mem temps vars test job → Tells job test.cmp (holds mem.word vars test) (body rounds) (body rounds) (body rounds)
  test_tells rounds test job f d = record {
    lies = λ cells long h. d.lies cells long (can_test rounds test f (seen_store mem cells) h);
    are = λ cells long h. d.value cells long (can_test rounds test f (seen_store mem cells) h);
    on_true = λ store h e. h;
    on_false = λ store h e. h;
  }

  can_count : (rounds : List Round) (counter : List ℕ) (at from to : ℕ) → SoundCount mem.word vars rounds counter from to → (store : List ℕ) → Turns mem.word vars rounds counter from to store → CanTest mem.word vars store (count_test counter at to)
  can_count rounds counter at from to f store t = record {
    words = t.holds.fits.below;
    sides = record { left = tt; right = f.fits.below; left_width = refl; right_width = refl };
    left_known = f.plain;
    right_known = tt;
    inside = refl;
  }

  counting_tells : (rounds : List Round) (counter : List ℕ) (at from to : ℕ) (job : JobModel) → SoundCount mem.word vars rounds counter from to → TellsTest mem temps vars (count_test counter at to) job
      → Tells job Ne (counting vars counter to) (turn rounds counter from to) (body (record { counter = counter; from = from; to = to } ∷ rounds)) (body rounds)
  counting_tells rounds counter at from to job f d = record {
    lies = λ cells long t. d.lies cells long (can_count rounds counter at from to f (seen_store mem cells) t);
    are = λ cells long t. d.value cells long (can_count rounds counter at from to f (seen_store mem cells) t);
    on_true = λ store t e. turn_holds mem.word vars rounds counter from to f store t e;
    on_false = λ store t e. t.holds;
  }

  -- the way on from where an `if`'s test doesn't hold, and that from behind its first part
  record Elsewhere (rounds : List Round) (at : ℕ) (o : ElseModel) (other way : Onward) (m : ℕ) : Type 0 where
    entry : StandsAt (else_entry o at) (body rounds) other m
    over : StandsIn at (body rounds) way m

  -- ---- statements

  mutual
    unfolding run_stmt run_in run_else

    stmt_stands : (rounds : List Round) (a : StmtModel) (tree at : ℕ) → Sound mem.word vars rounds a → at + places_for a ≤ end → Stand flow at (flow_of a tree at) → DoStmt mem temps vars jobs tree a → (way : Onward) (m : ℕ)
        → StandsIn (at + places_for a) (body rounds) way m → StandsIn at (body rounds) (run_stmt mem.word vars a tree way) m
    stmt_stands rounds (assign place e) tree at f le in_flow in_jobs way m h =
        assigned_stands at (body rounds) (body rounds) (assigned mem.word vars place e) tree in_jobs.job way m (omega arith) in_flow.0 in_jobs.at (assign_does rounds place e in_jobs.job f in_jobs.is) h
    stmt_stands rounds (choice test taken other) tree at f le in_flow in_jobs way m h =
        let flow_taken : Stand flow (at + 1) (flow_in taken (tree + 1) (at + 1)) =
        stand_left flow (at + 1) (flow_in taken (tree + 1) (at + 1)) (flow_else other (tree + 1 + statements_in taken) (at + 1 + places_in taken)) in_flow.1 in
        let flow_other : Stand flow (at + 1 + places_in taken) (flow_else other (tree + 1 + statements_in taken) (at + 1 + places_in taken)) =
        stand_right flow (at + 1) (at + 1 + places_in taken) (flow_in taken (tree + 1) (at + 1)) (flow_else other (tree + 1 + statements_in taken) (at + 1 + places_in taken))
        (let n = in_length taken (tree + 1) (at + 1) in omega (arith, n)) in_flow.1 in
        let k : Asking at tree (at + 1) (else_entry other (at + 1 + places_in taken)) (holds mem.word vars test) (body rounds) (body rounds) (body rounds) =
        asking at tree (at + 1) (else_entry other (at + 1 + places_in taken)) in_jobs.0.job test.cmp (holds mem.word vars test) (body rounds) (body rounds) (body rounds) in_flow.0 in_jobs.0.at (test_tells rounds test in_jobs.0.job f.0 in_jobs.0.is) in
        let o : Elsewhere rounds (at + 1 + places_in taken) other (run_else mem.word vars other (tree + 1 + statements_in taken) way) way m =
        else_stands rounds other (tree + 1 + statements_in taken) (at + 1 + places_in taken) at test.cmp tree f.2 (omega arith) in_flow.0 flow_other in_jobs.2 way m
        (let e : at + (1 + places_in taken + places_else other) ≡ at + 1 + places_in taken + places_else other = omega arith in subst (λ n. StandsIn n (body rounds) way m) e h) in
        let t : StandsAt (at + 1) (body rounds) (run_in mem.word vars taken (tree + 1) way) m =
        opened (at + 1) (body rounds) (run_in mem.word vars taken (tree + 1) way) m (begins_behind flow at (at + 1) (asked test.cmp tree (at + 1) (else_entry other (at + 1 + places_in taken))) refl in_flow.0 (asked_other test.cmp tree (at + 1) (else_entry other (at + 1 + places_in taken))))
        (stmts_stand rounds taken (tree + 1) (at + 1) f.1 (omega arith) flow_taken in_jobs.1 way m o.over) in
        test_in at tree (at + 1) (else_entry other (at + 1 + places_in taken)) test.cmp (holds mem.word vars test) (body rounds) (body rounds) (body rounds) (run_in mem.word vars taken (tree + 1) way) (run_else mem.word vars other (tree + 1 + statements_in taken) way) m
        (omega arith) (omega arith) (let n = entry_within other (at + 1 + places_in taken) in omega (arith, n)) in_flow.0 k t o.entry
    stmt_stands rounds (while test inner) tree at f le in_flow in_jobs way m h =
        let flow_inner : Stand flow (at + 1) (flow_in inner (tree + 1) (at + 1)) = stand_left flow (at + 1) (flow_in inner (tree + 1) (at + 1)) (Jump at ∷ []) in_flow.1 in
        let flow_back : slice_get flow (at + 1 + places_in inner) ≡ Some (Jump at) =
        (stand_right flow (at + 1) (at + 1 + places_in inner) (flow_in inner (tree + 1) (at + 1)) (Jump at ∷ []) (let n = in_length inner (tree + 1) (at + 1) in omega (arith, n)) in_flow.1).0 in
        let k : Asking at tree (at + 1) (at + 1 + places_in inner + 1) (holds mem.word vars test) (body rounds) (body rounds) (body rounds) =
        asking at tree (at + 1) (at + 1 + places_in inner + 1) in_jobs.0.job test.cmp (holds mem.word vars test) (body rounds) (body rounds) (body rounds) in_flow.0 in_jobs.0.at (test_tells rounds test in_jobs.0.job f.0 in_jobs.0.is) in
        let e : at + (1 + places_in inner + 1) ≡ at + 1 + places_in inner + 1 = omega arith in
        loop_in at tree (at + 1) (at + 1 + places_in inner + 1) test.cmp (holds mem.word vars test) (body rounds) (body rounds) (body rounds) (run_in mem.word vars inner (tree + 1)) way m
        (omega arith) (omega arith) (omega arith) in_flow.0 k (body_keeps mem.word vars inner (tree + 1))
        (λ next n back.
        opened (at + 1) (body rounds) (run_in mem.word vars inner (tree + 1) next) n (begins_behind flow at (at + 1) (asked test.cmp tree (at + 1) (at + 1 + places_in inner + 1)) refl in_flow.0 (asked_other test.cmp tree (at + 1) (at + 1 + places_in inner + 1)))
        (stmts_stand rounds inner (tree + 1) (at + 1) f.1 (omega arith) flow_inner in_jobs.1 next n (jumped_back (at + 1 + places_in inner) at (body rounds) next n (omega arith) flow_back back)))
        (opened (at + 1 + places_in inner + 1) (body rounds) way m (begins_behind flow (at + 1 + places_in inner) (at + 1 + places_in inner + 1) (Jump at) refl flow_back refl) (subst (λ n. StandsIn n (body rounds) way m) e h))
    stmt_stands rounds (count counter from_at from to inner) tree at f le in_flow in_jobs way m h =
        let round : Round = record { counter = counter; from = from; to = to } in
        let test_item : Flow = asked Ne (tree + 1) (at + 2) (at + 2 + places_in inner + 2) in
        let back : List Flow = Assign (tree + 2 + statements_in inner) ∷ (Jump (at + 1) ∷ []) in
        let rest : Stand flow (at + 2) (flow_in inner (tree + 2) (at + 2) ++ back) = stand_right flow at (at + 2) (Assign tree ∷ (test_item ∷ [])) (flow_in inner (tree + 2) (at + 2) ++ back) refl in_flow in
        let flow_inner : Stand flow (at + 2) (flow_in inner (tree + 2) (at + 2)) = stand_left flow (at + 2) (flow_in inner (tree + 2) (at + 2)) back rest in
        let flow_back : Stand flow (at + 2 + places_in inner) back =
        stand_right flow (at + 2) (at + 2 + places_in inner) (flow_in inner (tree + 2) (at + 2)) back (let n = in_length inner (tree + 2) (at + 2) in omega (arith, n)) rest in
        let k : Asking (at + 1) (tree + 1) (at + 2) (at + 2 + places_in inner + 2) (counting vars counter to) (turn rounds counter from to) (body (round ∷ rounds)) (body rounds) =
        asking (at + 1) (tree + 1) (at + 2) (at + 2 + places_in inner + 2) in_jobs.1.job Ne (counting vars counter to) (turn rounds counter from to) (body (round ∷ rounds)) (body rounds)
        in_flow.1.0 in_jobs.1.at (counting_tells rounds counter from_at from to in_jobs.1.job f.0 in_jobs.1.is) in
        let e : at + (2 + places_in inner + 2) ≡ at + 2 + places_in inner + 2 = omega arith in
        assigned_stands at (body rounds) (turn rounds counter from to) (started vars counter from) tree in_jobs.0.job
        (loop (At (tree + 1)) (counting vars counter to) (counted_body mem.word vars counter inner (tree + 2)) way) m (omega arith) in_flow.0 in_jobs.0.at (start_does rounds counter from to in_jobs.0.job f.0 in_jobs.0.is)
        (loop_in (at + 1) (tree + 1) (at + 2) (at + 2 + places_in inner + 2) Ne (counting vars counter to) (turn rounds counter from to) (body (round ∷ rounds)) (body rounds) (counted_body mem.word vars counter inner (tree + 2)) way m
        (omega arith) (omega arith) (omega arith) in_flow.1.0 k (counted_keeps mem.word vars counter inner (tree + 2))
        (λ next n again.
        opened (at + 2) (body (round ∷ rounds)) (run_in mem.word vars inner (tree + 2) (after_change (stepped mem.word vars counter) next)) n (begins_behind flow (at + 1) (at + 2) test_item (omega arith) in_flow.1.0 (asked_other Ne (tree + 1) (at + 2) (at + 2 + places_in inner + 2)))
        (stmts_stand (round ∷ rounds) inner (tree + 2) (at + 2) f.1 (omega arith) flow_inner in_jobs.2 (after_change (stepped mem.word vars counter) next) n
        (assigned_stands (at + 2 + places_in inner) (body (round ∷ rounds)) (turn rounds counter from to) (stepped mem.word vars counter) (tree + 2 + statements_in inner) in_jobs.3.job next n (omega arith) flow_back.0 in_jobs.3.at
        (step_does rounds counter from to in_jobs.3.job f.0 in_jobs.3.is)
        (jumped_back (at + 2 + places_in inner + 1) (at + 1) (turn rounds counter from to) next n (omega arith) flow_back.1.0 again))))
        (opened (at + 2 + places_in inner + 2) (body rounds) way m (begins_behind flow (at + 2 + places_in inner + 1) (at + 2 + places_in inner + 2) (Jump (at + 1)) (omega arith) flow_back.1.0 refl)
        (subst (λ n. StandsIn n (body rounds) way m) e h)))

    stmts_stand : (rounds : List Round) (list : StmtsModel) (tree at : ℕ) → SoundIn mem.word vars rounds list → at + places_in list ≤ end → Stand flow at (flow_in list tree at) → DoStmts mem temps vars jobs tree list → (way : Onward) (m : ℕ)
        → StandsIn (at + places_in list) (body rounds) way m → StandsIn at (body rounds) (run_in mem.word vars list tree way) m
    stmts_stand rounds no_acts tree at f le in_flow in_jobs way m h = let e : at + 0 ≡ at = omega arith in subst (λ n. StandsIn n (body rounds) way m) e h
    stmts_stand rounds (act a rest) tree at f le in_flow in_jobs way m h =
        stmt_stands rounds a tree at f.0 (omega arith) (stand_left flow at (flow_of a tree at) (flow_in rest (tree + statements a) (at + places_for a)) in_flow)
        in_jobs.0 (run_in mem.word vars rest (tree + statements a) way) m
        (stmts_stand rounds rest (tree + statements a) (at + places_for a) f.1 (omega arith)
        (stand_right flow at (at + places_for a) (flow_of a tree at) (flow_in rest (tree + statements a) (at + places_for a)) (let n = flow_length a tree at in omega (arith, n)) in_flow)
        in_jobs.1 way m
        (let e : at + (places_for a + places_in rest) ≡ at + places_for a + places_in rest = omega arith in subst (λ n. StandsIn n (body rounds) way m) e h))

    -- where an `if`'s test doesn't hold, and behind its first part
    else_stands : (rounds : List Round) (o : ElseModel) (tree at test_at : ℕ) (cmp : Cmp) (test_tree : ℕ) → SoundElse mem.word vars rounds o → at + places_else o ≤ end → slice_get flow test_at ≡ Some (asked cmp test_tree (test_at + 1) (else_entry o at))
        → Stand flow at (flow_else o tree at) → DoElse mem temps vars jobs tree o → (way : Onward) (m : ℕ)
        → StandsIn (at + places_else o) (body rounds) way m → Elsewhere rounds at o (run_else mem.word vars o tree way) way m
    else_stands rounds without tree at test_at cmp test_tree f le at_test in_flow in_jobs way m h =
        let e : at + 0 ≡ at = omega arith in
        let here : StandsIn at (body rounds) way m = subst (λ n. StandsIn n (body rounds) way m) e h in
        record {
          entry = opened at (body rounds) way m (begins_entered flow at (entered_by flow test_at (asked cmp test_tree (test_at + 1) at) at at_test (asked_enters cmp test_tree (test_at + 1) at))) here;
          over = here;
        }
    else_stands rounds (otherwise list) tree at test_at cmp test_tree f le at_test in_flow in_jobs way m h =
        let e : at + (1 + places_in list) ≡ at + 1 + places_in list = omega arith in
        let there : StandsIn (at + 1 + places_in list) (body rounds) way m = subst (λ n. StandsIn n (body rounds) way m) e h in
        record {
          entry = opened (at + 1) (body rounds) (run_in mem.word vars list tree way) m (begins_behind flow at (at + 1) (Jump (at + 1 + places_in list)) refl in_flow.0 refl)
              (stmts_stand rounds list tree (at + 1) f (omega arith) in_flow.1 in_jobs way m there);
          over = jumped at (at + 1 + places_in list) (body rounds) way m (omega arith) (omega arith) in_flow.0
              (opened (at + 1 + places_in list) (body rounds) way m (begins_entered flow (at + 1 + places_in list) (entered_by flow at (Jump (at + 1 + places_in list)) (at + 1 + places_in list) in_flow.0 (eq-eqb _ _ refl))) there);
        }

-- ---- the whole program

pub start_fits : (netlist : Netlist) (image : Image) (m : MemoryMap) (temps : ℕ) (vars : List Declared) (s : State) → memory_width netlist.storages ≡ m.word → HoldsVars temps vars m → HasCellRoom temps m (memory_size netlist.storages) → image.places ≡ m.places
    → IsState netlist s → FitsStore m.word vars (store_in image s)
start_fits netlist image m temps vars s wide held room places h =
    subst (λ ps. FitsStore m.word vars (cells_at ps s.cells)) (sym places)
    (record {
      all_cells = seen_length temps m.places vars s.cells held.stand (subst (λ (n : ℕ). LieWithin temps n m.places) (sym (h.cells InMemory)) room.within);
      below = seen_below (2 ^ m.word) m.places s.cells (pow_pos m.word) (λ c. subst (λ w. slice_index s.cells c < 2 ^ w) wide (h.fits.cells InMemory c));
    })

-- at the end a clock leads to the end
end_rests : (netlist : Netlist) (image : Image) (last : ℕ) → GoesTo netlist image last last → label_at image.marks last ≡ Some TheEnd
    → ((a : ℕ) → label_at image.marks a ≡ Some TheEnd → a ≡ last) → (s : State) → IsRestful netlist s → label_in netlist image s ≡ Some TheEnd → Rests netlist image (IsRestful netlist) s
end_rests netlist image last word label only s h e =
    let g : Goes netlist image last s = word.goes s (record { here = record { state = h.state; counter = only (counter_in netlist s) e }; mode = h.mode }) in
    record {
      next = g.next;
      clocked = g.clocked;
      label = ap (label_at image.marks) g.here.here.counter ∙ label;
      holds = record { state = g.here.here.state; mode = g.here.mode };
      same = ap (cells_at image.places) g.same;
    }

-- words that do what a program's flow says, by jobs that do what its statements say, trace the
-- program
pub placed_right : (netlist : Netlist) (image : Image) (m : MemoryMap) (temps : ℕ) (l : ProgramModel) (jobs : List JobModel) (starts : ℕ → ℕ) → first_fault m.word l ≡ None → memory_width netlist.storages ≡ m.word → HoldsVars temps l.vars m
    → HasCellRoom temps m (memory_size netlist.storages) → image.places ≡ m.places → DoProgram m temps l jobs
    → IsPlaced netlist image temps (program_flow l) jobs starts (places_in (stmts_of l.body)) → TracesRight netlist image (strace m.word l)
placed_right netlist image m temps l jobs starts kept wide held room places does placed =
    let end : ℕ = places_in (stmts_of l.body) in
    let in_flow : Stand (program_flow l) 0 (flow_in (stmts_of l.body) 0 0) = stand_left (program_flow l) 0 (flow_in (stmts_of l.body) 0 0) (End ∷ []) (stand_all (program_flow l)) in
    let at_end : slice_get (program_flow l) (places_in (stmts_of l.body)) ≡ Some End =
    (stand_right (program_flow l) 0 (places_in (stmts_of l.body)) (flow_in (stmts_of l.body) 0 0) (End ∷ []) (let n = in_length (stmts_of l.body) 0 0 in omega (arith, n)) (stand_all (program_flow l))).0 in
    let stands = λ (k : ℕ).
    opened netlist image m temps l.vars (program_flow l) jobs starts end room places wide placed 0 (body []) (run_in m.word l.vars (stmts_of l.body) 0 finish) k refl
    (stmts_stand netlist image m temps l.vars (program_flow l) jobs starts end room places wide placed [] (stmts_of l.body) 0 0 (program_sound m.word l kept) (omega arith) in_flow does finish k
    (let e : end ≡ 0 + end = omega arith in
    subst (λ n. StandsIn netlist image m temps l.vars (program_flow l) jobs starts end room places wide placed n (body []) finish k) e
    (closed netlist image m temps l.vars (program_flow l) jobs starts end room places wide placed end (body []) finish k (omega arith) (begins_other (program_flow l) end End at_end refl)
    (end_stands netlist image (IsRestful netlist) (starts end) (starts end - starts end) (λ s. IsCalm netlist (starts end) s × Meets m.word l.vars (body []) (store_in image s)) k
    (λ s q. record { state = q.0.here.state; mode = q.0.mode })
    (λ s q. ap (label_at image.marks) q.0.here.counter ∙ placed.end_label))))) in
    let none : starts end - starts 0 ≡ starts end = (let f = placed.first in omega arith) in
    traces_right netlist image (run_in m.word l.vars (stmts_of l.body) 0 finish) (starts end) placed.long
    (λ j. in_whole m.word l.vars (stmts_of l.body) 0 j finish (finish_whole j)) (λ j. in_steady m.word l.vars (stmts_of l.body) 0 j finish (finish_steady j))
    (λ s h e. end_rests netlist image (starts end) placed.end_word placed.end_label placed.end_only s h e)
    (λ s here k.
    let first : IsCalm netlist (starts 0) s = subst (λ a. IsCalm netlist a s) (sym placed.first) here in
    subst (λ d. Follows netlist image (IsRestful netlist) (starts end) d s (run_in m.word l.vars (stmts_of l.body) 0 finish k (store_in image s))) none
    (stands k k (omega arith) s (first, record { fits = start_fits netlist image m temps l.vars s wide held room places here.here.state; counts = tt })))
