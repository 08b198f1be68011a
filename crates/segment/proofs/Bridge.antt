-- What is proved of a segment is what a followed mark asks for.
use Rattle.std.proofs.Common.{◌≡◌, ℕ, zero, suc, ◌+◌, ◌-◌, ◌^◌, ◌<◌, ◌≤◌, inl, inr, Bool, true, false, if◌then◌else◌, is_some, unwrap_or, List, [], ◌∷◌, map, length, Option, Some, None, ◌∙◌, sym, ap, refl, subst, slice_get, slice_index, arith}
use Rattle.std.specs.Option.{option_map}
use Rattle.rec_bits.specs.Operators.{bit_of}
use Rattle.net_model.specs.declared.hardware.Netlist.{Netlist}
use Rattle.net_model.specs.declared.hardware.Space.TheVariants.{Memory as InMemory, File as InFile}
use Rattle.form_model.specs.Forms.{DestinationModel, into, cell, filed, stored, temporary, tested}
use Rattle.net_model.specs.declared.states.State.{State}
use Rattle.net_model.specs.Clock.{counter_in}
use Rattle.net_model.specs.Exprs.{ExprModel, word, reg, const, read, un, bin, slice, cat, zext, sext, select}
use Rattle.net_model.specs.Fixed.{mode_in}
use Rattle.net_model.specs.Nets.{memory_size, memory_width, size_in}
use Rattle.net_model.specs.Widths.{IsState}
use Rattle.rec_bits.specs.Faults.{same_name}
use Rattle.src_model.specs.declared.program.Var.{Var as Declared}
use Rattle.src_model.specs.Names.{declared, is_array}
use Rattle.src_model.specs.Indexes.{length_of}
use Rattle.src_model.specs.Written.{ProgramModel}
use Rattle.code_model.specs.declared.image.Place.{Place}
use Rattle.code_model.specs.declared.views.Viewed.{Viewed}
use Rattle.code_model.specs.Flow.{Reaches}
use Rattle.code_model.specs.Places.{checkpoint_of, label_at, words_of}
use Rattle.code_model.specs.Views.{hidden_in, is_one_of, view_at}
use Rattle.src_trees.specs.Doing.{AllAre, all_done, done}
use Rattle.src_trees.specs.Seen.{tree_value}
use Rattle.src_trees.specs.Flows.{program_jobs}
use Rattle.src_trees.specs.Held.{LieWithin, StandFor}
use Rattle.src_trees.specs.Jobs.{models_of_jobs}
use Rattle.src_trees.specs.Lowered.{JobModel, MemoryMap, base_of}
use Rattle.sym_expr.specs.declared.pool.Node.{Node}
use Rattle.sym_expr.specs.Pools.{expr_of_id}
use Rattle.sym_run.specs.Walks.{Walks, is_mark}
use Rattle.code_model.specs.Machine.{IsCalm}
use Rattle.follow.specs.Followed.{label_of}
use Rattle.follow.specs.Paths.{Path}
use Rattle.follow.specs.Relations.{AllHold, AllKnown, AreShownAs, Holding, IsRelated, IsSeenAs, IsShownAs, Known, Relation}
use Rattle.follow.specs.Safe.{GoesToElement, AllReadElements, AreSafe, IsElement, IsLiteralOrElement, IsTestSafe, ReadsElements, base_in}
use Rattle.follow.specs.Trails.{all_jobs}
use Rattle.mark_start.specs.declared.hints.Hint.{Hint}
use Rattle.mark_start.specs.declared.hints.Holding.{Holding as Held}
use Rattle.mark_start.specs.declared.hints.Numbered.{Numbered}
use Rattle.mark_start.specs.declared.hints.Spot.{Spot}
use Rattle.segment.specs.declared.run.Segment.{Segment}
use Rattle.segment.specs.declared.way.End.{End}
use Rattle.segment.specs.declared.way.End.TheVariants.{Lost, Mark}
use Rattle.segment.specs.declared.way.Way.{Way}
use Rattle.segment.specs.declared.way.Way.TheVariants.{Never, Takes, Unknown}
use Rattle.mark_start.specs.Marked.{GoesIn, AllHeld, AllNumbered, AllReadArrays, AreReads, IsAddress, IsAsHinted, IsFirst, IsInArrayAt, ReadsArrays, SeenBy, SpotsSeen, SpotsWithin}
use Rattle.segment.specs.Runs.{HasAnswer, PathReads, TestReads}
use Rattle.mark_start.specs.Runs.{IsAtMark}
use Rattle.segment.specs.Proved.{ComesAt, IfFound, IsAtOne, IsBegun, IsDenied, IsFoundFirst, IsFoundWay, IsProved, IsTaken}
use Rattle.segment.specs.Timed.{ArrivesIn, CrossesIn, IsAnswered, IsFirstWay, IsWay}
use Rattle.segment.specs.Asked.{ArePlaces, AreArrays, AreHintsOf, AreSpots, IsAskedOf, IsHintOf, holding_of, known_of}

-- ---- hints

module _ (pool : List Node) (s : State) (cells : List ℕ) where
  seen_one : (view : Option ExprModel) (place : Place) (o : Option ℕ) (a n : ℕ) → a ≡ place.address → n ≡ place.len → view ≡ option_map (expr_of_id pool) o → IsSeenAs view place s cells → SeenBy pool o a n s cells
  seen_one view place None a n ea en e h =
      let f = subst (λ v. IsSeenAs v place s cells) e h in
      λ k lt. subst (λ x. slice_index s.cells (x + k) ≡ slice_index cells (x + k)) (sym ea) (f k (subst (λ x. k < x) en lt))
  seen_one view place (Some id) a n ea en e h =
      let f = subst (λ v. IsSeenAs v place s cells) e h in
      (en ∙ f.0, f.1 ∙ ap (slice_index cells) (sym ea))

  one_seen : (view : Option ExprModel) (place : Place) (o : Option ℕ) (a n : ℕ) → a ≡ place.address → n ≡ place.len → view ≡ option_map (expr_of_id pool) o → SeenBy pool o a n s cells → IsSeenAs view place s cells
  one_seen view place None a n ea en e h =
      subst (λ v. IsSeenAs v place s cells) (sym e)
      (λ k lt. subst (λ x. slice_index s.cells (x + k) ≡ slice_index cells (x + k)) ea (h k (subst (λ x. k < x) (sym en) lt)))
  one_seen view place (Some id) a n ea en e h = subst (λ v. IsSeenAs v place s cells) (sym e) (sym en ∙ h.0, h.1 ∙ ap (slice_index cells) ea)

  spots_seen : (names : List (List ℕ)) (view : List ℕ → Option ExprModel) (places : List Place) (spots : List Spot) → AreSpots names view pool places spots → AreShownAs names view places s cells → SpotsSeen pool spots s cells
  spots_seen names view [] [] a h = tt
  spots_seen names view [] (spot ∷ spots) a h = absurd a
  spots_seen names view (place ∷ places) [] a h = absurd a
  spots_seen names view (place ∷ places) (spot ∷ spots) a h = (
    λ e. seen_one (view place.name) place spot.view spot.address spot.len a.0 a.1 a.2 (subst (λ b. IsShownAs b (view place.name) place s cells) (sym a.3 ∙ e) h.0),
    spots_seen names view places spots a.4 h.1,
  )

  places_seen : (names : List (List ℕ)) (view : List ℕ → Option ExprModel) (places : List Place) (spots : List Spot) → AreSpots names view pool places spots → SpotsSeen pool spots s cells → AreShownAs names view places s cells
  places_seen names view [] [] a h = tt
  places_seen names view [] (spot ∷ spots) a h = absurd a
  places_seen names view (place ∷ places) [] a h = absurd a
  places_seen names view (place ∷ places) (spot ∷ spots) a h = (
    by (is_one_of names place.name) a.3,
    places_seen names view places spots a.4 h.1,
  )
    where
      by : (b : Bool) → spot.hidden ≡ b → IsShownAs b (view place.name) place s cells
      by true e = tt
      by false e = one_seen (view place.name) place spot.view spot.address spot.len a.0 a.1 a.2 (h.0 e)

  all_held : (holdings : List Held) → AllHold (map (holding_of pool) holdings) s cells → AllHeld pool holdings s cells
  all_held [] h = tt
  all_held (holding ∷ holdings) h = (h.0, all_held holdings h.1)

  held_all : (holdings : List Held) → AllHeld pool holdings s cells → AllHold (map (holding_of pool) holdings) s cells
  held_all [] h = tt
  held_all (holding ∷ holdings) h = (h.0, held_all holdings h.1)

  all_numbered : (numbers : List Numbered) → AllKnown (map known_of numbers) cells → AllNumbered numbers cells
  all_numbered [] h = tt
  all_numbered (one ∷ numbers) h = (h.0, all_numbered numbers h.1)

  numbered_all : (numbers : List Numbered) → AllNumbered numbers cells → AllKnown (map known_of numbers) cells
  numbered_all [] h = tt
  numbered_all (one ∷ numbers) h = (h.0, numbered_all numbers h.1)

  module _ (viewed : Viewed) (relation : ℕ → Relation) (m : MemoryMap) (vars : List Declared) where
    pub hinted : (hint : Hint) → IsHintOf viewed relation m vars pool hint → IsRelated viewed m relation hint.address s cells → IsAsHinted pool hint s cells
    hinted hint is h = record {
      seen = spots_seen (hidden_in viewed hint.address) (view_at viewed.views hint.address) m.places hint.spots is.spots h.seen;
      holds = all_held hint.holdings (subst (λ (xs : List Holding). AllHold xs s cells) is.holdings h.holds);
      numbers = all_numbered hint.numbers (subst (λ (xs : List Known). AllKnown xs cells) is.known h.known);
    }

    related : (hint : Hint) → IsHintOf viewed relation m vars pool hint → IsAsHinted pool hint s cells → IsRelated viewed m relation hint.address s cells
    related hint is h = record {
      seen = places_seen (hidden_in viewed hint.address) (view_at viewed.views hint.address) m.places hint.spots is.spots h.seen;
      holds = subst (λ (xs : List Holding). AllHold xs s cells) (sym is.holdings) (held_all hint.holdings h.holds);
      known = subst (λ (xs : List Known). AllKnown xs cells) (sym is.known) (numbered_all hint.numbers h.numbers);
    }

    pub arrived_at : (address : ℕ) (label : Option ℕ) (hints : List Hint) → AreHintsOf viewed relation m vars pool hints → IsAtOne pool address label hints s cells
        → (label_at viewed.image.marks address ≡ Some (checkpoint_of label)) × IsRelated viewed m relation address s cells
    arrived_at address label [] are h = absurd h
    arrived_at address label (hint ∷ hints) are (inr h) = arrived_at address label hints are.2 h
    arrived_at address label (hint ∷ hints) are (inl h) = (
      ap (label_at viewed.image.marks) (sym h.here) ∙ are.1 ∙ ap (λ o. Some (checkpoint_of o)) h.labelled,
      subst (λ a. IsRelated viewed m relation a s cells) h.here (related hint are.0 h.hinted),
    )

pub spots_within : (names : List (List ℕ)) (view : List ℕ → Option ExprModel) (pool : List Node) (first end : ℕ) (places : List Place) (spots : List Spot) → AreSpots names view pool places spots → LieWithin first end places → SpotsWithin end spots
spots_within names view pool first end [] [] a h = tt
spots_within names view pool first end [] (spot ∷ spots) a h = absurd a
spots_within names view pool first end (place ∷ places) [] a h = absurd a
spots_within names view pool first end (place ∷ places) (spot ∷ spots) a h =
    let x = a.0 in
    let y = a.1 in
    let z = h.1 in
    (omega (arith, x, y, z), spots_within names view pool first end places spots a.4 h.2)

-- ---- arrays

-- the address of an element is that of a cell of the array that has this base
in_arrays : (names : List (List ℕ)) (view : List ℕ → Option ExprModel) (pool : List Node) (address : ℕ) (name : List ℕ) (places : List Place) (vars : List Declared) (spots : List Spot) → AreSpots names view pool places spots → AreArrays vars spots → StandFor places vars
    → is_array (declared vars name) ≡ true → base_of places name ≤ address → address < base_of places name + length_of (declared vars name) → IsInArrayAt spots (base_of places name) address
in_arrays names view pool address name [] [] spots a b s e lo hi = absurd (cc e)
in_arrays names view pool address name [] (v ∷ vars) spots a b s e lo hi = absurd s
in_arrays names view pool address name (p ∷ places) [] spots a b s e lo hi = absurd s
in_arrays names view pool address name (p ∷ places) (v ∷ vars) [] a b s e lo hi = absurd a
in_arrays names view pool address name (p ∷ places) (v ∷ vars) (spot ∷ spots) a b s e lo hi =
    by (in_arrays names view pool address name places vars spots a.4 b.1 s.2) (same_name name v.name) (same_name name p.name) (ap (same_name name) s.0) e lo hi
  where
    whole : (o : Option ℕ) → is_some o ≡ true → unwrap_or o 0 ≡ unwrap_or o 1
    whole None h = absurd (cc h)
    whole (Some n) h = refl

    by : (is_array (declared vars name) ≡ true → base_of places name ≤ address → address < base_of places name + length_of (declared vars name) → IsInArrayAt spots (base_of places name) address)
        → (x y : Bool) → y ≡ x → is_array (if x then Some v else declared vars name) ≡ true → (if y then p.address else base_of places name) ≤ address
        → address < (if y then p.address else base_of places name) + length_of (if x then Some v else declared vars name) → IsInArrayAt (spot ∷ spots) (if y then p.address else base_of places name) address
    by more true true q h lo hi =
        let w : unwrap_or v.len 0 ≡ unwrap_or v.len 1 = whole v.len h in
        let l = s.1 in
        let at = a.0 in
        let n = a.1 in
        inl (record { array = b.0 ∙ h; behind = omega (arith, lo, at); within = omega (arith, hi, at, n, l, w) }, at)
    by more false false q h lo hi = inr (more h lo hi)
    by more true false q h lo hi = absurd (cc)
    by more false true q h lo hi = absurd (cc)

module _ (names : List (List ℕ)) (view : List ℕ → Option ExprModel) (pool : List Node) (m : MemoryMap) (vars : List Declared) (spots : List Spot) (are : AreSpots names view pool m.places spots) (arrays : AreArrays vars spots) (stand : StandFor m.places vars) where
  of_element : (base address : ℕ) → IsElement m vars base address → IsInArrayAt spots base address
  of_element base address e =
      subst (λ b. IsInArrayAt spots b address) e.first
      (in_arrays names view pool address e.name m.places vars spots are arrays stand e.array (let f = e.first in let b = e.behind in omega (arith, f, b)) (let f = e.first in let w = e.within in omega (arith, f, w)))

  address_of : (now : List ℕ) (t : ExprModel) → IsLiteralOrElement m vars now t → IsAddress spots now t
  address_of now (const w v) h = tt
  address_of now (word w) h = of_element 0 0 h
  address_of now (reg r w) h = of_element 0 (tree_value now (reg r w)) h
  address_of now (read space a w) h = of_element 0 (tree_value now (read space a w)) h
  address_of now (un o a) h = of_element 0 (tree_value now (un o a)) h
  address_of now (bin o a b) h = of_element (base_in b) (tree_value now (bin o a b)) h
  address_of now (slice a hi lo) h = of_element (base_in a) (tree_value now (slice a hi lo)) h
  address_of now (cat a b) h = of_element 0 (tree_value now (cat a b)) h
  address_of now (zext a w) h = of_element 0 (tree_value now (zext a w)) h
  address_of now (sext a w) h = of_element 0 (tree_value now (sext a w)) h
  address_of now (select c a b) h = of_element 0 (tree_value now (select c a b)) h

  reads_of : (now : List ℕ) (t : ExprModel) → ReadsElements m vars now t → ReadsArrays spots now t
  reads_of now (word w) h = tt
  reads_of now (reg r w) h = tt
  reads_of now (const w v) h = tt
  reads_of now (read space a w) h = (reads_of now a h.0, address_of now a h.1)
  reads_of now (un o a) h = reads_of now a h
  reads_of now (bin o a b) h = (reads_of now a h.0, reads_of now b h.1)
  reads_of now (slice a hi lo) h = reads_of now a h
  reads_of now (cat a b) h = (reads_of now a h.0, reads_of now b h.1)
  reads_of now (zext a w) h = reads_of now a h
  reads_of now (sext a w) h = reads_of now a h
  reads_of now (select c a b) h = (reads_of now c h.0, reads_of now a h.1, reads_of now b h.2)

  pub all_reads : (now : List ℕ) (trees : List ExprModel) → AllReadElements m vars now trees → AllReadArrays spots now trees
  all_reads now [] h = tt
  all_reads now (t ∷ trees) h = (reads_of now t h.0, all_reads now trees h.1)

  goes_in : (now : List ℕ) (d : DestinationModel) → GoesToElement m vars now d → GoesIn spots now d
  goes_in now (cell address) h = tt
  goes_in now (stored address) h = (reads_of now address h.0, address_of now address h.1)
  goes_in now (into id) h = tt
  goes_in now temporary h = tt
  goes_in now filed h = tt
  goes_in now tested h = tt

  safe_reads : (temps : ℕ) (now : List ℕ) (jobs : List JobModel) → AreSafe m temps vars now jobs → AreReads spots now jobs
  safe_reads temps now [] h = tt
  safe_reads temps now (job ∷ later) h = ((all_reads now job.trees h.0.reads, goes_in now job.destination h.0.writes), safe_reads temps (done job now) later h.1)

  test_reads : (temps : ℕ) (now : List ℕ) (jobs : List JobModel) (test : Option ℕ) → IsTestSafe m temps vars jobs (Some (checkpoint_of test)) now → TestReads spots jobs test now
  test_reads temps now jobs None h = tt
  test_reads temps now jobs (Some test) h = λ job e. all_reads now job.trees (h job e).reads

  pub path_reads : (segment : Segment) (netlist : Netlist) (viewed : Viewed) (relation : ℕ → Relation) (temps : ℕ) (l : ProgramModel) (path : Path) → IsAskedOf netlist viewed relation m temps l path segment
      → spots ≡ segment.start.from.now.spots → (cells : List ℕ) → AreSafe m temps vars cells path.jobs → IsTestSafe m temps vars (program_jobs m l) (label_of l path) (all_done path.jobs cells) → PathReads segment cells path.jobs
  path_reads segment netlist viewed relation temps l path asked own cells safe asks =
      let now : List ℕ = all_done path.jobs cells in
      let to = test_reads temps now (program_jobs m l) segment.label (subst (λ label. IsTestSafe m temps vars (program_jobs m l) label now) asked.to asks) in
      subst (λ (xs : List Spot). AreReads xs cells path.jobs × TestReads xs (models_of_jobs segment.jobs.now) segment.label now) own
      (safe_reads temps cells path.jobs safe, subst (λ (js : List JobModel). TestReads spots js segment.label now) (sym asked.jobs) to)

-- ---- clocks

pub reaches : (netlist : Netlist) (viewed : Viewed) (marks : List ℕ) → ((a : ℕ) → is_mark marks a ≡ false → label_at viewed.image.marks a ≡ None)
    → (n : ℕ) (s t : State) → Walks netlist (words_of viewed.image) marks s n t → Reaches netlist viewed.image s n t
reaches netlist viewed marks none zero s t h = h
reaches netlist viewed marks none (suc n) s t h = (h.0, none (counter_in netlist s) h.1, h.2, reaches netlist viewed marks none n h.0 t h.3)

-- ---- segments

arrives_in : (segment : Segment) (netlist : Netlist) (viewed : Viewed) (relation : ℕ → Relation) (m : MemoryMap) (temps : ℕ) (l : ProgramModel) (path : Path) → IsAskedOf netlist viewed relation m temps l path segment
    → (now : List ℕ) (s : State) (address left : ℕ) → ComesAt netlist (words_of viewed.image) segment address left now s
    → ArrivesIn netlist viewed relation m segment.clocks (label_of l path) now (segment.clocks - left) address s
arrives_in segment netlist viewed relation m temps l path asked now s address left c =
    let x = arrived_at segment.start.pool.now c.last now viewed relation m l.vars address segment.label segment.hints.now asked.hints c.hinted in
    let w = c.within in
    record {
      arrives = record {
        taken = c.taken;
        last = c.last;
        address = address;
        within = omega (arith, w);
        reaches = reaches netlist viewed segment.marks.now asked.marks c.taken s c.last c.walks;
        here = record { here = record { state = c.state; counter = c.here }; mode = subst (λ o. mode_in o c.last ≡ 0) (sym asked.modeless) refl };
        marked = x.0 ∙ sym asked.to;
        related = x.1;
      };
      exact = omega (arith, w);
      there = refl;
    }

file_long : (segment : Segment) (netlist : Netlist) (viewed : Viewed) (relation : ℕ → Relation) (m : MemoryMap) (temps : ℕ) (l : ProgramModel) (path : Path) → IsAskedOf netlist viewed relation m temps l path segment
    → (s : State) → IsState netlist s → segment.start.file_cells ≤ length s.file
file_long segment netlist viewed relation m temps l path asked s state =
    let long : length s.file ≡ size_in InFile netlist.storages = state.cells InFile in
    let count = asked.code.file_cells in
    omega (arith, long, count)

one_job : (jobs : List JobModel) (k : ℕ) (a b : JobModel) → slice_get jobs k ≡ Some a → slice_get jobs k ≡ Some b → a ≡ b
one_job jobs k a b e f = cc

module _ (segment : Segment) (netlist : Netlist) (viewed : Viewed) (relation : ℕ → Relation) (m : MemoryMap) (temps : ℕ) (l : ProgramModel) (path : Path) (asked : IsAskedOf netlist viewed relation m temps l path segment)
    (from : IsHintOf viewed relation m l.vars segment.start.pool.now segment.start.from.now) (s : State) (cells : List ℕ)
    (h : IsAnswered netlist viewed relation m temps l segment.start.from.now.address segment.test segment.start.answer s cells) where
  marked : IsAtMark segment.start s cells
  marked =
      let t = asked.temps_are in
      let long : length s.cells ≡ memory_size netlist.storages = h.calm.here.state.cells InMemory in
      record {
        counter = ap (slice_index s.regs) asked.code.counter ∙ h.calm.here.counter;
        fits = λ k. subst (λ w. slice_index cells k < 2 ^ w) (sym asked.word) (h.holds.words k);
        temps = (let b = h.holds.room.below in omega (arith, t, b));
        machine_temps = (let b = asked.room.below in omega (arith, t, b, long));
        within = spots_within (hidden_in viewed segment.start.from.now.address) (view_at viewed.views segment.start.from.now.address) segment.start.pool.now temps (length cells) m.places segment.start.from.now.spots from.spots h.holds.room.within;
        machine_within = spots_within (hidden_in viewed segment.start.from.now.address) (view_at viewed.views segment.start.from.now.address) segment.start.pool.now temps (length s.cells) m.places segment.start.from.now.spots from.spots
            (subst (λ n. LieWithin temps n m.places) (sym long) asked.room.within);
        file_there = file_long segment netlist viewed relation m temps l path asked s h.calm.here.state;
        hinted = hinted segment.start.pool.now s cells viewed relation m l.vars segment.start.from.now from h.related;
      }

  answered : HasAnswer segment cells
  answered other e =
      subst (λ (j : JobModel). AllReadArrays segment.start.from.now.spots cells j.trees × AllAre (bit_of segment.start.answer) cells j.trees)
      (one_job (program_jobs m l) segment.test h.job other h.is (ap (λ (js : List JobModel). slice_get js segment.test) (sym asked.jobs) ∙ e))
      (all_reads (hidden_in viewed segment.start.from.now.address) (view_at viewed.views segment.start.from.now.address) segment.start.pool.now m l.vars segment.start.from.now.spots from.spots from.arrays asked.stand cells h.job.trees h.safe.reads, h.answers)

  denied_way : IsDenied segment → ⊥
  denied_way denied = denied netlist (words_of viewed.image) s cells asked.code h.calm.here.state marked answered

  crosses_in : (address left : ℕ) → IsProved segment address left → AreSafe m temps l.vars cells path.jobs
      → IsTestSafe m temps l.vars (program_jobs m l) (label_of l path) (all_done path.jobs cells)
      → CrossesIn netlist viewed relation m segment.clocks (label_of l path) (all_done path.jobs cells) (segment.clocks - left + 1) address s
  crosses_in address left proved safe asks =
      let reads = path_reads (hidden_in viewed segment.start.from.now.address) (view_at viewed.views segment.start.from.now.address) segment.start.pool.now m l.vars segment.start.from.now.spots from.spots from.arrays asked.stand
      segment netlist viewed relation temps l path asked refl cells safe asks in
      let c = proved netlist (words_of viewed.image) s cells path.jobs asked.code h.calm.here.state marked answered reads (ap (λ (js : List JobModel). all_jobs js segment.path.now) asked.jobs ∙ asked.path_is) in
      let a = arrives_in segment netlist viewed relation m temps l path asked (all_done path.jobs cells) c.after address left c.comes in
      record {
        crosses = record { next = c.after; clocked = c.clocked; arrives = a.arrives };
        exact = ap (λ n. n + 1) a.exact;
        there = a.there;
      }

-- the way, by what is found of it
pub found_way : (segment : Segment) (end : End) (way : Way) → IsTaken segment.clocks 1 end way → IfFound end (IsProved segment) → IsFoundWay segment way
found_way segment end (Unknown why) t p = tt
found_way segment end Never t p = absurd t
found_way segment (Lost why) (Takes clocks to) t p = absurd t
found_way segment (Mark address left) (Takes clocks to) t p = (left, t.1, subst (λ a. IsProved segment a left) (sym t.0) p)

pub way_is : (segment : Segment) (way : Way) → IsFoundWay segment way
    → (netlist : Netlist) (viewed : Viewed) (relation : ℕ → Relation) (m : MemoryMap) (temps : ℕ) (l : ProgramModel) (path : Path)
    → IsAskedOf netlist viewed relation m temps l path segment → IsHintOf viewed relation m l.vars segment.start.pool.now segment.start.from.now
    → IsWay netlist viewed relation m temps l segment.clocks segment.start.from.now.address segment.test segment.start.answer path way
way_is segment (Unknown why) p netlist viewed relation m temps l path asked from = tt
way_is segment Never p netlist viewed relation m temps l path asked from = λ s cells h. denied_way segment netlist viewed relation m temps l path asked from s cells h p
way_is segment (Takes clocks to) p netlist viewed relation m temps l path asked from = λ s cells h safe asks.
    subst (λ n. CrossesIn netlist viewed relation m segment.clocks (label_of l path) (all_done path.jobs cells) n to s) (sym p.1)
    (crosses_in segment netlist viewed relation m temps l path asked from s cells h to p.0 p.2 safe asks)

-- the start

none_seen : (s : State) (places : List Place) → AreShownAs [] (λ name. None) places s s.cells
none_seen s [] = tt
none_seen s (place ∷ places) = (λ k lt. refl, none_seen s places)

pub arrives_first : (segment : Segment) (address left : ℕ) → IsBegun segment address left → IsFirst segment.start.from.now → (netlist : Netlist) (viewed : Viewed) (relation : ℕ → Relation) (m : MemoryMap) (temps : ℕ) (l : ProgramModel) (path : Path)
    → IsAskedOf netlist viewed relation m temps l path segment → ArePlaces m l.vars segment.start.pool.now segment.start.from.now.spots → memory_width netlist.storages ≡ m.word
    → (s : State) → IsCalm netlist 0 s → AreSafe m temps l.vars s.cells path.jobs → IsTestSafe m temps l.vars (program_jobs m l) (label_of l path) (all_done path.jobs s.cells)
    → ArrivesIn netlist viewed relation m segment.clocks (label_of l path) (all_done path.jobs s.cells) (segment.clocks - left) address s
arrives_first segment address left begun first netlist viewed relation m temps l path asked places wide s calm safe asks =
    let pool = segment.start.pool.now in
    let spots = segment.start.from.now.spots in
    let t = asked.temps_are in
    let long : length s.cells ≡ memory_size netlist.storages = calm.here.state.cells InMemory in
    let b = asked.room.below in
    let within = spots_within [] (λ name. None) pool temps (length s.cells) m.places spots places.spots_are (subst (λ n. LieWithin temps n m.places) (sym long) asked.room.within) in
    let mark : IsAtMark segment.start s s.cells = record {
      counter = ap (slice_index s.regs) asked.code.counter ∙ calm.here.counter ∙ sym first.here;
      fits = λ k. subst (λ w. slice_index s.cells k < 2 ^ w) (wide ∙ sym asked.word) (calm.here.state.fits.cells InMemory k);
      temps = omega (arith, t, b, long);
      machine_temps = omega (arith, t, b, long);
      within = within;
      machine_within = within;
      file_there = file_long segment netlist viewed relation m temps l path asked s calm.here.state;
      hinted = record {
        seen = spots_seen pool s s.cells [] (λ name. None) m.places spots places.spots_are (none_seen s m.places);
        holds = subst (λ (xs : List Held). AllHeld pool xs s s.cells) (sym first.holdings) tt;
        numbers = subst (λ (xs : List Numbered). AllNumbered xs s.cells) (sym first.numbers) tt;
      };
    } in
    let reads = path_reads [] (λ name. None) pool m l.vars spots places.spots_are places.arrays asked.stand segment netlist viewed relation temps l path asked refl s.cells safe asks in
    arrives_in segment netlist viewed relation m temps l path asked (all_done path.jobs s.cells) s address left
    (begun netlist (words_of viewed.image) s s.cells path.jobs asked.code calm.here.state mark reads (ap (λ (js : List JobModel). all_jobs js segment.path.now) asked.jobs ∙ asked.path_is))

-- the way, by what is found of it
pub found_first : (segment : Segment) (end : End) (way : Way) → IsTaken segment.clocks 0 end way → IfFound end (IsBegun segment) → IsFoundFirst segment way
found_first segment end (Unknown why) t p = tt
found_first segment end Never t p = absurd t
found_first segment (Lost why) (Takes clocks to) t p = absurd t
found_first segment (Mark address left) (Takes clocks to) t p = (left, (let e = t.1 in omega (arith, e)), subst (λ a. IsBegun segment a left) (sym t.0) p)

pub first_way_is : (segment : Segment) (way : Way) → IsFoundFirst segment way → IsFirst segment.start.from.now
    → (netlist : Netlist) (viewed : Viewed) (relation : ℕ → Relation) (m : MemoryMap) (temps : ℕ) (l : ProgramModel) (path : Path)
    → IsAskedOf netlist viewed relation m temps l path segment → ArePlaces m l.vars segment.start.pool.now segment.start.from.now.spots → memory_width netlist.storages ≡ m.word
    → IsFirstWay netlist viewed relation m temps l segment.clocks path way
first_way_is segment (Unknown why) p first netlist viewed relation m temps l path asked places wide = tt
first_way_is segment Never p first netlist viewed relation m temps l path asked places wide = absurd p
first_way_is segment (Takes clocks to) p first netlist viewed relation m temps l path asked places wide = λ s calm safe asks.
    subst (λ n. ArrivesIn netlist viewed relation m segment.clocks (label_of l path) (all_done path.jobs s.cells) n to s) (sym p.1)
    (arrives_first segment to p.0 p.2 first netlist viewed relation m temps l path asked places wide s calm safe asks)
