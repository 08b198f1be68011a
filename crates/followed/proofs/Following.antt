-- All marks that are led follow the program.
use Rattle.std.proofs.Common.{◌≡◌, ◌≢◌, ℕ, zero, suc, ◌+◌, ◌==◌, ◌||◌, Bool, true, false, if◌then◌else◌, List, [], ◌∷◌, map, length, Option, Some, None, refl, ◌∙◌, sym, ap, subst, slice_get, slice_index, eq-eqb, eqb-true}
use Rattle.std.proofs.lemmas.Option.{same_Some}
use Rattle.std.proofs.lemmas.List.{length-map}
use Rattle.net_model.specs.declared.hardware.Netlist.{Netlist}
use Rattle.net_model.specs.declared.hardware.Space.TheVariants.{Memory as InMemory, File as InFile}
use Rattle.net_model.specs.declared.states.State.{State}
use Rattle.net_model.specs.Control.{IsSound}
use Rattle.net_model.specs.Fixed.{mode_in}
use Rattle.net_model.specs.Nets.{counter_of, memory_width, place_in, size_in, width_in}
use Rattle.net_model.specs.Transfers.{Moved, cells_moved, reg_moved}
use Rattle.net_model.proofs.Effects.{moved}
use Rattle.src_model.specs.declared.checkpoint.Checkpoint.TheVariants.{At}
use Rattle.src_model.specs.declared.program.Var.{Var as Declared}
use Rattle.src_model.specs.Written.{ProgramModel}
use Rattle.code_model.specs.declared.image.Image.{Image}
use Rattle.code_model.specs.declared.image.Mark.{Mark}
use Rattle.code_model.specs.declared.image.Word.{Word}
use Rattle.code_model.specs.declared.views.Viewed.{Viewed}
use Rattle.code_model.specs.Flow.{GoesTo}
use Rattle.code_model.specs.Places.{checkpoint_of, label_at, words_of}
use Rattle.code_model.specs.Views.{hidden_in, view_at}
use Rattle.code_model.specs.Words.{DoesGoto}
use Rattle.code_model.proofs.Fixed.{fixed_is}
use Rattle.form_model.specs.declared.flow.Flow.TheVariants.{Test}
use Rattle.src_trees.specs.Flows.{program_flow, program_jobs}
use Rattle.src_trees.specs.Jobs.{models_of_jobs}
use Rattle.src_trees.specs.Lowered.{MemoryMap}
use Rattle.sym_expr.specs.declared.pool.Node.{Node}
use Rattle.sym_run.specs.declared.walk.Coded.{Coded}
use Rattle.sym_run.specs.Walks.{IsCodedAt, is_mark}
use Rattle.follow.specs.Followed.{IsFollowed, IsSegment, IsStart}
use Rattle.follow.specs.Paths.{Path, path_from}
use Rattle.follow.specs.Relations.{Relation}
use Rattle.follow.specs.RightByViews.{IsLaidFor, image_memory}
use Rattle.mark_start.specs.declared.hints.Hint.{Hint}
use Rattle.segment.specs.Asked.{AreHintsOf, ArePlaces, AreSpots, IsHintOf}
use Rattle.segment.specs.declared.way.Way.{Way}
use Rattle.segment.specs.declared.way.Way.TheVariants.{Never, Takes, Unknown}
use Rattle.segment.specs.Timed.{IsFirstWay, IsWay}
use Rattle.followed.specs.declared.front.Front.{Front}
use Rattle.followed.specs.declared.passed.Passed.{Passed}
use Rattle.followed.specs.declared.passed.Turn.{Turn}
use Rattle.followed.specs.Inner.Coded.{AreWordsOf}
use Rattle.followed.specs.Inner.Led.{AreMarksLed, HasFollowed, IsLedOff, IsMarkLed, IsReady, IsWhole}
use Rattle.followed.specs.Turned.{AreTurns, IsFirstTurn, IsKnown, IsTurn, TestMark, test_with, tests_of}
use Rattle.followed.specs.Inner.Hinted.{AreHere, AreNew, IsNew}
use Rattle.followed.specs.Said.{relation_at, relation_of}

-- ---- relations

-- a relation says what the hints do
abbrev Says : (ℕ → Relation) → List Node → List Hint → Type 0
Says relation pool [] = Unit {0}
Says relation pool (hint ∷ hints) = (relation hint.address ≡ relation_of pool hint) × Says relation pool hints

says_same : (pool : List Node) (r t : ℕ → Relation) (a : ℕ) → ((b : ℕ) → b ≢ a → t b ≡ r b) → (hints : List Hint) → IsNew a hints → Says r pool hints → Says t pool hints
says_same pool r t a same [] new h = tt
says_same pool r t a same (hint ∷ hints) new h = (same hint.address new.0 ∙ h.0, says_same pool r t a same hints new.1 h.1)

pub says : (pool : List Node) (hints : List Hint) → AreNew hints → Says (relation_at pool hints) pool hints
says pool [] new = tt
says pool (hint ∷ hints) new = (
  ap (λ (b : Bool). if b then relation_of pool hint else relation_at pool hints hint.address) (eq-eqb hint.address hint.address refl),
  says_same pool (relation_at pool hints) (relation_at pool (hint ∷ hints)) hint.address other hints new.0 (says pool hints new.1),
)
  where
    other : (b : ℕ) → b ≢ hint.address → relation_at pool (hint ∷ hints) b ≡ relation_at pool hints b
    other b ne = by (hint.address == b) refl
      where
        by : (x : Bool) → (hint.address == b) ≡ x → (if x then relation_of pool hint else relation_at pool hints b) ≡ relation_at pool hints b
        by true e = absurd (ne (sym (eqb-true hint.address b e)))
        by false e = refl

-- ---- hints

pub hints_of : (viewed : Viewed) (relation : ℕ → Relation) (m : MemoryMap) (vars : List Declared) (pool : List Node) (hints : List Hint) → m.places ≡ viewed.image.places
    → AreHere viewed vars pool hints → Says relation pool hints → AreHintsOf viewed relation m vars pool hints
hints_of viewed relation m vars pool [] e h s = tt
hints_of viewed relation m vars pool (hint ∷ hints) e h s = (
  record {
    spots = subst (λ places. AreSpots (hidden_in viewed hint.address) (view_at viewed.views hint.address) pool places hint.spots) (sym e) h.0.spots;
    arrays = h.0.arrays;
    holdings = ap (λ (r : Relation). r.holdings) s.0;
    known = ap (λ (r : Relation). r.known) s.0;
  },
  h.0.labelled,
  hints_of viewed relation m vars pool hints e h.1 s.1,
)

hint_there : (viewed : Viewed) (relation : ℕ → Relation) (m : MemoryMap) (vars : List Declared) (pool : List Node) (hints : List Hint) → AreHintsOf viewed relation m vars pool hints
    → (k : ℕ) (hint : Hint) → slice_get hints k ≡ Some hint → IsHintOf viewed relation m vars pool hint
hint_there viewed relation m vars pool [] h k hint e = absurd (cc e)
hint_there viewed relation m vars pool (x ∷ hints) h zero hint e = subst (IsHintOf viewed relation m vars pool) (same_Some x hint e) h.0
hint_there viewed relation m vars pool (x ∷ hints) h (suc k) hint e = hint_there viewed relation m vars pool hints h.2 k hint e

-- ---- marks

abbrev pub addresses : List Mark → List ℕ
addresses marks = map (λ (mark : Mark). mark.address) marks

pub unmarked : (marks : List Mark) (a : ℕ) → is_mark (addresses marks) a ≡ false → label_at marks a ≡ None
unmarked [] a e = refl
unmarked (m ∷ marks) a e = by (m.address == a) e (λ f. unmarked marks a f)
  where
    by : (b : Bool) → (b || is_mark (addresses marks) a) ≡ false → (is_mark (addresses marks) a ≡ false → label_at marks a ≡ None) → (if b then Some (checkpoint_of m.label) else label_at marks a) ≡ None
    by true e more = absurd (cc e)
    by false e more = more e

-- ---- the last word

still : (o : Option ℕ) (s : State) → o ≡ None → mode_in o s ≡ 0
still o s e = ap (λ x. mode_in x s) e

pub goes : (netlist : Netlist) (image : Image) (at to : ℕ) → IsSound netlist → netlist.special ≡ None → DoesGoto netlist (slice_index (words_of image) at) to → GoesTo netlist image at to
goes netlist image at to sound none does = record {
  goes = λ s calm.
      let i : ℕ = slice_index (words_of image) at in
      let m : Moved netlist (words_of image) i s = moved netlist (words_of image) i s sound calm.here.state does.clean (ap (slice_index (words_of image)) calm.here.counter) in
      record {
        next = m.next;
        clocked = m.clocked;
        here = record {
          here = record {
            state = m.state;
            counter = m.regs (counter_of netlist.codes) sound.counter ∙ ap (λ t. reg_moved t s i (counter_of netlist.codes)) does.jump.move ∙ fixed_is does.jump.to_term i to s does.jump.to_is;
          };
          mode = still netlist.special m.next none;
        };
        same = m.cells InMemory ∙ ap (λ t. cells_moved t s i s.cells) does.keeps.move;
      };
}

one_tree : (a b : ℕ) → Some (checkpoint_of (Some a)) ≡ Some (At b) → a ≡ b
one_tree a b e = cc e

-- ---- ways

module _ (netlist : Netlist) (viewed : Viewed) (relation : ℕ → Relation) (m : MemoryMap) (temps : ℕ) (l : ProgramModel) (most : ℕ) where
  way_segment : (way : Way) → IsKnown way → (address tree : ℕ) (answer : Bool) (path : Path) → IsWay netlist viewed relation m temps l most address tree answer path way
      → IsSegment netlist viewed relation m temps l most address tree answer path
  way_segment (Takes clocks to) k address tree answer path h job there s cells calm related holds safe answers jobs_safe asks =
      (h s cells (record { calm = calm; related = related; holds = holds; job = job; is = there; safe = safe; answers = answers }) jobs_safe asks).crosses
  way_segment Never k address tree answer path h job there s cells calm related holds safe answers jobs_safe asks =
      absurd (h s cells (record { calm = calm; related = related; holds = holds; job = job; is = there; safe = safe; answers = answers }))
  way_segment (Unknown why) k address tree answer path h job there s cells calm related holds safe answers jobs_safe asks = absurd k

  way_start : (way : Way) → IsKnown way → (path : Path) → IsFirstWay netlist viewed relation m temps l most path way → IsStart netlist viewed relation m temps l most path
  way_start (Takes clocks to) k path h s calm safe asks = (h s calm safe asks).arrives
  way_start Never k path h s calm safe asks = absurd h
  way_start (Unknown why) k path h s calm safe asks = absurd k

  abbrev Turned : ℕ → ℕ → Type 0
  Turned address tree = (answer : Bool) → (way : Way) × IsTurn netlist viewed relation m temps l most (record { address = address; tree = tree }) answer way

  of_mark : (mark : TestMark) (turn : Turn) → IsTurn netlist viewed relation m temps l most mark true turn.when_one → IsTurn netlist viewed relation m temps l most mark false turn.when_zero
      → Turned mark.address mark.tree
  of_mark mark turn one zer true = (turn.when_one, one)
  of_mark mark turn one zer false = (turn.when_zero, zer)

  turned : (marks : List Mark) (turns : List Turn) → AreTurns netlist viewed relation m temps l most (tests_of marks) turns → (address tree : ℕ) → label_at marks address ≡ Some (At tree) → Turned address tree
  turned [] turns h address tree e = absurd (cc e)
  turned (mark ∷ marks) turns h address tree e = by (λ ts k f. turned marks ts k address tree f) mark.label (mark.address == address) refl turns h e
    where
      by : ((turns : List Turn) → AreTurns netlist viewed relation m temps l most (tests_of marks) turns → label_at marks address ≡ Some (At tree) → Turned address tree)
          → (o : Option ℕ) (b : Bool) → (mark.address == address) ≡ b → (turns : List Turn) → AreTurns netlist viewed relation m temps l most (test_with mark.address o (tests_of marks)) turns
          → (if b then Some (checkpoint_of o) else label_at marks address) ≡ Some (At tree) → Turned address tree
      by more None true f turns h e = absurd (cc e)
      by more None false f turns h e = more turns h e
      by more (Some n) true f [] h e = absurd h
      by more (Some n) false f [] h e = absurd h
      by more (Some n) false f (turn ∷ turns) h e = more turns h.3 e
      by more (Some n) true f (turn ∷ turns) h e =
          subst (λ a. Turned a tree) (eqb-true mark.address address f)
          (subst (λ k. Turned mark.address k) (one_tree n tree e) (of_mark (record { address = mark.address; tree = n }) turn h.1 h.2))

  pub ways_follow : (way : Way) (turns : List Turn) → IsFirstTurn netlist viewed relation m temps l most way → AreTurns netlist viewed relation m temps l most (tests_of viewed.image.marks) turns
      → length (words_of viewed.image) ≡ most + 1 → GoesTo netlist viewed.image most most → IsFollowed netlist viewed relation m temps l
  ways_follow way turns first are long ends = record {
    last = most;
    long = long;
    end_word = ends;
    start = λ n path p. way_start way first.known path (first.is n path p);
    tests = λ address tree at one zer marked is answer n path p.
        (let t = turned viewed.image.marks turns are address tree marked answer in
        way_segment t.0 t.1.known address tree answer path (t.1.is at one zer n path is p));
  }

-- ---- all marks

module _ (netlist : Netlist) (viewed : Viewed) (relation : ℕ → Relation) (m : MemoryMap) (temps : ℕ) (l : ProgramModel) (front : Front) (ready : IsReady netlist viewed relation m temps l front) where
  module _ (mark : TestMark) (turn : Turn) (led : IsMarkLed front mark turn) where
    hint_is : IsHintOf viewed relation m l.vars front.pool.now led.hint
    hint_is = hint_there viewed relation m l.vars front.pool.now front.hints.now ready.hints led.at.at led.hint led.at.is

    targets : (at one zer : ℕ) → slice_get (program_flow l) at ≡ Some (Test mark.tree one zer) → (one ≡ led.when_one) × (zer ≡ led.when_zero)
    targets at one zer f = led.targets at one zer (ap (λ flow. slice_get flow at) ready.flow ∙ f)

    when_one : IsTurn netlist viewed relation m temps l front.clocks mark true turn.when_one
    when_one = record {
      known = led.known_one;
      is = λ at one zer n path f e.
          subst (λ a. IsWay netlist viewed relation m temps l front.clocks a mark.tree true path turn.when_one) led.at.here
          (led.one netlist viewed relation m temps l ready hint_is n path (ap (path_from (program_flow l) (program_jobs m l) n) (sym (targets at one zer f).0) ∙ e));
    }

    when_zero : IsTurn netlist viewed relation m temps l front.clocks mark false turn.when_zero
    when_zero = record {
      known = led.known_zero;
      is = λ at one zer n path f e.
          subst (λ a. IsWay netlist viewed relation m temps l front.clocks a mark.tree false path turn.when_zero) led.at.here
          (led.zer netlist viewed relation m temps l ready hint_is n path (ap (path_from (program_flow l) (program_jobs m l) n) (sym (targets at one zer f).1) ∙ e));
    }

  all_turns : (marks : List TestMark) (turns : List Turn) → AreMarksLed front marks turns → AreTurns netlist viewed relation m temps l front.clocks marks turns
  all_turns [] [] h = tt
  all_turns [] (turn ∷ turns) h = absurd h
  all_turns (mark ∷ marks) [] h = absurd h
  all_turns (mark ∷ marks) (turn ∷ turns) h = (h.0.here, when_one mark turn h.0, when_zero mark turn h.0, all_turns marks turns h.1)

  first_turn : (hint : Hint) (way : Way) → IsKnown way → ArePlaces m l.vars front.pool.now hint.spots → memory_width netlist.storages ≡ m.word → IsLedOff front hint way
      → IsFirstTurn netlist viewed relation m temps l front.clocks way
  first_turn hint way k places wide off = record { known = k; is = λ n path p. off netlist viewed relation m temps l ready places wide n path p }

-- ---- all that is found

pub whole_follows : (netlist : Netlist) (viewed : Viewed) (width : ℕ) (l : ProgramModel) (vars : List Declared) (front : Front) (passed : Passed)
    → IsWhole viewed vars front passed → vars ≡ l.vars
    → IsSound netlist → netlist.special ≡ None → front.counter ≡ counter_of netlist.codes → front.memory ≡ place_in InMemory netlist.storages
    → front.file ≡ place_in InFile netlist.storages → front.file_cells ≡ size_in InFile netlist.storages → front.storages.now ≡ netlist.storages → front.file_word ≡ width_in InFile netlist.storages
    → AreWordsOf netlist front.pool.now (words_of viewed.image) front.code.now → front.word ≡ width → memory_width netlist.storages ≡ width → front.temps ≡ viewed.image.temps
    → IsLaidFor netlist width l viewed.image → front.marks.now ≡ addresses viewed.image.marks → front.flow.now ≡ program_flow l
    → models_of_jobs front.jobs.now ≡ program_jobs (image_memory netlist width viewed.image) l → length viewed.image.words ≡ front.clocks + 1
    → (coded : Coded) → slice_get front.code.now front.clocks ≡ Some coded
    → ((netlist : Netlist) (word : ℕ) → IsCodedAt netlist front.pool.now word coded → front.counter ≡ counter_of netlist.codes → front.memory ≡ place_in InMemory netlist.storages → DoesGoto netlist word front.clocks)
    → HasFollowed netlist width l viewed (relation_at front.pool.now front.hints.now) passed
whole_follows netlist viewed width l vars front passed was ea sound none counter memory file file_cells storages file_word words word wide temps laid addrs flow jobs long coded there ends =
    record {
      followed = ways_follow netlist viewed relation m viewed.image.temps l front.clocks passed.first passed.turns first turns longer ending;
      ways = record { most = front.clocks; long = longer; first = first; turns = turns };
    }
  where
    w : IsWhole viewed l.vars front passed
    w = subst (λ x. IsWhole viewed x front passed) ea was

    relation : ℕ → Relation
    relation = relation_at front.pool.now front.hints.now

    m : MemoryMap
    m = image_memory netlist width viewed.image

    longer : length (words_of viewed.image) ≡ front.clocks + 1
    longer = length-map viewed.image.words (λ (x : Word). x.word) ∙ long

    ending : GoesTo netlist viewed.image front.clocks front.clocks
    ending = goes netlist viewed.image front.clocks front.clocks sound none (ends netlist (slice_index (words_of viewed.image) front.clocks) (words front.clocks coded there).is counter memory)

    ready : IsReady netlist viewed relation m viewed.image.temps l front
    ready = record {
      sound = sound;
      counter = counter;
      memory = memory;
      file = file;
      storages = storages;
      file_cells = file_cells;
      file_word = file_word;
      code = λ a one e. (words a one e).is;
      modeless = none;
      word = word;
      temps_are = temps;
      stand = laid.held.stand;
      room = laid.room;
      marks = λ a e. unmarked viewed.image.marks a (ap (λ all. is_mark all a) (sym addrs) ∙ e);
      hints = hints_of viewed relation m l.vars front.pool.now front.hints.now refl w.here (says front.pool.now front.hints.now w.new);
      flow = flow;
      jobs = jobs;
    }

    first : IsFirstTurn netlist viewed relation m viewed.image.temps l front.clocks passed.first
    first = first_turn netlist viewed relation m viewed.image.temps l front ready w.hint passed.first w.known (record { spots_are = w.spots; arrays = w.arrays }) wide w.first

    turns : AreTurns netlist viewed relation m viewed.image.temps l front.clocks (tests_of viewed.image.marks) passed.turns
    turns = all_turns netlist viewed relation m viewed.image.temps l front ready (tests_of viewed.image.marks) passed.turns w.turns
