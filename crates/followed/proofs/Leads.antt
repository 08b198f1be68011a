-- A segment of the path that was found is one of each path of the flow from that place.
use Rattle.std.proofs.Common.{◌≡◌, ℕ, zero, suc, ◌<◌, inl, inr, Bool, List, [], ◌∷◌, ◌++◌, append_assoc, length, Option, Some, None, Result, Ok, Err, ◌∙◌, sym, ap, subst, slice_get, arith, Bor}
use Rattle.std.specs.Prelude.{IfOk, IfSome}
use Rattle.std.proofs.lemmas.Option.{slice_get_cases, same_Some}
use Rattle.std.proofs.lemmas.List.{length-map}
use Rattle.net_model.specs.declared.hardware.Netlist.{Netlist}
use Rattle.net_model.specs.Nets.{memory_width}
use Rattle.src_model.specs.Written.{ProgramModel}
use Rattle.code_model.specs.declared.image.Mark.{Mark}
use Rattle.code_model.specs.declared.views.Viewed.{Viewed}
use Rattle.code_model.specs.Places.{checkpoint_of}
use Rattle.form_model.specs.declared.flow.Flow.{Flow}
use Rattle.form_model.specs.declared.flow.Flow.TheVariants.{Test}
use Rattle.form_model.specs.declared.trees.Job.{Job}
use Rattle.src_trees.specs.Flows.{program_flow, program_jobs}
use Rattle.src_trees.specs.Jobs.{model_of_job, models_of_jobs}
use Rattle.src_trees.specs.Lowered.{JobModel, MemoryMap}
use Rattle.follow.specs.declared.trail.Trail.{Trail}
use Rattle.follow.specs.Paths.{Path, checkpoint_at, path_from}
use Rattle.follow.specs.Relations.{Relation}
use Rattle.follow.specs.Trails.{all_jobs, one_more, path_of, path_to, trail_from}
use Rattle.follow.proofs.OnePath.{one_path}
use Rattle.follow.proofs.TrailLemmas.{path_is}
use Rattle.mark_start.specs.declared.hints.Hint.{Hint}
use Rattle.segment.specs.declared.run.Segment.{Segment}
use Rattle.segment.specs.Asked.{ArePlaces, IsAskedOf, IsHintOf}
use Rattle.segment.specs.declared.way.Way.{Way}
use Rattle.segment.specs.Timed.{IsFirstWay, IsWay}
use Rattle.followed.specs.declared.front.Front.{Front}
use Rattle.followed.specs.declared.front.Targets.{Targets}
use Rattle.followed.specs.declared.passed.Turn.{Turn}
use Rattle.followed.specs.Inner.Led.{AreMarksLed, AreTargets, HasNoTest, IsHintAt, IsLed, IsLedOff, IsMarkLed, IsReady, IsTestIn}
use Rattle.followed.specs.Turned.{test_with, tests_of}

-- ---- options

pub if_some : {A : Type 0} (r : Option A) (P Q : A → Type 0) → ((x : A) → P x → Q x) → IfSome r P → IfSome r Q
if_some None P Q f h = tt
if_some (Some x) P Q f h = f x h

pub some_of : {A : Type 0} (P : A → Type 0) (r : Option A) (x : A) → r ≡ Some x → IfSome r P → P x
some_of P r x e h = subst (λ o. IfSome o P) e h

pub both_ok : {A E : Type 0} (r : Result A E) (P Q R : A → Type 0) → ((x : A) → P x → Q x → R x) → IfOk r P → IfOk r Q → IfOk r R
both_ok (Err e) P Q R f h k = tt
both_ok (Ok x) P Q R f h k = f x h k

-- ---- hints

pub hint_further : (hint : Hint) (rest hints : List Hint) → hints ≡ hint ∷ rest → (a : ℕ) (x : Hint) → IsHintAt rest a x → IsHintAt hints a x
hint_further hint rest hints e a x h = record { here = h.here; at = suc h.at; is = ap (λ xs. slice_get xs (suc h.at)) e ∙ h.is }

-- ---- jobs

abbrev pub SomeJobs : List JobModel → List ℕ → Type 0
SomeJobs jobs numbers = (later : List JobModel) × (all_jobs jobs numbers ≡ Some later)

job_there : (jobs : List JobModel) (number : ℕ) → number < length jobs → (job : JobModel) × (slice_get jobs number ≡ Some job)
job_there jobs number lt = elim (slice_get_cases jobs number).1 as (λ _. (job : JobModel) × (slice_get jobs number ≡ Some job)) [
  | inl w ↦ (w.0, w.2)
  | inr w ↦ absurd (omega (arith, lt, w.0))
]

pub more_jobs : (jobs : List Job) (number : ℕ) (rest all : List ℕ) → all ≡ number ∷ rest → number < length jobs → SomeJobs (models_of_jobs jobs) rest → SomeJobs (models_of_jobs jobs) all
more_jobs jobs number rest all e lt h =
    let long = length-map jobs model_of_job in
    let j = job_there (models_of_jobs jobs) number (omega (arith, long, lt)) in
    (j.0 ∷ h.0, ap (all_jobs (models_of_jobs jobs)) e ∙ ap (λ o. one_more o (all_jobs (models_of_jobs jobs) rest)) j.1 ∙ ap (one_more (Some j.0)) h.1)

-- ---- segments

abbrev pub segment_of : Front → Bor Hint → ℕ → Bool → Bor (List ℕ) → Option ℕ → Segment
segment_of front from test answer path label = record {
  start = record {
    pool = front.pool;
    code = front.code;
    storages = front.storages;
    counter = front.counter;
    memory = front.memory;
    file = front.file;
    file_cells = front.file_cells;
    file_word = front.file_word;
    counter_width = front.counter_width;
    word = front.word;
    addr = front.addr;
    temps = front.temps;
    from = from;
    answer = answer;
  };
  marks = front.marks;
  hints = front.hints;
  jobs = front.jobs;
  test = test;
  path = path;
  label = label;
  clocks = front.clocks;
}

module _ (front : Front) (from : Bor Hint) (test : ℕ) (answer : Bool) (path : Bor (List ℕ)) (label : Option ℕ) (at : ℕ) (trail : Trail) (there : Some trail ≡ trail_from front.flow.now (length front.flow.now) at)
    (trees : path.now ≡ trail.trees) (jobs : SomeJobs (models_of_jobs front.jobs.now) path.now) (to : checkpoint_at (slice_get front.flow.now trail.to) ≡ Some (checkpoint_of label)) where
  asked : (netlist : Netlist) (viewed : Viewed) (relation : ℕ → Relation) (m : MemoryMap) (temps : ℕ) (l : ProgramModel) → IsReady netlist viewed relation m temps l front → (n : ℕ) (p : Path)
      → path_from (program_flow l) (program_jobs m l) n at ≡ Some p → IsAskedOf netlist viewed relation m temps l p (segment_of front from test answer path label)
  asked netlist viewed relation m temps l r n p e =
      let now : all_jobs (program_jobs m l) path.now ≡ Some jobs.0 = ap (λ js. all_jobs js path.now) (sym r.jobs) ∙ jobs.1 in
      let found : trail_from (program_flow l) (length front.flow.now) at ≡ Some trail = ap (λ f. trail_from f (length front.flow.now) at) (sym r.flow) ∙ sym there in
      let other : path_from (program_flow l) (program_jobs m l) (length front.flow.now) at ≡ Some (record { jobs = jobs.0; to = trail.to }) =
      path_is (program_flow l) (program_jobs m l) (length front.flow.now) at ∙ ap (path_of (program_jobs m l)) found
      ∙ ap (λ ts. path_to trail.to (all_jobs (program_jobs m l) ts)) (sym trees) ∙ ap (path_to trail.to) now in
      let same : p ≡ record { jobs = jobs.0; to = trail.to } = one_path (program_flow l) (program_jobs m l) n (length front.flow.now) at p (record { jobs = jobs.0; to = trail.to }) e other in
      record {
        code = record { sound = r.sound; counter = r.counter; memory = r.memory; file = r.file; storages = r.storages; file_cells = r.file_cells; file_word = r.file_word; code = r.code };
        modeless = r.modeless;
        word = r.word;
        temps_are = r.temps_are;
        stand = r.stand;
        room = r.room;
        marks = r.marks;
        hints = r.hints;
        jobs = r.jobs;
        path_is = now ∙ ap (λ (q : Path). Some q.jobs) (sym same);
        to = ap (λ (q : Path). checkpoint_at (slice_get (program_flow l) q.to)) same ∙ ap (λ f. checkpoint_at (slice_get f trail.to)) (sym r.flow) ∙ to;
      }

  abbrev HasWay : Way → Type 0
  HasWay way =
      (netlist : Netlist) (viewed : Viewed) (relation : ℕ → Relation) (m : MemoryMap) (temps : ℕ) (l : ProgramModel) (p : Path)
      → IsAskedOf netlist viewed relation m temps l p (segment_of front from test answer path label) → IsHintOf viewed relation m l.vars front.pool.now from.now
      → IsWay netlist viewed relation m temps l front.clocks from.now.address test answer p way

  abbrev HasFirstWay : Way → Type 0
  HasFirstWay way =
      (netlist : Netlist) (viewed : Viewed) (relation : ℕ → Relation) (m : MemoryMap) (temps : ℕ) (l : ProgramModel) (p : Path)
      → IsAskedOf netlist viewed relation m temps l p (segment_of front from test answer path label) → ArePlaces m l.vars front.pool.now from.now.spots
      → memory_width netlist.storages ≡ m.word → IsFirstWay netlist viewed relation m temps l front.clocks p way

  pub led : (way : Way) → HasWay way → IsLed front from.now test answer at way
  led way h netlist viewed relation m temps l r hint n p e = h netlist viewed relation m temps l p (asked netlist viewed relation m temps l r n p e) hint

  pub led_off : (way : Way) → at ≡ 0 → HasFirstWay way → IsLedOff front from.now way
  led_off way z h netlist viewed relation m temps l r places wide n p e =
      h netlist viewed relation m temps l p (asked netlist viewed relation m temps l r n p (ap (path_from (program_flow l) (program_jobs m l) n) z ∙ e)) places wide

-- ---- tests

module _ (item : Flow) (rest flow : List Flow) (e : flow ≡ item ∷ rest) (tree : ℕ) where
  first : (one zer : ℕ) → slice_get flow 0 ≡ Some (Test tree one zer) → item ≡ Test tree one zer
  first one zer f = same_Some item (Test tree one zer) (ap (λ xs. slice_get xs 0) (sym e) ∙ f)

  later : (k one zer : ℕ) → slice_get flow (suc k) ≡ Some (Test tree one zer) → slice_get rest k ≡ Some (Test tree one zer)
  later k one zer f = ap (λ xs. slice_get xs (suc k)) (sym e) ∙ f

  pub none_more : IsTestIn item tree None → HasNoTest rest tree → HasNoTest flow tree
  none_more is none zero one zer f = is one zer (first one zer f)
  none_more is none (suc k) one zer f = none k one zer (later k one zer f)

  pub targets_here : (to : Targets) → IsTestIn item tree (Some to) → HasNoTest rest tree → AreTargets flow tree to.when_one to.when_zero
  targets_here to is none zero one zer f = is one zer (first one zer f)
  targets_here to is none (suc k) one zer f = absurd (none k one zer (later k one zer f))

  pub targets_later : (when_one when_zero : ℕ) → IsTestIn item tree None → AreTargets rest tree when_one when_zero → AreTargets flow tree when_one when_zero
  targets_later when_one when_zero is are zero one zer f = absurd (is one zer (first one zer f))
  targets_later when_one when_zero is are (suc k) one zer f = are k one zer (later k one zer f)

-- ---- turns

abbrev pub AreAdded : Front → List Mark → List Turn → List Turn → Type 0
AreAdded front marks old new = (later : List Turn) × (new ≡ old ++ later) × AreMarksLed front (tests_of marks) later

module _ (front : Front) (mark : Mark) (rest marks : List Mark) (e : marks ≡ mark ∷ rest) where
  pub added_none : mark.label ≡ None → (old new : List Turn) → AreAdded front rest old new → AreAdded front marks old new
  added_none f old new h =
      (h.0, h.1, subst (λ ts. AreMarksLed front ts h.0) (sym (ap tests_of e ∙ ap (λ o. test_with mark.address o (tests_of rest)) f)) h.2)

  pub added_one : (tree : ℕ) → mark.label ≡ Some tree → (turn : Turn) → IsMarkLed front (record { address = mark.address; tree = tree }) turn
      → (old middle new : List Turn) → middle ≡ old ++ turn ∷ [] → AreAdded front rest middle new → AreAdded front marks old new
  added_one tree f turn led old middle new g h = (
    turn ∷ h.0,
    h.1 ∙ ap (λ ts. ts ++ h.0) g ∙ append_assoc old (turn ∷ []) h.0,
    subst (λ ts. AreMarksLed front ts (turn ∷ h.0)) (sym (ap tests_of e ∙ ap (λ o. test_with mark.address o (tests_of rest)) f)) (led, h.2),
  )
