-- What right code shows over any number of clocks: a trace over fewer clocks is the front of one
-- over more.
use Rattle.std.proofs.Common.{ℕ, zero, suc, ◌≡◌, ◌≤◌, ◌+◌, ◌-◌, ◌*◌, List, [], ◌∷◌, length, take, refl, sym, ◌∙◌, ap, subst, arith, inl, inr, Option, Some, None}
use Rattle.net_model.specs.declared.hardware.Netlist.{Netlist}
use Rattle.net_model.specs.declared.states.State.{State}
use Rattle.net_model.specs.Clock.{clock, Outcome, Next, Clash}
use Rattle.src_model.specs.declared.checkpoint.Checkpoint.{Checkpoint}
use Rattle.src_model.specs.declared.checkpoint.Checkpoint.TheVariants.{At, End}
use Rattle.src_model.specs.Trace.{strace}
use Rattle.src_model.specs.Ways.{Passed, finish}
use Rattle.src_model.specs.Written.{ProgramModel, stmts_of}
use Rattle.src_model.proofs.WayLemmas.{IsWhole, finish_whole, finish_steady, front, take_far}
use Rattle.src_model.proofs.TraceLemmas.{in_whole, in_steady}
use Rattle.code_model.specs.declared.image.Image.{Image}
use Rattle.code_model.specs.Places.{words_of}
use Rattle.code_model.specs.Machine.{TraceEntry, Traced, Shows, Clashes, before, with_checkpoint, after_clock, mtrace, label_in, store_in, IsCalm}
use Rattle.code_model.specs.Right.{passed_of, ShowsSource, TracesRight}

-- what is shown is the front of these entries
record IsFront (x : Traced) (es : List TraceEntry) : Type 0 where
  entries : List TraceEntry
  shows : x ≡ Shows entries
  front : take (length entries) es ≡ entries

before_front : (e : TraceEntry) (x y : Traced) (es : List TraceEntry) → ((ys : List TraceEntry) → y ≡ Shows ys → IsFront x ys) → before e y ≡ Shows es → IsFront (before e x) es
before_front e x Clashes es h p = absurd (cc)
before_front e x (Shows ys) es h p =
    let f : IsFront x ys = h ys refl in
    let q : e ∷ ys ≡ es = cc in
    record {
      entries = e ∷ f.entries;
      shows = ap (before e) f.shows;
      front = subst (λ (zs : List TraceEntry). take (length (e ∷ f.entries)) zs ≡ e ∷ f.entries) q (ap (λ (zs : List TraceEntry). e ∷ zs) f.front);
    }

seen_front : (o : Option Checkpoint) (c : ℕ) (cells : List ℕ) (x y : Traced) (es : List TraceEntry) → ((ys : List TraceEntry) → y ≡ Shows ys → IsFront x ys) → with_checkpoint o c cells y ≡ Shows es → IsFront (with_checkpoint o c cells x) es
seen_front None c cells x y es h p = h es p
seen_front (Some (At tree)) c cells x y es h p = before_front _ x y es h p
seen_front (Some End) c cells x y es h p =
    let q : record { cycle = c; passed = record { label = End; cells = cells } } ∷ [] ≡ es = cc in
    record {
      entries = record { cycle = c; passed = record { label = End; cells = cells } } ∷ [];
      shows = refl;
      front = subst (λ (zs : List TraceEntry). take 1 zs ≡ record { cycle = c; passed = record { label = End; cells = cells } } ∷ []) q refl;
    }

after_front : (f g : State → Traced) (o : Outcome) (es : List TraceEntry) → ((t : State) (ys : List TraceEntry) → g t ≡ Shows ys → IsFront (f t) ys) → after_clock g o ≡ Shows es → IsFront (after_clock f o) es
after_front f g (Next t) es h p = h t es p
after_front f g (Clash bus) es h p = absurd (cc)

none_front : (ys : List TraceEntry) → IsFront (Shows []) ys
none_front ys = record { entries = []; shows = refl; front = refl }

module _ (netlist : Netlist) (image : Image) where
  mtrace_front : (n k N : ℕ) (s : State) (c : ℕ) (es : List TraceEntry) → N ≡ n + k → mtrace netlist image s c N ≡ Shows es → IsFront (mtrace netlist image s c n) es
  mtrace_front zero k zero s c es e p = seen_front (label_in netlist image s) c (store_in image s) (Shows []) (Shows []) es (λ ys q. none_front ys) p
  mtrace_front zero k (suc N) s c es e p = seen_front (label_in netlist image s) c (store_in image s) (Shows []) _ es (λ ys q. none_front ys) p
  mtrace_front (suc n) k zero s c es e p = absurd (omega arith)
  mtrace_front (suc n) k (suc N) s c es e p =
      seen_front (label_in netlist image s) c (store_in image s) _ _ es
      (λ ys q. after_front (λ (t : State). mtrace netlist image t (c + 1) n) (λ (t : State). mtrace netlist image t (c + 1) N) (clock netlist (words_of image) s) ys
      (λ t zs z. mtrace_front n k N t (c + 1) zs (omega arith) z) q) p

-- ---- no more entries than states

few_before : (e : TraceEntry) (x : Traced) (n : ℕ) (es : List TraceEntry) → ((xs : List TraceEntry) → x ≡ Shows xs → length xs ≤ n) → before e x ≡ Shows es → length es ≤ n + 1
few_before e Clashes n es h p = absurd (cc)
few_before e (Shows xs) n es h p =
    let q : e ∷ xs ≡ es = cc in
    let le : length xs ≤ n = h xs refl in
    subst (λ (zs : List TraceEntry). length zs ≤ n + 1) q (omega arith)

few_seen : (o : Option Checkpoint) (c : ℕ) (cells : List ℕ) (x : Traced) (n : ℕ) (es : List TraceEntry) → ((xs : List TraceEntry) → x ≡ Shows xs → length xs ≤ n) → with_checkpoint o c cells x ≡ Shows es → length es ≤ n + 1
few_seen None c cells x n es h p = let le : length es ≤ n = h es p in omega arith
few_seen (Some (At tree)) c cells x n es h p = few_before _ x n es h p
few_seen (Some End) c cells x n es h p =
    let q : record { cycle = c; passed = record { label = End; cells = cells } } ∷ [] ≡ es = cc in
    subst (λ (zs : List TraceEntry). length zs ≤ n + 1) q (omega arith)

few_after : (f : State → Traced) (o : Outcome) (n : ℕ) (es : List TraceEntry) → ((t : State) (xs : List TraceEntry) → f t ≡ Shows xs → length xs ≤ n) → after_clock f o ≡ Shows es → length es ≤ n
few_after f (Next t) n es h p = h t es p
few_after f (Clash bus) n es h p = absurd (cc)

module _ (netlist : Netlist) (image : Image) where
  few_entries : (n : ℕ) (s : State) (c : ℕ) (es : List TraceEntry) → mtrace netlist image s c n ≡ Shows es → length es ≤ n + 1
  few_entries zero s c es p =
      few_seen (label_in netlist image s) c (store_in image s) (Shows []) 0 es (λ xs q. none_few xs q) p
    where
      none_few : (xs : List TraceEntry) → Shows [] ≡ Shows xs → length xs ≤ 0
      none_few [] q = omega arith
      none_few (x ∷ xs) q = absurd (let z : (let none : List TraceEntry = [] in none) ≡ x ∷ xs = cc in cc)
  few_entries (suc n) s c es p =
      let le : length es ≤ (n + 1) + 1 = few_seen (label_in netlist image s) c (store_in image s) _ (n + 1) es
      (λ xs q. few_after (λ (t : State). mtrace netlist image t (c + 1) n) (clock netlist (words_of image) s) (n + 1) xs (λ t zs z. few_entries n t (c + 1) zs z) q) p in
      omega arith

-- ---- what is shown over any number of clocks

take_passed : (k : ℕ) (es : List TraceEntry) → passed_of (take k es) ≡ take k (passed_of es)
take_passed zero es = refl
take_passed (suc k) [] = refl
take_passed (suc k) (e ∷ es) = ap (λ (ps : List Passed). e.passed ∷ ps) (take_passed k es)

-- the entries without their cycles are the first checkpoints of the source
pub record ShowsFirst (netlist : Netlist) (image : Image) (trace : List ℕ → ℕ → List Passed) (s : State) (n : ℕ) : Type 0 where
  pub entries : List TraceEntry
  pub traced : mtrace netlist image s 0 n ≡ Shows entries
  pub passed : passed_of entries ≡ trace (store_in image s) (length entries)

-- a source gives its first checkpoints, however many are asked for
abbrev pub IsSteady : (List ℕ → ℕ → List Passed) → Type 0
IsSteady trace = (cells : List ℕ) (j k n : ℕ) → n ≡ j + k → take j (trace cells n) ≡ trace cells j

pub strace_steady : (word : ℕ) (program : ProgramModel) → IsSteady (strace word program)
strace_steady word program cells j k n e =
    front (λ more now. strace word program now more) (λ m. in_steady word program.vars (stmts_of program.body) 0 m finish (finish_steady m)) k j n e cells

-- and as many as are asked for, or the end among them
abbrev pub IsEnough : (List ℕ → ℕ → List Passed) → Type 0
IsEnough trace = (cells : List ℕ) (m : ℕ) → IsWhole m (trace cells m)

pub strace_enough : (word : ℕ) (program : ProgramModel) → IsEnough (strace word program)
strace_enough word program cells m = in_whole word program.vars (stmts_of program.body) 0 m finish (finish_whole m) m (omega arith) cells

module _ (netlist : Netlist) (image : Image) (trace : List ℕ → ℕ → List Passed) (right : TracesRight netlist image trace) (steady : IsSteady trace) (enough : IsEnough trace) where
  -- so many checkpoints more take more clocks
  shows_some : (s : State) (n l : ℕ) → length (words_of image) ≡ l + 1 → IsCalm netlist 0 s → ShowsFirst netlist image trace s n
  shows_some s n l long here =
      let h : ShowsSource netlist image trace s (n + 1) = right.shows s here (n + 1) in
      let f : IsFront (mtrace netlist image s 0 n) h.entries = mtrace_front netlist image n ((n + 1) * l + 1) ((n + 1) * length (words_of image)) s 0 h.entries (clocks n l (length (words_of image)) long) h.traced in
      let few : length f.entries ≤ n + 1 = few_entries netlist image n s 0 f.entries f.shows in
      record {
        entries = f.entries;
        traced = f.shows;
        passed =
            ap passed_of (sym f.front) ∙ take_passed (length f.entries) h.entries
            ∙ sym (take_far (length f.entries) (n + 1) (passed_of h.entries) few)
            ∙ ap (take (length f.entries)) h.passed
            ∙ steady (store_in image s) (length f.entries) (n + 1 - length f.entries) (n + 1) (omega arith);
      }
    where
      clocks : (n l w : ℕ) → w ≡ l + 1 → (n + 1) * w ≡ n + ((n + 1) * l + 1)
      clocks n l w e = subst (λ (x : ℕ). (n + 1) * x ≡ n + ((n + 1) * l + 1)) (sym e) (omega arith)

  -- where there are no words, the first two checkpoints are seen at once, so the first is the end
  shows_at_once : (s : State) (o : Option Checkpoint) (n : ℕ) (es : List TraceEntry) → label_in netlist image s ≡ o → with_checkpoint o 0 (store_in image s) (Shows []) ≡ Shows es → take 2 (passed_of es) ≡ trace (store_in image s) 2
      → ShowsFirst netlist image trace s n
  shows_at_once s None n es e p first = absurd (no_more es p (subst (IsWhole 2) (sym first) (enough (store_in image s) 2)))
    where
      no_more : (es : List TraceEntry) → Shows [] ≡ Shows es → IsWhole 2 (take 2 (passed_of es)) → ⊥
      no_more [] p (inl two) = omega arith
      no_more [] p (inr ends) = cc
      no_more (x ∷ xs) p h = (let z : (let none : List TraceEntry = [] in none) ≡ x ∷ xs = cc in cc)
  shows_at_once s (Some (At tree)) n es e p first = absurd (one_more es p (subst (IsWhole 2) (sym first) (enough (store_in image s) 2)))
    where
      one_more : (es : List TraceEntry) → Shows (record { cycle = 0; passed = record { label = At tree; cells = store_in image s } } ∷ []) ≡ Shows es → IsWhole 2 (take 2 (passed_of es)) → ⊥
      one_more es p h =
          let q : record { cycle = 0; passed = record { label = At tree; cells = store_in image s } } ∷ [] ≡ es = cc in
          not_two (subst (λ (xs : List TraceEntry). IsWhole 2 (take 2 (passed_of xs))) (sym q) h)
        where
          not_two : IsWhole 2 (record { label = At tree; cells = store_in image s } ∷ []) → ⊥
          not_two (inl two) = omega arith
          not_two (inr ends) = cc
  shows_at_once s (Some End) n es e p first = record {
    entries = record { cycle = 0; passed = record { label = End; cells = store_in image s } } ∷ [];
    traced = ended n;
    passed =
        let q : record { cycle = 0; passed = record { label = End; cells = store_in image s } } ∷ [] ≡ es = cc in
        let two : record { label = End; cells = store_in image s } ∷ [] ≡ trace (store_in image s) 2 = subst (λ (xs : List TraceEntry). take 2 (passed_of xs) ≡ trace (store_in image s) 2) (sym q) first in
        ap (take 1) two ∙ steady (store_in image s) 1 1 2 refl;
  }
    where
      ended : (n : ℕ) → mtrace netlist image s 0 n ≡ Shows (record { cycle = 0; passed = record { label = End; cells = store_in image s } } ∷ [])
      ended zero = rw e refl
      ended (suc n) = rw e refl

  pub shows_first : (s : State) (n : ℕ) → IsCalm netlist 0 s → ShowsFirst netlist image trace s n
  shows_first s n here = by_words (length (words_of image)) refl
    where
      by_words : (w : ℕ) → length (words_of image) ≡ w → ShowsFirst netlist image trace s n
      by_words zero none =
          let h : ShowsSource netlist image trace s 2 = right.shows s here 2 in
          let z : 2 * length (words_of image) ≡ 0 = omega arith in
          shows_at_once s (label_in netlist image s) n h.entries refl (subst (λ (x : ℕ). mtrace netlist image s 0 x ≡ Shows h.entries) z h.traced) h.passed
      by_words (suc l) some = shows_some s n l (omega arith) here
