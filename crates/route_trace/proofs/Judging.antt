-- From the routes of nets to the limits on their values.
use Rattle.std.proofs.Common.{◌≡◌, ◌≢◌, inl, inr, ℕ, zero, suc, ◌+◌, ◌-◌, ◌^◌, ◌<◌, ◌≤◌, Bool, true, false, true≢false, if◌then◌else◌, ◌&&◌, List, [], ◌∷◌, ◌++◌, map, length, Option, None, Some, refl, sym, ap, subst, ◌∙◌, arith}
use Rattle.std.specs.List.{AllByRecursion}
use Rattle.std.proofs.Math.Nat.{min-le_left}
use Rattle.std.proofs.lemmas.Bool.{cases_lt}
use Rattle.bit_bdd.specs.Diagrams.{Diagrams, has_word, Extends}
use Rattle.bit_bdd.proofs.CallerLemmas.{same_words}
use Rattle.net_model.specs.declared.hardware.Netlist.{Netlist}
use Rattle.net_model.specs.Depends.{Among, Depends, named_by, direct, via}
use Rattle.net_model.specs.Symbolic.{all_nets, sym_of}
use Rattle.net_model.specs.Exprs.{ExprModel, size_of}
use Rattle.net_model.specs.Nets.{word_width}
use Rattle.net_model.specs.Transfers.{IsClean}
use Rattle.sym_expr.specs.declared.pool.Node.{Node}
use Rattle.rec_bits.specs.Counts.{capped}
use Rattle.sym_expr.specs.Pools.{expr_of_id, IsOneEach}
use Rattle.ctl_bdd.specs.Controls.{IsControl}
use Rattle.ctl_bdd.specs.declared.ControlBits.{ControlBits}
use Rattle.transfer_set.specs.declared.route.Route.{Route}
use Rattle.transfer_set.specs.Routes.{exprs_under, GivesExpr, IsRouteTable}
use Rattle.route_trace.specs.Inner.Gates.{AllLegal}
use Rattle.route_trace.specs.Limits.{AllDiffer, Differ, HasMany, IsBroken, IsFirstBroken, IsLarge, IsRouteFault, KeepsLimits}
use Rattle.route_trace.specs.declared.RouteFault.{RouteFault}
use Rattle.route_trace.specs.declared.RouteFault.TheVariants.{PatternLarge, TooMany}
use Rattle.route_trace.specs.Inner.Verdicts.{HasBroken, HasLarge, IsFound, IsJudged, fault_of, first_fault, is_kept, kept_at, or_else, verdict_at}
use Rattle.route_trace.specs.declared.verdict.Verdict.{Verdict}
use Rattle.route_trace.specs.declared.verdict.Verdict.TheVariants.{Kept, Large, Many, Skipped}
use Rattle.transfer_set.proofs.Exact.{exact}
use Rattle.transfer_set.proofs.Collecting.{set_at}
use Rattle.route_trace.proofs.Exact.{GivesPart, as_many, every}

-- ---- no more different values than routes

-- a list without one of its elements
record Without (e : ℕ) (es : List ℕ) : Type 0 where
  rest : List ℕ
  one : length es ≡ suc (length rest)
  others : (x : ℕ) → x ≢ e → Among x es → Among x rest

without : (e : ℕ) (es : List ℕ) → Among e es → Without e es
without e [] a = absurd a
without e (y ∷ es) a = elim a as (λ _. Without e (y ∷ es)) [
  | inl q ↦ record {
    rest = es;
    one = refl;
    others = λ x ne b. elim b as (λ _. Among x es) [ inl p ↦ absurd (ne (p ∙ sym q)) | inr p ↦ p ];
  }
  | inr q ↦
      (let w = without e es q in
      record {
        rest = y ∷ w.rest;
        one = ap suc w.one;
        others = λ x ne b. elim b as (λ _. Among x (y ∷ w.rest)) [ inl p ↦ inl p | inr p ↦ inr (w.others x ne p) ];
      })
]

-- each word has its value among those of the list
abbrev Covered : (ℕ → ExprModel) → (ℕ → ExprModel) → List ℕ → List ℕ → Type 0
Covered t f es words = AllByRecursion (λ word. (e : ℕ) × Among e es × (t e ≡ f word)) words

module _ (t f : ℕ → ExprModel) where
  others_covered : (e : ℕ) (es : List ℕ) (w : Without e es) (word : ℕ) → t e ≡ f word → (words : List ℕ) → Differ f word words → Covered t f es words → Covered t f w.rest words
  others_covered e es w word is [] d c = tt
  others_covered e es w word is (other ∷ words) d c =
      ((c.0.0, w.others c.0.0 (λ q. d.0 (sym is ∙ ap t (sym q) ∙ c.0.2)) c.0.1, c.0.2), others_covered e es w word is words d.1 c.1)

  pigeons : (words es : List ℕ) → AllDiffer f words → Covered t f es words → length words ≤ length es
  pigeons [] es d c = omega arith
  pigeons (word ∷ words) es d c =
      let w = without c.0.0 es c.0.1 in
      let rest = pigeons words w.rest d.1 (others_covered c.0.0 es w word c.0.2 words d.0 c.1) in
      let one = w.one in
      omega (arith, rest, one)

among_held : (book : Diagrams) (word : ℕ) (routes : List Route) (e : ℕ) (es : List ℕ) → exprs_under book routes word ≡ e ∷ es → Among e (map (λ (route : Route). route.expr) routes)
among_held book word [] e es h = absurd (cc)
among_held book word (route ∷ routes) e es h = by (has_word book route.set word) (λ k. among_held book word routes e es k) h
  where
    by : (b : Bool) → (exprs_under book routes word ≡ e ∷ es → Among e (map (λ (route : Route). route.expr) routes)) → (if b then route.expr ∷ [] else []) ++ exprs_under book routes word ≡ e ∷ es
        → Among e (map (λ (route : Route). route.expr) (route ∷ routes))
    by true later k = inl (cc)
    by false later k = inr (later k)

all_among : (P : ℕ → Type 0) (routes : List Route) → AllByRecursion (λ (route : Route). P route.expr) routes → (e : ℕ) → Among e (map (λ (route : Route). route.expr) routes) → P e
all_among P [] h e a = absurd a
all_among P (route ∷ routes) h e a = elim a as (λ _. P e) [
  | inl q ↦ subst P (sym q) h.0
  | inr q ↦ all_among P routes h.1 e q
]

long_map : (routes : List Route) → length (map (λ (route : Route). route.expr) routes) ≡ length routes
long_map [] = refl
long_map (route ∷ routes) = ap suc (long_map routes)

-- ---- a net whose cone keeps the limits

module _ (netlist : Netlist) (controls : ControlBits) (old book : Diagrams) (control : IsControl netlist old controls) (grows : Extends old book) (bits : old.bits ≡ word_width netlist) (some : 0 < word_width netlist) where
  low : (word : ℕ) → word < 2 ^ book.bits → word < 2 ^ old.bits
  low word fits = subst (λ b. word < 2 ^ b) grows.bits fits

  clean : (word : ℕ) → word < 2 ^ book.bits → has_word book controls.legal word ≡ true → IsClean netlist word
  clean word fits is =
      (control.legal word (low word fits)).0 (sym (same_words old book grows controls.legal control.within word) ∙ is)

  legal_in : (word : ℕ) → IsClean netlist word → (word < 2 ^ book.bits) × (has_word book controls.legal word ≡ true)
  legal_in word c =
      let fits : word < 2 ^ old.bits = subst (λ b. word < 2 ^ b) (sym bits) (c.fits.fits 0 some) in
      (subst (λ b. word < 2 ^ b) (sym grows.bits) fits, same_words old book grows controls.legal control.within word ∙ (control.legal word fits).1 c)

  all_clean : (words : List ℕ) → AllLegal book controls.legal words → AllByRecursion (IsClean netlist) words
  all_clean [] h = tt
  all_clean (word ∷ words) h = (clean word h.0 h.1, all_clean words h.2)

  -- more than 4,096 routes, be they all or not, tell of as many values
  pub has_many : (pool : List Node) → IsOneEach pool → (n : ℕ) (routes : List Route) → IsRouteTable book pool routes → GivesPart book pool controls.legal (λ word. sym_of netlist word n) routes → 4096 < length routes → HasMany netlist n
  has_many pool one n routes table part lt =
      let v = as_many book pool controls.legal (λ word. sym_of netlist word n) one routes table part in
      let count = v.count in
      record { words = v.words; many = omega (arith, count, lt); clean = all_clean v.words v.legal_words; apart = v.apart }

  pub many_found : (n : ℕ) → n < length netlist.nets → ((m : ℕ) → Depends (named_by netlist) n m → IsBroken netlist m → ⊥) → HasMany netlist n → IsFound netlist n Many
  many_found n net alone m = (record { net = net; broken = inr m; alone = alone }, m)

  module _ (pool : List Node) (one : IsOneEach pool) (n : ℕ) (routes : List Route) (table : IsRouteTable book pool routes) (gives : GivesExpr book pool controls.legal (λ word. sym_of netlist word n) routes) where
    covered : (words : List ℕ) → AllByRecursion (IsClean netlist) words → Covered (expr_of_id pool) (λ word. sym_of netlist word n) (map (λ (route : Route). route.expr) routes) words
    covered [] h = tt
    covered (word ∷ words) h =
        let l = legal_in word h.0 in
        let e = every book pool controls.legal (λ word. sym_of netlist word n) routes gives word l.0 l.1 in
        ((e.0, among_held book word routes e.0 [] e.1, e.2), covered words h.1)

    few : length routes ≤ 4096 → HasMany netlist n → ⊥
    few le many =
        let p = pigeons (expr_of_id pool) (λ word. sym_of netlist word n) many.words (map (λ (route : Route). route.expr) routes) many.apart (covered many.words many.clean) in
        let l = long_map routes in
        let m = many.many in
        absurd (omega (arith, p, l, m, le))

    small : AllByRecursion (λ (route : Route). size_of (expr_of_id pool route.expr) ≤ 255) routes → IsLarge netlist n → ⊥
    small all large =
        let l = legal_in large.word large.clean in
        let e = every book pool controls.legal (λ word. sym_of netlist word n) routes gives large.word l.0 l.1 in
        let le = all_among (λ e. size_of (expr_of_id pool e) ≤ 255) routes all e.0 (among_held book large.word routes e.0 [] e.1) in
        let same : size_of (expr_of_id pool e.0) ≡ size_of (sym_of netlist large.word n) = ap size_of e.2 in
        let more = large.large in
        absurd (omega (arith, le, same, more))

    is_large : HasLarge pool routes → IsLarge netlist n
    is_large h =
        let s = set_at book routes h.place h.route h.at table.right.sets in
        let r = (exact book pool controls.legal (λ word. sym_of netlist word n) routes one table gives h.place h.route h.at s.word s.fits).0 s.holds in
        let same : size_of (expr_of_id pool h.route.expr) ≡ size_of (sym_of netlist s.word n) = ap size_of r.1 in
        let more = h.large in
        record { word = s.word; clean = clean s.word s.fits r.0; large = omega (arith, same, more) }

    pub judged : n < length netlist.nets → ((m : ℕ) → Depends (named_by netlist) n m → IsBroken netlist m → ⊥) → (verdict : Verdict) → IsJudged pool routes verdict → IsFound netlist n verdict
    judged net alone Kept h = (λ b. elim b as (λ _. ⊥) [ inl l ↦ small h.1 l | inr m ↦ few h.0 m ], alone)
    judged net alone Large h = (let l = is_large h.1 in (record { net = net; broken = inl l; alone = alone }, l, λ m. few h.0 m))
    judged net alone Many h = many_found n net alone (has_many pool one n routes table (λ word fits. inr (gives word fits)) h)
    judged net alone Skipped h = absurd h

-- ---- the nets that a net names

pub each_among : (P : ℕ → Type 0) (ns : List ℕ) → AllByRecursion P ns → (b : ℕ) → Among b ns → P b
each_among P [] h b a = absurd a
each_among P (x ∷ ns) h b a = elim a as (λ _. P b) [
  | inl q ↦ subst P (sym q) h.0
  | inr q ↦ each_among P ns h.1 b q
]

module _ (netlist : Netlist) where
  kept_found : (n : ℕ) (verdict : Verdict) → is_kept verdict ≡ true → IsFound netlist n verdict → (IsBroken netlist n → ⊥) × ((m : ℕ) → Depends (named_by netlist) n m → IsBroken netlist m → ⊥)
  kept_found n Kept e f = f
  kept_found n Large e f = absurd (true≢false (sym e))
  kept_found n Many e f = absurd (true≢false (sym e))
  kept_found n Skipped e f = absurd (true≢false (sym e))

  lost_found : (n b : ℕ) → Among b (named_by netlist n) → (verdict : Verdict) → is_kept verdict ≡ false → IsFound netlist b verdict → HasBroken netlist n
  lost_found n b a Kept e f = absurd (true≢false e)
  lost_found n b a Large e f = record { net = b; below = direct a; first = f.0 }
  lost_found n b a Many e f = record { net = b; below = direct a; first = f.0 }
  lost_found n b a Skipped e f = record { net = f.net; below = via a f.below; first = f.first }

  module _ (verdicts : List Verdict) (n : ℕ) (found : (b : ℕ) → Among b (named_by netlist n) → IsFound netlist b (verdict_at verdicts b)) where
    -- where all of them keep the limits, so does all that the net depends on
    pub alone_by : all_nets (kept_at verdicts) (named_by netlist n) ≡ true → (m : ℕ) → Depends (named_by netlist) n m → IsBroken netlist m → ⊥
    alone_by all m d = by n d all found
      where
        is : (ns : List ℕ) → all_nets (kept_at verdicts) ns ≡ true → (b : ℕ) → Among b ns → kept_at verdicts b ≡ true
        is [] e b a = absurd a
        is (x ∷ ns) e b a = elim a as (λ _. kept_at verdicts b ≡ true) [
          | inl q ↦ subst (λ k. kept_at verdicts k ≡ true) (sym q) (first (kept_at verdicts x) e)
          | inr q ↦ is ns (second (kept_at verdicts x) e) b q
        ]
          where
            first : (k : Bool) → (k && all_nets (kept_at verdicts) ns) ≡ true → k ≡ true
            first true h = refl
            first false h = absurd (true≢false (sym h))

            second : (k : Bool) → (k && all_nets (kept_at verdicts) ns) ≡ true → all_nets (kept_at verdicts) ns ≡ true
            second true h = h
            second false h = absurd (true≢false (sym h))

        by : (k : ℕ) → Depends (named_by netlist) k m → all_nets (kept_at verdicts) (named_by netlist k) ≡ true → ((b : ℕ) → Among b (named_by netlist k) → IsFound netlist b (verdict_at verdicts b)) → IsBroken netlist m → ⊥
        by k (direct a) all found = (kept_found m (verdict_at verdicts m) (is (named_by netlist k) all m a) (found m a)).0
        by k (via {b = b} a rest) all found = (kept_found b (verdict_at verdicts b) (is (named_by netlist k) all b a) (found b a)).1 m rest

    -- where one of them doesn't, the net depends on one that breaks a limit
    pub lost_by : all_nets (kept_at verdicts) (named_by netlist n) ≡ false → HasBroken netlist n
    lost_by none = by (named_by netlist n) (λ b a. a) none
      where
        by : (ns : List ℕ) → ((b : ℕ) → Among b ns → Among b (named_by netlist n)) → all_nets (kept_at verdicts) ns ≡ false → HasBroken netlist n
        by [] within e = absurd (true≢false e)
        by (x ∷ ns) within e = step (kept_at verdicts x) refl (by ns (λ b a. within b (inr a))) e
          where
            step : (k : Bool) → kept_at verdicts x ≡ k → (all_nets (kept_at verdicts) ns ≡ false → HasBroken netlist n) → (k && all_nets (kept_at verdicts) ns) ≡ false → HasBroken netlist n
            step true is later h = later h
            step false is later h = (let a = within x (inl refl) in lost_found n x a (verdict_at verdicts x) is (found x a))

-- ---- the net that is named

-- the verdicts of all nets
abbrev AllFound : Netlist → List Verdict → Type 0
AllFound netlist verdicts = (n : ℕ) → n < length netlist.nets → IsFound netlist n (verdict_at verdicts n)

module _ (netlist : Netlist) (verdicts : List Verdict) (found : AllFound netlist verdicts) where
  -- a net that is the first of its cone to break a limit has a refusal
  refused : (m : ℕ) → IsFirstBroken netlist m → fault_of m (verdict_at verdicts m) ≢ None
  refused m first = by (verdict_at verdicts m) (found m first.net)
    where
      by : (verdict : Verdict) → IsFound netlist m verdict → fault_of m verdict ≢ None
      by Kept f e = absurd (f.0 first.broken)
      by Large f e = cc
      by Many f e = cc
      by Skipped f e = absurd (first.alone f.net f.below f.first.broken)

  kept_all : ((m : ℕ) → m < length netlist.nets → fault_of m (verdict_at verdicts m) ≡ None) → (m : ℕ) → m < length netlist.nets → kept_at verdicts m ≡ true
  kept_all none m lt = by (verdict_at verdicts m) (found m lt) (none m lt)
    where
      by : (verdict : Verdict) → IsFound netlist m verdict → fault_of m verdict ≡ None → is_kept verdict ≡ true
      by Kept f e = refl
      by Large f e = absurd (cc)
      by Many f e = absurd (cc)
      by Skipped f e = absurd (refused f.net f.first (none f.net f.first.net))

  refusal : (n : ℕ) → n < length netlist.nets → ((m : ℕ) → m < n → fault_of m (verdict_at verdicts m) ≡ None) → (fault : RouteFault) → fault_of n (verdict_at verdicts n) ≡ Some fault → IsRouteFault netlist fault
  refusal n lt before fault is = by (verdict_at verdicts n) (found n lt) is
    where
      least : (m : ℕ) → IsFirstBroken netlist m → n ≤ m
      least m first = elim (cases_lt m n) as (λ _. n ≤ m) [
        | inl less ↦ absurd (refused m first (before m less))
        | inr more ↦ omega (arith, more)
      ]

      by : (verdict : Verdict) → IsFound netlist n verdict → fault_of n verdict ≡ Some fault → IsRouteFault netlist fault
      by Kept f e = absurd (cc)
      by Large f e = (let q : PatternLarge n ≡ fault = cc in subst (IsRouteFault netlist) q (record { first = f.0; least = least }, f.1, f.2))
      by Many f e = (let q : TooMany n ≡ fault = cc in subst (IsRouteFault netlist) q (record { first = f.0; least = least }, f.1))
      by Skipped f e = absurd (cc)

-- the first refusal of a list of verdicts
record Told (n : ℕ) (verdicts : List Verdict) (fault : RouteFault) : Type 0 where
  at : ℕ
  within : at < length verdicts
  is : fault_of (n + at) (verdict_at verdicts at) ≡ Some fault
  before : (m : ℕ) → m < at → fault_of (n + m) (verdict_at verdicts m) ≡ None

from_zero : (m : ℕ) → m ≡ 0 + m
from_zero m = omega arith

shift : (n m : ℕ) → n + 1 + m ≡ n + suc m
shift n m = omega arith

told : (n : ℕ) (verdicts : List Verdict) (fault : RouteFault) → first_fault n verdicts ≡ Some fault → Told n verdicts fault
told n [] fault e = absurd (cc)
told n (verdict ∷ verdicts) fault e = by (fault_of n verdict) refl (told (n + 1) verdicts fault) e
  where
    start : fault_of (n + 0) verdict ≡ fault_of n verdict
    start = ap (λ k. fault_of k verdict) (let z : n + 0 ≡ n = omega arith in z)

    by : (first : Option RouteFault) → fault_of n verdict ≡ first → (first_fault (n + 1) verdicts ≡ Some fault → Told (n + 1) verdicts fault) → or_else first (first_fault (n + 1) verdicts) ≡ Some fault → Told n (verdict ∷ verdicts) fault
    by (Some found) is tell h = record {
      at = 0;
      within = omega arith;
      is = start ∙ is ∙ h;
      before = λ m lt. absurd (omega (arith, lt));
    }
    by None is tell h =
        let later = tell h in
        let within = later.within in
        record {
          at = suc later.at;
          within = omega (arith, within);
          is = ap (λ k. fault_of k (verdict_at verdicts later.at)) (sym (shift n later.at)) ∙ later.is;
          before = λ m lt. earlier later m lt;
        }
      where
        earlier : (later : Told (n + 1) verdicts fault) (m : ℕ) → m < suc later.at → fault_of (n + m) (verdict_at (verdict ∷ verdicts) m) ≡ None
        earlier later zero lt = start ∙ is
        earlier later (suc m) lt = ap (λ k. fault_of k (verdict_at verdicts m)) (sym (shift n m)) ∙ later.before m (omega (arith, lt))

none_told : (n : ℕ) (verdicts : List Verdict) → first_fault n verdicts ≡ None → (m : ℕ) → m < length verdicts → fault_of (n + m) (verdict_at verdicts m) ≡ None
none_told n [] e m lt = absurd (omega (arith, lt))
none_told n (verdict ∷ verdicts) e m lt = by (fault_of n verdict) refl (none_told (n + 1) verdicts) e m lt
  where
    by : (first : Option RouteFault) → fault_of n verdict ≡ first → (first_fault (n + 1) verdicts ≡ None → (m : ℕ) → m < length verdicts → fault_of (n + 1 + m) (verdict_at verdicts m) ≡ None) → or_else first (first_fault (n + 1) verdicts) ≡ None → (m : ℕ) → m < length (verdict ∷ verdicts) → fault_of (n + m) (verdict_at (verdict ∷ verdicts) m) ≡ None
    by (Some found) is tell h m lt = absurd (cc)
    by None is tell h zero lt = ap (λ k. fault_of k verdict) (let z : n + 0 ≡ n = omega arith in z) ∙ is
    by None is tell h (suc m) lt = ap (λ k. fault_of k (verdict_at verdicts m)) (sym (shift n m)) ∙ tell h m (omega (arith, lt))

-- the first refusal names the net that is to be named, and where there is none each net keeps the
-- limits
module _ (netlist : Netlist) (verdicts : List Verdict) (long : length verdicts ≡ length netlist.nets) (found : AllFound netlist verdicts) where
  pub refused_by : (fault : RouteFault) → first_fault 0 verdicts ≡ Some fault → IsRouteFault netlist fault
  refused_by fault e =
      let t = told 0 verdicts fault e in
      let within = t.within in
      refusal netlist verdicts found t.at (omega (arith, within, long)) (λ m lt. ap (λ k. fault_of k (verdict_at verdicts m)) (from_zero m) ∙ t.before m lt) fault (ap (λ k. fault_of k (verdict_at verdicts t.at)) (from_zero t.at) ∙ t.is)

  pub all_kept_by : first_fault 0 verdicts ≡ None → (m : ℕ) → m < length netlist.nets → kept_at verdicts m ≡ true
  all_kept_by e = kept_all netlist verdicts found (λ m lt. ap (λ k. fault_of k (verdict_at verdicts m)) (from_zero m) ∙ none_told 0 verdicts e m (omega (arith, lt, long)))

  pub keeps_limits : first_fault 0 verdicts ≡ None → KeepsLimits netlist
  keeps_limits e n lt = (kept_found netlist n (verdict_at verdicts n) (all_kept_by e n lt) (found n lt)).0

-- what is above a bound when capped is above it
pub capped_below : (n bound size : ℕ) → size ≡ capped n → bound < size → bound < n
capped_below n bound size e lt = omega (arith, e, lt, min-le_left n (2 ^ 64 - 1))
