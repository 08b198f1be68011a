-- The addresses of parts, and the marks there.
use Rattle.std.proofs.Common.{ℕ, zero, suc, ◌≡◌, ◌≤◌, ◌<◌, ◌+◌, ◌==◌, Bool, true, false, if◌then◌else◌, List, [], ◌∷◌, ◌++◌, length, map, Option, Some, None, refl, sym, ◌∙◌, ap, subst, arith, slice_get, slice_index, eqb-true, eq-eqb, ◌⊎◌, inl, inr}
use Rattle.std.specs.List.{range_with_len}
use Rattle.std.proofs.lemmas.Bool.{ne_eqb}
use Rattle.std.proofs.lemmas.List.FromFn.{get_or-map-range_with_len, map-range_with_len_more}
use Rattle.src_model.specs.declared.checkpoint.Checkpoint.{Checkpoint}
use Rattle.src_model.specs.declared.checkpoint.Checkpoint.TheVariants.{At, End as TheEnd}
use Rattle.code_model.specs.Places.{label_at}
use Rattle.form_model.specs.declared.flow.Flow.{Flow}
use Rattle.form_model.specs.declared.flow.Flow.TheVariants.{Assign, Test as Tested, Jump as Jumped, End as Ended}
use Rattle.form_model.specs.Forms.{FormModel}
use Rattle.branch_fix.specs.declared.part.LayoutPart.{LayoutPart}
use Rattle.branch_fix.specs.declared.part.LayoutPart.TheVariants.{Block, Inner, Test, Jump, End}
use Rattle.branch_fix.specs.Parts.{branch_words, room, starts, address, marks_from, FitsPart, PartsFit}

-- ---- addresses

pub address_next : (parts : List LayoutPart) (k : ℕ) (p : LayoutPart) → slice_get parts k ≡ Some p → address parts (k + 1) ≡ address parts k + room p
address_next [] k p e = absurd (cc e)
address_next (q ∷ parts) zero p e = let s : q ≡ p = cc in let t : room q ≡ room p = ap room s in first parts t
  where
    first : (parts : List LayoutPart) → room q ≡ room p → room q + address parts 0 ≡ 0 + room p
    first [] t = omega (arith, t)
    first (r ∷ parts) t = omega (arith, t)
address_next (q ∷ parts) (suc k) p e = let h = address_next parts k p e in subst (λ n. address (q ∷ parts) n ≡ room q + address parts k + room p) (let z : suc (k + 1) ≡ suc k + 1 = omega arith in z) (omega (arith, h))

pub address_rises : (parts : List LayoutPart) (i k : ℕ) → i ≤ k → address parts i ≤ address parts k
address_rises [] i k le = omega arith
address_rises (q ∷ parts) zero k le = omega arith
address_rises (q ∷ parts) (suc i) zero le = absurd (omega arith)
address_rises (q ∷ parts) (suc i) (suc k) le = let h = address_rises parts i k (omega arith) in omega (arith, h)

pub address_first : (parts : List LayoutPart) → address parts 0 ≡ 0
address_first [] = refl
address_first (q ∷ parts) = refl

-- the list of addresses has them
pub address_is : (parts : List LayoutPart) (k : ℕ) → k ≤ length parts → slice_index (starts parts) k ≡ address parts k
address_is parts k le = get_or-map-range_with_len (address parts) 0 (length parts + 1) k k 0 (omega arith) (omega arith)

-- one address more
pub starts_more : (parts : List LayoutPart) (k a : ℕ) (addresses new : List ℕ) → addresses ≡ map (address parts) (range_with_len 0 k) → a ≡ address parts k
    → new ≡ addresses ++ a ∷ [] → new ≡ map (address parts) (range_with_len 0 (k + 1))
starts_more parts k a addresses new made here n = n ∙ (λ j. made j ++ here j ∷ []) ∙ sym (map-range_with_len_more (address parts) 0 k k (omega arith))

pub address_more : (parts : List LayoutPart) (k a r : ℕ) (p : LayoutPart) → slice_get parts k ≡ Some p → a ≡ address parts k → r ≡ room p → a + r ≡ address parts (k + 1)
address_more parts k a r p e here is = let n = address_next parts k p e in omega (arith, n, here, is)

-- ---- marks

-- the label at the first word of a part
abbrev pub own_label : LayoutPart → Option Checkpoint
own_label (Block block words) = None
own_label Inner = None
own_label (Test f) = Some (At f.tree)
own_label (Jump to) = None
own_label End = Some TheEnd

other_mark : (at a : ℕ) (here : Option Checkpoint) (later : Option Checkpoint) → (at ≡ a → ⊥) → (if at == a then here else later) ≡ later
other_mark at a here later ne = ap (λ b. if b then here else later) (ne_eqb at a ne)

own_mark : (a : ℕ) (here : Option Checkpoint) (later : Option Checkpoint) → (if a == a then here else later) ≡ here
own_mark a here later = ap (λ b. if b then here else later) (eq-eqb a a refl)

-- nothing is marked before the first of some parts
pub before_marks : (at : ℕ) (parts : List LayoutPart) (a : ℕ) → a < at → label_at (marks_from at parts) a ≡ None
before_marks at [] a lt = refl
before_marks at (Block block words ∷ parts) a lt = before_marks (at + words) parts a (omega arith)
before_marks at (Inner ∷ parts) a lt = before_marks (at + 0) parts a (omega arith)
before_marks at (Test f ∷ parts) a lt = other_mark at a (Some (At f.tree)) _ (λ e. omega arith) ∙ before_marks (at + (f.words + branch_words f.next f.long)) parts a (omega arith)
before_marks at (Jump to ∷ parts) a lt = before_marks (at + 1) parts a (omega arith)
before_marks at (End ∷ parts) a lt = other_mark at a (Some TheEnd) _ (λ e. omega arith) ∙ before_marks (at + 1) parts a (omega arith)

pub some_words : (next long : Bool) → 1 ≤ branch_words next long
some_words true true = omega arith
some_words false true = omega arith
some_words true false = omega arith
some_words false false = omega arith

-- a part in front of others adds its mark alone
skip : (at : ℕ) (p : LayoutPart) (parts : List LayoutPart) (a : ℕ) → at + room p ≤ a
    → label_at (marks_from at (p ∷ parts)) a ≡ label_at (marks_from (at + room p) parts) a
skip at (Block block words) parts a le = refl
skip at Inner parts a le = refl
skip at (Test f) parts a le = let s = some_words f.next f.long in other_mark at a (Some (At f.tree)) _ (λ e. omega (arith, s, e, le))
skip at (Jump to) parts a le = refl
skip at End parts a le = other_mark at a (Some TheEnd) _ (λ e. omega arith)

-- the marks at a part's first word, and behind that
pub first_mark : (at : ℕ) (parts : List LayoutPart) (k : ℕ) (p : LayoutPart) → slice_get parts k ≡ Some p → 1 ≤ room p
    → label_at (marks_from at parts) (at + address parts k) ≡ own_label p
first_mark at [] k p e some = absurd (cc e)
first_mark at (q ∷ parts) zero p e some =
    let s : q ≡ p = cc in
    let z : at + 0 ≡ at = omega arith in
    subst (λ a. label_at (marks_from at (q ∷ parts)) a ≡ own_label p) (sym z) (here q (subst (λ x. 1 ≤ room x) (sym s) some) ∙ ap own_label s)
  where
    here : (q : LayoutPart) → 1 ≤ room q → label_at (marks_from at (q ∷ parts)) at ≡ own_label q
    here (Block block words) some = before_marks (at + words) parts at (omega arith)
    here Inner some = absurd (omega arith)
    here (Test f) some = own_mark at (Some (At f.tree)) _
    here (Jump to) some = before_marks (at + 1) parts at (omega arith)
    here End some = own_mark at (Some TheEnd) _
first_mark at (q ∷ parts) (suc k) p e some =
    let z : at + (room q + address parts k) ≡ at + room q + address parts k = omega arith in
    skip at q parts (at + (room q + address parts k)) (omega arith)
    ∙ ap (label_at (marks_from (at + room q) parts)) z ∙ first_mark (at + room q) parts k p e some

pub inner_mark : (at : ℕ) (parts : List LayoutPart) (k : ℕ) (p : LayoutPart) (a : ℕ) → slice_get parts k ≡ Some p → at + address parts k < a
    → a < at + address parts k + room p → label_at (marks_from at parts) a ≡ None
inner_mark at [] k p a e low high = absurd (cc e)
inner_mark at (q ∷ parts) zero p a e low high = let s : q ≡ p = cc in here q (let t : room q ≡ room p = ap room s in omega (arith, t))
  where
    here : (q : LayoutPart) → a < at + room q → label_at (marks_from at (q ∷ parts)) a ≡ None
    here (Block block words) lt = before_marks (at + words) parts a lt
    here Inner lt = absurd (omega arith)
    here (Test f) lt = other_mark at a (Some (At f.tree)) _ (λ e. omega arith) ∙ before_marks _ parts a lt
    here (Jump to) lt = absurd (omega arith)
    here End lt = absurd (omega arith)
inner_mark at (q ∷ parts) (suc k) p a e low high = skip at q parts a (omega arith) ∙ inner_mark (at + room q) parts k p a e (omega arith) (omega arith)

-- ---- parts of a flow

pub part_at : (forms : List FormModel) (flow : List Flow) (at : ℕ) (rest : List Flow) (parts : List LayoutPart) (k N : ℕ) (f : Flow)
    → PartsFit forms flow at rest parts → slice_get rest k ≡ Some f → N ≡ at + k → (p : LayoutPart) × (slice_get parts k ≡ Some p) × FitsPart forms flow N f p
part_at forms flow at [] [] k N f h e n = absurd (cc e)
part_at forms flow at [] (p ∷ parts) k N f h e n = absurd h
part_at forms flow at (g ∷ rest) [] k N f h e n = absurd h
part_at forms flow at (g ∷ rest) (p ∷ parts) zero N f h e n =
    let s : g ≡ f = cc in
    let m : at ≡ N = omega arith in
    (p, refl, subst (λ x. FitsPart forms flow x f p) m (subst (λ x. FitsPart forms flow at x p) s h.0))
part_at forms flow at (g ∷ rest) (p ∷ parts) (suc k) N f h e n = part_at forms flow (at + 1) rest parts k N f h.1 e (omega arith)

pub fit_length : (forms : List FormModel) (flow : List Flow) (at : ℕ) (rest : List Flow) (parts : List LayoutPart) → PartsFit forms flow at rest parts
    → length parts ≡ length rest
fit_length forms flow at [] [] h = refl
fit_length forms flow at [] (p ∷ parts) h = absurd h
fit_length forms flow at (g ∷ rest) [] h = absurd h
fit_length forms flow at (g ∷ rest) (p ∷ parts) h = let l = fit_length forms flow (at + 1) rest parts h.1 in omega (arith, l)

-- only an end part has the end's mark
at_or_later : (b : Bool) (here later : Option Checkpoint) (c : Checkpoint) → (if b then here else later) ≡ Some c
    → ((b ≡ true) × (here ≡ Some c)) ⊎ (later ≡ Some c)
at_or_later true here later c e = inl (refl, e)
at_or_later false here later c e = inr e

pub end_mark : (at : ℕ) (parts : List LayoutPart) (a : ℕ) → label_at (marks_from at parts) a ≡ Some TheEnd
    → (k : ℕ) × (slice_get parts k ≡ Some End) × (a ≡ at + address parts k)
end_mark at [] a e = absurd (cc e)
end_mark at (Block block words ∷ parts) a e = let h = end_mark (at + words) parts a e in (suc h.0, h.1, omega (arith, h.2))
end_mark at (Inner ∷ parts) a e = let h = end_mark (at + 0) parts a e in (suc h.0, h.1, omega (arith, h.2))
end_mark at (Test f ∷ parts) a e = by (at_or_later (at == a) (Some (At f.tree)) (label_at (marks_from (at + (f.words + branch_words f.next f.long)) parts) a) TheEnd e) (λ l. end_mark (at + (f.words + branch_words f.next f.long)) parts a l)
  where
    by : ((at == a) ≡ true) × ((let o : Option Checkpoint = Some (At f.tree) in o) ≡ Some TheEnd) ⊎ (label_at (marks_from (at + (f.words + branch_words f.next f.long)) parts) a ≡ Some TheEnd)
        → (label_at (marks_from (at + (f.words + branch_words f.next f.long)) parts) a ≡ Some TheEnd → (k : ℕ) × (slice_get parts k ≡ Some End) × (a ≡ at + (f.words + branch_words f.next f.long) + address parts k))
        → (k : ℕ) × (slice_get (Test f ∷ parts) k ≡ Some End) × (a ≡ at + address (Test f ∷ parts) k)
    by (inl (p, q)) more = absurd (cc q)
    by (inr l) more = let h = more l in (suc h.0, h.1, omega (arith, h.2))
end_mark at (Jump to ∷ parts) a e = let h = end_mark (at + 1) parts a e in (suc h.0, h.1, omega (arith, h.2))
end_mark at (End ∷ parts) a e = by (at_or_later (at == a) (Some TheEnd) (label_at (marks_from (at + 1) parts) a) TheEnd e) (λ l. end_mark (at + 1) parts a l)
  where
    by : ((at == a) ≡ true) × ((let o : Option Checkpoint = Some TheEnd in o) ≡ Some TheEnd) ⊎ (label_at (marks_from (at + 1) parts) a ≡ Some TheEnd)
        → (label_at (marks_from (at + 1) parts) a ≡ Some TheEnd → (k : ℕ) × (slice_get parts k ≡ Some End) × (a ≡ at + 1 + address parts k))
        → (k : ℕ) × (slice_get (End ∷ parts) k ≡ Some End) × (a ≡ at + address (End ∷ parts) k)
    by (inl (p, q)) more = let s : at ≡ a = eqb-true at a p in (0, refl, omega arith)
    by (inr l) more = let h = more l in (suc h.0, h.1, omega (arith, h.2))

pub flow_end : (forms : List FormModel) (flow : List Flow) (at : ℕ) (rest : List Flow) (parts : List LayoutPart) (k : ℕ) → PartsFit forms flow at rest parts
    → slice_get parts k ≡ Some End → slice_get rest k ≡ Some Ended
flow_end forms flow at [] [] k h e = absurd (cc e)
flow_end forms flow at [] (p ∷ parts) k h e = absurd h
flow_end forms flow at (g ∷ rest) [] k h e = absurd h
flow_end forms flow at (g ∷ rest) (p ∷ parts) zero h e = let s : p ≡ End = cc in by g (subst (λ x. FitsPart forms flow at g x) s h.0)
  where
    by : (g : Flow) → FitsPart forms flow at g End → Some g ≡ Some Ended
    by (Assign tree) h = absurd h
    by (Tested tree one none) h = absurd h
    by (Jumped to) h = absurd h
    by Ended h = refl
flow_end forms flow at (g ∷ rest) (p ∷ parts) (suc k) h e = flow_end forms flow (at + 1) rest parts k h.1 e
