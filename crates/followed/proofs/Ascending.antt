-- What lies below an address is no longer asked for by who goes up the addresses.
use Rattle.std.proofs.Common.{◌≡◌, ◌≢◌, ℕ, ◌+◌, ◌<◌, ◌≤◌, ◌==◌, ◌&&◌, Bool, false, if◌then◌else◌, List, [], ◌∷◌, Option, Some, None, IfNone, refl, ◌∙◌, sym, ap, subst, arith, ne_eqb}
use Rattle.rec_bits.specs.Faults.{same_name}
use Rattle.net_model.specs.Exprs.{model_of_expr}
use Rattle.code_model.specs.declared.views.View.{View}
use Rattle.code_model.specs.declared.views.Viewed.{Viewed}
use Rattle.code_model.specs.Places.{label_at}
use Rattle.code_model.specs.Views.{IsOnly, view_at}
use Rattle.mark_start.specs.declared.hints.Hint.{Hint}
use Rattle.followed.specs.declared.later.Later.{Later}
use Rattle.followed.specs.Inner.Ascending.{AscendFrom, ComeFrom, IsLater}
use Rattle.followed.specs.Inner.Hinted.{AreNew, IsNew}

-- ---- hints

pub ascend_lower : (low high : ℕ) (hints : List Hint) → low ≤ high → AscendFrom high hints → AscendFrom low hints
ascend_lower low high [] le h = tt
ascend_lower low high (hint ∷ hints) le h = (let a = h.0 in omega (arith, le, a), h.1)

new_below : (low address : ℕ) (hints : List Hint) → address < low → AscendFrom low hints → IsNew address hints
new_below low address [] lt h = tt
new_below low address (hint ∷ hints) lt h =
    let a = h.0 in
    (λ e. omega (arith, lt, a, e), new_below (hint.address + 1) address hints (omega (arith, lt, a)) h.1)

pub are_new : (low : ℕ) (hints : List Hint) → AscendFrom low hints → AreNew hints
are_new low [] h = tt
are_new low (hint ∷ hints) h = (new_below (hint.address + 1) hint.address hints (omega arith) h.1, are_new (hint.address + 1) hints h.1)

-- ---- views

pub come_lower : (low high : ℕ) (views : List View) → low ≤ high → ComeFrom high views → ComeFrom low views
come_lower low high [] le h = tt
come_lower low high (view ∷ views) le h = (let a = h.0 in omega (arith, le, a), h.1)

pub only_below : (view : View) (low : ℕ) (views : List View) → view.address < low → ComeFrom low views → IsOnly view views
only_below view low [] lt h = tt
only_below view low (other ∷ views) lt h =
    let a = h.0 in (
      ap (λ (b : Bool). b && same_name view.name other.name) (ne_eqb view.address other.address (λ e. omega (arith, lt, a, e))),
      only_below view other.address views (omega (arith, lt, a)) h.1,
    )

view_further : (view : View) (views : List View) (address : ℕ) (name : List ℕ) → (view.address == address) ≡ false → view_at (view ∷ views) address name ≡ view_at views address name
view_further view views address name e =
    ap (λ (b : Bool). if b && same_name view.name name then Some (model_of_expr view.value) else view_at views address name) e

pub none_below : (low address : ℕ) (name : List ℕ) (views : List View) → address < low → ComeFrom low views → view_at views address name ≡ None
none_below low address name [] lt h = refl
none_below low address name (view ∷ views) lt h =
    let a = h.0 in
    view_further view views address name (ne_eqb view.address address (λ e. omega (arith, lt, a, e)))
    ∙ none_below view.address address name views (omega (arith, lt, a)) h.1

pub come_rest : (view : View) (views all : List View) → all ≡ view ∷ views → ComeFrom 0 all → ComeFrom 0 views
come_rest view views all e h = come_lower 0 view.address views (omega arith) (subst (ComeFrom 0) e h).1

-- no view of an address is among views whose first lies above it
pub none_here : (view : View) (views all : List View) (address : ℕ) (name : List ℕ) → all ≡ view ∷ views → address < view.address → ComeFrom 0 all → view_at all address name ≡ None
none_here view views all address name e lt h =
    ap (λ vs. view_at vs address name) e ∙ none_below view.address address name (view ∷ views) lt (omega arith, (subst (ComeFrom 0) e h).1)

-- nor one of the variable and the mark of a view, where the next is of another mark
pub only_apart : (view other : View) (views all : List View) → all ≡ other ∷ views → other.address ≢ view.address → ComeFrom view.address all → IsOnly view all
only_apart view other views all e ne h =
    let (le, more) = subst (ComeFrom view.address) e h in
    subst (IsOnly view) (sym e) (only_below view other.address (other ∷ views) (omega (arith, le, ne)) (omega arith, more))

-- ---- walks

pub none_of : {A : Type 0} (P : Type 0) (r : Option A) → r ≡ None → IfNone r P → P
none_of P r e h = subst (λ o. IfNone o P) e h

-- what is said from a higher address on
pub later_on : (viewed : Viewed) (later next : Later) (low : ℕ) → next.low ≡ low → later.low ≤ low → ComeFrom 0 next.views.now
    → ((address : ℕ) → low ≤ address → label_at next.marks.now address ≡ label_at later.marks.now address)
    → ((address : ℕ) (name : List ℕ) → low ≤ address → view_at next.views.now address name ≡ view_at later.views.now address name)
    → IsLater viewed later → IsLater viewed next
later_on viewed later next low e le come marks views h = record {
  come = come;
  marks = λ address up. marks address (omega (arith, e, up)) ∙ h.marks address (omega (arith, le, e, up));
  views = λ address name up. views address name (omega (arith, e, up)) ∙ h.views address name (omega (arith, le, e, up));
}
