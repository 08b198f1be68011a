-- When a view is plain, by what is looked up, and when it is the only one of its variable and mark.
use Rattle.std.proofs.Common.{◌≡◌, ℕ, zero, suc, ◌+◌, ◌<◌, ◌≤◌, ◌==◌, ◌&&◌, Bool, true, false, List, [], ◌∷◌, Option, Some, None, refl, sym, ap, subst, ◌∙◌, arith, inl, inr, slice_get}
use Rattle.std.proofs.lemmas.Bool.{cases_lt, ne_eqb}
use Rattle.std.proofs.lemmas.Option.{slice_get_within}
use Rattle.rec_bits.proofs.Options.{same_Some}
use Rattle.rec_bits.specs.Faults.{same_name}
use Rattle.net_model.specs.declared.hardware.Netlist.{Netlist}
use Rattle.net_model.specs.Exprs.{expr_width, model_of_expr}
use Rattle.net_model.specs.Nets.{memory_width}
use Rattle.src_model.specs.declared.checkpoint.Checkpoint.{Checkpoint}
use Rattle.src_model.specs.declared.checkpoint.Checkpoint.TheVariants.{At, End}
use Rattle.code_model.specs.declared.image.Image.{Image}
use Rattle.code_model.specs.declared.image.Mark.{Mark}
use Rattle.code_model.specs.declared.image.Place.{Place}
use Rattle.code_model.specs.declared.views.View.{View}
use Rattle.code_model.specs.Places.{label_at}
use Rattle.code_model.specs.Views.{IsPlainView, is_of_registers, place_named}
use Rattle.followed.specs.Inner.Ascending.{ComeFrom}
use Rattle.check_command.specs.Inner.Ascending.{SayOf}
use Rattle.check_command.specs.Inner.Marked.{is_test}
use Rattle.check_command.specs.Views.{IsLastAt}

tested : (label : Option Checkpoint) → is_test label ≡ true → (tree : ℕ) × (label ≡ Some (At tree))
tested None e = absurd cc
tested (Some (At tree)) e = (tree, refl)
tested (Some End) e = absurd cc

pub plain_view : (netlist : Netlist) (image : Image) (view : View) (place : Place) (test : Bool) → place_named image.places view.name ≡ Some place → 0 < view.address → place.len ≡ 1
    → is_of_registers (model_of_expr view.value) ≡ true → expr_width (model_of_expr view.value) ≡ memory_width netlist.storages → test ≡ is_test (label_at image.marks view.address)
    → (test ≡ true → IsPlainView netlist image view) × (IsPlainView netlist image view → test ≡ true)
plain_view netlist image view place test named later one registers wide is = (
  λ e.
      (let found = tested (label_at image.marks view.address) (sym is ∙ e) in
      record { tree = found.0; marked = found.1; later = later; place = place; named = named; one = one; registers = registers; wide = wide }),
  λ h. is ∙ ap is_test h.marked,
)

-- ---- views that go up the addresses

lowest : (low : ℕ) (views : List View) → ComeFrom low views → (k : ℕ) (one : View) → slice_get views k ≡ Some one → low ≤ one.address
lowest low [] h k one e = absurd (let inside = slice_get_within [] k one e in omega (arith, inside))
lowest low (first ∷ views) h zero one e = subst (λ (v : View). low ≤ v.address) (same_Some first one e) h.0
lowest low (first ∷ views) h (suc k) one e =
    let a = h.0 in
    let b = lowest first.address views h.1 k one e in
    omega (arith, a, b)

ordered : (low : ℕ) (views : List View) → ComeFrom low views → (i j : ℕ) (first second : View) → i ≤ j → slice_get views i ≡ Some first → slice_get views j ≡ Some second → first.address ≤ second.address
ordered low [] h i j first second le e f = absurd (let inside = slice_get_within [] i first e in omega (arith, inside))
ordered low (one ∷ views) h zero j first second le e f =
    subst (λ (v : View). v.address ≤ second.address) (same_Some one first e) (lowest one.address (one ∷ views) (omega arith, h.1) j second f)
ordered low (one ∷ views) h (suc i) zero first second le e f = absurd (omega (arith, le))
ordered low (one ∷ views) h (suc i) (suc j) first second le e f = ordered one.address views h.1 i j first second (omega (arith, le)) e f

module _ (views : List View) (at : ℕ) (view : View) where
  -- no view between this one and a number is of its variable and mark
  abbrev pub IsLastTill : ℕ → Type 0
  IsLastTill later =
      (k : ℕ) → k < later → at < k → (other : View) → slice_get views k ≡ Some other → ((view.address == other.address) && same_name view.name other.name) ≡ false

  pub last_more : (later : ℕ) (next : View) → slice_get views later ≡ Some next → ((view.address == next.address) && same_name view.name next.name) ≡ false → IsLastTill later → IsLastTill (later + 1)
  last_more later next here apart before k lt less other e = elim (cases_lt k later) [
    | inl under ↦ before k under less other e
    | inr over ↦
        (let is : k ≡ later = omega (arith, lt, over) in
        subst (λ (v : View). ((view.address == v.address) && same_name view.name v.name) ≡ false)
        (same_Some next other (sym here ∙ (ap (slice_get views) (sym is) ∙ e))) apart)
  ]

module _ (views : List View) (come : ComeFrom 0 views) (at : ℕ) (view : View) (there : slice_get views at ≡ Some view) where
  -- where a later view is of another mark, none from there on is of this one's
  pub last_apart : (later : ℕ) (next : View) → at < later → slice_get views later ≡ Some next → (next.address ≡ view.address → ⊥) → IsLastTill views at view later → IsLastAt views at view
  last_apart later next less here apart before k other lt e = elim (cases_lt k later) [
    | inl under ↦ before k under lt other e
    | inr over ↦
        (let a = ordered 0 views come at later view next (omega (arith, less)) there here in
        let b = ordered 0 views come later k next other over here e in
        ap (λ (b : Bool). b && same_name view.name other.name) (ne_eqb view.address other.address (λ same. apart (omega (arith, a, b, same)))))
  ]

  -- marks without such as lie below the view
  pub say_on : (marks some later : List Mark) → SayOf views marks some at → ((address : ℕ) → view.address ≤ address → label_at later address ≡ label_at some address) → SayOf views marks later at
  say_on marks some later says same k other le e = same other.address (ordered 0 views come at k view other le there e) ∙ says k other le e

pub say_more : (views : List View) (marks some : List Mark) (at : ℕ) → SayOf views marks some at → SayOf views marks some (at + 1)
say_more views marks some at says k view le e = says k view (omega (arith, le)) e
