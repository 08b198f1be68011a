-- The views that remarks say go up the addresses, as the turns of remarks do.
use Rattle.std.proofs.Common.{◌≡◌, ℕ, ◌≤◌, ◌==◌, ◌||◌, Bool, true, false, not, nat_lt, if◌then◌else◌, List, [], ◌∷◌, map, Option, Some, None, refl, sym, ap, subst, ◌∙◌, arith, inl, inr}
use Rattle.std.proofs.lemmas.Bool.{cases_lt, le-ltb, lt-ltb, ne_eqb}
use Rattle.rec_bits.proofs.Options.{picked, same_Some}
use Rattle.net_model.specs.declared.hardware.Netlist.{Netlist}
use Rattle.net_model.specs.declared.hardware.Storage.{Storage}
use Rattle.net_model.specs.Nets.{memory_width}
use Rattle.code_model.specs.declared.image.Image.{Image}
use Rattle.code_model.specs.declared.views.View.{View}
use Rattle.code_model.specs.declared.views.Viewed.{Viewed}
use Rattle.text_lines.proofs.Steps.{bind_ok}
use Rattle.view_terms.specs.Terms.{TermModel}
use Rattle.view_lines.specs.declared.remark.Holder.{Holder}
use Rattle.view_lines.specs.Remarks.{RemarkModel, hide, view, hold, know}
use Rattle.view_scope.specs.declared.turn.HolderSpace.{HolderSpace}
use Rattle.view_scope.specs.declared.turn.Turn.{Turn}
use Rattle.view_scope.specs.declared.turn.Turn.TheVariants.{HideAtTest, HideAtEnd, View as ViewAt, Hold, Know}
use Rattle.view_scope.specs.Fits.{accepts, hidden_turn, hide_turn, hold_turn, holder_spot, is_hideable, is_marked, know_turn, place_index, plain_index, turn_of, view_turn}
use Rattle.view_scope.specs.Turns.{is_before, is_first_by, may_follow}
use Rattle.view_scope.specs.Widths.{part_width, tree_width}
use Rattle.viewed_text.specs.Texts.{AreRemarks}
use Rattle.view_parts.specs.Parts.{part_of}
use Rattle.view_parts.specs.Said.{ViewModel, model_of_view, view_said, views_said}
use Rattle.followed.specs.Inner.Ascending.{ComeFrom}
use Rattle.check_command.specs.Tasks.{IsViewedText}

-- ---- views behind a turn

-- none below an address, or below one before it
abbrev SaidFrom : ℕ → List ViewModel → Type 0
SaidFrom low [] = Unit {0}
SaidFrom low (one ∷ views) = (low ≤ one.address) × SaidFrom one.address views

-- the views behind a turn: those from an address on, or none
abbrev Behind : Option Turn → List ViewModel → Type 0
Behind None views = SaidFrom 0 views
Behind (Some (HideAtTest test variable)) views = SaidFrom 0 views
Behind (Some (HideAtEnd variable)) views = SaidFrom 0 views
Behind (Some (ViewAt address variable)) views = SaidFrom address views
Behind (Some (Hold address space index)) views = views ≡ []
Behind (Some (Know address variable)) views = views ≡ []

none_behind : (last : Option Turn) → Behind last []
none_behind None = tt
none_behind (Some (HideAtTest test variable)) = tt
none_behind (Some (HideAtEnd variable)) = tt
none_behind (Some (ViewAt address variable)) = tt
none_behind (Some (Hold address space index)) = refl
none_behind (Some (Know address variable)) = refl

-- what is hidden stands before all views
hidden_behind : (last : Option Turn) (label : Option ℕ) (index : ℕ) (views : List ViewModel) → may_follow last (hidden_turn label index) ≡ true → Behind (Some (hidden_turn label index)) views → Behind last views
unfolding may_follow is_before
hidden_behind None None index views may more = more
hidden_behind None (Some test) index views may more = more
hidden_behind (Some (HideAtTest other variable)) None index views may more = more
hidden_behind (Some (HideAtTest other variable)) (Some test) index views may more = more
hidden_behind (Some (HideAtEnd variable)) None index views may more = more
hidden_behind (Some (HideAtEnd variable)) (Some test) index views may more = more
hidden_behind (Some (ViewAt address variable)) None index views may more = absurd (cc may)
hidden_behind (Some (ViewAt address variable)) (Some test) index views may more = absurd (cc may)
hidden_behind (Some (Hold address space holder)) None index views may more = absurd (cc may)
hidden_behind (Some (Hold address space holder)) (Some test) index views may more = absurd (cc may)
hidden_behind (Some (Know address variable)) None index views may more = absurd (cc may)
hidden_behind (Some (Know address variable)) (Some test) index views may more = absurd (cc may)

not_first : (same other less more before after : Bool) → same ≡ false → other ≡ false → less ≡ false → more ≡ true
    → ((if same then before else less) || not (if other then after else more)) ≡ true → ⊥
not_first true other less more before after p q r s h = cc
not_first false true less more before after p q r s h = cc
not_first false false true more before after p q r s h = cc
not_first false false false false before after p q r s h = cc
not_first false false false true before after p q r s h = cc

-- a turn that comes first by its address, or doesn't come behind, has no greater one
not_above : (address next : ℕ) (before after : Bool) → (is_first_by address next before || not (is_first_by next address after)) ≡ true → address ≤ next
not_above address next before after h = elim (cases_lt next address) [
  | inl lt ↦
      absurd
      (not_first (address == next) (next == address) (nat_lt address next) (nat_lt next address) before after
      (ne_eqb address next (λ e. omega (arith, lt, e))) (ne_eqb next address (λ e. omega (arith, lt, e))) (le-ltb address next (omega (arith, lt))) (lt-ltb next address lt) h)
  | inr le ↦ le
]

view_behind : (last : Option Turn) (index : ℕ) (one : ViewModel) (views : List ViewModel) → may_follow last (ViewAt one.address index) ≡ true → SaidFrom one.address views → Behind last (one ∷ views)
unfolding may_follow is_before
view_behind None index one views may more = (omega arith, more)
view_behind (Some (HideAtTest test variable)) index one views may more = (omega arith, more)
view_behind (Some (HideAtEnd variable)) index one views may more = (omega arith, more)
view_behind (Some (ViewAt address variable)) index one views may more = (not_above address one.address _ _ may, more)
view_behind (Some (Hold address space holder)) index one views may more = absurd (cc may)
view_behind (Some (Know address variable)) index one views may more = absurd (cc may)

-- ---- remarks

module _ (storages : List Storage) (image : Image) (word : ℕ) where
  record Accepted (last : Option Turn) (remark : RemarkModel) (turn : Turn) : Type 0 where
    is : turn_of storages image word remark ≡ Some turn
    may : may_follow last turn ≡ true

  accepted : (last : Option Turn) (remark : RemarkModel) (turn : Turn) → accepts storages image word last remark ≡ Some turn → Accepted last remark turn
  unfolding accepts
  accepted last remark turn e =
      let found = bind_ok (turn_of storages image word remark) _ turn e in
      let kept = picked (may_follow last found.value) (Some found.value) turn found.then in
      let same : found.value ≡ turn = same_Some found.value turn kept.1 in
      record { is = found.first ∙ kept.1; may = ap (may_follow last) (sym same) ∙ kept.0 }

  hides : (label : Option ℕ) (name : List ℕ) (turn : Turn) → hide_turn image label name ≡ Some turn → (index : ℕ) × (turn ≡ hidden_turn label index)
  unfolding hide_turn
  hides label name turn e =
      let index = bind_ok (place_index image.places name) _ turn (picked (is_hideable image.marks label) _ turn e).1 in
      (index.value, sym (same_Some (hidden_turn label index.value) turn index.then))

  views_at : (at : ℕ) (name : List ℕ) (value : TermModel) (turn : Turn) → view_turn storages image at name value ≡ Some turn → (index : ℕ) × (turn ≡ ViewAt at index)
  unfolding view_turn
  views_at at name value turn e =
      let index = bind_ok (place_index image.places name) _ turn e in
      let width = bind_ok (part_width storages value) _ turn index.then in
      (index.value, sym (same_Some (ViewAt at index.value) turn width.then))

  holds : (at : ℕ) (holder : Holder) (value : TermModel) (turn : Turn) → hold_turn storages image word at holder value ≡ Some turn
      → (space : HolderSpace) × (index : ℕ) × (turn ≡ Hold at space index)
  unfolding hold_turn
  holds at holder value turn e =
      let spot = bind_ok (holder_spot storages image holder) _ turn (picked (is_marked image.marks at) _ turn e).1 in
      let width = bind_ok (tree_width image.places word value) _ turn spot.then in
      (spot.value.space, spot.value.index, sym (same_Some (Hold at spot.value.space spot.value.index) turn (picked _ _ turn width.then).1))

  knows : (at : ℕ) (name : List ℕ) (value : ℕ) (turn : Turn) → know_turn image word at name value ≡ Some turn → (index : ℕ) × (turn ≡ Know at index)
  unfolding know_turn
  knows at name value turn e =
      let index = bind_ok (plain_index image.places name) _ turn (picked _ _ turn e).1 in
      (index.value, sym (same_Some (Know at index.value) turn index.then))

  seen_at : (at : ℕ) (name : List ℕ) (value : TermModel) (seen : ViewModel) → view_said storages at name value ≡ Some seen → at ≡ seen.address
  unfolding view_said
  seen_at at name value seen e =
      let part = bind_ok (part_of storages value) _ seen e in
      ap (λ (v : ViewModel). v.address) (same_Some _ seen part.then)

  -- what a view and the remarks behind it say
  record Said (at : ℕ) (name : List ℕ) (value : TermModel) (remarks : List RemarkModel) (views : List ViewModel) : Type 0 where
    seen : ViewModel
    more : List ViewModel
    here : view_said storages at name value ≡ Some seen
    later : views_said storages remarks ≡ Some more
    are : (seen ∷ more) ≡ views

  view_first : (at : ℕ) (name : List ℕ) (value : TermModel) (remarks : List RemarkModel) (views : List ViewModel) → views_said storages (view at name value ∷ remarks) ≡ Some views
      → Said at name value remarks views
  unfolding views_said
  view_first at name value remarks views e =
      let seen = bind_ok (view_said storages at name value) _ views e in
      let more = bind_ok (views_said storages remarks) _ views seen.then in
      record { seen = seen.value; more = more.value; here = seen.first; later = more.first; are = same_Some (seen.value ∷ more.value) views more.then }

  none_said : (views : List ViewModel) → views_said storages [] ≡ Some views → [] ≡ views
  unfolding views_said
  none_said views e = same_Some [] views e

  hide_passed : (label : Option ℕ) (name : List ℕ) (remarks : List RemarkModel) (views : List ViewModel) → views_said storages (hide label name ∷ remarks) ≡ Some views → views_said storages remarks ≡ Some views
  unfolding views_said
  hide_passed label name remarks views e = e

  hold_passed : (at : ℕ) (holder : Holder) (value : TermModel) (remarks : List RemarkModel) (views : List ViewModel) → views_said storages (hold at holder value ∷ remarks) ≡ Some views
      → views_said storages remarks ≡ Some views
  unfolding views_said
  hold_passed at holder value remarks views e = e

  know_passed : (at : ℕ) (name : List ℕ) (value : ℕ) (remarks : List RemarkModel) (views : List ViewModel) → views_said storages (know at name value ∷ remarks) ≡ Some views
      → views_said storages remarks ≡ Some views
  unfolding views_said
  know_passed at name value remarks views e = e

  come_behind : (last : Option Turn) (remarks : List RemarkModel) (views : List ViewModel) → AreRemarks storages image word last remarks → views_said storages remarks ≡ Some views → Behind last views
  come_behind last [] views h e = subst (Behind last) (none_said views e) (none_behind last)
  come_behind last (hide label name ∷ remarks) views h e =
      let a = accepted last (hide label name) h.1.0 h.1.1 in
      let t = hides label name h.1.0 a.is in
      let more = come_behind (Some h.1.0) remarks views h.1.2 (hide_passed label name remarks views e) in
      hidden_behind last label t.0 views (ap (may_follow last) (sym t.1) ∙ a.may) (subst (λ (turn : Turn). Behind (Some turn) views) t.1 more)
  come_behind last (view at name value ∷ remarks) views h e =
      let a = accepted last (view at name value) h.1.0 h.1.1 in
      let t = views_at at name value h.1.0 a.is in
      let said = view_first at name value remarks views e in
      let same : at ≡ said.seen.address = seen_at at name value said.seen said.here in
      let turn : h.1.0 ≡ ViewAt said.seen.address t.0 = t.1 ∙ ap (λ (n : ℕ). ViewAt n t.0) same in
      let more = come_behind (Some h.1.0) remarks said.more h.1.2 said.later in
      subst (Behind last) said.are
      (view_behind last t.0 said.seen said.more (ap (may_follow last) (sym turn) ∙ a.may) (subst (λ (turn : Turn). Behind (Some turn) said.more) turn more))
  come_behind last (hold at holder value ∷ remarks) views h e =
      let a = accepted last (hold at holder value) h.1.0 h.1.1 in
      let t = holds at holder value h.1.0 a.is in
      let more = come_behind (Some h.1.0) remarks views h.1.2 (hold_passed at holder value remarks views e) in
      let none : views ≡ [] = subst (λ (turn : Turn). Behind (Some turn) views) t.2 more in
      subst (Behind last) (sym none) (none_behind last)
  come_behind last (know at name value ∷ remarks) views h e =
      let a = accepted last (know at name value) h.1.0 h.1.1 in
      let t = knows at name value h.1.0 a.is in
      let more = come_behind (Some h.1.0) remarks views h.1.2 (know_passed at name value remarks views e) in
      let none : views ≡ [] = subst (λ (turn : Turn). Behind (Some turn) views) t.1 more in
      subst (Behind last) (sym none) (none_behind last)

-- ---- views

views_come : (low : ℕ) (views : List View) → SaidFrom low (map model_of_view views) → ComeFrom low views
views_come low [] h = tt
views_come low (one ∷ views) h = (h.0, views_come one.address views h.1)

-- so those of an image's text do
pub viewed_come : (netlist : Netlist) (bytes : List ℕ) (viewed : Viewed) → IsViewedText netlist bytes viewed → ComeFrom 0 viewed.views
viewed_come netlist bytes viewed h =
    views_come 0 viewed.views
    (come_behind netlist.storages viewed.image (memory_width netlist.storages) None h.remarks (map model_of_view viewed.views) h.says.text.remarks_fit h.views)
