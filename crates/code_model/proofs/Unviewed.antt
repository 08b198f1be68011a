-- An image in which nothing is hidden shows what is seen; and one without views is seen in its places.
use Rattle.std.proofs.Common.{ℕ, ◌≡◌, List, [], ◌∷◌, ◌++◌, Option, Some, None, refl, sym, ◌∙◌, ap, subst}
use Rattle.net_model.specs.declared.hardware.Netlist.{Netlist}
use Rattle.net_model.specs.declared.states.State.{State}
use Rattle.net_model.specs.Clock.{counter_in}
use Rattle.net_model.specs.Exprs.{ExprModel}
use Rattle.src_model.specs.declared.checkpoint.Checkpoint.{Checkpoint}
use Rattle.src_model.specs.Ways.{Passed}
use Rattle.code_model.specs.declared.image.Image.{Image}
use Rattle.code_model.specs.declared.image.Place.{Place}
use Rattle.code_model.specs.declared.views.Hidden.{Hidden}
use Rattle.code_model.specs.declared.views.Viewed.{Viewed}
use Rattle.code_model.specs.Machine.{store_in}
use Rattle.code_model.specs.Places.{cells_at, label_at}
use Rattle.code_model.specs.Right.{TracesBy, TracesRight}
use Rattle.code_model.specs.Views.{view_at, seen_cells, seen_through, viewed_store, hidden_at, hidden_in, masked_trace, shown_store, shown_through, unviewed}
use Rattle.code_model.proofs.Masking.{masked_none}

-- ---- where there are no views

-- without views the store that is seen is that of the places
seen_plainly : (view : List ℕ → Option ExprModel) (places : List Place) (s : State) → ((name : List ℕ) → view name ≡ None) → seen_through view places s ≡ cells_at places s.cells
seen_plainly view [] s none = refl
seen_plainly view (place ∷ places) s none =
    ap (λ o. seen_cells o place s ++ seen_through view places s) (none place.name) ∙ ap (λ cells. seen_cells None place s ++ cells) (seen_plainly view places s none)

pub no_views : (netlist : Netlist) (viewed : Viewed) (address : ℕ) (s : State) → ((name : List ℕ) → view_at viewed.views address name ≡ None) → counter_in netlist s ≡ address → viewed_store netlist viewed s ≡ store_in viewed.image s
no_views netlist viewed address s none e =
    ap (λ a. seen_through (view_at viewed.views a) viewed.image.places s) e ∙ seen_plainly (view_at viewed.views address) viewed.image.places s none

-- ---- where nothing is hidden

all_shown : (view : List ℕ → Option ExprModel) (places : List Place) (s : State) → shown_through [] view places s ≡ seen_through view places s
all_shown view [] s = refl
all_shown view (place ∷ places) s = ap (λ cells. seen_cells (view place.name) place s ++ cells) (all_shown view places s)

pub none_hidden : (netlist : Netlist) (viewed : Viewed) (address : ℕ) (s : State) → hidden_in viewed address ≡ [] → counter_in netlist s ≡ address → shown_store netlist viewed s ≡ viewed_store netlist viewed s
none_hidden netlist viewed address s none e =
    ap (λ names. shown_through names (view_at viewed.views (counter_in netlist s)) viewed.image.places s) (ap (hidden_in viewed) e ∙ none)
    ∙ all_shown (view_at viewed.views (counter_in netlist s)) viewed.image.places s

module _ (netlist : Netlist) (viewed : Viewed) (none : viewed.hidden ≡ []) where
  pub none_here : (address : ℕ) → hidden_in viewed address ≡ []
  none_here address = ap (λ (hidden : List Hidden). hidden_at hidden (label_at viewed.image.marks address)) none

  none_of : (label : Checkpoint) → hidden_at viewed.hidden (Some label) ≡ []
  none_of label = ap (λ (hidden : List Hidden). hidden_at hidden (Some label)) none

  same_store : shown_store netlist viewed ≡ viewed_store netlist viewed
  same_store = λ i s. none_hidden netlist viewed (counter_in netlist s) s (none_here (counter_in netlist s)) refl i

  same_trace : (trace : List ℕ → ℕ → List Passed) → masked_trace viewed trace ≡ trace
  same_trace trace = λ i cells m. masked_none viewed none_of (trace cells m) i

  pub as_seen : (trace : List ℕ → ℕ → List Passed) → TracesBy (shown_store netlist viewed) netlist viewed.image (masked_trace viewed trace) → TracesBy (viewed_store netlist viewed) netlist viewed.image trace
  as_seen trace h =
      subst (λ (store : State → List ℕ). TracesBy store netlist viewed.image trace) same_store
      (subst (λ (t : List ℕ → ℕ → List Passed). TracesBy (shown_store netlist viewed) netlist viewed.image t) (same_trace trace) h)

  pub as_shown : (trace : List ℕ → ℕ → List Passed) → TracesBy (viewed_store netlist viewed) netlist viewed.image trace → TracesBy (shown_store netlist viewed) netlist viewed.image (masked_trace viewed trace)
  as_shown trace h =
      subst (λ (t : List ℕ → ℕ → List Passed). TracesBy (shown_store netlist viewed) netlist viewed.image t) (sym (same_trace trace))
      (subst (λ (store : State → List ℕ). TracesBy store netlist viewed.image trace) (sym same_store) h)

-- ---- where there are no views, too

module _ (netlist : Netlist) (image : Image) where
  same_places : viewed_store netlist (unviewed image) ≡ store_in image
  same_places = λ i s. no_views netlist (unviewed image) (counter_in netlist s) s (λ name. refl) refl i

  pub unviewed_traces : (trace : List ℕ → ℕ → List Passed) → TracesBy (shown_store netlist (unviewed image)) netlist image (masked_trace (unviewed image) trace) → TracesRight netlist image trace
  unviewed_traces trace h = subst (λ (store : State → List ℕ). TracesBy store netlist image trace) same_places (as_seen netlist (unviewed image) refl trace h)

  pub traces_unviewed : (trace : List ℕ → ℕ → List Passed) → TracesRight netlist image trace → TracesBy (shown_store netlist (unviewed image)) netlist image (masked_trace (unviewed image) trace)
  traces_unviewed trace h = as_shown netlist (unviewed image) refl trace (subst (λ (store : State → List ℕ). TracesBy store netlist image trace) (sym same_places) h)
