-- What plain views show at the start, at the end, and in states that are related to cells.
use Rattle.std.proofs.Math.Seq.{drop-append_seam, take-append_seam}
use Rattle.std.proofs.lemmas.List.{length-drop, length-take-le}
use Rattle.std.proofs.Common.{ℕ, zero, suc, ◌≡◌, ◌≤◌, ◌<◌, ◌+◌, ◌==◌, Bool, true, false, ◌&&◌, if◌then◌else◌, List, [], ◌∷◌, ◌++◌, length, take, drop, Option, Some, None, refl, sym, ◌∙◌, ap, subst, arith, eqb-true, slice_index}
use Rattle.rec_bits.specs.Faults.{same_name}
use Rattle.net_model.specs.declared.hardware.Netlist.{Netlist}
use Rattle.net_model.specs.declared.hardware.Space.TheVariants.{Memory as InMemory}
use Rattle.net_model.specs.declared.states.State.{State}
use Rattle.net_model.specs.Clock.{counter_in}
use Rattle.net_model.specs.Exprs.{ExprModel, model_of_expr}
use Rattle.net_model.specs.Nets.{memory_size}
use Rattle.src_model.specs.declared.checkpoint.Checkpoint.TheVariants.{At, End as TheEnd}
use Rattle.code_model.specs.declared.image.Image.{Image}
use Rattle.code_model.specs.declared.image.Place.{Place}
use Rattle.code_model.specs.declared.views.View.{View}
use Rattle.code_model.specs.declared.views.Viewed.{Viewed}
use Rattle.code_model.specs.Machine.{IsCalm}
use Rattle.code_model.specs.Places.{cells_at, label_at}
use Rattle.code_model.specs.Views.{view_at, seen_cells, hidden_in, is_one_of, mask_store, shown_store, shown_through, unless_hidden, IsPlainView, ArePlainViews}
use Rattle.src_trees.specs.Held.{HasCellRoom, HoldsCells, LieWithin}
use Rattle.src_trees.specs.Lowered.{MemoryMap}
use Rattle.src_trees.specs.Seen.{seen_store}
use Rattle.follow.specs.Relations.{IsSeenAs, IsShownAs, AreShownAs, Relation, IsRelated}

-- ---- where the cells stay

same_shown : (names : List (List ℕ)) (view : List ℕ → Option ExprModel) (places : List Place) (s t : State) → ((name : List ℕ) → view name ≡ None) → t.cells ≡ s.cells → shown_through names view places t ≡ shown_through names view places s
same_shown names view [] s t none e = refl
same_shown names view (place ∷ places) s t none e =
    ap (λ cells. unless_hidden (is_one_of names place.name) place.len cells ++ shown_through names view places t) one
    ∙ ap (λ cells. unless_hidden (is_one_of names place.name) place.len (seen_cells (view place.name) place s) ++ cells) (same_shown names view places s t none e)
  where
    one : seen_cells (view place.name) place t ≡ seen_cells (view place.name) place s
    one =
        ap (λ o. seen_cells o place t) (none place.name) ∙ ap (λ cells. take place.len (drop place.address cells)) e
        ∙ ap (λ o. seen_cells o place s) (sym (none place.name))

pub stays_shown : (netlist : Netlist) (viewed : Viewed) (address : ℕ) (s t : State) → ((name : List ℕ) → view_at viewed.views address name ≡ None) → counter_in netlist s ≡ address → counter_in netlist t ≡ address → t.cells ≡ s.cells
    → shown_store netlist viewed t ≡ shown_store netlist viewed s
stays_shown netlist viewed address s t none e f same =
    ap (λ a. shown_through (hidden_in viewed a) (view_at viewed.views a) viewed.image.places t) f
    ∙ same_shown (hidden_in viewed address) (view_at viewed.views address) viewed.image.places s t none same
    ∙ ap (λ a. shown_through (hidden_in viewed a) (view_at viewed.views a) viewed.image.places s) (sym e)

-- ---- plain views

-- plain views, none of which is at an address
module _ (netlist : Netlist) (image : Image) (address : ℕ) (elsewhere : (view : View) → IsPlainView netlist image view → view.address ≡ address → ⊥) where
  pub not_at : (views : List View) → ArePlainViews netlist image views → (name : List ℕ) → view_at views address name ≡ None
  not_at [] h name = refl
  not_at (view ∷ views) h name = by (view.address == address) refl (not_at views h.2 name)
    where
      by : (b : Bool) → (view.address == address) ≡ b → view_at views address name ≡ None → (if b && same_name view.name name then Some (model_of_expr view.value) else view_at views address name) ≡ None
      by true e later = absurd (elsewhere view h.0 (eqb-true view.address address e))
      by false e later = later

pub none_at_start : (netlist : Netlist) (viewed : Viewed) → ArePlainViews netlist viewed.image viewed.views → (name : List ℕ) → view_at viewed.views 0 name ≡ None
none_at_start netlist viewed plain =
    not_at netlist viewed.image 0 (λ view p e. let later = p.later in absurd (omega (arith, later, e))) viewed.views plain

pub none_at_end : (netlist : Netlist) (viewed : Viewed) (last : ℕ) → label_at viewed.image.marks last ≡ Some TheEnd → ArePlainViews netlist viewed.image viewed.views → (name : List ℕ) → view_at viewed.views last name ≡ None
none_at_end netlist viewed last label plain =
    not_at netlist viewed.image last (λ view p e. differ p.tree (sym p.marked ∙ ap (label_at viewed.image.marks) e ∙ label)) viewed.views plain
  where
    differ : (tree : ℕ) → Some (At tree) ≡ Some TheEnd → ⊥
    differ tree e = cc

-- ---- what a relation says

-- the same cells from an address on
same_cells : (a n : ℕ) (xs ys : List ℕ) → a + n ≤ length xs → a + n ≤ length ys → ((k : ℕ) → k < n → slice_index xs (a + k) ≡ slice_index ys (a + k)) → take n (drop a xs) ≡ take n (drop a ys)
same_cells zero zero xs ys p q h = refl
same_cells zero (suc n) [] ys p q h = absurd (omega arith)
same_cells zero (suc n) (x ∷ xs) [] p q h = absurd (omega arith)
same_cells zero (suc n) (x ∷ xs) (y ∷ ys) p q h =
    let first : x ≡ y = h 0 (omega arith) in
    let rest : take n xs ≡ take n ys = same_cells zero n xs ys (omega arith) (omega arith) (λ k lt. later k lt) in
    cc
  where
    later : (k : ℕ) → k < n → slice_index xs (0 + k) ≡ slice_index ys (0 + k)
    later k lt =
        let e : 0 + suc k ≡ suc k = omega arith in
        let f : 0 + k ≡ k = omega arith in
        ap (slice_index xs) f ∙ subst (λ j. slice_index (x ∷ xs) j ≡ slice_index (y ∷ ys) j) e (h (suc k) (omega arith)) ∙ ap (slice_index ys) (sym f)
same_cells (suc a) n [] ys p q h = absurd (omega arith)
same_cells (suc a) n (x ∷ xs) [] p q h = absurd (omega arith)
same_cells (suc a) n (x ∷ xs) (y ∷ ys) p q h = same_cells a n xs ys (omega arith) (omega arith) later
  where
    later : (k : ℕ) → k < n → slice_index xs (a + k) ≡ slice_index ys (a + k)
    later k lt =
        let e : suc a + k ≡ suc (a + k) = omega arith in
        subst (λ j. slice_index (x ∷ xs) j ≡ slice_index (y ∷ ys) j) e (h k lt)

one_cell : (a : ℕ) (ys : List ℕ) → a + 1 ≤ length ys → slice_index ys a ∷ [] ≡ take 1 (drop a ys)
one_cell zero [] q = absurd (omega arith)
one_cell zero (y ∷ ys) q = refl
one_cell (suc a) [] q = absurd (omega arith)
one_cell (suc a) (y ∷ ys) q = one_cell a ys (omega arith)

module _ (s : State) (cells : List ℕ) where
  seen_one : (o : Option ExprModel) (place : Place) → place.address + place.len ≤ length s.cells → place.address + place.len ≤ length cells → IsSeenAs o place s cells → seen_cells o place s ≡ take place.len (drop place.address cells)
  seen_one None place p q h = same_cells place.address place.len s.cells cells p q h
  seen_one (Some value) place p q h =
      ap (λ v. v ∷ []) h.1 ∙ one_cell place.address cells (subst (λ n. place.address + n ≤ length cells) h.0 q) ∙ ap (λ n. take n (drop place.address cells)) (sym h.0)

  shown_one : (b : Bool) (o : Option ExprModel) (place : Place) → place.address + place.len ≤ length s.cells → place.address + place.len ≤ length cells → IsShownAs b o place s cells
      → unless_hidden b place.len (seen_cells o place s) ≡ unless_hidden b place.len (take place.len (drop place.address cells))
  shown_one true o place p q h = refl
  shown_one false o place p q h = seen_one o place p q h

  shown_all : (first end other : ℕ) (names : List (List ℕ)) (view : List ℕ → Option ExprModel) (places : List Place) → end ≤ length s.cells → other ≤ length cells → LieWithin first end places → LieWithin first other places
      → AreShownAs names view places s cells → shown_through names view places s ≡ mask_store names places (cells_at places cells)
  shown_all first end other names view [] p q g k h = refl
  shown_all first end other names view (place ∷ places) p q g k h =
      let g1 : place.address + place.len ≤ end = g.1 in
      let k1 : place.address + place.len ≤ other = k.1 in
      let own : List ℕ = take place.len (drop place.address cells) in
      let rest : List ℕ = cells_at places cells in
      let long : length own ≡ place.len = (let d = length-drop place.address cells in length-take-le place.len (drop place.address cells) (omega (arith, d, k1, q))) in
      let front : take place.len (own ++ rest) ≡ own = subst (λ n. take n (own ++ rest) ≡ own) long (take-append_seam own rest) in
      let back : drop place.len (own ++ rest) ≡ rest = subst (λ n. drop n (own ++ rest) ≡ rest) long (drop-append_seam own rest) in
      let one : unless_hidden (is_one_of names place.name) place.len (seen_cells (view place.name) place s) ≡ unless_hidden (is_one_of names place.name) place.len own = shown_one (is_one_of names place.name) (view place.name) place (omega arith) (omega arith) h.0 in
      let later : shown_through names view places s ≡ mask_store names places rest = shown_all first end other names view places p q g.2 k.2 h.1 in
      ap (λ cells. cells ++ shown_through names view places s) one
      ∙ ap (λ cells. unless_hidden (is_one_of names place.name) place.len own ++ cells) later
      ∙ ap (λ cells. unless_hidden (is_one_of names place.name) place.len cells ++ mask_store names places rest) (sym front)
      ∙ ap (λ cells. unless_hidden (is_one_of names place.name) place.len (take place.len (own ++ rest)) ++ mask_store names places cells) (sym back)

pub related_shows : (netlist : Netlist) (viewed : Viewed) (relation : ℕ → Relation) (m : MemoryMap) (temps : ℕ) (address : ℕ) (s : State) (cells : List ℕ) → HasCellRoom temps m (memory_size netlist.storages) → viewed.image.places ≡ m.places
    → IsCalm netlist address s → HoldsCells temps m cells → IsRelated viewed m relation address s cells → shown_store netlist viewed s ≡ mask_store (hidden_in viewed address) viewed.image.places (seen_store m cells)
related_shows netlist viewed relation m temps address s cells room places here holds r =
    ap (λ a. shown_through (hidden_in viewed a) (view_at viewed.views a) viewed.image.places s) here.here.counter
    ∙ ap (λ ps. shown_through (hidden_in viewed address) (view_at viewed.views address) ps s) places
    ∙ shown_all s cells temps (memory_size netlist.storages) (length cells) (hidden_in viewed address) (view_at viewed.views address) m.places (let e = here.here.state.cells InMemory in omega (arith, e)) (omega arith) room.within holds.room.within r.seen
    ∙ ap (λ ps. mask_store (hidden_in viewed address) ps (seen_store m cells)) (sym places)
