-- The cells of variables: where they stand in a store and in memory, and that those of two
-- variables are apart.
use Rattle.std.proofs.Common.{ℕ, zero, suc, ◌≡◌, ◌≤◌, ◌<◌, ◌+◌, ◌-◌, ◌^◌, ◌⊎◌, inl, inr, Bool, true, false, if◌then◌else◌, List, [], ◌∷◌, ◌++◌, length, take, drop, Option, None, Some, refl, sym, ◌∙◌, ap, subst, arith, slice_index, slice_set}
use Rattle.std.proofs.lemmas.List.{get_or-take, get_or-drop, length-take, length-append, set-append_left, set-append_right}
use Rattle.std.proofs.Math.Seq.{get_or-append_right}
use Rattle.std.proofs.Math.ListN.{get_or-append}
use Rattle.src_model.specs.declared.program.Var.{Var as Declared}
use Rattle.src_model.specs.Names.{declared}
use Rattle.rec_bits.specs.Faults.{same_name}
use Rattle.rec_bits.proofs.Lists.{part_length, drop-set, append_below, set_below}
use Rattle.src_model.specs.Meaning.{cells_in, cell_count, first_cell}
use Rattle.code_model.specs.declared.image.Place.{Place as VariablePlace}
use Rattle.code_model.specs.Places.{cells_at, places_from}
use Rattle.code_model.specs.Layout.{variables_of}
use Rattle.code_model.proofs.Stores.{drop-plus, take-set}
use Rattle.src_trees.specs.Lowered.{JobModel, base_of}
use Rattle.src_trees.specs.Doing.{destination_cell, done, job_value, put_in}
use Rattle.src_trees.specs.Seen.{memory_map, InReach}
use Rattle.src_trees.specs.Held.{StandFor, LieWithin, IsAlone, AreAlone, HoldsVars, HasCellRoom}

-- ---- the cells of one place

-- the cells of a place
abbrev cells_of_place : VariablePlace → List ℕ → List ℕ
cells_of_place p cells = take p.len (drop p.address cells)

part_at : (n a i : ℕ) (cells : List ℕ) → i < n → slice_index (take n (drop a cells)) i ≡ slice_index cells (a + i)
part_at n a i cells lt = get_or-take n (drop a cells) i 0 lt ∙ get_or-drop a cells i 0

-- a write within a place, before it and behind it
part_set : (n a i : ℕ) (cells : List ℕ) (x : ℕ) → take n (drop a (slice_set cells (a + i) x)) ≡ slice_set (take n (drop a cells)) i x
part_set n a i cells x = ap (take n) (drop-set a i (a + i) cells x refl) ∙ take-set n i (drop a cells) x

drop_before : (a k : ℕ) (cells : List ℕ) (x : ℕ) → k < a → drop a (slice_set cells k x) ≡ drop a cells
drop_before zero k cells x lt = absurd (omega arith)
drop_before (suc a) k [] x lt = refl
drop_before (suc a) zero (c ∷ cells) x lt = refl
drop_before (suc a) (suc k) (c ∷ cells) x lt = drop_before a k cells x (omega arith)

set_past : (k : ℕ) (cells : List ℕ) (x : ℕ) → length cells ≤ k → slice_set cells k x ≡ cells
set_past k [] x le = refl
set_past zero (c ∷ cells) x le = absurd (omega arith)
set_past (suc k) (c ∷ cells) x le = ap (λ (xs : List ℕ). c ∷ xs) (set_past k cells x (omega arith))

abbrev pub IsOutside : VariablePlace → ℕ → Type 0
IsOutside p k = (k < p.address) ⊎ (p.address + p.len ≤ k)

part_outside : (p : VariablePlace) (k : ℕ) (cells : List ℕ) (x : ℕ) → IsOutside p k → cells_of_place p (slice_set cells k x) ≡ cells_of_place p cells
part_outside p k cells x (inl lt) = ap (take p.len) (drop_before p.address k cells x lt)
part_outside p k cells x (inr le) =
    let e : p.address + (k - p.address) ≡ k = omega (arith, le) in
    ap (λ (n : ℕ). cells_of_place p (slice_set cells n x)) (sym e)
    ∙ part_set p.len p.address (k - p.address) cells x
    ∙ set_past (k - p.address) (cells_of_place p cells) x (omega (arith, le, length-take p.len (drop p.address cells)))

-- ---- the place of a variable

-- the address of a variable lies where its place does
pub base_within : (first end : ℕ) (places : List VariablePlace) (vars : List Declared) (name : List ℕ) (v : Declared) → StandFor places vars → LieWithin first end places → declared vars name ≡ Some v
    → (first ≤ base_of places name) × (base_of places name + cells_in v ≤ end)
base_within first end [] [] name v s w e = absurd (cc e)
base_within first end [] (u ∷ vars) name v s w e = absurd s
base_within first end (p ∷ places) [] name v s w e = absurd s
base_within first end (p ∷ places) (u ∷ vars) name v s w e =
    by (base_within first end places vars name v s.2 w.2) (same_name name u.name) (same_name name p.name) (ap (same_name name) s.0) e
  where
    by : (declared vars name ≡ Some v → (first ≤ base_of places name) × (base_of places name + cells_in v ≤ end)) → (b c : Bool) → c ≡ b → (if b then Some u else declared vars name) ≡ Some v
        → (first ≤ (if c then p.address else base_of places name)) × ((if c then p.address else base_of places name) + cells_in v ≤ end)
    by more true true q e =
        let is : u ≡ v = cc in
        let n : cells_in u ≡ cells_in v = ap cells_in is in
        let l = s.1 in
        let le = w.0 in
        let ends = w.1 in
        (le, omega (arith, n, l, ends))
    by more false false q e = more e
    by more true false q e = absurd (cc)
    by more false true q e = absurd (cc)

-- and its cells are none of a place that is alone
pub base_outside : (p : VariablePlace) (places : List VariablePlace) (vars : List Declared) (name : List ℕ) (v : Declared) (i : ℕ) → StandFor places vars → IsAlone p places → declared vars name ≡ Some v → i < cells_in v
    → IsOutside p (base_of places name + i)
base_outside p [] [] name v i s h e lt = absurd (cc e)
base_outside p [] (u ∷ vars) name v i s h e lt = absurd s
base_outside p (q ∷ places) [] name v i s h e lt = absurd s
base_outside p (q ∷ places) (u ∷ vars) name v i s h e lt =
    by (λ d. base_outside p places vars name v i s.2 h.1 d lt) (same_name name u.name) (same_name name q.name) (ap (same_name name) s.0) e h.0
  where
    by : (declared vars name ≡ Some v → IsOutside p (base_of places name + i)) → (b c : Bool) → c ≡ b → (if b then Some u else declared vars name) ≡ Some v
        → ((p.address + p.len ≤ q.address) ⊎ (q.address + q.len ≤ p.address)) → IsOutside p ((if c then q.address else base_of places name) + i)
    by more true true z e (inl le) = inr (omega (arith, le))
    by more true true z e (inr le) =
        let is : u ≡ v = cc in
        let n : cells_in u ≡ cells_in v = ap cells_in is in
        let l = s.1 in
        inl (omega (arith, n, l, le, lt))
    by more false false z e o = more e
    by more true false z e o = absurd (cc)
    by more false true z e o = absurd (cc)

-- ---- the store that memory holds

pub seen_length : (first : ℕ) (places : List VariablePlace) (vars : List Declared) (cells : List ℕ) → StandFor places vars → LieWithin first (length cells) places → length (cells_at places cells) ≡ cell_count vars
seen_length first [] [] cells s w = refl
seen_length first [] (u ∷ vars) cells s w = absurd s
seen_length first (p ∷ places) [] cells s w = absurd s
seen_length first (p ∷ places) (u ∷ vars) cells s w =
    let more = seen_length first places vars cells s.2 w.2 in
    let here = part_length p.len p.address cells w.1 in
    let l = s.1 in
    omega (arith, length-append (cells_of_place p cells) (cells_at places cells), more, here, l)

-- a variable's cell is one of the store
pub seen_at : (first : ℕ) (places : List VariablePlace) (vars : List Declared) (cells : List ℕ) (name : List ℕ) (v : Declared) (i : ℕ) → StandFor places vars → LieWithin first (length cells) places → declared vars name ≡ Some v → i < cells_in v
    → slice_index (cells_at places cells) (first_cell vars name + i) ≡ slice_index cells (base_of places name + i)
seen_at first [] [] cells name v i s w e lt = absurd (cc e)
seen_at first [] (u ∷ vars) cells name v i s w e lt = absurd s
seen_at first (p ∷ places) [] cells name v i s w e lt = absurd s
seen_at first (p ∷ places) (u ∷ vars) cells name v i s w e lt =
    by (λ d. seen_at first places vars cells name v i s.2 w.2 d lt) (same_name name u.name) (same_name name p.name) (ap (same_name name) s.0) e
  where
    own : List ℕ
    own = cells_of_place p cells

    long : length own ≡ cells_in u
    long = part_length p.len p.address cells w.1 ∙ s.1

    by : (declared vars name ≡ Some v → slice_index (cells_at places cells) (first_cell vars name + i) ≡ slice_index cells (base_of places name + i))
        → (b c : Bool) → c ≡ b → (if b then Some u else declared vars name) ≡ Some v
        → slice_index (own ++ cells_at places cells) ((if b then 0 else cells_in u + first_cell vars name) + i) ≡ slice_index cells ((if c then p.address else base_of places name) + i)
    by more true true z e =
        let is : u ≡ v = cc in
        let n : cells_in u ≡ cells_in v = ap cells_in is in
        let l = s.1 in
        let inside : i < p.len = omega (arith, n, l, lt) in
        let q : 0 + i ≡ i = omega arith in
        ap (slice_index (own ++ cells_at places cells)) q
        ∙ get_or-append own (cells_at places cells) 0 i (let z : i < length own = omega (arith, long, n, lt) in z)
        ∙ part_at p.len p.address i cells inside
    by more false false q e =
        let k : cells_in u + first_cell vars name + i - length own ≡ first_cell vars name + i = omega (arith, long) in
        get_or-append_right own (cells_at places cells) (cells_in u + first_cell vars name + i) 0 (let z : length own ≤ cells_in u + first_cell vars name + i = omega (arith, long) in z)
        ∙ ap (slice_index (cells_at places cells)) k ∙ more e
    by more true false q e = absurd (cc)
    by more false true q e = absurd (cc)

-- a write to a cell that is none of these places' isn't seen there
abbrev AllOutside : List VariablePlace → ℕ → Type 0
AllOutside [] k = Unit {0}
AllOutside (p ∷ places) k = IsOutside p k × AllOutside places k

seen_outside : (places : List VariablePlace) (k : ℕ) (cells : List ℕ) (x : ℕ) → AllOutside places k → cells_at places (slice_set cells k x) ≡ cells_at places cells
seen_outside [] k cells x h = refl
seen_outside (p ∷ places) k cells x h =
    let a = part_outside p k cells x h.0 in
    let b = seen_outside places k cells x h.1 in
    ap (λ (xs : List ℕ). xs ++ cells_at places (slice_set cells k x)) a ∙ ap (λ (xs : List ℕ). cells_of_place p cells ++ xs) b

-- no other place has a cell of one that is alone
others_outside : (p : VariablePlace) (i : ℕ) (places : List VariablePlace) → i < p.len → IsAlone p places → AllOutside places (p.address + i)
others_outside p i [] lt h = tt
others_outside p i (q ∷ places) lt h = (by h.0, others_outside p i places lt h.1)
  where
    by : ((p.address + p.len ≤ q.address) ⊎ (q.address + q.len ≤ p.address)) → IsOutside q (p.address + i)
    by (inl le) = inl (omega (arith, le, lt))
    by (inr le) = inr (omega (arith, le))

-- a write to a variable's cell is a write to the store
pub seen_put : (first : ℕ) (places : List VariablePlace) (vars : List Declared) (cells : List ℕ) (name : List ℕ) (v : Declared) (i x : ℕ) → StandFor places vars → LieWithin first (length cells) places → AreAlone places → declared vars name ≡ Some v → i < cells_in v
    → cells_at places (slice_set cells (base_of places name + i) x) ≡ slice_set (cells_at places cells) (first_cell vars name + i) x
seen_put first [] [] cells name v i x s w h e lt = absurd (cc e)
seen_put first [] (u ∷ vars) cells name v i x s w h e lt = absurd s
seen_put first (p ∷ places) [] cells name v i x s w h e lt = absurd s
seen_put first (p ∷ places) (u ∷ vars) cells name v i x s w h e lt =
    by (λ d. seen_put first places vars cells name v i x s.2 w.2 h.1 d lt) (λ d. base_outside p places vars name v i s.2 h.0 d lt) (same_name name u.name) (same_name name p.name) (ap (same_name name) s.0) e
  where
    own : List ℕ
    own = cells_of_place p cells

    long : length own ≡ cells_in u
    long = part_length p.len p.address cells w.1 ∙ s.1

    by : (declared vars name ≡ Some v → cells_at places (slice_set cells (base_of places name + i) x) ≡ slice_set (cells_at places cells) (first_cell vars name + i) x)
        → (declared vars name ≡ Some v → IsOutside p (base_of places name + i)) → (b c : Bool) → c ≡ b → (if b then Some u else declared vars name) ≡ Some v
        → cells_of_place p (slice_set cells ((if c then p.address else base_of places name) + i) x) ++ cells_at places (slice_set cells ((if c then p.address else base_of places name) + i) x)
        ≡ slice_set (own ++ cells_at places cells) ((if b then 0 else cells_in u + first_cell vars name) + i) x
    by more apart true true z e =
        let is : u ≡ v = cc in
        let n : cells_in u ≡ cells_in v = ap cells_in is in
        let l = s.1 in
        let inside : i < p.len = omega (arith, n, l, lt) in
        let q : 0 + i ≡ i = omega arith in
        ap (λ (xs : List ℕ). xs ++ cells_at places (slice_set cells (p.address + i) x)) (part_set p.len p.address i cells x)
        ∙ ap (λ (xs : List ℕ). slice_set own i x ++ xs) (seen_outside places (p.address + i) cells x (others_outside p i places inside h.0))
        ∙ sym (ap (λ (k : ℕ). slice_set (own ++ cells_at places cells) k x) q ∙ set-append_left own (cells_at places cells) i x (let z : i < length own = omega (arith, long, n, lt) in z))
    by more apart false false q e =
        let k : cells_in u + first_cell vars name + i - cells_in u ≡ first_cell vars name + i = omega arith in
        ap (λ (xs : List ℕ). xs ++ cells_at places (slice_set cells (base_of places name + i) x)) (part_outside p (base_of places name + i) cells x (apart e))
        ∙ ap (λ (xs : List ℕ). own ++ xs) (more e)
        ∙ sym (set-append_right own (cells_at places cells) (cells_in u) (cells_in u + first_cell vars name + i) x long (let z : cells_in u ≤ cells_in u + first_cell vars name + i = omega arith in z)
        ∙ ap (λ (n : ℕ). own ++ slice_set (cells_at places cells) n x) k)
    by more apart true false q e = absurd (cc)
    by more apart false true q e = absurd (cc)

-- cells below the variables' don't matter to it
drop_more : (at more : ℕ) (cells others : List ℕ) → drop at cells ≡ drop at others → at ≤ more → drop more cells ≡ drop more others
drop_more at more cells others e le =
    let q : more ≡ at + (more - at) = omega (arith, le) in
    sym (drop-plus (more - at) at more cells q) ∙ ap (drop (more - at)) e ∙ drop-plus (more - at) at more others q

pub seen_behind : (first end : ℕ) (places : List VariablePlace) (cells others : List ℕ) → LieWithin first end places → drop first cells ≡ drop first others → cells_at places cells ≡ cells_at places others
seen_behind first end [] cells others w e = refl
seen_behind first end (p ∷ places) cells others w e =
    ap (λ (xs : List ℕ). take p.len xs ++ cells_at places cells) (drop_more first p.address cells others e w.0)
    ∙ ap (λ (xs : List ℕ). cells_of_place p others ++ xs) (seen_behind first end places cells others w.2 e)

-- the values of the store are those of memory
take_below : (P n : ℕ) (cells : List ℕ) → ((c : ℕ) → slice_index cells c < P) → (c : ℕ) → slice_index (take n cells) c < P
take_below P zero [] h c = h c
take_below P zero (x ∷ cells) h c = let k = h 0 in omega arith
take_below P (suc n) [] h c = h c
take_below P (suc n) (x ∷ cells) h zero = h 0
take_below P (suc n) (x ∷ cells) h (suc c) = take_below P n cells (λ i. h (suc i)) c

pub seen_below : (P : ℕ) (places : List VariablePlace) (cells : List ℕ) → 0 < P → ((c : ℕ) → slice_index cells c < P) → (c : ℕ) → slice_index (cells_at places cells) c < P
seen_below P [] cells some h zero = some
seen_below P [] cells some h (suc c) = some
seen_below P (p ∷ places) cells some h c =
    append_below P (cells_of_place p cells) (cells_at places cells)
    (take_below P p.len (drop p.address cells) (λ i. subst (λ n. n < P) (sym (get_or-drop p.address cells i 0)) (h (p.address + i))))
    (seen_below P places cells some h) c

-- ---- cells that fit

put_below : (P : ℕ) (to : Option ℕ) (v : ℕ) (cells : List ℕ) → v < P → ((k : ℕ) → slice_index cells k < P) → (k : ℕ) → slice_index (put_in to v cells) k < P
put_below P None v cells less h = h
put_below P (Some address) v cells less h = set_below P cells address v h less

-- a job whose value fits leaves cells that fit
pub done_words : (P : ℕ) (job : JobModel) (cells : List ℕ) → ((k : ℕ) → slice_index cells k < P) → job_value cells job.trees < P → (k : ℕ) → slice_index (done job cells) k < P
done_words P job cells h less = put_below P (destination_cell cells job.destination) (job_value cells job.trees) cells less h

-- ---- variables behind each other

row_stands : (at : ℕ) (vars : List Declared) → StandFor (places_from at (variables_of vars)) vars
row_stands at [] = tt
row_stands at (v ∷ vars) = (refl, refl, row_stands (at + cells_in v) vars)

row_within : (first at end : ℕ) (vars : List Declared) → first ≤ at → at + cell_count vars ≤ end → LieWithin first end (places_from at (variables_of vars))
row_within first at end [] le room = tt
row_within first at end (v ∷ vars) le room = (le, omega (arith, room), row_within first (at + cells_in v) end vars (omega (arith, le)) (omega (arith, room)))

row_alone : (p : VariablePlace) (at : ℕ) (vars : List Declared) → p.address + p.len ≤ at → IsAlone p (places_from at (variables_of vars))
row_alone p at [] le = tt
row_alone p at (v ∷ vars) le = (inl le, row_alone p (at + cells_in v) vars (omega (arith, le)))

row_all_alone : (at : ℕ) (vars : List Declared) → AreAlone (places_from at (variables_of vars))
row_all_alone at [] = tt
row_all_alone at (v ∷ vars) =
    (row_alone (record { name = v.name; address = at; len = cells_in v }) (at + cells_in v) vars (omega arith), row_all_alone (at + cells_in v) vars)

pub row_room : (temps size : ℕ) (vars : List Declared) → temps + cell_count vars ≤ size → LieWithin temps size (places_from temps (variables_of vars))
row_room temps size vars room = row_within temps temps size vars (omega arith) room

pub row_held : (bits addr temps : ℕ) (vars : List Declared) → InReach bits addr temps vars → HoldsVars temps vars (memory_map bits addr temps vars)
row_held bits addr temps vars h = record {
  some = h.some;
  narrow = h.narrow;
  stand = row_stands temps vars;
  within = row_room temps (2 ^ addr) vars h.reach;
  alone = row_all_alone temps vars;
}

pub row_cell_room : (bits addr temps size : ℕ) (vars : List Declared) → temps + cell_count vars ≤ size → HasCellRoom temps (memory_map bits addr temps vars) size
row_cell_room bits addr temps size vars le = record { below = omega (arith, le); within = row_room temps size vars le }
