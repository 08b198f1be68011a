-- Tables of names, one declaration further.
use Rattle.std.proofs.Common.{◌≡◌, ℕ, ◌+◌, ◌<◌, ◌≤◌, Bool, true, false, cond, if◌then◌else◌, is_some, List, [], ◌∷◌, ◌++◌, length, take, drop, get_or, Option, Some, None, option_copied, Bor, refl, sym, ap, ◌∙◌}
use Rattle.std.specs.Map.{lookup}
use Rattle.std.proofs.lemmas.List.{take_more, drop_all}
use Rattle.std.proofs.lemmas.Slice.Eq.{bytes_eq-Decides}
use Rattle.src_model.proofs.LookupLemmas.{later, later_none, later_there, lookup_append}
use Rattle.rec_bits.specs.Faults.{lesser_offset, least, offsets_if}
use Rattle.rec_bits.proofs.Faults.{drop_item, least_append, sooner_assoc, sooner_none}
use Rattle.src_model.specs.declared.program.Var.{Var as Declared}
use Rattle.src_model.specs.Names.{declared, repeats}
use Rattle.rec_bits.specs.Faults.{same_name}
use Rattle.src_check.specs.Inner.Tables.{Finds}

declared_append : (vars : List Declared) (v : Declared) (name : List ℕ) → declared (vars ++ v ∷ []) name ≡ later (declared vars name) (if same_name name v.name then Some v else None)
declared_append [] v name = refl
declared_append (w ∷ vars) v name = by (declared_append vars v name) (same_name name w.name)
  where
    by : declared (vars ++ v ∷ []) name ≡ later (declared vars name) (if same_name name v.name then Some v else None) → (b : Bool) → (if b then Some w else declared (vars ++ v ∷ []) name) ≡ later (if b then Some w else declared vars name) (if same_name name v.name then Some v else None)
    by more true = refl
    by more false = more

copied_later : (a : Option (Bor Declared)) (b : Bool) (v : Bor Declared) → option_copied (later a (cond b (Some v) None)) ≡ later (option_copied a) (if b then Some v.now else None)
copied_later (Some x) b v = refl
copied_later None true v = refl
copied_later None false v = refl

-- a new name is added
finds_new : (entries : List (Bor (List ℕ) × Bor Declared)) (vars : List Declared) (key : Bor (List ℕ)) (v : Bor Declared) → key.now ≡ v.now.name
    → Finds entries vars → Finds (entries ++ (key, v) ∷ []) (vars ++ v.now ∷ [])
finds_new entries vars key v same finds name =
    ap option_copied (lookup_append (λ (k : Bor (List ℕ)). same_name name k.now) entries (key, v))
    ∙ copied_later (lookup (λ (k : Bor (List ℕ)). same_name name k.now) entries) (same_name name key.now) v
    ∙ ap (λ o. later o (if same_name name key.now then Some v.now else None)) (finds name)
    ∙ ap (λ n. later (declared vars name) (if same_name name n then Some v.now else None)) same
    ∙ sym (declared_append vars v.now name)

-- a name that is there already is found as before
finds_old : (entries : List (Bor (List ℕ) × Bor Declared)) (vars : List Declared) (v : Declared) → is_some (declared vars v.name) ≡ true
    → Finds entries vars → Finds entries (vars ++ v ∷ [])
finds_old entries vars v there finds name = finds name ∙ by (same_name name v.name) refl ∙ sym (declared_append vars v name)
  where
    by : (b : Bool) → same_name name v.name ≡ b → declared vars name ≡ later (declared vars name) (if b then Some v else None)
    by true e = sym (later_there (declared vars name) (Some v) (ap (λ n. is_some (declared vars n)) ((bytes_eq-Decides name v.name).0 e) ∙ there))
    by false e = sym (later_none (declared vars name))

-- what is repeated so far, one declaration further
pub repeats_next : (vars : List Declared) (i : ℕ) (v : Declared) (found all : Option ℕ) → i < length vars → v ≡ get_or vars i v
    → lesser_offset found (least (repeats (take i vars) (drop i vars))) ≡ all
    → lesser_offset (lesser_offset found (least (offsets_if (is_some (declared (take i vars) v.name)) v.at))) (least (repeats (take (i + 1) vars) (drop (i + 1) vars))) ≡ all
repeats_next vars i v found all h e k =
    let front : take (i + 1) vars ≡ take i vars ++ v ∷ [] = take_more vars i v h ∙ ap (λ x. take i vars ++ x ∷ []) (sym e) in
    sooner_assoc found (least (offsets_if (is_some (declared (take i vars) v.name)) v.at)) (least (repeats (take (i + 1) vars) (drop (i + 1) vars)))
    ∙ ap (λ l. lesser_offset found (lesser_offset (least (offsets_if (is_some (declared (take i vars) v.name)) v.at)) (least (repeats l (drop (i + 1) vars))))) front
    ∙ ap (lesser_offset found) (sym (least_append (offsets_if (is_some (declared (take i vars) v.name)) v.at) (repeats (take i vars ++ v ∷ []) (drop (i + 1) vars))))
    ∙ ap (λ l. lesser_offset found (least (repeats (take i vars) l))) (sym (drop_item vars i v h e)) ∙ k

pub repeats_end : (vars : List Declared) (i : ℕ) (found all : Option ℕ) → length vars ≤ i
    → lesser_offset found (least (repeats (take i vars) (drop i vars))) ≡ all → found ≡ all
repeats_end vars i found all h k = sym (sooner_none found) ∙ ap (λ l. lesser_offset found (least (repeats (take i vars) l))) (sym (drop_all i vars h)) ∙ k

module _ (entries : List (Bor (List ℕ) × Bor Declared)) (vars : List Declared) (i : ℕ) (v : Declared) (h : i < length vars) (e : v ≡ get_or vars i v) where
  front_next : take (i + 1) vars ≡ take i vars ++ v ∷ []
  front_next = take_more vars i v h ∙ ap (λ x. take i vars ++ x ∷ []) (sym e)

  pub next_new : (more : List (Bor (List ℕ) × Bor Declared)) (key : Bor (List ℕ)) (item : Bor Declared) → more ≡ entries ++ (key, item) ∷ [] → key.now ≡ v.name → item.now ≡ v
      → Finds entries (take i vars) → Finds more (take (i + 1) vars)
  next_new more key item m k it finds = rw (m, front_next, ← it) (finds_new entries (take i vars) key item (k ∙ ap (λ (x : Declared). x.name) (sym it)) finds)

  pub next_old : is_some (declared (take i vars) v.name) ≡ true → Finds entries (take i vars) → Finds entries (take (i + 1) vars)
  next_old there finds = rw (front_next) (finds_old entries (take i vars) v there finds)

-- what a look-up answers
pub there : (r : Option (Bor (Bor Declared))) (found : Option (Bor Declared)) (d : Option Declared) → option_copied r ≡ found → option_copied found ≡ d → is_some d ≡ is_some r
there r found d a b = sym (ap is_some b) ∙ ap (λ o. is_some (option_copied o)) (sym a) ∙ same r
  where
    same : (r : Option (Bor (Bor Declared))) → is_some (option_copied (option_copied r)) ≡ is_some r
    same None = refl
    same (Some x) = refl

pub none_found : (found : Option (Bor Declared)) (d : Option Declared) → option_copied found ≡ d → is_some d ≡ false → found ≡ None
none_found None d a e = refl
none_found (Some x) d a e = absurd (let t : true ≡ false = ap is_some a ∙ e in cc t)
