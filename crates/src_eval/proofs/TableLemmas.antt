-- Tables of names, one declaration further.
use Rattle.std.proofs.Common.{◌≡◌, ℕ, ◌+◌, ◌<◌, Bool, true, false, if◌then◌else◌, is_some, unwrap_or, List, [], ◌∷◌, ◌++◌, length, take, get_or, Option, Some, None, option_copied, Bor, refl, sym, ap, ◌∙◌, arith}
use Rattle.std.specs.Map.{lookup}
use Rattle.std.proofs.lemmas.List.{take_more}
use Rattle.std.proofs.lemmas.Slice.Eq.{bytes_eq-Decides}
use Rattle.src_model.proofs.LookupLemmas.{later, later_none, later_there, lookup_append}
use Rattle.src_model.specs.declared.program.Var.{Var as Declared}
use Rattle.rec_bits.specs.Faults.{same_name}
use Rattle.src_model.specs.Meaning.{cells_in, cell_count, first_cell}
use Rattle.src_eval.specs.Inner.Tables.{cells_past, cell_of_name}

behind_later : (n : ℕ) (a : Option ℕ) (b : Bool) (k : ℕ) → cells_past n (later a (if b then Some k else None)) ≡ later (cells_past n a) (if b then Some (n + k) else None)
behind_later n (Some x) b k = refl
behind_later n None true k = refl
behind_later n None false k = refl

cell_in_append : (vars : List Declared) (v : Declared) (name : List ℕ) → cell_of_name (vars ++ v ∷ []) name ≡ later (cell_of_name vars name) (if same_name name v.name then Some (cell_count vars) else None)
cell_in_append [] v name = refl
cell_in_append (u ∷ vars) v name = by (cell_in_append vars v name) (same_name name u.name)
  where
    by : cell_of_name (vars ++ v ∷ []) name ≡ later (cell_of_name vars name) (if same_name name v.name then Some (cell_count vars) else None)
        → (b : Bool) → (if b then Some 0 else cells_past (cells_in u) (cell_of_name (vars ++ v ∷ []) name)) ≡ later (if b then Some 0 else cells_past (cells_in u) (cell_of_name vars name)) (if same_name name v.name then Some (cells_in u + cell_count vars) else None)
    by more true = refl
    by more false = ap (cells_past (cells_in u)) more ∙ behind_later (cells_in u) (cell_of_name vars name) (same_name name v.name) (cell_count vars)

count_append : (vars : List Declared) (v : Declared) → cell_count (vars ++ v ∷ []) ≡ cell_count vars + cells_in v
count_append [] v = omega arith
count_append (u ∷ vars) v = omega (arith, count_append vars v)

abbrev pub Finds : List (Bor (List ℕ) × ℕ) → List Declared → Type 0
Finds entries vars = (name : List ℕ) → lookup (λ key. same_name name key.now) entries ≡ cell_of_name vars name

-- a new name is added
finds_new : (entries : List (Bor (List ℕ) × ℕ)) (vars : List Declared) (key : Bor (List ℕ)) (v : Declared) (total : ℕ) → key.now ≡ v.name → total ≡ cell_count vars
    → Finds entries vars → Finds (entries ++ (key, total) ∷ []) (vars ++ v ∷ [])
finds_new entries vars key v total same count finds name =
    lookup_append (λ (k : Bor (List ℕ)). same_name name k.now) entries (key, total)
    ∙ (λ j. later (finds name j) (if same_name name (same j) then Some (count j) else None))
    ∙ sym (cell_in_append vars v name)

-- a name that is there already is found as before
finds_old : (entries : List (Bor (List ℕ) × ℕ)) (vars : List Declared) (v : Declared) → is_some (cell_of_name vars v.name) ≡ true → Finds entries vars → Finds entries (vars ++ v ∷ [])
finds_old entries vars v there finds name = finds name ∙ by (same_name name v.name) refl ∙ sym (cell_in_append vars v name)
  where
    by : (b : Bool) → same_name name v.name ≡ b → cell_of_name vars name ≡ later (cell_of_name vars name) (if b then Some (cell_count vars) else None)
    by true e = sym (later_there (cell_of_name vars name) (Some (cell_count vars)) (ap (λ n. is_some (cell_of_name vars n)) ((bytes_eq-Decides name v.name).0 e) ∙ there))
    by false e = sym (later_none (cell_of_name vars name))

module _ (entries : List (Bor (List ℕ) × ℕ)) (vars : List Declared) (i : ℕ) (v : Declared) (h : i < length vars) (e : v ≡ get_or vars i v) where
  front_next : take (i + 1) vars ≡ take i vars ++ v ∷ []
  front_next = take_more vars i v h ∙ ap (λ x. take i vars ++ x ∷ []) (sym e)

  pub next_new : (more : List (Bor (List ℕ) × ℕ)) (key : Bor (List ℕ)) (total : ℕ) → more ≡ entries ++ (key, total) ∷ [] → key.now ≡ v.name → total ≡ cell_count (take i vars)
      → Finds entries (take i vars) → Finds more (take (i + 1) vars)
  next_new more key total m k t finds = rw (m, front_next) (finds_new entries (take i vars) key v total k t finds)

  pub next_old : is_some (cell_of_name (take i vars) v.name) ≡ true → Finds entries (take i vars) → Finds entries (take (i + 1) vars)
  next_old there finds = rw (front_next) (finds_old entries (take i vars) v there finds)

  pub next_count : (total : ℕ) → total ≡ cell_count (take i vars) → total + cells_in v ≡ cell_count (take (i + 1) vars)
  next_count total t = ap (λ n. n + cells_in v) t ∙ sym (count_append (take i vars) v) ∙ sym (ap cell_count front_next)

-- the first cell of a name: that of the table, or else the number of all cells
pub first_is : (vars : List Declared) (name : List ℕ) → first_cell vars name ≡ unwrap_or (cell_of_name vars name) (cell_count vars)
first_is [] name = refl
first_is (v ∷ rest) name = by (first_is rest name) (same_name name v.name)
  where
    behind_is : (n k : ℕ) (o : Option ℕ) → n + unwrap_or o k ≡ unwrap_or (cells_past n o) (n + k)
    behind_is n k None = refl
    behind_is n k (Some x) = refl

    by : first_cell rest name ≡ unwrap_or (cell_of_name rest name) (cell_count rest) → (b : Bool) → (if b then 0 else cells_in v + first_cell rest name) ≡ unwrap_or (if b then Some 0 else cells_past (cells_in v) (cell_of_name rest name)) (cells_in v + cell_count rest)
    by more true = refl
    by more false = ap (λ n. cells_in v + n) more ∙ behind_is (cells_in v) (cell_count rest) (cell_of_name rest name)

-- what a look-up answers
pub there : (r : Option (Bor ℕ)) (found d : Option ℕ) → option_copied r ≡ found → found ≡ d → is_some d ≡ is_some r
there r found d a b = sym (ap is_some b) ∙ sym (ap is_some a) ∙ same r
  where
    same : (r : Option (Bor ℕ)) → is_some (option_copied r) ≡ is_some r
    same None = refl
    same (Some x) = refl

pub none_found : (found d : Option ℕ) → found ≡ d → is_some d ≡ false → found ≡ None
none_found None d a e = refl
none_found (Some x) d a e = absurd (let t : true ≡ false = ap is_some a ∙ e in cc t)
