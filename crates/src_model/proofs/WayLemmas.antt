-- Ways on: their agreement, their fronts and their lengths.
use Rattle.std.proofs.Common.{ℕ, zero, suc, ◌≡◌, ◌≤◌, ◌<◌, ◌+◌, ◌⊎◌, inl, inr, Bool, true, false, List, [], ◌∷◌, length, take, refl, sym, ◌∙◌, ap, subst, arith, cond}
use Rattle.src_model.specs.declared.checkpoint.Checkpoint.{Checkpoint}
use Rattle.src_model.specs.declared.checkpoint.Checkpoint.TheVariants.{At, End}
use Rattle.src_model.specs.Ways.{Passed, Onward, pass, choose, turns, loop, finish}

abbrev pub end_or : Checkpoint → Bool → Bool
end_or (At tree) later = later
end_or End later = true

-- whether a list of checkpoints has the end
abbrev pub has_end : List Passed → Bool
has_end [] = false
has_end (p ∷ ps) = end_or p.label (has_end ps)

-- two ways on agree up to m checkpoints
abbrev pub Agree : ℕ → Onward → Onward → Type 0
Agree m k k' = (j : ℕ) → j ≤ m → (cells : List ℕ) → k j cells ≡ k' j cells

-- a body keeps agreement
abbrev pub Keeps : (Onward → Onward) → Type 0
Keeps body = (m : ℕ) (k k' : Onward) → Agree m k k' → Agree m (body k) (body k')

pub pass_agree : (m : ℕ) (l : Checkpoint) (k k' : Onward) → Agree m k k' → Agree (suc m) (pass l k) (pass l k')
pass_agree m l k k' h zero le cells = refl
pass_agree m l k k' h (suc j) le cells = ap (λ (rest : List Passed). record { label = l; cells = cells } ∷ rest) (h j (omega arith) cells)

pub agree_less : (m : ℕ) (n : ℕ) (k k' : Onward) → n ≤ m → Agree m k k' → Agree n k k'
agree_less m n k k' le h j lt cells = h j (omega arith) cells

pub pass_agree_here : (m : ℕ) (l : Checkpoint) (k k' : Onward) → Agree m k k' → Agree m (pass l k) (pass l k')
pass_agree_here m l k k' h = agree_less (suc m) m (pass l k) (pass l k') (omega arith) (pass_agree m l k k' h)

pub choose_agree : (m : ℕ) (test : List ℕ → Bool) (a a' b b' : Onward) → Agree m a a' → Agree m b b' → Agree m (choose test a b) (choose test a' b')
choose_agree m test a a' b b' p q j le cells =
    let x = p j le cells in
    let y = q j le cells in
    cc

-- the loop's limit
pub turns_agree : (n m : ℕ) (l : Checkpoint) (test : List ℕ → Bool) (body body' : Onward → Onward) (k k' : Onward) → ((i : ℕ) (r r' : Onward) → Agree i r r' → i ≤ m → Agree i (body r) (body' r')) → Agree m k k' → Agree m (turns n l test body k) (turns n l test body' k')
turns_agree zero m l test body body' k k' keeps h = λ j le cells. refl
turns_agree (suc n) m l test body body' k k' keeps h =
    pass_agree_here m l (choose test (body (turns n l test body k)) k) (choose test (body' (turns n l test body' k')) k')
    (choose_agree m test (body (turns n l test body k)) (body' (turns n l test body' k')) k k'
    (keeps m (turns n l test body k) (turns n l test body' k') (turns_agree n m l test body body' k k' keeps h) (omega arith)) h)

pub loop_agree : (m : ℕ) (l : Checkpoint) (test : List ℕ → Bool) (body : Onward → Onward) (k k' : Onward) → Keeps body → Agree m k k' → Agree m (loop l test body k) (loop l test body k')
loop_agree m l test body k k' keeps h j le cells = turns_agree j m l test body body k k' (λ i r r' a _. keeps i r r' a) h j le cells

pub turns_enough : (n n' j : ℕ) (l : Checkpoint) (test : List ℕ → Bool) (body : Onward → Onward) (k : Onward) → Keeps body → j ≤ n → j ≤ n' → (cells : List ℕ) → turns n l test body k j cells ≡ turns n' l test body k j cells
turns_enough zero zero j l test body k keeps p q cells = refl
turns_enough zero (suc n') zero l test body k keeps p q cells = refl
turns_enough zero (suc n') (suc j) l test body k keeps p q cells = absurd (omega arith)
turns_enough (suc n) zero zero l test body k keeps p q cells = refl
turns_enough (suc n) zero (suc j) l test body k keeps p q cells = absurd (omega arith)
turns_enough (suc n) (suc n') zero l test body k keeps p q cells = refl
turns_enough (suc n) (suc n') (suc j) l test body k keeps p q cells =
    pass_agree j l (choose test (body (turns n l test body k)) k) (choose test (body (turns n' l test body k)) k)
    (choose_agree j test (body (turns n l test body k)) (body (turns n' l test body k)) k k
    (keeps j (turns n l test body k) (turns n' l test body k)
    (λ i le now. turns_enough n n' i l test body k keeps (omega arith) (omega arith) now))
    (λ i le now. refl))
    (suc j) (omega arith) cells

-- a loop is its checkpoint, and then its body and the loop again, or what comes after it
pub loop_step : (m : ℕ) (l : Checkpoint) (test : List ℕ → Bool) (body : Onward → Onward) (k : Onward) → Keeps body → (cells : List ℕ) → loop l test body k m cells ≡ pass l (choose test (body (loop l test body k)) k) m cells
loop_step zero l test body k keeps cells = refl
loop_step (suc m) l test body k keeps cells =
    pass_agree m l (choose test (body (turns m l test body k)) k) (choose test (body (loop l test body k)) k)
    (choose_agree m test (body (turns m l test body k)) (body (loop l test body k)) k k
    (keeps m (turns m l test body k) (loop l test body k) (λ i le now. turns_enough m i i l test body k keeps le (omega arith) now))
    (λ i le now. refl))
    (suc m) (omega arith) cells

-- ---- lengths

-- so many checkpoints, or the end among them
abbrev pub IsWhole : ℕ → List Passed → Type 0
IsWhole m ps = (length ps ≡ m) ⊎ (has_end ps ≡ true)

abbrev pub Whole : ℕ → Onward → Type 0
Whole m way = (j : ℕ) → j ≤ m → (cells : List ℕ) → IsWhole j (way j cells)

whole_later : (label : Checkpoint) (m : ℕ) (cells : List ℕ) (ps : List Passed) → IsWhole m ps → IsWhole (suc m) (record { label = label; cells = cells } ∷ ps)
whole_later (At tree) m cells ps (inl e) = inl (omega arith)
whole_later (At tree) m cells ps (inr e) = inr e
whole_later End m cells ps h = inr refl

pub pass_whole : (m : ℕ) (label : Checkpoint) (next : Onward) → Whole m next → Whole (suc m) (pass label next)
pass_whole m label next h zero le cells = inl refl
pass_whole m label next h (suc j) le cells = whole_later label j cells (next j cells) (h j (omega arith) cells)

pub choose_whole : (m : ℕ) (test : List ℕ → Bool) (a b : Onward) → Whole m a → Whole m b → Whole m (choose test a b)
choose_whole m test a b p q j le cells =
    let P : Bool → Type 0 = λ t. IsWhole j (cond t (a j cells) (b j cells)) in
    elim (test cells) as P [ true ↦ p j le cells | false ↦ q j le cells ]

pub whole_less : (m : ℕ) (way : Onward) → Whole (suc m) way → Whole m way
whole_less m way h j le cells = h j (omega arith) cells

pub loop_whole : (m : ℕ) (l : Checkpoint) (test : List ℕ → Bool) (body : Onward → Onward) (k : Onward) → Keeps body → ((i : ℕ) (r : Onward) → Whole i r → Whole i (body r)) → Whole m k → Whole m (loop l test body k)
loop_whole m l test body k keeps same h zero le cells = inl refl
loop_whole zero l test body k keeps same h (suc j) le cells = absurd (omega arith)
loop_whole (suc m) l test body k keeps same h (suc j) le cells =
    subst (λ (ps : List Passed). IsWhole (suc j) ps) (sym (loop_step (suc j) l test body k keeps cells))
    (pass_whole m l (choose test (body (loop l test body k)) k)
    (choose_whole m test (body (loop l test body k)) k
    (same m (loop l test body k) (loop_whole m l test body k keeps same (whole_less m k h))) (whole_less m k h))
    (suc j) le cells)

pub finish_whole : (m : ℕ) → Whole m finish
finish_whole m zero le cells = inl refl
finish_whole m (suc j) le cells = inr refl

-- ---- fronts

-- one more checkpoint that is asked for adds at the end
abbrev pub Steady : ℕ → Onward → Type 0
Steady m way = (j : ℕ) → j < m → (cells : List ℕ) → take j (way (suc j) cells) ≡ way j cells

pub pass_steady : (m : ℕ) (l : Checkpoint) (k : Onward) → Steady m k → Steady (suc m) (pass l k)
pass_steady m l k h zero le cells = refl
pass_steady m l k h (suc j) le cells = ap (λ (rest : List Passed). record { label = l; cells = cells } ∷ rest) (h j (omega arith) cells)

pub choose_steady : (m : ℕ) (test : List ℕ → Bool) (a b : Onward) → Steady m a → Steady m b → Steady m (choose test a b)
choose_steady m test a b p q j le cells =
    let P : Bool → Type 0 = λ t. take j (cond t (a (suc j) cells) (b (suc j) cells)) ≡ cond t (a j cells) (b j cells) in
    elim (test cells) as P [ true ↦ p j le cells | false ↦ q j le cells ]

pub steady_less : (m : ℕ) (k : Onward) → Steady (suc m) k → Steady m k
steady_less m k h j le cells = h j (omega arith) cells

pub loop_steady : (m : ℕ) (l : Checkpoint) (test : List ℕ → Bool) (body : Onward → Onward) (k : Onward) → Keeps body → ((i : ℕ) (r : Onward) → Steady i r → Steady i (body r)) → Steady m k → Steady m (loop l test body k)
loop_steady zero l test body k keeps same h j le cells = absurd (omega arith)
loop_steady (suc m) l test body k keeps same h j le cells =
    rw (loop_step (suc j) l test body k keeps cells, loop_step j l test body k keeps cells)
    (pass_steady m l (choose test (body (loop l test body k)) k)
    (choose_steady m test (body (loop l test body k)) k
    (same m (loop l test body k) (loop_steady m l test body k keeps same (steady_less m k h))) (steady_less m k h))
    j le cells)

pub finish_steady : (m : ℕ) → Steady m finish
finish_steady m zero le cells = refl
finish_steady m (suc j) le cells = ap (λ (rest : List Passed). record { label = End; cells = cells } ∷ rest) (take_none j)
  where
    take_none : (i : ℕ) → take i (let none : List Passed = [] in none) ≡ []
    take_none zero = refl
    take_none (suc i) = refl

-- the front of a longer front
pub take_far : (j n : ℕ) (ps : List Passed) → j ≤ n → take j (take n ps) ≡ take j ps
take_far zero n ps le = refl
take_far (suc j) zero ps le = absurd (omega arith)
take_far (suc j) (suc n) [] le = refl
take_far (suc j) (suc n) (p ∷ ps) le = ap (λ (rest : List Passed). p ∷ rest) (take_far j n ps (omega arith))

-- more that are asked for add at the end
pub front : (way : Onward) → ((m : ℕ) → Steady m way) → (k j n : ℕ) → n ≡ j + k → (cells : List ℕ) → take j (way n cells) ≡ way j cells
front way h zero j n e cells =
    let f : j ≡ n = omega arith in
    subst (λ (x : ℕ). take j (way x cells) ≡ way j cells) f
    (sym (ap (take j) (h (suc j) j (omega arith) cells)) ∙ take_far j j (way (suc j) cells) (omega arith) ∙ h (suc j) j (omega arith) cells)
front way h (suc k) j zero e cells = absurd (omega arith)
front way h (suc k) j (suc n) e cells =
    sym (take_far j n (way (suc n) cells) (omega arith)) ∙ ap (take j) (h (suc n) n (omega arith) cells) ∙ front way h k j n (omega arith) cells
