-- The forms of a list that keep the mode: each is one of the list, and keeps it.
use Rattle.std.proofs.Common.{ℕ, zero, suc, ◌≡◌, inl, inr, List, [], ◌∷◌, Option, Some, None, sym, ◌∙◌, ap, subst, slice_get}
use Rattle.std.specs.Int.{bit_at}
use Rattle.rec_bits.proofs.Options.{same_Some}
use Rattle.net_model.specs.declared.hardware.Netlist.{Netlist}
use Rattle.net_model.specs.Patterns.{Pattern}
use Rattle.form_model.specs.Forms.{GoalModel, FormModel, into_reg, into_memory, into_file, jumps, branches}
use Rattle.emit_seq.specs.Settles.{IsStepping}
use Rattle.mode_set.specs.Keeping.{AreKeeping, FormKeeps, FormKeepsMode, GoalKeeps}
use Rattle.right_code.proofs.ModeKept.{AllKeep, FormsKeep}

-- each form of one list is one of another
abbrev pub ArePart : List FormModel → List FormModel → Type 0
ArePart forms all = (k : ℕ) (form : FormModel) → slice_get forms k ≡ Some form → (j : ℕ) × (slice_get all j ≡ Some form)

-- a form that is kept is one of all
pub part_of : (netlist : Netlist) (patterns : List Pattern) (o : Option ℕ) (all kept : List FormModel) → AreKeeping netlist patterns o all kept → ArePart kept all
part_of netlist patterns o [] kept h k form at = absurd (none kept h at)
  where
    none : (list : List FormModel) → list ≡ [] → slice_get list k ≡ Some form → ⊥
    none [] e f = absurd (cc f)
    none (x ∷ list) e f = absurd (cc e)
part_of netlist patterns o (r ∷ all) kept h k form at = elim h.2 as (λ _. (j : ℕ) × (slice_get (r ∷ all) j ≡ Some form)) [
  | inl x ↦ first k (ap (λ (list : List FormModel). slice_get list k) (sym x.1) ∙ at) (λ i f. part_of netlist patterns o all h.0 h.1 i form f)
  | inr x ↦ later (part_of netlist patterns o all h.0 h.1 k form (ap (λ (list : List FormModel). slice_get list k) (sym x.1) ∙ at))
]
  where
    later : (j : ℕ) × (slice_get all j ≡ Some form) → (j : ℕ) × (slice_get (r ∷ all) j ≡ Some form)
    later p = (suc p.0, p.1)

    first : (k : ℕ) → slice_get (r ∷ h.0) k ≡ Some form → ((i : ℕ) → slice_get h.0 i ≡ Some form → (j : ℕ) × (slice_get all j ≡ Some form)) → (j : ℕ) × (slice_get (r ∷ all) j ≡ Some form)
    first zero f more = (0, f)
    first (suc k) f more = later (more k f)

-- and it keeps the mode
pub kept_form : (netlist : Netlist) (patterns : List Pattern) (o : Option ℕ) (all kept : List FormModel) → AreKeeping netlist patterns o all kept → (k : ℕ) (form : FormModel) → slice_get kept k ≡ Some form → FormKeepsMode netlist patterns o form
kept_form netlist patterns o [] kept h k form at = absurd (none kept h at)
  where
    none : (list : List FormModel) → list ≡ [] → slice_get list k ≡ Some form → ⊥
    none [] e f = absurd (cc f)
    none (x ∷ list) e f = absurd (cc e)
kept_form netlist patterns o (r ∷ all) kept h k form at = elim h.2 as (λ _. FormKeepsMode netlist patterns o form) [
  | inl x ↦ first k (ap (λ (list : List FormModel). slice_get list k) (sym x.1) ∙ at) x.0 (λ i f. kept_form netlist patterns o all h.0 h.1 i form f)
  | inr x ↦ kept_form netlist patterns o all h.0 h.1 k form (ap (λ (list : List FormModel). slice_get list k) (sym x.1) ∙ at)
]
  where
    first : (k : ℕ) → slice_get (r ∷ h.0) k ≡ Some form → FormKeepsMode netlist patterns o r → ((i : ℕ) → slice_get h.0 i ≡ Some form → FormKeepsMode netlist patterns o form) → FormKeepsMode netlist patterns o form
    first zero f own more = subst (FormKeepsMode netlist patterns o) (same_Some r form f) own
    first (suc k) f own more = more k f

-- so no clobbers of it hold the mode, unless it is a jump or a branch
goal_keeps : (netlist : Netlist) (pattern : Pattern) (mode : ℕ) (form : FormModel) (k : GoalModel) → IsStepping k → GoalKeeps netlist pattern mode form k → bit_at form.clobbers mode ≡ 0
goal_keeps netlist pattern mode form (into_reg id) s h = h
goal_keeps netlist pattern mode form into_memory s h = h
goal_keeps netlist pattern mode form into_file s h = h
goal_keeps netlist pattern mode form (jumps reach) s h = absurd s
goal_keeps netlist pattern mode form (branches when_one to) s h = absurd s

pub keep_of : (netlist : Netlist) (patterns : List Pattern) (mode : ℕ) (all kept : List FormModel) → AreKeeping netlist patterns (Some mode) all kept → AllKeep mode kept
keep_of netlist patterns mode all kept h k form at step =
    let f : FormKeeps netlist patterns mode form = kept_form netlist patterns (Some mode) all kept h k form at in
    goal_keeps netlist f.pattern mode form form.goal step f.keeps

pub forms_keep : (netlist : Netlist) (patterns : List Pattern) (o : Option ℕ) (all kept : List FormModel) → AreKeeping netlist patterns o all kept → FormsKeep o kept
forms_keep netlist patterns None all kept h = tt
forms_keep netlist patterns (Some mode) all kept h = keep_of netlist patterns mode all kept h
