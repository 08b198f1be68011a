-- What the steps of a cover may change beside their destinations, and what they read. Apart from
-- its own destination a step's clobbers hold no register that is live after it; each register that
-- a step or a test's condition reads is the destination of an earlier step; no step reads or
-- writes the program counter.
use Rattle.std.specs.Prelude.{ℕ, ◌≡◌, ◌==◌, ◌||◌, true, false, if◌then◌else◌, List, [], ◌∷◌, Option, Some, slice_get}
use Rattle.net_model.specs.Exprs.{ExprModel}
use Rattle.net_model.specs.Patterns.{Pattern}
use Rattle.form_model.specs.declared.forms.Step.{Step}
use Rattle.form_model.specs.Forms.{FormModel, into_reg, DestinationModel, tested}
use Rattle.form_model.specs.CoverModels.{CoverModel}
use Rattle.form_model.specs.Covers.{StockModel}
use Rattle.form_model.specs.Effects.{Operation, operation_of, register, reads, writes, expr_reads}
use Rattle.form_model.specs.Live.{Regs, no_regs, regs_of, AllSpare}
use Rattle.form_model.specs.Steps.{cover_steps, branch_setting}
use Rattle.emit_seq.specs.Leaves.{condition_of}

-- the clobbers of a pattern's forms, which all have the same
abbrev pub clobbers_of : List FormModel → ℕ → ℕ
clobbers_of [] pattern = 0
clobbers_of (form ∷ forms) pattern = if form.pattern == pattern then form.clobbers else clobbers_of forms pattern

-- the registers that a step may change, its own among them
abbrev pub step_clobbers : List FormModel → Step → Regs
step_clobbers forms step = regs_of (clobbers_of forms step.pattern)

-- forms of one pattern have the same clobbers
abbrev pub AreShared : List FormModel → Type 0
AreShared forms =
    (j k : ℕ) (a b : FormModel) → slice_get forms j ≡ Some a → slice_get forms k ≡ Some b →
    a.pattern ≡ b.pattern → a.clobbers ≡ b.clobbers

-- a form that puts something into this register, the program counter, reads it: what it puts there
-- is the next address
abbrev pub ReadsCounter : List FormModel → ℕ → Type 0
ReadsCounter forms pc =
    (k : ℕ) (form : FormModel) → slice_get forms k ≡ Some form → form.goal ≡ into_reg pc →
    (i : ℕ) × (expr_reads i form.value (register pc) ≡ true)

-- each register that a step reads is known or the destination of an earlier step, and so is each
-- that is wanted after the last
abbrev pub AreDefined : {A : Type 0} → (A → Operation) → Regs → List A → Regs → Type 0
AreDefined m known [] after = (r : ℕ) → after r ≡ true → known r ≡ true
AreDefined m known (x ∷ xs) after =
    ((r : ℕ) → reads (m x) (register r) ≡ true → known r ≡ true)
    × AreDefined m (λ r. known r || writes (m x) r) xs after

-- no step reads or writes this register
abbrev pub AreApart : {A : Type 0} → (A → Operation) → ℕ → List A → Type 0
AreApart m pc [] = Unit {0}
AreApart m pc (x ∷ xs) = (reads (m x) (register pc) ≡ false) × (writes (m x) pc ≡ false) × AreApart m pc xs

-- the registers that are wanted after the steps: those that a test's condition reads, and otherwise
-- none
abbrev pub wanted : StockModel → DestinationModel → ExprModel → CoverModel → Regs
wanted stock tested tree cover = λ r. expr_reads (branch_setting stock tree cover) (condition_of stock cover) (register r)
wanted stock destination tree cover = no_regs

-- apart from its own destination, a step's clobbers hold no register whose value is still needed;
-- all that is read was put there by an earlier step; and the program counter takes no part
pub record AreSpare (stock : StockModel) (file : Option ℕ) (patterns : List Pattern) (pc : ℕ) (destination : DestinationModel)
    (tree : ExprModel) (cover : CoverModel) : Type 0 where
  pub spare : AllSpare (operation_of file patterns) (step_clobbers stock.forms)
      (cover_steps stock destination tree cover) (wanted stock destination tree cover)
  pub given : AreDefined (operation_of file patterns) no_regs (cover_steps stock destination tree cover)
      (wanted stock destination tree cover)
  pub apart : AreApart (operation_of file patterns) pc (cover_steps stock destination tree cover)
  pub unwanted : wanted stock destination tree cover pc ≡ false
