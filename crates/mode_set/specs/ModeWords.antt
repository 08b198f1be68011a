-- The words that put a number into the mode. A mode word is the least word of all patterns of
-- forms that put the number: it puts it there, steps and keeps the data memory, whatever else it
-- changes.
use Rattle.std.specs.Prelude.{ℕ, ◌≤◌, ◌≡◌, nat_le, if◌then◌else◌, List, [], ◌∷◌, Option, Some, None, slice_get, Contains}
use Rattle.net_model.specs.declared.hardware.Netlist.{Netlist}
use Rattle.net_model.specs.Meaning.{mean}
use Rattle.net_model.specs.Patterns.{IsWordOf, Pattern}
use Rattle.net_model.specs.Symbolic.{no_state}
use Rattle.net_model.specs.Exprs.{keep, write}
use Rattle.net_model.specs.Transfers.{Steps, memory_transfer}
use Rattle.form_model.specs.Forms.{FormModel}
use Rattle.form_model.specs.declared.forms.Step.{Step}
use Rattle.form_model.specs.Live.{regs_of}
use Rattle.sym_expr.specs.declared.pool.Node.{Node}
use Rattle.transfer_set.specs.Tables.{PatternTable}
use Rattle.word_fit.specs.Fits.{FitsGroup, IsLeastFit}
use Rattle.word_fit.specs.Steps.{step_operation}
use Rattle.mode_set.specs.declared.puts.ModeWord.{ModeWord}
use Rattle.mode_set.specs.Keeping.{Puts}

-- the word is of the pattern of this number, that of a form that puts the number into the mode; it
-- puts it there, steps and keeps the data memory
pub record FitsModeWord (netlist : Netlist) (special : Option ℕ) (patterns : List Pattern)
    (forms : List FormModel) (to number word : ℕ) : Type 0 where
  pub mode : ℕ
  pub is : special ≡ Some mode
  pub form : FormModel
  pub among : Contains forms form
  pub puts : Puts mode to form
  pub named : form.pattern ≡ number
  pub at : slice_get patterns form.pattern ≡ Some (record { storage = mode; move = write form.value })
  pub given : IsWordOf netlist (record { storage = mode; move = write form.value }) word
  pub value : mean form.value no_state word ≡ to
  pub steps : Steps netlist word
  pub memory : memory_transfer netlist word ≡ keep

-- the least word of all these patterns, with the number of its own
pub record IsModeWord (netlist : Netlist) (special : Option ℕ) (patterns : List Pattern)
    (forms : List FormModel) (to number word : ℕ) : Type 0 where
  pub fits : FitsModeWord netlist special patterns forms to number word
  pub least : (other more : ℕ) → FitsModeWord netlist special patterns forms to other more → word ≤ more

-- this one, or that there is none
abbrev pub IsLeastModeWord : Netlist → Option ℕ → List Pattern → List FormModel → ℕ → Option ModeWord → Type 0
IsLeastModeWord netlist special patterns forms to None =
    (number word : ℕ) → FitsModeWord netlist special patterns forms to number word → ⊥
IsLeastModeWord netlist special patterns forms to (Some w) =
    IsModeWord netlist special patterns forms to w.pattern w.word

-- the lesser of two words, and the one that is known where they are equal
abbrev pub lesser_of : Option ModeWord → Option ModeWord → Option ModeWord
lesser_of known None = known
lesser_of None (Some word) = Some word
lesser_of (Some least) (Some word) = if nat_le least.word word.word then Some least else Some word

-- the least word that fits one step alone, with nothing live behind it
abbrev pub IsStepWord : Netlist → List Node → PatternTable → Step → Option ModeWord → Type 0
IsStepWord netlist pool table step None =
    (word : ℕ) → FitsGroup netlist (step_operation pool table) word (step ∷ []) (regs_of 0) → ⊥
IsStepWord netlist pool table step (Some w) =
    (w.pattern ≡ step.pattern)
    × IsLeastFit (λ word. FitsGroup netlist (step_operation pool table) word (step ∷ []) (regs_of 0)) w.word
