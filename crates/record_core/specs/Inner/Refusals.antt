-- Why nothing else is written: what is answered for it, and the text that is put.
use Rattle.std.specs.Prelude.{◌≡◌, ◌⊎◌, ℕ, List, [], string_bytes}
use Rattle.rec_io.specs.Shelf.{ShelfState}
use Rattle.record_core.specs.Answers.{FetchesEnd, MayAnswer, TextAnswers}
use Rattle.record_core.specs.Lines.{due_line}
use Rattle.record_core.specs.declared.refusal.Refusal.{Refusal}
use Rattle.record_core.specs.declared.refusal.Refusal.TheVariants.{Memory as Unmade, Read, Told as Lined}
use Rattle.record_core.specs.declared.status.Status.{Status}
use Rattle.record_core.specs.declared.status.Status.TheVariants.{ReadFault, Memory}
use Rattle.record_core.specs.declared.words.Command.{Command}
use Rattle.record_core.specs.declared.stop.Told.{Told}
use Rattle.record_core.specs.declared.stop.Told.TheVariants.{Nothing}

-- what is answered
abbrev pub status_of : Refusal → Status
status_of Unmade = Memory
status_of (Read file) = ReadFault file
status_of (Lined status line) = status

-- the text that is put
abbrev pub text_of : List (List ℕ) → Refusal → List ℕ
text_of words Unmade = due_line words [] Nothing Memory
text_of words (Read file) = due_line words [] Nothing (ReadFault file)
text_of words (Lined status line) = string_bytes line

-- a refusal of this status with the line that is due, or want of memory
abbrev pub IsRefusal : List (List ℕ) → List ℕ → Told → Status → Refusal → Type 0
IsRefusal words net told status refusal =
    (refusal ≡ Unmade)
    ⊎ ((status_of refusal ≡ status) × (text_of words refusal ≡ due_line words net told status))

-- the text of the command for the bytes of its files is refused so, or memory is wanting
abbrev pub RefusesText : List (List ℕ) → (Told → Status → List ℕ) → Command → List (List ℕ) → Refusal → Type 0
RefusesText words line command files refusal =
    ((status_of refusal ≡ Memory) × (text_of words refusal ≡ due_line words [] Nothing Memory))
    ⊎ TextAnswers line command files (status_of refusal) (text_of words refusal)

-- and so is what the words ask for
pub record RefusesWords (words : List (List ℕ)) (before now : ShelfState) (refusal : Refusal) : Type 0 where
  pub answer : MayAnswer words before now (status_of refusal) (text_of words refusal)
  pub fetches : FetchesEnd before now (status_of refusal)
