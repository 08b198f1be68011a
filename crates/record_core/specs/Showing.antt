-- What `dis` writes of an image.
use Rattle.std.specs.Prelude.{◌≡◌, ℕ, List}
use Rattle.std.specs.List.{AllZip}
use Rattle.net_model.specs.Clock.{clock}
use Rattle.net_model.specs.Widths.{IsState}
use Rattle.net_model.specs.declared.states.State.{State}
use Rattle.code_model.specs.Places.{words_of}
use Rattle.asm_command.specs.Assembled.{HasWord, IsAssembled}
use Rattle.asm_command.specs.Disassembled.{IsDisassembled}

-- the text has the line of each word of the image, of which the word is one; and whatever words
-- `asm` makes of the text, the netlist clocks on them as on those of the image, from every state
pub record IsShownText (net image text : List ℕ) : Type 0 where
  pub shown : IsDisassembled net image text
  pub lie : AllZip (λ word line. HasWord shown.machine line word) (words_of shown.said) shown.lines
  pub alike : (out : List ℕ) (made : IsAssembled net text out) (s : State) → IsState shown.machine.netlist s →
      clock shown.machine.netlist made.words s ≡ clock shown.machine.netlist (words_of shown.said) s
