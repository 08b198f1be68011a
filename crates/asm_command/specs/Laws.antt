-- What follows of texts that are disassembled, as statements. Such a text is read as the same
-- lines, is refused for want of memory alone, and what is assembled of it clocks as the image
-- does.
use Rattle.std.specs.Prelude.{◌≡◌, ℕ, List}
use Rattle.net_model.specs.declared.states.State.{State}
use Rattle.net_model.specs.Clock.{clock}
use Rattle.net_model.specs.Widths.{IsState}
use Rattle.code_model.specs.Places.{words_of}
use Rattle.asm_command.specs.Assembled.{IsAssembled, IsAssembleFault, SaysText}
use Rattle.asm_command.specs.Disassembled.{IsDisassembled}
use Rattle.asm_command.specs.declared.fault.AsmFault.{AsmFault}

-- the text that is written of lines says these lines
abbrev pub ReadsAgain : Type 0
ReadsAgain =
    (net image text : List ℕ) (shown : IsDisassembled net image text) → SaysText shown.machine text shown.lines

-- and each of them has a word, so that it is assembled wherever there is memory
abbrev pub IsTaken : Type 0
IsTaken =
    (net image text : List ℕ) → IsDisassembled net image text → (fault : AsmFault) →
    IsAssembleFault net text fault → fault ≡ AsmFault.Memory

-- the words that are assembled of it clock as those of the image do, in every state
abbrev pub ClocksAlike : Type 0
ClocksAlike =
    (net image text out : List ℕ) (shown : IsDisassembled net image text) (made : IsAssembled net text out) →
    (s : State) → IsState shown.machine.netlist s →
    clock shown.machine.netlist made.words s ≡ clock shown.machine.netlist (words_of shown.said) s
