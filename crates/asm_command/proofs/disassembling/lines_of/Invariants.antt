use Rattle.std.proofs.Common.{map, take}
use Rattle.std.specs.List.{AllZip}
use Rattle.code_model.specs.declared.image.Word.{Word}
use Rattle.asm_command.specs.Disassembled.{ShowsWord}
use Rattle.asm_command.specs.Inner.Tables.{machine_of}
use Rattle.asm_command.proofs.disassembling.lines_of.Given as goal

abbrev pub invariant-loop-word : goal.invariant-loop-word
invariant-loop-word l =
    AllZip (ShowsWord (machine_of l.fn.checked.netlist l.fn.extracted)) (map (λ (word : Word). word.word) (take l.word-index l.words)) l.lines.items
