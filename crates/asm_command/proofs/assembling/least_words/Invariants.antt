use Rattle.std.proofs.Common.{take}
use Rattle.std.specs.List.{AllZip}
use Rattle.isa_extract.specs.Extraction.{IsExtractedFrom}
use Rattle.asm_command.specs.Assembled.{HasLeastWord}
use Rattle.asm_command.specs.Inner.Tables.{KeepsPatterns, machine_of}
use Rattle.asm_command.proofs.assembling.least_words.Given as goal

-- the lines so far have their least words
abbrev pub invariant-loop-number : goal.invariant-loop-number
invariant-loop-number l = record {
  extracted : IsExtractedFrom l.checked.netlist l.extracted;
  kept : KeepsPatterns l.initial.extracted l.extracted;
  least : AllZip (HasLeastWord (machine_of l.checked.netlist l.initial.extracted)) (take l.number l.lines) l.words;
}
