-- The text of a self-test.
use Rattle.std.specs.Prelude.{ℕ, ◌+◌, List, [], ◌∷◌, ◌++◌, codes, length, Bool, true, false, if◌then◌else◌}
use Rattle.std.specs.List.{concat, flat_map}
use Rattle.std.specs.Fmt.{decimal}
use Rattle.rec_bits.specs.Operators.{bit_of}
use Rattle.text_lines.specs.Digits.{bytes_of, hex_of}
use Rattle.fault_sim.specs.declared.fault.Fault.{Fault}
use Rattle.fault_sim.specs.declared.finding.Finding.{Finding}
use Rattle.fault_sim.specs.declared.finding.Finding.TheVariants.{Clash, Detected, Unseen}

-- how many candidates are tested and how many are skipped, and how many words there are
abbrev pub head_lines : ℕ → ℕ → ℕ → List ℕ
head_lines tested skipped words =
    concat (codes "tested " ∷ decimal tested ∷ codes "\nskipped " ∷ decimal skipped
    ∷ codes "\nwords " ∷ decimal words ∷ codes "\n" ∷ [])

-- word ADDRESS HEX, where a word has so many bytes
abbrev pub word_line : ℕ → ℕ → ℕ → List ℕ
word_line bytes address word =
    concat (codes "word " ∷ decimal address ∷ codes " " ∷ hex_of bytes word ∷ codes "\n" ∷ [])

-- the lines of words from an address on
abbrev pub word_lines : ℕ → ℕ → List ℕ → List ℕ
word_lines bytes address [] = []
word_lines bytes address (word ∷ words) = word_line bytes address word ++ word_lines bytes (address + 1) words

abbrev pub fault_line : ℕ → List ℕ
fault_line faults = concat (codes "faults " ∷ decimal faults ∷ codes "\n" ∷ [])

-- detect NET BIT VALUE CELL, or clash NET BIT VALUE, and nothing for a fault that isn't seen
abbrev pub finding_line : Fault → Finding → List ℕ
finding_line fault (Detected cell) =
    concat (codes "detect " ∷ decimal fault.net ∷ codes " " ∷ decimal fault.bit ∷ codes " "
    ∷ decimal (bit_of fault.value) ∷ codes " " ∷ decimal cell ∷ codes "\n" ∷ [])
finding_line fault Clash =
    concat (codes "clash " ∷ decimal fault.net ∷ codes " " ∷ decimal fault.bit ∷ codes " "
    ∷ decimal (bit_of fault.value) ∷ codes "\n" ∷ [])
finding_line fault Unseen = []

abbrev pub fault_lines : Fault × Finding → List ℕ
fault_lines f = finding_line f.0 f.1

abbrev pub is_detected : Finding → Bool
is_detected (Detected cell) = true
is_detected finding = false

-- how many faults are detected
abbrev pub detected_count : List (Fault × Finding) → ℕ
detected_count [] = 0
detected_count (f ∷ found) = (if is_detected f.1 then 1 else 0) + detected_count found

abbrev pub end_lines : ℕ → List ℕ
end_lines detected = concat (codes "detected " ∷ decimal detected ∷ codes "\ndone\n" ∷ [])

-- the text, of words of so many bits and of what they show of each fault
abbrev pub report_text : ℕ → ℕ → ℕ → List ℕ → List (Fault × Finding) → List ℕ
report_text bits tested skipped words found =
    concat (head_lines tested skipped (length words) ∷ word_lines (bytes_of bits) 0 words
    ∷ fault_line (length found) ∷ flat_map fault_lines found ∷ end_lines (detected_count found) ∷ [])
