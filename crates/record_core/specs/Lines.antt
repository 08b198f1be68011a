-- The line of each fault.
use Rattle.std.specs.Prelude.{ℕ, ◌+◌, List, [], ◌∷◌, Option, None, Some, codes, slice_index_or}
use Rattle.std.specs.Fmt.{decimal}
use Rattle.std.specs.List.{concat}
use Rattle.compile_command.specs.declared.fault.CompileFault.TheVariants.{NoCover as Uncovered, NoReach as Beyond, ImageFull as Overlong}
use Rattle.explain_command.specs.Lines.{end_line}
use Rattle.record_core.specs.CheckLines.{follow_line, rule_line}
use Rattle.record_core.specs.NetLines.{net_line, name_place, name_from}
use Rattle.record_core.specs.SrcLines.{src_line}
use Rattle.record_core.specs.declared.status.Status.{Status}
use Rattle.record_core.specs.declared.status.Status.TheVariants.{Done, Usage, ReadFault, TooLong, WriteFault, NetText, Net, SrcText, Src, NoStep, NoJump, NoCover, DataFull, NoReach, ImageFull, Memory, ImageText, MemText, Clash, AsmText, AsmWord, TestLimit, PartText, Rule, Follow}
use Rattle.record_core.specs.declared.stop.Told.{Told}
use Rattle.record_core.specs.declared.stop.Told.TheVariants.{Nothing, Bus, Name as Named}

-- the word that names this file
abbrev pub name_of_file : List (List ℕ) → ℕ → List ℕ
name_of_file words file = slice_index_or words (file + 1) []

-- the line of a status; `Done` and `WriteFault` have none. The name is the item's or the bus's that
-- a status is about
abbrev pub status_line : List (List ℕ) → List ℕ → Status → List ℕ
status_line words name Done = []
status_line words name Usage = codes "error usage\n"
status_line words name (ReadFault file) = concat (codes "error read " ∷ name_of_file words file ∷ codes "\n" ∷ [])
status_line words name (TooLong file limit) =
    concat (codes "error too long " ∷ name_of_file words file ∷ codes " " ∷ decimal limit ∷ codes "\n" ∷ [])
status_line words name WriteFault = []
status_line words name (NetText at) = concat (codes "error net text " ∷ decimal at ∷ codes "\n" ∷ [])
status_line words name (Net fault) = net_line name fault
status_line words name (SrcText at) = concat (codes "error source text " ∷ decimal at ∷ codes "\n" ∷ [])
status_line words name (Src fault) = src_line fault
status_line words name NoStep = codes "error no step\n"
status_line words name NoJump = codes "error no jump\n"
status_line words name (NoCover tree) = end_line (Uncovered tree)
status_line words name (DataFull need have) =
    concat (codes "error data full " ∷ decimal need ∷ codes " " ∷ decimal have ∷ codes "\n" ∷ [])
status_line words name (NoReach bound reach) = end_line (Beyond bound reach)
status_line words name (ImageFull len size bound) = end_line (Overlong len size bound)
status_line words name Memory = codes "error memory\n"
status_line words name (ImageText at) = concat (codes "error image text " ∷ decimal at ∷ codes "\n" ∷ [])
status_line words name (MemText at) = concat (codes "error memory text " ∷ decimal at ∷ codes "\n" ∷ [])
status_line words name (Clash cycle bus) =
    concat (codes "error clash " ∷ decimal cycle ∷ codes " " ∷ name ∷ codes "\n" ∷ [])
status_line words name (AsmText at) = concat (codes "error asm text " ∷ decimal at ∷ codes "\n" ∷ [])
status_line words name (AsmWord line) = concat (codes "error asm word " ∷ decimal line ∷ codes "\n" ∷ [])
status_line words name (TestLimit count bound) =
    concat (codes "error test limit " ∷ decimal count ∷ codes " " ∷ decimal bound ∷ codes "\n" ∷ [])
status_line words name (PartText at) = concat (codes "error part text " ∷ decimal at ∷ codes "\n" ∷ [])
status_line words name (Rule fault) = rule_line name fault
status_line words name (Follow origin cause) = follow_line name origin cause

-- where the name of the item stands that a broken rule of the netlist is about
abbrev pub name_offset : Status → Option ℕ
name_offset (Net fault) = name_place fault
name_offset _ = None

-- the name that a line tells: one that is told beside its status, or that of the item
abbrev pub told_name : List ℕ → Told → Status → List ℕ
told_name net Nothing status = name_from net (name_offset status)
told_name net (Bus at) status = name_from net (Some at)
told_name net (Named name) status = name_from name (Some 0)

-- the line that is written, of these words, this netlist's text, and what is told beside the status
abbrev pub due_line : List (List ℕ) → List ℕ → Told → Status → List ℕ
due_line words net told status = status_line words (told_name net told status) status
