-- The lines of images that aren't accepted.
use Rattle.std.specs.Prelude.{ℕ, Bool, true, false, List, [], ◌∷◌, ◌++◌, None, Some, codes}
use Rattle.std.specs.Fmt.{decimal}
use Rattle.std.specs.List.{concat}
use Rattle.check_command.specs.declared.fault.Cause.{Cause}
use Rattle.check_command.specs.declared.fault.Cause.TheVariants.{Clash, Word, Clocks, Mark as MarkAt, Variable, Written, Holding, Number, Much}
use Rattle.check_command.specs.declared.fault.Origin.{Origin}
use Rattle.check_command.specs.declared.fault.Origin.TheVariants.{Start, Mark as FromMark}
use Rattle.check_command.specs.declared.fault.RuleFault.{RuleFault}
use Rattle.check_command.specs.declared.fault.RuleFault.TheVariants.{Place, Temps, Mark, View, EndWord}
use Rattle.follow.specs.declared.mark_faults.MarkFault.{MarkFault}
use Rattle.follow.specs.declared.mark_faults.MarkFault.TheVariants.{Unmarked, End, Stray}

-- error mark NUMBER, error mark end, and error mark ADDRESS NUMBER
abbrev pub mark_line : MarkFault → List ℕ
mark_line (Unmarked tree) = concat (codes "error mark " ∷ decimal tree ∷ codes "\n" ∷ [])
mark_line End = codes "error mark end\n"
mark_line (Stray address tree) =
    concat (codes "error mark " ∷ decimal address ∷ codes " " ∷ decimal tree ∷ codes "\n" ∷ [])

-- the line of a broken rule; the name is that of the variable whose place or view is wrong
abbrev pub rule_line : List ℕ → RuleFault → List ℕ
rule_line name Place = concat (codes "error place " ∷ name ∷ codes "\n" ∷ [])
rule_line name Temps = codes "error place temps\n"
rule_line name (Mark fault) = mark_line fault
rule_line name (View address) =
    concat (codes "error view " ∷ decimal address ∷ codes " " ∷ name ∷ codes "\n" ∷ [])
rule_line name EndWord = codes "error end word\n"

-- start, or ADDRESS ANSWER
abbrev pub answer_text : Bool → List ℕ
answer_text true = codes "1"
answer_text false = codes "0"

abbrev pub origin_text : Origin → List ℕ
origin_text Start = codes "start"
origin_text (FromMark address answer) = decimal address ++ (codes " " ++ answer_text answer)

-- why; the name is that of a variable or of a storage
abbrev pub cause_text : List ℕ → Cause → List ℕ
cause_text name (Clash word) = codes "clash " ++ decimal word
cause_text name (Word word) = codes "word " ++ decimal word
cause_text name Clocks = codes "clocks"
cause_text name (MarkAt word) = codes "mark " ++ decimal word
cause_text name Variable = codes "var " ++ name
cause_text name Written = codes "written " ++ name
cause_text name (Holding None) = codes "hold " ++ name
cause_text name (Holding (Some cell)) =
    concat (codes "hold " ∷ name ∷ codes "[" ∷ decimal cell ∷ codes "]" ∷ [])
cause_text name Number = codes "know " ++ name
cause_text name Much = codes "much"

-- error follow ORIGIN CAUSE
abbrev pub follow_line : List ℕ → Origin → Cause → List ℕ
follow_line name origin cause =
    concat (codes "error follow " ∷ origin_text origin ∷ codes " " ∷ cause_text name cause ∷ codes "\n" ∷ [])
