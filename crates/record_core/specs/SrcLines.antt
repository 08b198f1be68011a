-- The lines of the rules that a program breaks.
use Rattle.std.specs.Prelude.{ℕ, List, [], ◌∷◌, codes}
use Rattle.std.specs.Fmt.{decimal}
use Rattle.std.specs.List.{concat}
use Rattle.src_model.specs.declared.fault.SrcFault.{SrcFault}
use Rattle.src_model.specs.declared.fault.SrcFault.TheVariants.{Duplicate, Unknown, Width, Index, Counter, Limit}
use Rattle.src_model.specs.declared.fault.SrcKind.{SrcKind}
use Rattle.src_model.specs.declared.fault.SrcKind.TheVariants.{Length, Statements, Nodes}

abbrev pub src_kind_text : SrcKind → List ℕ
src_kind_text Length = codes "length"
src_kind_text Statements = codes "statements"
src_kind_text Nodes = codes "nodes"

-- the line of a broken rule
abbrev pub src_line : SrcFault → List ℕ
src_line (Duplicate at) = concat (codes "error source S1 Duplicate " ∷ decimal at ∷ codes "\n" ∷ [])
src_line (Unknown at) = concat (codes "error source S2 Unknown " ∷ decimal at ∷ codes "\n" ∷ [])
src_line (Width at) = concat (codes "error source S3 Width " ∷ decimal at ∷ codes "\n" ∷ [])
src_line (Index at) = concat (codes "error source S4 Index " ∷ decimal at ∷ codes "\n" ∷ [])
src_line (Counter at) = concat (codes "error source S5 Counter " ∷ decimal at ∷ codes "\n" ∷ [])
src_line (Limit kind count bound) =
    concat (codes "error source S6 Limit " ∷ src_kind_text kind ∷ codes " " ∷ decimal count
    ∷ codes " " ∷ decimal bound ∷ codes "\n" ∷ [])
