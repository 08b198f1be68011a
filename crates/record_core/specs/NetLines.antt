-- The lines of the rules that a netlist breaks.
use Rattle.std.specs.Prelude.{ℕ, List, [], ◌∷◌, Option, Some, None, codes, drop, take_while}
use Rattle.std.specs.Fmt.{decimal}
use Rattle.std.specs.List.{concat}
use Rattle.lexing.specs.Bytes.{is_name_byte}
use Rattle.net_model.specs.declared.fault.NetFault.{NetFault}
use Rattle.net_model.specs.declared.fault.NetFault.TheVariants.{Duplicate, Unknown, Width, Driver, Cycle, Role as NoRole, Enable, ControlOp, WideSelect, AlwaysClash, Limit, PatternLarge, TooMany, FileAddr}
use Rattle.net_model.specs.declared.fault.NetKind.{NetKind}
use Rattle.net_model.specs.declared.fault.NetKind.TheVariants.{Nets, Registers, Cells, Words, File as FileCells}
use Rattle.net_model.specs.declared.fault.Role.{Role}
use Rattle.net_model.specs.declared.fault.Role.TheVariants.{Code, Memory, Pc, Size, Addr, File, Mode, Bank}

abbrev pub role_text : Role → List ℕ
role_text Code = codes "code"
role_text Memory = codes "memory"
role_text Pc = codes "pc"
role_text Size = codes "size"
role_text Addr = codes "addr"
role_text File = codes "file"
role_text Mode = codes "mode"
role_text Bank = codes "bank"

abbrev pub net_kind_text : NetKind → List ℕ
net_kind_text Nets = codes "nets"
net_kind_text Registers = codes "registers"
net_kind_text Cells = codes "cells"
net_kind_text Words = codes "words"
net_kind_text FileCells = codes "file"

-- where the name stands that the rule's line tells, if it tells one
abbrev pub name_place : NetFault → Option ℕ
name_place (Duplicate at) = Some at
name_place (Unknown at) = Some at
name_place (Width at) = Some at
name_place (Driver at) = Some at
name_place (Cycle at) = Some at
name_place (NoRole role) = None
name_place (Enable at) = Some at
name_place (ControlOp at) = Some at
name_place (WideSelect at) = Some at
name_place AlwaysClash = None
name_place (Limit kind count bound) = None
name_place (PatternLarge at) = Some at
name_place (TooMany at) = Some at
name_place (FileAddr at) = Some at

-- the name that begins there in the netlist's text
abbrev pub name_from : List ℕ → Option ℕ → List ℕ
name_from net None = []
name_from net (Some at) = take_while is_name_byte (drop at net)

-- the number of the rule and its name
abbrev pub net_rule_text : NetFault → List ℕ
net_rule_text (Duplicate at) = codes "N1 Duplicate"
net_rule_text (Unknown at) = codes "N2 Unknown"
net_rule_text (Width at) = codes "N3 Width"
net_rule_text (Driver at) = codes "N4 Driver"
net_rule_text (Cycle at) = codes "N5 Cycle"
net_rule_text (NoRole role) = codes "N6 Role"
net_rule_text (Enable at) = codes "N7 Enable"
net_rule_text (ControlOp at) = codes "N8 ControlOp"
net_rule_text (WideSelect at) = codes "N9 WideSelect"
net_rule_text AlwaysClash = codes "N10 AlwaysClash"
net_rule_text (Limit kind count bound) = codes "N11 Limit"
net_rule_text (PatternLarge at) = codes "N12 PatternLarge"
net_rule_text (TooMany at) = codes "N13 TooMany"
net_rule_text (FileAddr at) = codes "N14 FileAddr"

-- the line of a broken rule; the name is the one at the rule's offset
abbrev pub net_line : List ℕ → NetFault → List ℕ
net_line name (NoRole role) = concat (codes "error net N6 Role " ∷ role_text role ∷ codes "\n" ∷ [])
net_line name AlwaysClash = codes "error net N10 AlwaysClash\n"
net_line name (Limit kind count bound) =
    concat (codes "error net N11 Limit " ∷ net_kind_text kind ∷ codes " " ∷ decimal count
    ∷ codes " " ∷ decimal bound ∷ codes "\n" ∷ [])
net_line name fault = concat (codes "error net " ∷ net_rule_text fault ∷ codes " " ∷ name ∷ codes "\n" ∷ [])
