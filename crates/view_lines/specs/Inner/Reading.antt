-- From a line to what it says, step by step.
use Rattle.std.specs.Prelude.{ℕ, ◌==◌, if◌then◌else◌, List, length, codes, Option, None, Some}
use Rattle.std.specs.Str.{bytes_eq}
use Rattle.text_lines.specs.Fields.{parts_at, number_of, is_name, line_end, ◌>>=◌}
use Rattle.image_items.specs.Reading.{number_before, label_of}
use Rattle.view_terms.specs.Inner.Reading.{whole_term}
use Rattle.view_lines.specs.declared.remark.Holder.{Holder}
use Rattle.view_lines.specs.declared.remark.Holder.TheVariants.{Register, Cell}
use Rattle.view_lines.specs.Remarks.{RemarkModel, hide, view, hold, know}

unfoldable pub name_in : List ℕ → Option (List ℕ)
name_in text = if is_name text then Some text else None

unfoldable pub hide_parts : List ℕ → Option (Option ℕ × List ℕ)
hide_parts text =
    parts_at 32 text >>= λ parts. label_of parts.0 >>= λ label. line_end parts.1 >>= λ end. Some (label, end)

unfoldable pub addressed : List ℕ → Option (ℕ × List ℕ × List ℕ)
addressed text =
    number_before 32 text >>= λ address. parts_at 32 address.1 >>= λ subject. line_end subject.1 >>= λ end.
    Some (address.0, subject.0, end)

unfoldable pub cell_number : List ℕ → Option ℕ
cell_number text = number_before 93 text >>= λ parts. if length parts.1 == 0 then Some parts.0 else None

unfoldable pub cell_in : List ℕ → List ℕ → Option Holder
cell_in cells text = cell_number text >>= λ at. name_in cells >>= λ name. Some (Cell name at)

unfoldable pub register_in : List ℕ → Option Holder
register_in text = name_in text >>= λ name. Some (Register name)

abbrev pub held_in : List ℕ → Option (List ℕ × List ℕ) → Option Holder
held_in text (Some parts) = cell_in parts.0 parts.1
held_in text None = register_in text

unfoldable pub holder_in : List ℕ → Option Holder
holder_in text = held_in text (parts_at 91 text)

unfoldable pub hide_remark : List ℕ → Option RemarkModel
hide_remark text = hide_parts text >>= λ parts. name_in parts.1 >>= λ name. Some (hide parts.0 name)

unfoldable pub view_remark : List ℕ → Option RemarkModel
view_remark text =
    addressed text >>= λ parts. name_in parts.1 >>= λ name. whole_term parts.2 >>= λ value.
    Some (view parts.0 name value)

unfoldable pub hold_remark : List ℕ → Option RemarkModel
hold_remark text =
    addressed text >>= λ parts. holder_in parts.1 >>= λ holder. whole_term parts.2 >>= λ value.
    Some (hold parts.0 holder value)

unfoldable pub know_remark : List ℕ → Option RemarkModel
know_remark text =
    addressed text >>= λ parts. number_of parts.2 >>= λ value. name_in parts.1 >>= λ name.
    Some (know parts.0 name value)

unfoldable pub said_by : List ℕ → List ℕ → Option RemarkModel
said_by keyword text =
    if bytes_eq keyword (codes "hide") then hide_remark text
    else if bytes_eq keyword (codes "view") then view_remark text
    else if bytes_eq keyword (codes "hold") then hold_remark text
    else if bytes_eq keyword (codes "know") then know_remark text
    else None

unfoldable pub remark_in : List ℕ → Option RemarkModel
remark_in line = parts_at 32 line >>= λ parts. said_by parts.0 parts.1
