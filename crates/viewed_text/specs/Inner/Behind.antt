-- A text parted at its first `done`, and what is read behind it, line by line.
use Rattle.std.specs.Prelude.{ℕ, ◌≡◌, ◌⊎◌, List, [], ◌∷◌, ◌++◌, ◌+◌, codes, length, Option, None, Some}
use Rattle.std.specs.List.{AllByRecursion, concat}
use Rattle.net_model.specs.declared.hardware.Netlist.{Netlist}
use Rattle.net_model.specs.declared.hardware.Storage.{Storage}
use Rattle.rec_bits.specs.declared.fault.ParseFault.{ParseFault}
use Rattle.rec_bits.specs.declared.fault.ParseFault.TheVariants as fault
use Rattle.text_lines.specs.Fields.{◌>>=◌}
use Rattle.text_lines.specs.Lines.{lines_of}
use Rattle.code_model.specs.declared.image.Image.{Image}
use Rattle.view_lines.specs.Remarks.{RemarkModel}
use Rattle.view_lines.specs.Inner.Reading.{remark_in}
use Rattle.view_scope.specs.declared.turn.Turn.{Turn}
use Rattle.view_scope.specs.Fits.{accepts}
use Rattle.view_terms.specs.declared.stop.Stop.{Stop}
use Rattle.view_terms.specs.declared.stop.Stop.TheVariants.{Form, Memory}
use Rattle.net_model.specs.Nets.{memory_width}

-- ---- the first `done`

abbrev pub done_line : List ℕ
done_line = codes "done\n"

abbrev pub IsOther : List ℕ → Type 0
IsOther line = line ≡ done_line → ⊥

-- lines other than `done`, each without an LF before its last byte, that is one
pub record AreOthers (lines : List (List ℕ)) : Type 0 where
  pub whole : (text : List ℕ) → lines_of (concat lines ++ text) ≡ lines ++ lines_of text
  pub others : AllByRecursion IsOther lines

-- front ends with the first `done`
pub record EndsAtDone (bytes front rest : List ℕ) : Type 0 where
  pub before : List (List ℕ)
  pub others : AreOthers before
  pub front_is : front ≡ concat before ++ done_line
  pub text : bytes ≡ front ++ rest

-- there is none
pub record HasNoDone (bytes front rest : List ℕ) : Type 0 where
  pub others : AllByRecursion IsOther (lines_of bytes)
  pub all : front ≡ bytes
  pub none : rest ≡ []

abbrev pub IsParted : List ℕ → List ℕ → List ℕ → Type 0
IsParted bytes front rest = EndsAtDone bytes front rest ⊎ HasNoDone bytes front rest

-- ---- remarks

-- what a line says, and where it stands behind the last
unfoldable pub next_remark : List Storage → Image → ℕ → Option Turn → List ℕ → Option (RemarkModel × Turn)
next_remark storages image word last line =
    remark_in line >>= λ remark. accepts storages image word last remark >>= λ turn. Some (remark, turn)

-- what lines say, and the turn of the last
unfoldable pub remarks_read : List Storage → Image → ℕ → Option Turn → List (List ℕ) → Option (List RemarkModel × Option Turn)
remarks_read storages image word last [] = Some ([], last)
remarks_read storages image word last (line ∷ lines) =
    next_remark storages image word last line >>= λ next.
    remarks_read storages image word (Some next.1) lines >>= λ more. Some (next.0 ∷ more.0, more.1)

-- remarks and `done` are read
pub record AllRead (storages : List Storage) (image : Image) (word : ℕ) (text : List ℕ) (remarks : List RemarkModel) : Type 0 where
  pub before : List (List ℕ)
  pub last : Option Turn
  pub lines : lines_of text ≡ before ++ (done_line ∷ [])
  pub read : remarks_read storages image word None before ≡ Some (remarks, last)

abbrev pub IsBehindRead : List Storage → Image → ℕ → List ℕ → List RemarkModel → Type 0
IsBehindRead storages image word text remarks =
    ((remarks ≡ []) × (text ≡ [])) ⊎ AllRead storages image word text remarks

-- reading stops at the line that begins at this byte of the whole: one that is no remark, the end
-- where `done` is missing, or one behind `done`
pub data StopsAt (storages : List Storage) (image : Image) (word : ℕ) (text : List ℕ) (end at : ℕ) : Type 0 where
  at_line : (before : List (List ℕ)) (line : List ℕ) (after : List (List ℕ)) (remarks : List RemarkModel) (last : Option Turn) →
      lines_of text ≡ before ++ (line ∷ after) → remarks_read storages image word None before ≡ Some (remarks, last) →
      next_remark storages image word last line ≡ None → IsOther line → length (concat before) + end ≡ at + length text →
      StopsAt storages image word text end at
  at_end : (remarks : List RemarkModel) (last : Option Turn) →
      remarks_read storages image word None (lines_of text) ≡ Some (remarks, last) → (text ≡ [] → ⊥) → at ≡ end →
      StopsAt storages image word text end at
  behind_done : (before : List (List ℕ)) (line : List ℕ) (after : List (List ℕ)) (remarks : List RemarkModel) (last : Option Turn) →
      lines_of text ≡ before ++ (done_line ∷ line ∷ after) → remarks_read storages image word None before ≡ Some (remarks, last) →
      length (concat (before ++ (done_line ∷ []))) + end ≡ at + length text →
      StopsAt storages image word text end at

abbrev pub StopsBehind : List Storage → Image → ℕ → List ℕ → ℕ → ParseFault → Type 0
StopsBehind storages image word text end (fault.Text at) = StopsAt storages image word text end at
StopsBehind storages image word text end fault.Memory = Unit {0}

abbrev pub fault_at : Stop → ℕ → ParseFault
fault_at Form at = fault.Text at
fault_at Memory at = fault.Memory

-- ---- the same, for a netlist

abbrev pub AreReadOf : Netlist → Image → List ℕ → List RemarkModel → Type 0
AreReadOf netlist image text remarks = IsBehindRead netlist.storages image (memory_width netlist.storages) text remarks

abbrev pub StopOf : Netlist → Image → List ℕ → ℕ → ParseFault → Type 0
StopOf netlist image text end fault = StopsBehind netlist.storages image (memory_width netlist.storages) text end fault
