-- The views of remarks, one remark after the other.
use Rattle.std.proofs.Common.{List, ◌++◌, Option, Some}
use Rattle.net_model.specs.declared.hardware.Storage.{Storage}
use Rattle.text_lines.specs.Fields.{◌>>=◌}
use Rattle.view_lines.specs.Remarks.{RemarkModel}
use Rattle.view_parts.specs.Said.{ViewModel, views_said}

-- the views so far, and those of the remarks that are left
abbrev pub said_on : List Storage → List ViewModel → List RemarkModel → Option (List ViewModel)
said_on storages got remarks = views_said storages remarks >>= λ more. Some (got ++ more)
