-- What remarks say: the views of variables, and what is hidden, each in the order of its lines.
use Rattle.std.specs.Prelude.{ℕ, List, [], ◌∷◌, Option, None, Some}
use Rattle.net_model.specs.Exprs.{ExprModel, model_of_expr}
use Rattle.net_model.specs.declared.hardware.Storage.{Storage}
use Rattle.code_model.specs.declared.views.Hidden.{Hidden}
use Rattle.code_model.specs.declared.views.View.{View}
use Rattle.text_lines.specs.Fields.{◌>>=◌}
use Rattle.view_lines.specs.Remarks.{RemarkModel, hide, view, hold, know}
use Rattle.view_terms.specs.Terms.{TermModel}
use Rattle.view_parts.specs.Parts.{part_of}

-- a view, without the addresses of boxes
pub record ViewModel : Type 0 where
  pub address : ℕ
  pub name : List ℕ
  pub value : ExprModel

abbrev pub model_of_view : View → ViewModel
model_of_view v = record { address = v.address; name = v.name; value = model_of_expr v.value }

-- a view of a variable by a term
unfoldable pub view_said : List Storage → ℕ → List ℕ → TermModel → Option ViewModel
view_said storages address name value =
    part_of storages value >>= λ part. Some (record { address = address; name = name; value = part })

-- the views, where the term of each stands for an expression
unfoldable pub views_said : List Storage → List RemarkModel → Option (List ViewModel)
views_said storages [] = Some []
views_said storages (hide label name ∷ remarks) = views_said storages remarks
views_said storages (hold address holder value ∷ remarks) = views_said storages remarks
views_said storages (know address name value ∷ remarks) = views_said storages remarks
views_said storages (view address name value ∷ remarks) =
    view_said storages address name value >>= λ seen. views_said storages remarks >>= λ views.
    Some (seen ∷ views)

-- what is hidden
unfoldable pub hidden_said : List RemarkModel → List Hidden
hidden_said [] = []
hidden_said (hide label name ∷ remarks) = record { label = label; name = name } ∷ hidden_said remarks
hidden_said (view address name value ∷ remarks) = hidden_said remarks
hidden_said (hold address holder value ∷ remarks) = hidden_said remarks
hidden_said (know address name value ∷ remarks) = hidden_said remarks
