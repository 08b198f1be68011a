-- What a reader of remarks says.
use Rattle.std.proofs.Common.{◌≡◌, Option, None, Some, Result, Ok, Err, refl, sym, subst, ◌∙◌, List, ℕ}
use Rattle.std.specs.Prelude.{IfOk, MatchResult}
use Rattle.std.proofs.lemmas.Option.{same_Some}
use Rattle.view_terms.specs.declared.stop.Stop.{Stop}
use Rattle.view_terms.specs.declared.stop.Stop.TheVariants.{Form, Memory}
use Rattle.view_terms.specs.Inner.Reading.{Gives}
use Rattle.view_lines.specs.declared.remark.Remark.{Remark}
use Rattle.view_lines.specs.Remarks.{RemarkModel, SaysRemark, model_of_remark}
use Rattle.view_lines.specs.Inner.Reading.{remark_in}
use Rattle.view_lines.proofs.Laws.{remark_again, remark_is}

read_again : (line : List ℕ) (said : RemarkModel) → SaysRemark line said → remark_in line ≡ Some said
read_again line said s = subst (λ l. remark_in l ≡ Some said) (sym s.line_is) (remark_again said s.fits)

pub giving_read : (line : List ℕ) (r : Result Remark Stop) → Gives model_of_remark (remark_in line) r → IfOk r (λ found. SaysRemark line (model_of_remark found))
giving_read line (Ok found) g = remark_is line (model_of_remark found) g
giving_read line (Err stop) g = tt

pub giving_only : (line : List ℕ) (r : Result Remark Stop) → Gives model_of_remark (remark_in line) r → (said : RemarkModel) → SaysRemark line said →
    MatchResult r (λ found. model_of_remark found ≡ said) (λ stop. stop ≡ Memory)
giving_only line (Ok found) g said s = same_Some (model_of_remark found) said (sym g ∙ read_again line said s)
giving_only line (Err Form) g said s = absurd (let e : None ≡ Some said = sym g ∙ read_again line said s in cc)
giving_only line (Err Memory) g said s = refl

-- and back
pub gives_of : (line : List ℕ) (r : Result Remark Stop) → IfOk r (λ found. SaysRemark line (model_of_remark found)) →
    ((said : RemarkModel) → SaysRemark line said → MatchResult r (λ found. model_of_remark found ≡ said) (λ stop. stop ≡ Memory)) → Gives model_of_remark (remark_in line) r
gives_of line (Ok found) read only = read_again line (model_of_remark found) read
gives_of line (Err Memory) read only = tt
gives_of line (Err Form) read only = step (remark_in line) (λ said e. remark_is line said e)
  where
    step : (o : Option RemarkModel) → ((said : RemarkModel) → o ≡ Some said → SaysRemark line said) → o ≡ None
    step None says = refl
    step (Some said) says = absurd (let e : Form ≡ Memory = only said (says said refl) in cc)
