-- A netlist has one list of forms, as it has one of patterns, and one instruction set in each mode.
use Rattle.std.proofs.Common.{ℕ, ◌≡◌, inl, inr, List, [], ◌∷◌, Option, sym, ◌∙◌, ap, subst}
use Rattle.net_model.specs.declared.hardware.Netlist.{Netlist}
use Rattle.net_model.specs.Patterns.{Pattern}
use Rattle.form_model.specs.Forms.{FormModel}
use Rattle.form_set.specs.Listing.{AreForms}
use Rattle.form_set.proofs.OneList.{forms_one}
use Rattle.transfer_set.proofs.OnePatterns.{patterns_one}
use Rattle.mode_set.specs.Keeping.{AreKeeping, Isa, Isas, held}
use Rattle.net_model.specs.ModeRules.{base_at}
use Rattle.right_code.specs.Forms.{AreFormsOf}

pub forms_of_one : (netlist : Netlist) (forms others : List FormModel) (reach other : ℕ) → AreFormsOf netlist forms reach → AreFormsOf netlist others other → (forms ≡ others) × (reach ≡ other)
forms_of_one netlist forms others reach other a b =
    forms_one netlist b.patterns forms others reach other
    (subst (λ ps. AreForms netlist ps forms reach) (patterns_one netlist a.patterns b.patterns a.are b.are) a.forms) b.forms

-- ---- forms that keep the mode

pub kept_one : (netlist : Netlist) (patterns : List Pattern) (o : Option ℕ) (all kept others : List FormModel) → AreKeeping netlist patterns o all kept → AreKeeping netlist patterns o all others → kept ≡ others
kept_one netlist patterns o [] kept others h k = h ∙ sym k
kept_one netlist patterns o (form ∷ all) kept others h k =
    elim h.2 as (λ _. kept ≡ others) [
      | inl x ↦ elim k.2 as (λ _. kept ≡ others) [
        | inl y ↦ x.1 ∙ ap (λ (list : List FormModel). form ∷ list) (kept_one netlist patterns o all h.0 k.0 h.1 k.1) ∙ sym y.1
        | inr y ↦ absurd (y.0 x.0)
      ]
      | inr x ↦ elim k.2 as (λ _. kept ≡ others) [
        | inl y ↦ absurd (x.0 y.0)
        | inr y ↦ x.1 ∙ kept_one netlist patterns o all h.0 k.0 h.1 k.1 ∙ sym y.1
      ]
    ]

-- ---- instruction sets

module _ (netlist : Netlist) (v : ℕ) (a b : Isa netlist v) where
  patterns_alike : a.patterns ≡ b.patterns
  patterns_alike = patterns_one (base_at netlist v) a.patterns b.patterns a.are b.are

  pub all_alike : a.all ≡ b.all
  all_alike =
      (forms_one (base_at netlist v) b.patterns a.all b.all a.most b.most
      (subst (λ ps. AreForms (base_at netlist v) ps a.all a.most) patterns_alike a.forms) b.forms).0

  pub keeping_alike : a.keeping ≡ b.keeping
  keeping_alike =
      kept_one (base_at netlist v) b.patterns netlist.special b.all a.keeping b.keeping
      (subst (λ list. AreKeeping (base_at netlist v) b.patterns netlist.special list a.keeping) all_alike
      (subst (λ ps. AreKeeping (base_at netlist v) ps netlist.special a.all a.keeping) patterns_alike a.kept)) b.kept

-- in every mode
pub all_one : (netlist : Netlist) (a b : Isas netlist) → ◌≡◌ {A = ℕ → List FormModel} (λ v. (a v).all) (λ v. (b v).all)
all_one netlist a b = λ j v. all_alike netlist (held netlist v) (a v) (b v) j

pub keeping_one : (netlist : Netlist) (a b : Isas netlist) (v : ℕ) → (a v).keeping ≡ (b v).keeping
keeping_one netlist a b v = keeping_alike netlist (held netlist v) (a v) (b v)
