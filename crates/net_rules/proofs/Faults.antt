-- The first rule that is broken, where those before it are kept.
use Rattle.std.proofs.Common.{◌≡◌, ℕ, List, Option, Some, None, Result, Ok, Err, IfOk}
use Rattle.rec_bits.specs.Faults.{least}
use Rattle.net_model.specs.declared.fault.NetFault.{NetFault}
use Rattle.net_model.specs.declared.fault.NetFault.TheVariants.{Duplicate, Unknown, Width, Driver}
use Rattle.net_model.specs.Written.{UnitModel}
use Rattle.net_model.specs.NameRules.{duplicates, unknowns}
use Rattle.net_model.specs.WidthRules.{misfits}
use Rattle.net_model.specs.DriverRules.{undrivens}
use Rattle.net_model.specs.LimitRules.{limit_fault}
use Rattle.rec_bits.specs.Faults.{or_else}
use Rattle.net_model.specs.TextRules.{first_fault}
use Rattle.rec_bits.specs.Faults.{fault_at}

abbrev chain : Option ℕ → Option ℕ → Option ℕ → Option ℕ → Option NetFault → Option NetFault
chain d u m v l = or_else (fault_at Duplicate d) (or_else (fault_at Unknown u) (or_else (fault_at Width m) (or_else (fault_at Driver v) l)))

module _ (edition : ℕ) (text : List UnitModel) (known : None ≡ least (duplicates text)) where
  pub unknown_first : (at : ℕ) → Some at ≡ least (unknowns text) → Some (Unknown at) ≡ first_fault edition text
  unknown_first at h = λ j. chain (known j) (h j) (least (misfits text)) (least (undrivens text)) (limit_fault edition text)

  module _ (named : None ≡ least (unknowns text)) where
    pub misfit_first : (at : ℕ) → Some at ≡ least (misfits text) → Some (Width at) ≡ first_fault edition text
    misfit_first at h = λ j. chain (known j) (named j) (h j) (least (undrivens text)) (limit_fault edition text)

    module _ (fits : None ≡ least (misfits text)) where
      pub undriven_first : (at : ℕ) → Some at ≡ least (undrivens text) → Some (Driver at) ≡ first_fault edition text
      undriven_first at h = λ j. chain (known j) (named j) (fits j) (h j) (limit_fault edition text)

      pub limit_first : None ≡ least (undrivens text) → (fault : Option NetFault) → fault ≡ limit_fault edition text → fault ≡ first_fault edition text
      limit_first driven fault h = λ j. chain (known j) (named j) (fits j) (driven j) (h j)

-- what holds of an answer, by what is known of it
pub if_ok_map : {A E : Type 0} {P Q : A → Type 0} (r : Result A E) → ((a : A) → P a → Q a) → IfOk r P → IfOk r Q
if_ok_map (Ok a) f h = f a h
if_ok_map (Err e) f h = tt
