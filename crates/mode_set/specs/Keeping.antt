-- The forms of a mode that keep the mode, those that put a number into it, and the modes that can
-- be used. A form *keeps the mode* where its clobbers don't hold the mode register; a jump or a
-- branch where every setting has a word that keeps the data memory and the mode. Exactly those of
-- a list, in their order (`AreKeeping`); all of them in a netlist without a mode register. What a
-- netlist is told in a mode (`Isa`): its patterns there, all its forms, and those that keep the
-- mode; and so in each mode (`Isas`), where a number that the mode can't hold stands for 0. A form
-- *puts* a number into the mode where it goes into the mode register and its value is a field
-- shape that shows the number. Mode 0 can be used, and another one where mode 0 has a form that
-- puts it and it has one that puts 0.
use Rattle.std.specs.Prelude.{ℕ, zero, suc, ◌≡◌, ◌⊎◌, nat_lt, if◌then◌else◌, true, List, [], ◌∷◌, Option, Some, None, slice_get, Contains}
use Rattle.std.specs.Int.{bit_at}
use Rattle.net_model.specs.declared.hardware.Netlist.{Netlist}
use Rattle.net_model.specs.Nets.{IsRegister}
use Rattle.net_model.specs.Patterns.{ArePatterns, Pattern}
use Rattle.form_model.specs.Shapes.{is_shape_in, shows}
use Rattle.form_model.specs.Forms.{GoalModel, FormModel, into_reg, into_memory, into_file, jumps, branches}
use Rattle.form_set.specs.Listing.{AreForms}
use Rattle.form_set.specs.Words.{CanTurn}
use Rattle.net_model.specs.ModeRules.{base_at, modes_in}

-- ---- forms that keep the mode

-- the clobbers of a form that goes into a register or into cells don't hold the mode; for a jump or
-- a branch every setting has a word that keeps the data memory and the mode
abbrev pub GoalKeeps : Netlist → Pattern → ℕ → FormModel → GoalModel → Type 0
GoalKeeps netlist pattern mode form (into_reg id) = bit_at form.clobbers mode ≡ 0
GoalKeeps netlist pattern mode form into_memory = bit_at form.clobbers mode ≡ 0
GoalKeeps netlist pattern mode form into_file = bit_at form.clobbers mode ≡ 0
GoalKeeps netlist pattern mode form (jumps reach) = CanTurn netlist pattern mode
GoalKeeps netlist pattern mode form (branches when_one to) = CanTurn netlist pattern mode

-- the form keeps the mode
pub record FormKeeps (netlist : Netlist) (patterns : List Pattern) (mode : ℕ) (form : FormModel) : Type 0 where
  pub pattern : Pattern
  pub at : slice_get patterns form.pattern ≡ Some pattern
  pub keeps : GoalKeeps netlist pattern mode form form.goal

-- each form of a netlist without a mode register does
abbrev pub FormKeepsMode : Netlist → List Pattern → Option ℕ → FormModel → Type 0
FormKeepsMode netlist patterns None form = Unit {0}
FormKeepsMode netlist patterns (Some mode) form = FormKeeps netlist patterns mode form

-- exactly those of a list that keep the mode, in their order
abbrev pub AreKeeping : Netlist → List Pattern → Option ℕ → List FormModel → List FormModel → Type 0
AreKeeping netlist patterns special [] kept = kept ≡ []
AreKeeping netlist patterns special (form ∷ forms) kept =
    (later : List FormModel) × AreKeeping netlist patterns special forms later
    × ((FormKeepsMode netlist patterns special form × (kept ≡ form ∷ later))
    ⊎ ((FormKeepsMode netlist patterns special form → ⊥) × (kept ≡ later)))

-- ---- what a netlist is told in a mode

-- the instruction set of a netlist in the mode v: its patterns, all its forms, and those that keep the mode
pub record Isa (netlist : Netlist) (v : ℕ) : Type 0 where
  pub patterns : List Pattern
  pub are : ArePatterns (base_at netlist v) patterns
  pub all : List FormModel
  pub most : ℕ
  pub forms : AreForms (base_at netlist v) patterns all most
  pub keeping : List FormModel
  pub kept : AreKeeping (base_at netlist v) patterns netlist.special all keeping

-- the storage that holds the mode, where there is one, is a register
abbrev pub IsModeRegister : Option ℕ → Netlist → Type 0
IsModeRegister None netlist = Unit {0}
IsModeRegister (Some mode) netlist = IsRegister (slice_get netlist.storages mode)

-- a number that the mode may be, and 0 for others
abbrev pub held : Netlist → ℕ → ℕ
held netlist zero = 0
held netlist (suc v) = if nat_lt (suc v) (modes_in netlist) then suc v else 0

-- an instruction set for each mode; a netlist without a mode register has one
abbrev pub Isas : Netlist → Type 0
Isas netlist = (v : ℕ) → Isa netlist (held netlist v)

-- ---- modes that can be used

-- the form puts a number into the mode: it goes into the mode register, and its value is a field
-- shape that shows the number. The netlist of a mode is of the first edition
pub record Puts (mode v : ℕ) (form : FormModel) : Type 0 where
  pub goal : form.goal ≡ into_reg mode
  pub shape : is_shape_in 1 form.value ≡ true
  pub shown : shows form.value v ≡ true

-- some form of these puts a number into the mode
pub record CanPut (special : Option ℕ) (forms : List FormModel) (to : ℕ) : Type 0 where
  pub mode : ℕ
  pub is : special ≡ Some mode
  pub form : FormModel
  pub among : Contains forms form
  pub puts : Puts mode to form

-- mode 0 can be used, and another where mode 0 can put it and it can put 0 back; `all` gives all forms
-- of each mode
abbrev pub CanUse : Netlist → (ℕ → List FormModel) → ℕ → Type 0
CanUse netlist all zero = Unit {0}
CanUse netlist all (suc v) =
    (nat_lt (suc v) (modes_in netlist) ≡ true)
    × CanPut netlist.special (all 0) (suc v) × CanPut netlist.special (all (suc v)) 0

abbrev pub IsUsable : (netlist : Netlist) → Isas netlist → ℕ → Type 0
IsUsable netlist isas = CanUse netlist (λ v. (isas v).all)
