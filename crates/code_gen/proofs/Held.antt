-- The numbers that a mode may be, and what stands in lists by modes.
use Rattle.std.proofs.Common.{◌≡◌, ◌<◌, ℕ, zero, suc, Bool, true, false, nat_lt, if◌then◌else◌, List, get_or, length, Some, refl, sym, ◌∙◌, ap, slice_get, arith}
use Rattle.std.proofs.lemmas.Bool.{ltb-true}
use Rattle.std.proofs.lemmas.Option.{slice_get-get_or, slice_get_read}
use Rattle.rec_bits.proofs.Lists.{there}
use Rattle.net_model.specs.declared.hardware.Netlist.{Netlist}
use Rattle.net_model.specs.ModeRules.{modes_in}
use Rattle.net_model.proofs.ModeFaults.{some_modes}
use Rattle.src_model.specs.Rules.{temp_count}
use Rattle.form_model.specs.declared.forms.Forms.{Forms}
use Rattle.form_model.specs.Forms.{FormModel}
use Rattle.mode_set.specs.Keeping.{CanUse, Isas, held}
use Rattle.mode_set.specs.Plans.{forms_stock, stock_at}
use Rattle.right_code.specs.Covered.{mode_stock}
use Rattle.right_code.specs.Tasks.{Task}
use Rattle.code_gen.specs.declared.views.Modes.{Modes}
use Rattle.code_gen.specs.Inner.Planning.{AreTaskModes, reach_at, reach_or_none}

-- ---- the numbers that a mode may be

pub held_is : (netlist : Netlist) (v : ℕ) → v < modes_in netlist → held netlist v ≡ v
held_is netlist zero lt = refl
held_is netlist (suc v) lt = by (nat_lt (suc v) (modes_in netlist)) refl
  where
    by : (b : Bool) → nat_lt (suc v) (modes_in netlist) ≡ b → (if b then suc v else 0) ≡ suc v
    by true e = refl
    by false e = absurd (grind (arith, e, lt))

-- a number that stands for a mode is one
pub held_small : (netlist : Netlist) (v : ℕ) → held netlist v < modes_in netlist
held_small netlist zero = some_modes netlist
held_small netlist (suc v) = by (nat_lt (suc v) (modes_in netlist)) refl
  where
    by : (b : Bool) → nat_lt (suc v) (modes_in netlist) ≡ b → (if b then suc v else 0) < modes_in netlist
    by true e = ltb-true (suc v) (modes_in netlist) e
    by false e = some_modes netlist

pub can_within : (netlist : Netlist) (all : ℕ → List FormModel) (v : ℕ) → CanUse netlist all v → v < modes_in netlist
can_within netlist all zero can = some_modes netlist
can_within netlist all (suc v) can = ltb-true (suc v) (modes_in netlist) can.0

-- what an index reads
pub read : {A : Type 0} (xs : List A) (k : ℕ) (x : A) → k < length xs → x ≡ get_or xs k x → slice_get xs k ≡ Some x
read xs k x lt is = slice_get_read xs (length xs) k x refl lt is

-- the stock of a mode is that of its forms
pub told_stock : (modes : Modes) (task : Task) (isas : Isas task.netlist) → AreTaskModes modes task isas → (temps : ℕ) → temps ≡ temp_count task.width task.program → (v : ℕ) → v < modes_in task.netlist
    → stock_at modes.forms.now temps v ≡ mode_stock task isas v
told_stock modes task isas told temps cells v lt =
    let f = there modes.forms.now v (let many = told.lists in omega (arith, lt, many)) in
    let forms = told.forms v f.0 f.1 in
    let file = told.file v f.0 f.1 in
    ap (forms_stock temps) f.1 ∙ (λ j. record { forms = forms j; temps = cells j; file = file j })

-- jumps reach as far as the first forms say
pub reach_read : (modes : Modes) (other : Forms) → 0 < length modes.forms.now → (get_or modes.forms.now 0 other).reach ≡ reach_at modes 0
reach_read modes other within = sym (ap reach_or_none (slice_get-get_or modes.forms.now 0 other within))
