-- Registers of a netlist and of its expressions.
use Rattle.std.proofs.Common.{◌≡◌, ◌↔◌, ℕ, zero, suc, ◌<◌, ◌≤◌, true, false, true≢false, List, [], ◌∷◌, Option, Some, None, length, slice_get, slice_index, subst, refl, sym, ◌∙◌, arith}
use Rattle.net_model.specs.declared.hardware.Storage.{Storage}
use Rattle.net_model.specs.declared.hardware.Storage.TheVariants.{Register, Memory, File}
use Rattle.net_model.specs.Nets.{IsRegister}
use Rattle.form_set.specs.Words.{is_register_storage}
use Rattle.net_model.specs.declared.hardware.Netlist.{Netlist}
use Rattle.net_model.specs.Exprs.{ExprModel, reg}
use Rattle.transfer_set.specs.TextMarks.{IsExprOf}

pub reg_within : (netlist : Netlist) (t : ExprModel) (id width : ℕ) → t ≡ reg id width → IsExprOf netlist t → length netlist.storages ≤ 15 → id < 16
reg_within netlist t id width e h few = (let q = subst (IsExprOf netlist) e h in omega (arith, q.0, few))

-- past the end of a list of numbers
pub index_none : (xs : List ℕ) (i : ℕ) → None ≡ slice_get xs i → 0 ≡ slice_index xs i
index_none [] i e = refl
index_none (x ∷ xs) zero e = absurd (cc)
index_none (x ∷ xs) (suc i) e = index_none xs i e

-- a register, computed
pub register_is : (o : Option Storage) → (is_register_storage o ≡ true) ↔ IsRegister o
register_is None = ((λ e. absurd (true≢false (sym e))), λ h. absurd h)
register_is (Some (Register name width input when)) = ((λ e. tt), λ h. refl)
register_is (Some (Memory cells)) = ((λ e. absurd (true≢false (sym e))), λ h. absurd h)
register_is (Some (File cells)) = ((λ e. absurd (true≢false (sym e))), λ h. absurd h)

pub no_register : (o : Option Storage) → is_register_storage o ≡ false → IsRegister o → ⊥
no_register o e h = true≢false (sym ((register_is o).1 h) ∙ e)
