-- Forms whose value doesn't take a tree.
use Rattle.std.proofs.Common.{◌≡◌, ℕ, Bool, true, false, Option, Some, None, refl, sym, ap, ◌∙◌}
use Rattle.std.specs.Prelude.{if◌then◌else◌, ◌==◌}
use Rattle.std.specs.Bool.{OnFalse}
use Rattle.std.proofs.lemmas.Bool.{OnFalse_at}
use Rattle.rec_bits.specs.declared.operator.Op2.{Op2}
use Rattle.net_model.specs.Exprs.{ExprModel, const, bin}
use Rattle.form_model.specs.Trees.{is_number}
use Rattle.form_model.specs.Shapes.{is_shape}
use Rattle.form_model.specs.Forms.{FormModel, GoalModel, into_reg, into_memory, into_file, jumps, branches, DestinationModel, into, filed, cell, stored, temporary, tested}
use Rattle.form_model.specs.Matches.{MatchModel, bin_match, matched, both, address_match, goal_match, shape_match}

-- a field shape takes numbers alone
pub shown_number : (t : ExprModel) → OnFalse (is_number t) ((shape : ExprModel) → shape_match shape t ≡ None)
shown_number (const w v) = tt
shown_number _ = λ shape. refl

-- an operator takes a number as a field shape alone
pub no_number : (b : Bool) (o : Op2) (x y t : ExprModel) → b ≡ is_shape (bin o x y) → is_number t ≡ true → OnFalse b ((temps : ℕ) (whole : Bool) → matched temps (bin o x y) t whole ≡ None)
no_number true o x y t e n = tt
no_number false o x y t e n = λ temps whole. (ap (λ s. if s then shape_match (bin o x y) t else bin_match (matched temps x) (matched temps y) o t) (sym e) ∙ of_number t n (matched temps x) (matched temps y) o)
  where
    of_number : (t : ExprModel) → is_number t ≡ true → (f g : ExprModel → Bool → Option MatchModel) (o : Op2) → bin_match f g o t ≡ None
    of_number (const w v) n f g o = refl
    of_number _ n f g o = absurd (cc)

-- and anything else by its operands alone
pub no_operands_match : (b : Bool) (o : Op2) (x y t : ExprModel) → is_number t ≡ false → OnFalse b ((temps : ℕ) → bin_match (matched temps x) (matched temps y) o t ≡ None) → OnFalse b ((temps : ℕ) (whole : Bool) → matched temps (bin o x y) t whole ≡ None)
no_operands_match true o x y t n h = tt
no_operands_match false o x y t n h = λ temps whole. by (is_shape (bin o x y)) temps
  where
    shown : OnFalse (is_number t) ((shape : ExprModel) → shape_match shape t ≡ None)
    shown = shown_number t

    by : (s : Bool) (temps : ℕ) → (if s then shape_match (bin o x y) t else bin_match (matched temps x) (matched temps y) o t) ≡ None
    by true temps = OnFalse_at n shown (bin o x y)
    by false temps = h temps

no_both : (a : Option MatchModel) → both a None ≡ None
no_both None = refl
no_both (Some f) = refl

picked_none : (b : Bool) (x : Option MatchModel) → x ≡ None → (if b then x else None) ≡ None
picked_none true x e = e
picked_none false x e = refl

-- such a form takes it for no destination
pub no_value : (temps : ℕ) (form : FormModel) (kind : GoalModel) (destination : DestinationModel) (t : ExprModel) (whole : Bool) → ((w : Bool) → matched temps form.value t w ≡ None) → goal_match temps form kind destination t whole ≡ None
no_value temps form (into_reg r) (into id) t whole never = picked_none (r == id) (matched temps form.value t whole) (never whole)
no_value temps form (into_reg r) filed t whole never = refl
no_value temps form (into_reg r) (cell address) t whole never = refl
no_value temps form (into_reg r) (stored address) t whole never = refl
no_value temps form (into_reg r) temporary t whole never = refl
no_value temps form (into_reg r) tested t whole never = refl
no_value temps form into_memory (into id) t whole never = refl
no_value temps form into_memory filed t whole never = refl
no_value temps form into_memory (cell address) t whole never = ap (both (address_match temps form.addr (cell address))) (never true) ∙ no_both (address_match temps form.addr (cell address))
no_value temps form into_memory (stored address) t whole never = ap (both (address_match temps form.addr (stored address))) (never false) ∙ no_both (address_match temps form.addr (stored address))
no_value temps form into_memory temporary t whole never = ap (both (address_match temps form.addr temporary)) (never false) ∙ no_both (address_match temps form.addr temporary)
no_value temps form into_memory tested t whole never = refl
no_value temps form into_file (into id) t whole never = refl
no_value temps form into_file filed t whole never = never whole
no_value temps form into_file (cell address) t whole never = refl
no_value temps form into_file (stored address) t whole never = refl
no_value temps form into_file temporary t whole never = refl
no_value temps form into_file tested t whole never = refl
no_value temps form (jumps reach) destination t whole never = refl
no_value temps form (branches when_one to) (into id) t whole never = refl
no_value temps form (branches when_one to) filed t whole never = refl
no_value temps form (branches when_one to) (cell address) t whole never = refl
no_value temps form (branches when_one to) (stored address) t whole never = refl
no_value temps form (branches when_one to) temporary t whole never = refl
no_value temps form (branches when_one to) tested t whole never = never true
