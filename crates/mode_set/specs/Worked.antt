-- What an assignment costs in the two modes of a processor whose adder subtracts in mode 1.
use Rattle.std.proofs.Common.{arith}
use Rattle.std.specs.Prelude.{◌≡◌, ◌≤◌, refl, true, false, [], ◌∷◌, ℕ, zero, suc, Some, None}
use Rattle.std.specs.Int.{bit_at}
use Rattle.rec_bits.specs.declared.operator.Op2.TheVariants.{Add, Sub}
use Rattle.net_model.specs.declared.hardware.Space.TheVariants.{Memory as InMemory}
use Rattle.net_model.specs.Exprs.{ExprModel, const, read, bin, reg, slice, word}
use Rattle.form_model.specs.Forms.{FormModel, into_reg, into_memory, into, cell}
use Rattle.form_model.specs.Matches.{MatchModel, in_register, operand, taken}
use Rattle.form_model.specs.CoverModels.{CoverModel, use_form, no_operands, operand_then, no_cuts}
use Rattle.form_model.specs.Covers.{IsOrderly, StockModel}
use Rattle.mode_set.specs.Keeping.{Puts}
use Rattle.mode_set.specs.Costs.{CoversIn, mode_cost}

abbrev f : ExprModel
f = slice (word 12) 7 0

abbrev acc : ExprModel
acc = reg 1 16

-- ---- the forms of S16 that the assignment needs, as the patterns of the mode are numbered

abbrev load : FormModel
load = record { pattern = 3; goal = into_reg 1; addr = None; value = read InMemory f 16; fields = 255; clobbers = 3; tied = None }

abbrev adding : FormModel
adding = record { pattern = 3; goal = into_reg 1; addr = None; value = bin Add acc (read InMemory f 16); fields = 255; clobbers = 3; tied = None }

abbrev subtracting : FormModel
subtracting = record { pattern = 4; goal = into_reg 1; addr = None; value = bin Sub acc (read InMemory f 16); fields = 255; clobbers = 3; tied = None }

abbrev store : FormModel
store = record { pattern = 7; goal = into_memory; addr = Some f; value = acc; fields = 255; clobbers = 9; tied = None }

-- in mode 0 the sum comes before the load
abbrev load_in_zero : FormModel
load_in_zero = record { pattern = 4; goal = into_reg 1; addr = None; value = read InMemory f 16; fields = 255; clobbers = 3; tied = None }

abbrev in_zero : StockModel
in_zero = record { forms = adding ∷ load_in_zero ∷ store ∷ []; temps = 0; file = 0 }

abbrev in_one : StockModel
in_one = record { forms = load ∷ subtracting ∷ store ∷ []; temps = 0; file = 0 }

-- S := slice(I,0,0) puts 1 and 0 into the mode, and keeps nothing of it
abbrev putting : FormModel
putting = record { pattern = 6; goal = into_reg 2; addr = None; value = slice (word 12) 0 0; fields = 1; clobbers = 5; tied = None }

puts_one : Puts 2 1 putting
puts_one = record { goal = refl; shape = refl; shown = refl }

puts_zero : Puts 2 0 putting
puts_zero = record { goal = refl; shape = refl; shown = refl }

loses_mode : bit_at putting.clobbers 2 ≡ 1
loses_mode = refl

keeps_mode : bit_at subtracting.clobbers 2 ≡ 0
keeps_mode = refl

-- ---- x = a - b, where a, b and x are the cells 0, 1 and 2

abbrev difference : ExprModel
difference = bin Sub (read InMemory (const 8 0) 16) (read InMemory (const 8 1) 16)

-- load, subtract, store
abbrev worked_cover : CoverModel
worked_cover = use_form 2 (operand_then 0 (use_form 1 (operand_then 0 (use_form 0 no_operands no_cuts) no_operands) no_cuts) no_operands) no_cuts

abbrev stored_match : MatchModel
stored_match = record { setting = 2; leaves = operand (in_register 1) difference true ∷ [] }

abbrev computed_match : MatchModel
computed_match = record { setting = 1; leaves = operand (in_register 1) (read InMemory (const 8 0) 16) false ∷ [] }

abbrev loaded_match : MatchModel
loaded_match = record { setting = 0; leaves = [] }

covered : IsOrderly in_one (cell 2) difference true worked_cover
covered = (
  store,
  refl,
  stored_match,
  refl,
  (
    record { home = in_register 1; tree = difference; whole = true },
    refl,
    (
      subtracting,
      refl,
      computed_match,
      refl,
      (
        record { home = in_register 1; tree = read InMemory (const 8 0) 16; whole = false },
        refl,
        (load, refl, loaded_match, refl, refl, refl),
        refl,
        refl,
      ),
      refl,
    ),
    refl,
    refl,
  ),
  refl,
)

-- it costs 5 in mode 1: three steps and two mode words
cost_in_one : mode_cost 1 (cell 2) worked_cover ≡ 5
cost_in_one = refl

abbrev stock_in : ℕ → StockModel
stock_in zero = in_zero
stock_in (suc v) = in_one

covers_in_one : CoversIn stock_in (λ v. v ≤ 1) (cell 2) (difference ∷ []) 1 (record { which = 0; cover = worked_cover })
covers_in_one = record {
  can = omega arith;
  may = tt;
  covers = record { tree = difference; used = refl; orderly = covered; enough = omega arith };
}

-- no form of mode 0 takes a difference into the accumulator
not_added : taken 0 adding (into 1) difference true ≡ None
not_added = refl

not_loaded : taken 0 load_in_zero (into 1) difference true ≡ None
not_loaded = refl

-- a sum costs 3 in mode 0, and would cost 5 where mode 1 had it
cost_in_zero : mode_cost 0 (cell 2) worked_cover ≡ 3
cost_in_zero = refl
