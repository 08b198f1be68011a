-- The candidates of small netlists, their trees and their cells, computed.
use Rattle.std.specs.Prelude.{ℕ, ◌≡◌, refl, List, [], ◌∷◌, None, true, false}
use Rattle.rec_bits.specs.declared.operator.Op2.TheVariants.{Add, Sub}
use Rattle.net_model.specs.declared.hardware.Space.TheVariants.{Memory as InMemory}
use Rattle.net_model.specs.Exprs.{ExprModel, word, reg, const, read, bin, slice, cat, zext, sext, write, write_at}
use Rattle.net_model.specs.Patterns.{Pattern}
use Rattle.net_model.specs.Worked.{a16}
use Rattle.form_model.specs.Forms.{FormModel, into_reg, cell}
use Rattle.self_test.specs.Candidates.{is_candidate}
use Rattle.self_test.specs.Trees.{tree_from, widths_of}
use Rattle.form_model.specs.WideNodes.{wide_below}
use Rattle.self_test.specs.Cells.{test_need, test_temps, test_jobs}

abbrev f : ExprModel
f = slice (word 12) 7 0

abbrev acc : ExprModel
acc = reg 1 16

abbrev to_acc : ExprModel → Pattern
to_acc e = record { storage = 1; move = write e }

abbrev form : ℕ → FormModel
form number = record { pattern = number; goal = into_reg 1; addr = None; value = const 0 0; tied = None; fields = 0; clobbers = 0 }

-- an accumulator plus a cell is one, and so are a load, an immediate and a store
pub sum_is : is_candidate a16 (to_acc (bin Add acc (read InMemory f 16))) ≡ true
sum_is = refl

pub store_is : is_candidate a16 (record { storage = 2; move = write_at f acc }) ≡ true
store_is = refl

-- the program counter's patterns, those that name it, a read at a computed address, and a choice
-- are none
pub counter_is_none : is_candidate a16 (record { storage = 0; move = write f }) ≡ false
counter_is_none = refl

pub naming_is_none : is_candidate a16 (to_acc (zext (reg 0 8) 16)) ≡ false
naming_is_none = refl

pub indexed_is_none : is_candidate a16 (to_acc (read InMemory (slice acc 7 0) 16)) ≡ false
indexed_is_none = refl

pub joined_is_none : is_candidate a16 (to_acc (cat f f)) ≡ false
joined_is_none = refl

-- the tree of a difference: two operands in cells 5 and 6
pub difference_tree : tree_from (widths_of a16) 5 (bin Sub acc (read InMemory f 16)) ≡ bin Sub (read InMemory (const 8 5) 16) (read InMemory (const 8 6) 16)
difference_tree = refl

-- the word of all ones gives an immediate of 8 bits 255, and its extension 255 or 65,535
pub immediate_tree : tree_from (widths_of a16) 5 (zext f 16) ≡ const 16 255
immediate_tree = refl

pub signed_tree : tree_from (widths_of a16) 5 (bin Add acc (sext f 16)) ≡ bin Add (read InMemory (const 8 5) 16) (const 16 65535)
signed_tree = refl

-- two sums, one below the other: one node of 16 bits below the root, beside the cells
pub inner_nodes : wide_below 16 (tree_from (widths_of a16) 0 (bin Add (bin Add acc acc) (zext f 16))) ≡ 2
inner_nodes = refl

-- of four patterns of which the first gives no form and the third is none: cells 0 and 1 for the
-- operands of the sum, 2 for the store's, and the outputs in 3 and 4
abbrev four : List Pattern
four = to_acc (read InMemory f 16) ∷ to_acc (bin Add acc (read InMemory f 16)) ∷ record { storage = 0; move = write f }
    ∷ record { storage = 2; move = write_at f acc } ∷ []

abbrev forms : List FormModel
forms = form 1 ∷ form 1 ∷ form 2 ∷ form 3 ∷ []

pub no_temps : test_temps a16 forms four ≡ 0
no_temps = refl

pub five_cells : test_need a16 forms four ≡ 5
five_cells = refl

pub two_jobs : test_jobs a16 forms four
    ≡ record { destination = cell 3; trees = bin Add (read InMemory (const 8 0) 16) (read InMemory (const 8 1) 16) ∷ [] }
    ∷ record { destination = cell 4; trees = read InMemory (const 8 2) 16 ∷ [] } ∷ []
two_jobs = refl
