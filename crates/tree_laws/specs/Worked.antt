-- Trees that are equal, and trees that aren't.
use Rattle.std.specs.Prelude.{◌≡◌, refl, [], ◌∷◌}
use Rattle.rec_bits.specs.declared.operator.Op2.TheVariants.{Eq, Ltu}
use Rattle.net_model.specs.declared.hardware.Space.TheVariants.{Memory as InMemory}
use Rattle.net_model.specs.Exprs.{ExprModel, const, read, bin, slice, zext, sext}
use Rattle.tree_laws.specs.Equal.{AreEqual, value, next_place}

-- a cell of 8 bits
abbrev cell : ExprModel
cell = read InMemory (const 8 1) 8

-- the low byte of the cell with zeros above is the cell's low byte
equal_trees : AreEqual 8 (slice (zext cell 16) 3 0) (slice cell 3 0)
equal_trees = record { width = refl; same = λ cells h. refl }

-- with zeros and with copies of the top bit above, in a memory that holds 128 there
zeros_above : value (zext cell 16) (0 ∷ 128 ∷ []) ≡ 128
zeros_above = refl

signs_above : value (sext cell 16) (0 ∷ 128 ∷ []) ≡ 65408
signs_above = refl

-- a test and its opposite with exchanged targets, in that memory
test_goes : next_place (bin Eq cell (const 8 0)) 5 9 (0 ∷ 128 ∷ []) ≡ 9
test_goes = refl

opposite_goes : next_place (bin Ltu (const 8 0) cell) 9 5 (0 ∷ 128 ∷ []) ≡ 9
opposite_goes = refl
