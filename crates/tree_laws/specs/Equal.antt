-- Equal trees: one width, and one value in every memory. Tests that are equal, or opposite. Two
-- trees are *equal* where they have one width and one value in every memory whose cells fit their
-- width, since the low bits of an extended cell are the cell only there. Two tests are *opposite*
-- where the value of one is 1 less the other's.
use Rattle.std.specs.Prelude.{ℕ, ◌-◌, ◌^◌, ◌<◌, ◌≡◌, ◌==◌, if◌then◌else◌, List, [], slice_index}
use Rattle.net_model.specs.declared.states.State.{State}
use Rattle.net_model.specs.Exprs.{ExprModel, expr_width}
use Rattle.net_model.specs.Meaning.{mean}

-- the cells of a memory fit the width of its cells
abbrev pub CellsFit : ℕ → List ℕ → Type 0
CellsFit width cells = (k : ℕ) → slice_index cells k < 2 ^ width

-- a state that has this memory alone
abbrev pub memory_alone : List ℕ → State
memory_alone cells = record { regs = []; cells = cells; file = [] }

-- the value of a tree in a memory
abbrev pub value : ExprModel → List ℕ → ℕ
value t cells = mean t (memory_alone cells) 0

-- the trees have one width, and one value in every memory whose cells have so many bits
pub record AreEqual (cell : ℕ) (a b : ExprModel) : Type 0 where
  pub width : expr_width a ≡ expr_width b
  pub same : (cells : List ℕ) → CellsFit cell cells → value a cells ≡ value b cells

-- the tests have opposite values in every memory
pub record AreOpposite (cell : ℕ) (a b : ExprModel) : Type 0 where
  pub width : expr_width a ≡ expr_width b
  pub other : (cells : List ℕ) → CellsFit cell cells → value a cells ≡ 1 - value b cells

-- where a test goes on: at the first place where it is 1, and else at the second
abbrev pub next_place : ExprModel → ℕ → ℕ → List ℕ → ℕ
next_place test when_one when_zero cells = if value test cells == 1 then when_one else when_zero
