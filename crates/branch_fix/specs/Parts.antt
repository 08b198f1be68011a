-- The parts of a flow: what stands at each of its places, how many words that is, and where these
-- stand. A *part* stands for each place of a flow: a block of assignments with its words, an
-- assignment inside a block, a test with its operands' words and its branch (*fork*), a jump, the
-- end. A branch is one word, followed by a jump to the other target unless that comes next; or it
-- is three words. Addresses, the number of words and the marks follow from the parts. Which of a
-- test's two targets is the branch's, its form says. Each part is that of its place: blocks and
-- tests have the number of those before them.
use Rattle.std.specs.Prelude.{ℕ, zero, suc, ◌+◌, ◌==◌, ◌≡◌, Bool, true, false, if◌then◌else◌, List, [], ◌∷◌, ◌++◌, length, map, Option, Some, None, slice_get, slice_index}
use Rattle.std.specs.List.{range_with_len}
use Rattle.code_model.specs.declared.image.Mark.{Mark}
use Rattle.form_model.specs.declared.flow.Flow.{Flow}
use Rattle.form_model.specs.declared.flow.Flow.TheVariants.{Assign, Test as Tested, Jump as Jumped, End as Ended}
use Rattle.form_model.specs.Forms.{FormModel, GoalModel, branches}
use Rattle.src_trees.specs.Blocks.{continues}
use Rattle.branch_fix.specs.declared.outline.Branch.{Branch}
use Rattle.branch_fix.specs.declared.part.LayoutPart.{LayoutPart}
use Rattle.branch_fix.specs.declared.part.LayoutPart.TheVariants.{Block, Inner, Test, Jump, End}

-- ---- what stands at a place

-- whether a branch form goes to its target where its condition is 1
abbrev pub goal_at_one : GoalModel → Bool
goal_at_one (branches when_one to) = when_one
goal_at_one _ = true

abbrev pub form_at_one : Option FormModel → Bool
form_at_one None = true
form_at_one (Some form) = goal_at_one form.goal

-- a test at a place, with its branch form and setting, where the form tells which of the two
-- targets is the branch's
abbrev pub fork_to : ℕ → ℕ → ℕ → ℕ → ℕ → ℕ → ℕ → ℕ → LayoutPart
fork_to tree block words form setting at to other =
    Test (record {
      tree = tree;
      block = block;
      words = words;
      form = form;
      setting = setting;
      to = to;
      other = other;
      next = other == at + 1;
      long = false;
    })

-- the branch that is given for a test
abbrev pub branch_or_zero : Option Branch → Branch
branch_or_zero None = record { form = 0; setting = 0 }
branch_or_zero (Some branch) = branch

abbrev pub fork_of : List FormModel → ℕ → ℕ → ℕ → Branch → ℕ → ℕ → ℕ → LayoutPart
fork_of forms tree block words branch at when_one when_zero =
    if form_at_one (slice_get forms branch.form) then fork_to tree block words branch.form branch.setting at when_one when_zero
    else fork_to tree block words branch.form branch.setting at when_zero when_one

-- ---- blocks and tests are numbered in the order of the flow

-- how many blocks begin at a place, a test's operands' among them, where it is told whether the
-- place continues the block before it
abbrev pub place_blocks : Option Flow → Bool → ℕ
place_blocks None continued = 0
place_blocks (Some (Assign tree)) continued = if continued then 0 else 1
place_blocks (Some (Tested tree when_one when_zero)) continued = 1
place_blocks (Some (Jumped to)) continued = 0
place_blocks (Some Ended) continued = 0

abbrev pub place_tests : Option Flow → ℕ
place_tests None = 0
place_tests (Some (Assign tree)) = 0
place_tests (Some (Tested tree when_one when_zero)) = 1
place_tests (Some (Jumped to)) = 0
place_tests (Some Ended) = 0

abbrev pub blocks_before : List Flow → ℕ → ℕ
blocks_before flow zero = 0
blocks_before flow (suc at) = blocks_before flow at + place_blocks (slice_get flow at) (continues flow at)

abbrev pub tests_before : List Flow → ℕ → ℕ
tests_before flow zero = 0
tests_before flow (suc at) = tests_before flow at + place_tests (slice_get flow at)

-- ---- parts

-- the part of a place, with so many blocks and tests before it
abbrev pub part_for : List FormModel → List Flow → List ℕ → List Branch → Flow → ℕ → ℕ → ℕ → LayoutPart
part_for forms flow sizes forks (Assign tree) at block test =
    if continues flow at then Inner else Block block (slice_index sizes block)
part_for forms flow sizes forks (Tested tree when_one when_zero) at block test =
    fork_of forms tree block (slice_index sizes block) (branch_or_zero (slice_get forks test)) at when_one when_zero
part_for forms flow sizes forks (Jumped to) at block test = Jump to
part_for forms flow sizes forks Ended at block test = End

abbrev pub place_part : List FormModel → List Flow → List ℕ → List Branch → Flow → ℕ → LayoutPart
place_part forms flow sizes forks f at =
    part_for forms flow sizes forks f at (blocks_before flow at) (tests_before flow at)

-- those of the places from one on, and of all
abbrev pub parts_from : List FormModel → List Flow → List ℕ → List Branch → List Flow → ℕ → List LayoutPart
parts_from forms flow sizes forks [] at = []
parts_from forms flow sizes forks (f ∷ rest) at =
    place_part forms flow sizes forks f at ∷ parts_from forms flow sizes forks rest (at + 1)

abbrev pub parts_of : List FormModel → List Flow → List ℕ → List Branch → List LayoutPart
parts_of forms flow sizes forks = parts_from forms flow sizes forks flow 0

-- ---- words and addresses

-- a branch is one word, followed by a jump to the other target unless that comes next; or it is
-- three words
abbrev pub branch_words : Bool → Bool → ℕ
branch_words next long = if long then 3 else if next then 1 else 2

abbrev pub room : LayoutPart → ℕ
room (Block block words) = words
room Inner = 0
room (Test f) = f.words + branch_words f.next f.long
room (Jump to) = 1
room End = 1

-- the address of a place: the words of all parts before it
abbrev pub address : List LayoutPart → ℕ → ℕ
address [] at = 0
address (p ∷ parts) zero = 0
address (p ∷ parts) (suc at) = room p + address parts at

-- the addresses of all places, and of the end behind them
abbrev pub starts : List LayoutPart → List ℕ
starts parts = map (address parts) (range_with_len 0 (length parts + 1))

-- the number of words
abbrev pub total : List LayoutPart → ℕ
total [] = 0
total (p ∷ parts) = room p + total parts

-- ---- marks: the first word of each test's code, and the end

abbrev pub own_marks : ℕ → LayoutPart → List Mark
own_marks at (Block block words) = []
own_marks at Inner = []
own_marks at (Test f) = record { address = at; label = Some f.tree } ∷ []
own_marks at (Jump to) = []
own_marks at End = record { address = at; label = None } ∷ []

abbrev pub marks_from : ℕ → List LayoutPart → List Mark
marks_from at [] = []
marks_from at (p ∷ parts) = own_marks at p ++ marks_from (at + room p) parts

-- ---- the parts of a flow, each by what it is

-- a part stands for a place of the flow
abbrev pub FitsPart : List FormModel → List Flow → ℕ → Flow → LayoutPart → Type 0
FitsPart forms flow at (Assign tree) (Block block words) = continues flow at ≡ false
FitsPart forms flow at (Assign tree) Inner = continues flow at ≡ true
FitsPart forms flow at (Tested tree when_one when_zero) (Test f) =
    (f.tree ≡ tree) × (f.next ≡ (f.other == at + 1))
    × (f.to ≡ (if form_at_one (slice_get forms f.form) then when_one else when_zero))
    × (f.other ≡ (if form_at_one (slice_get forms f.form) then when_zero else when_one))
FitsPart forms flow at (Jumped to) (Jump place) = place ≡ to
FitsPart forms flow at Ended End = Unit {0}
FitsPart forms flow at _ _ = ⊥

abbrev pub PartsFit : List FormModel → List Flow → ℕ → List Flow → List LayoutPart → Type 0
PartsFit forms flow at [] [] = Unit {0}
PartsFit forms flow at (f ∷ rest) (p ∷ parts) = FitsPart forms flow at f p × PartsFit forms flow (at + 1) rest parts
PartsFit forms flow at _ _ = ⊥
