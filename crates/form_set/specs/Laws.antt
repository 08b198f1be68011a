-- What the forms of a netlist promise, as statements: what a form of the list is, words of a plain
-- form, expressions of one width and one meaning, when a list has no form of a kind.
use Rattle.std.specs.Prelude.{◌≡◌, ◌≢◌, ◌↔◌, ℕ, ◌^◌, ◌<◌, true, bit_and, List, Some, slice_get}
use Rattle.std.specs.Int.{bit_at}
use Rattle.net_model.specs.declared.hardware.Netlist.{Netlist}
use Rattle.net_model.specs.declared.hardware.Space.TheVariants.{File as InFile}
use Rattle.net_model.specs.declared.states.State.{State}
use Rattle.net_model.specs.Fields.{fields}
use Rattle.net_model.specs.Meaning.{mean}
use Rattle.net_model.specs.Nets.{IsRegister, counter_of, place_in, word_width}
use Rattle.net_model.specs.Patterns.{Pattern}
use Rattle.net_model.specs.Exprs.{ExprModel}
use Rattle.form_model.specs.Forms.{FormModel}
use Rattle.form_model.specs.Shapes.{IsReach, ShapeFits, is_shape, reach_of, shape_setting}
use Rattle.sym_expr.specs.Pools.{ExprFits}
use Rattle.transfer_set.specs.TextMarks.{IsExprOf}
use Rattle.form_set.specs.Listing.{AreForms, IsJump, IsPlain}
use Rattle.form_set.specs.Promises.{HasWords, IsForm, no_jumps, only_control}
use Rattle.operand_swaps.specs.Swaps.{SidesModel, swapped}
use Rattle.form_set.specs.Words.{AreClobbers}

-- patterns have one list of forms, and one greatest reach
abbrev pub FormsAreOne : Type 0
FormsAreOne =
    (netlist : Netlist) (patterns : List Pattern) (forms others : List FormModel) (reach other : ℕ) →
    AreForms netlist patterns forms reach → AreForms netlist patterns others other → (forms ≡ others) × (reach ≡ other)

-- each form of the list is that of the pattern whose number it has, plain, a jump or a branch
abbrev pub FormsAreOfPatterns : Type 0
FormsAreOfPatterns =
    (netlist : Netlist) (patterns : List Pattern) (forms : List FormModel) (reach : ℕ) →
    AreForms netlist patterns forms reach →
    (k : ℕ) (form : FormModel) → slice_get forms k ≡ Some form → IsForm netlist reach 0 patterns form

-- for every setting of a plain pattern some word does its transfer, steps, and changes nothing that
-- code sees but what it writes and the clobbers
abbrev pub SettingsHaveWords : Type 0
SettingsHaveWords =
    (netlist : Netlist) (pattern : Pattern) (clobbers : ℕ) → IsPlain netlist pattern →
    AreClobbers netlist pattern clobbers → HasWords netlist pattern clobbers

-- what a pattern writes is among its clobbers, unless it is the file
abbrev pub ClobbersHaveOwn : Type 0
ClobbersHaveOwn =
    (netlist : Netlist) (pattern : Pattern) (clobbers : ℕ) → AreClobbers netlist pattern clobbers →
    pattern.storage ≢ place_in InFile netlist.storages → bit_at clobbers pattern.storage ≡ 1

-- and so is the program counter
abbrev pub ClobbersHaveCounter : Type 0
ClobbersHaveCounter =
    (netlist : Netlist) (pattern : Pattern) (clobbers : ℕ) →
    IsRegister (slice_get netlist.storages (counter_of netlist.codes)) →
    IsPlain netlist pattern → AreClobbers netlist pattern clobbers → bit_at clobbers (counter_of netlist.codes) ≡ 1

-- a list has no form but jumps and branches exactly where no pattern is plain
abbrev pub NoPlainForm : Type 0
NoPlainForm =
    (netlist : Netlist) (patterns : List Pattern) (forms : List FormModel) (reach : ℕ) →
    AreForms netlist patterns forms reach →
    (only_control forms ≡ true)
    ↔ ((k : ℕ) (pattern : Pattern) → slice_get patterns k ≡ Some pattern → IsPlain netlist pattern → ⊥)

-- and no jump form exactly where no pattern is a jump
abbrev pub NoJumpForm : Type 0
NoJumpForm =
    (netlist : Netlist) (patterns : List Pattern) (forms : List FormModel) (reach : ℕ) →
    AreForms netlist patterns forms reach →
    (no_jumps forms ≡ true)
    ↔ ((k : ℕ) (pattern : Pattern) → slice_get patterns k ≡ Some pattern → IsJump netlist pattern → ⊥)

-- the bits that give a shape a value are bits of the shape, and each word with these bits gives it
-- the value
abbrev pub SettingsAreOfShapes : Type 0
SettingsAreOfShapes =
    (bits : ℕ) (shape : ExprModel) → is_shape shape ≡ true → ShapeFits bits shape → (value setting : ℕ) →
    shape_setting shape value ≡ Some setting →
    (bit_and setting (fields shape) ≡ setting)
    × ((s : State) (word : ℕ) → word < 2 ^ bits → bit_and word (fields shape) ≡ setting → mean shape s word ≡ value)

-- the reach that is told of a jump is the least address that no word gives its target
abbrev pub ReachIsExact : Type 0
ReachIsExact =
    (netlist : Netlist) (pattern : Pattern) (h : IsJump netlist pattern) →
    IsExprOf netlist h.target → ExprFits h.target →
    IsReach (word_width netlist) h.target (reach_of h.target)
