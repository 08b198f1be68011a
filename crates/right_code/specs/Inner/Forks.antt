-- The words of tests and jumps.
use Rattle.std.specs.Prelude.{ℕ, ◌+◌, ◌^◌, ◌<◌, ◌≡◌, ◌⊎◌, Bool, true, false, if◌then◌else◌, bit_and, bit_or, List, length, Option, Some, slice_get}
use Rattle.std.specs.List.{AllByRecursion}
use Rattle.code_model.specs.Words.{KeepsMode}
use Rattle.net_model.specs.declared.hardware.Netlist.{Netlist}
use Rattle.net_model.specs.Exprs.{ExprModel, reg, bin, select, expr_width, write, EitherNext}
use Rattle.rec_bits.specs.declared.operator.Op2.TheVariants.{Add}
use Rattle.net_model.specs.Nets.{counter_of, counter_width}
use Rattle.net_model.specs.Patterns.{Pattern}
use Rattle.code_model.specs.declared.image.Image.{Image}
use Rattle.code_model.specs.Places.{words_of}
use Rattle.net_model.specs.Fields.{fields}
use Rattle.form_model.specs.Shapes.{is_shape, shape_setting}
use Rattle.form_model.specs.Forms.{FormModel, TargetModel, absolute, relative, branches, tested}
use Rattle.form_model.specs.Covers.{StockModel, JobCoverModel}
use Rattle.compaction.specs.Laws.{operation_in}
use Rattle.form_model.specs.declared.forms.Step.{Step}
use Rattle.form_model.specs.Live.{Regs}
use Rattle.form_model.specs.Steps.{branch_setting}
use Rattle.emit_seq.specs.Formed.{MeansAlike}
use Rattle.emit_seq.specs.Spares.{wanted}
use Rattle.word_fit.specs.Fits.{fits_over, FitsJump}
use Rattle.word_fit.specs.Groups.{GroupsFit}
use Rattle.word_fit.specs.Runs.{StandAt}
use Rattle.compaction.specs.Meant.{MeansSteps}
use Rattle.src_trees.specs.Lowered.{JobModel}
use Rattle.branch_fix.specs.Made.{image_word}
use Rattle.branch_fix.specs.Rounds.{distance}
use Rattle.branch_fix.specs.declared.part.BranchedTest.{BranchedTest}
use Rattle.right_code.specs.Jobs.{tree_used, job_steps, IsCovered}
use Rattle.right_code.specs.Forks.{cover_form}

-- one of two terms, and the other one
abbrev pub one_side : Bool → ExprModel → ExprModel → ExprModel
one_side b x y = if b then x else y

-- the program counter plus 1
abbrev pub IsNextExpr : Netlist → ExprModel → Type 0
IsNextExpr netlist e = EitherNext (counter_of netlist.codes) (counter_width netlist) (λ next. e ≡ next)

-- what a branch form goes to: an address that the word shows, or one that lies so far behind as the
-- word shows
abbrev pub IsTargetExpr : Netlist → TargetModel → ExprModel → Type 0
IsTargetExpr netlist (absolute shape) e = e ≡ shape
IsTargetExpr netlist (relative shape) e =
    (is_shape shape ≡ true) × (expr_width shape ≡ counter_width netlist)
    × ((e ≡ bin Add (reg (counter_of netlist.codes) (counter_width netlist)) shape)
    ⊎ (e ≡ bin Add shape (reg (counter_of netlist.codes) (counter_width netlist))))

-- a branch form and its pattern: PC := select(c, target, step) or PC := select(c, step, target),
-- with no bit both in the condition and the target
pub record IsBranchForm (netlist : Netlist) (patterns : List Pattern) (form : FormModel)
    (when_one : Bool) (way : TargetModel) : Type 0 where
  pub goal : form.goal ≡ branches when_one way
  pub condition : ExprModel
  pub target : ExprModel
  pub step : ExprModel
  pub is : slice_get patterns form.pattern
      ≡ Some (record {
        storage = counter_of netlist.codes;
        move = write (select condition (one_side when_one target step) (one_side when_one step target));
      })
  pub goes : IsTargetExpr netlist way target
  pub steps : IsNextExpr netlist step
  pub alike : MeansAlike form.value condition
  pub same_fields : fields form.value ≡ fields condition
  pub apart : bit_and (fields condition) (fields target) ≡ 0

-- a jump form and its pattern
pub record IsJumpForm (netlist : Netlist) (patterns : List Pattern) (form : FormModel) : Type 0 where
  pub is : slice_get patterns form.pattern
      ≡ Some (record { storage = counter_of netlist.codes; move = write form.value })

-- the word is one of a jump form to an address
pub record IsJumpMade (netlist : Netlist) (special : Option ℕ) (patterns : List Pattern) (i to : ℕ) : Type 0 where
  pub jump : FormModel
  pub form : IsJumpForm netlist patterns jump
  pub bits : ℕ
  pub shown : shape_setting jump.value to ≡ Some bits
  pub word : FitsJump netlist i (operation_in netlist patterns (record { pattern = jump.pattern; setting = bits }))
  pub mode : KeepsMode special netlist i

-- the bits for a target: an absolute one is shown as it stands, a relative one, which is an
-- address, as its distance, or as the two words to the jump behind a long branch
abbrev pub IsTargetShown : Netlist → TargetModel → ℕ → ℕ → Bool → ℕ → Type 0
IsTargetShown netlist (absolute shape) from to long bits = (long ≡ false) × (shape_setting shape to ≡ Some bits)
IsTargetShown netlist (relative shape) from to true bits = shape_setting shape 2 ≡ Some bits
IsTargetShown netlist (relative shape) from to false bits =
    (to < 2 ^ counter_width netlist) × (shape_setting shape (distance (expr_width shape) from to) ≡ Some bits)

-- a test's job: nothing is stored
abbrev pub test_of : JobModel → JobModel
test_of job = record { destination = tested; trees = job.trees }

-- the words behind a branch word
abbrev pub BehindMade : Netlist → Option ℕ → List Pattern → Image → Bool → Bool → ℕ → ℕ → ℕ → Type 0
BehindMade netlist special patterns image next true at to other =
    IsJumpMade netlist special patterns (image_word image (at + 1)) other
    × IsJumpMade netlist special patterns (image_word image (at + 2)) to
BehindMade netlist special patterns image true false at to other = Unit {0}
BehindMade netlist special patterns image false false at to other =
    IsJumpMade netlist special patterns (image_word image (at + 1)) other

-- the words of a test's operands fit groups, which mean the steps of its cover where the registers
-- of the condition are live behind them
pub record IsTestMade (netlist : Netlist) (special : Option ℕ) (patterns : List Pattern)
    (stock : StockModel) (image : Image) (job : JobModel) (choice : JobCoverModel) (at n : ℕ) : Type 0 where
  pub covered : IsCovered stock (test_of job) choice
  pub live : Regs
  pub groups : List (List Step)
  pub means : MeansSteps netlist (operation_in netlist patterns) live (job_steps stock (test_of job) choice) groups
  pub words : List ℕ
  pub fit : GroupsFit (operation_in netlist patterns) (fits_over netlist (operation_in netlist patterns)) words groups live
  pub long : n ≡ length words
  pub stand : StandAt (words_of image) at words
  pub kept : AllByRecursion (KeepsMode special netlist) words
  pub wants : (r : ℕ) → wanted stock tested (tree_used (test_of job) choice) choice.cover r ≡ true → live r ≡ true

-- those, the branch word, whose bits are those of the condition and of the target, and the jumps
-- behind it
pub record IsForkMade (netlist : Netlist) (special : Option ℕ) (patterns : List Pattern)
    (stock : StockModel) (image : Image) (job : JobModel) (when_one : Bool) (f : BranchedTest) (at to other : ℕ) : Type 0 where
  pub choice : JobCoverModel
  pub operands : IsTestMade netlist special patterns stock image job choice at f.words
  pub way : TargetModel
  pub form : IsBranchForm netlist patterns (cover_form stock choice.cover) when_one way
  pub bits : ℕ
  pub shown : IsTargetShown netlist way (at + f.words) to f.long bits
  pub word : FitsJump netlist (image_word image (at + f.words))
      (operation_in netlist patterns (record {
        pattern = (cover_form stock choice.cover).pattern;
        setting = bit_or (branch_setting stock (tree_used (test_of job) choice) choice.cover) bits;
      }))
  pub mode : KeepsMode special netlist (image_word image (at + f.words))
  pub behind : BehindMade netlist special patterns image f.next f.long (at + f.words) to other
