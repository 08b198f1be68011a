-- From what the parts give to the text of a self-test, and to the refusals.
use Rattle.std.proofs.Common.{◌≡◌, ℕ, zero, suc, ◌*◌, ◌-◌, ◌<◌, ◌≤◌, ◌^◌, List, [], Some, None, length, refl, sym, ◌∙◌, ap, arith, subst}
use Rattle.std.proofs.Math.Nat.{mul-le-mul_left, mul-le-mul_right}
use Rattle.rec_bits.specs.Counts.{capped}
use Rattle.net_model.specs.CheckedRules.{KeepsRules, code_size}
use Rattle.net_model.specs.Clock.{Reached, Run, run}
use Rattle.net_model.specs.declared.hardware.Netlist.{Netlist}
use Rattle.net_model.specs.Nets.{memory_size}
use Rattle.net_model.specs.Patterns.{Pattern}
use Rattle.isa_extract.specs.Taken.{IsTakenNet}
use Rattle.net_model.specs.CheckedRules.{Ordered}
use Rattle.form_model.specs.Forms.{FormModel}
use Rattle.fault_sim.specs.Reports.{bits_of, faults_of}
use Rattle.fault_sim.proofs.Counting.{faults_counted}
use Rattle.code_gen.specs.Refusals.{IsStepless}
use Rattle.code_gen.proofs.Fitting.{codes_small}
use Rattle.self_test.specs.Cells.{test_need, test_jobs}
use Rattle.test_code.specs.Codes.{IsCodeOf}
use Rattle.test_code.specs.declared.code.TestCode.{TestCode}
use Rattle.test_code.specs.Tried.{test_stock}
use Rattle.test_code.proofs.Lengths.{made_few}
use Rattle.test_run.specs.Starts.{test_start}
use Rattle.test_run.specs.Texts.{text_of}
use Rattle.test_command.specs.Inner.Codes.{IsTestCode}
use Rattle.test_command.specs.Refusals.{HasForms, HasTestCells, IsTestable, IsTestDataFull, IsTestText, test_cost, test_count, test_limit}
use Rattle.test_command.specs.Tested.{IsRightTest}
use Rattle.test_command.specs.Texts.{IsTestFault, IsTested, LacksTest, NetHolds, tested_edition}
use Rattle.test_command.specs.declared.fault.TestFault.{TestFault}
use Rattle.test_command.specs.declared.fault.TestFault.TheVariants as fault
use Rattle.test_command.proofs.Right.{right_test}
use Rattle.test_command.proofs.TestLaws.{has_forms}

-- a count that doesn't stand at the end of its type is as it is
uncapped : (told count : ℕ) → told ≡ capped count → told < 2 ^ 64 - 1 → told ≡ count
uncapped told count e lt = omega (arith, e, lt)

-- ---- cells

module _ (netlist : Netlist) (patterns : List Pattern) (forms : List FormModel) (has : HasForms netlist patterns forms) where
  pub data_full : (need have : ℕ) → need ≡ capped (test_need netlist forms patterns) → need < 2 ^ 64 - 1 → have ≡ memory_size netlist.storages → memory_size netlist.storages < capped (test_need netlist forms patterns)
      → IsTestDataFull netlist need have
  data_full need have e lt size more = record {
    patterns = patterns;
    forms = forms;
    has = has;
    needs = uncapped need (test_need netlist forms patterns) e lt;
    size = size;
    more = omega (arith, e, size, more);
  }

  pub cells : test_need netlist forms patterns ≤ memory_size netlist.storages → HasTestCells netlist
  cells room = record { patterns = patterns; forms = forms; has = has; room = room }

  -- ---- code

  pub code_made : (code : TestCode) → IsCodeOf netlist patterns (test_stock netlist forms patterns) (test_jobs netlist forms patterns) code → test_need netlist forms patterns ≤ memory_size netlist.storages → (IsStepless netlist → ⊥) → IsTestCode netlist code
  code_made code c room steps = record {
    tried = c.tried;
    made = record { patterns = patterns; are = has.are; all = forms; reach = has.reach; forms = has.forms; trials = c.trials; code = c.words };
    tested = c.tested;
    skipped = c.skipped;
    cost = c.cost;
    fit = c.fit;
    cells = room;
    steps = steps;
  }

-- ---- how many evaluations

pub few_words_of : (netlist : Netlist) (order : List ℕ) → KeepsRules netlist order → code_size netlist.codes ≤ 65536
few_words_of netlist order keeps = codes_small netlist.codes keeps.formed.limits.words

-- by the bits of the nets
pub counted : (netlist : Netlist) (bits words : ℕ) → bits ≡ bits_of netlist.nets → 2 * bits * words * length netlist.nets ≡ test_count netlist words
counted netlist bits words e =
    ap (λ n. 2 * n * words * length netlist.nets) e ∙ ap (λ n. n * words * length netlist.nets) (sym (faults_counted 0 netlist.nets))

more_counted : (netlist : Netlist) (a b : ℕ) → a ≤ b → test_count netlist a ≤ test_count netlist b
more_counted netlist a b le =
    mul-le-mul_right (length netlist.nets) (mul-le-mul_left (length (faults_of netlist)) le)

-- ---- words

module _ (netlist : Netlist) (code : TestCode) (c : IsTestCode netlist code) where
  pub testable : IsTestable netlist
  testable = record {
    cells = record { patterns = c.made.patterns; forms = c.made.all; has = has_forms netlist c.tried code.words.items c.made; room = c.cells };
    steps = c.steps;
  }

  pub too_long : (len size bound : ℕ) → len ≡ length code.words.items → size ≡ code_size netlist.codes → size < len → bound ≡ code.cost → bound < 2 ^ 64 - 1 → LacksTest netlist (fault.ImageFull len size bound)
  too_long len size bound l s above b lt =
      let few = made_few netlist c.tried code.words.items c.made in
      let sum : bound ≡ test_cost netlist c.tried code.words.items c.made = uncapped bound (test_cost netlist c.tried code.words.items c.made) (b ∙ c.cost) lt in
      (testable, record { tried = c.tried; words = code.words.items; made = c.made; long = l; room = s; sum = sum; above = above; most = omega (arith, l, few, sum) })

  pub beyond : (len count : ℕ) → len ≡ length code.words.items → length code.words.items ≤ code_size netlist.codes → count ≡ test_count netlist len → test_limit < count → LacksTest netlist (fault.TestLimit count test_limit)
  beyond len count l room e above =
      let is : count ≡ test_count netlist (length code.words.items) = e ∙ ap (test_count netlist) l in
      let more = more_counted netlist (length code.words.items) (test_cost netlist c.tried code.words.items c.made) (made_few netlist c.tried code.words.items c.made) in
      (testable, record { tried = c.tried; words = code.words.items; made = c.made; room = room; is = is; limit = refl; above = above; costs = omega (arith, more, is, above) })

  -- ---- the run

  module _ (order : List ℕ) (keeps : KeepsRules netlist order) (room : length code.words.items ≤ code_size netlist.codes) where
    right : (good : List ℕ) × IsRightTest netlist c.tried code.words.items good
    right = right_test netlist order keeps c.tried code.words.items c.made c.cells room

    abbrev ran : Run
    ran = run netlist code.words.items (test_start netlist) (length code.words.items)

    reached : ran ≡ Reached right.1.runs.ends
    reached = right.1.runs.runs

    -- the run doesn't clash, so there is a text
    pub no_clash : None ≡ text_of netlist code.tested code.skipped code.words.items ran → ⊥
    no_clash e = let f = e ∙ ap (text_of netlist code.tested code.skipped code.words.items) reached in cc f

    pub shown : (text : List ℕ) → Some text ≡ text_of netlist code.tested code.skipped code.words.items ran → test_count netlist (length code.words.items) ≤ test_limit → IsTestText netlist text
    shown text e few =
        let f = e ∙ ap (text_of netlist code.tested code.skipped code.words.items) reached in
        let cells = right.1.runs.cells in
        let tested = c.tested in
        let skipped = c.skipped in
        record { testable = testable; tried = c.tried; words = code.words.items; good = right.0; right = right.1; room = room; few = few; is = cc (f, cells, tested, skipped) }

-- ---- bytes

module _ (net : List ℕ) (checked : Ordered) (is : IsTakenNet tested_edition net checked) where
  holds : (P : Netlist → Type 0) → P checked.netlist → NetHolds net P
  holds P h = record { entries = is.routed.entries; file = is.routed.file; taken = is.taken; holds = subst P is.routed.netlist.netlist h }

  pub tested : (text : List ℕ) → IsTestText checked.netlist text → IsTested net text
  tested text h = holds (λ netlist. IsTestText netlist text) h

  pub lacking : (told : TestFault) → LacksTest checked.netlist told → IsTestFault net told
  lacking (fault.NetText at) h = absurd h
  lacking (fault.Net broken) h = absurd h
  lacking (fault.DataFull need have) h = holds (λ netlist. LacksTest netlist (fault.DataFull need have)) h
  lacking fault.NoStep h = holds (λ netlist. LacksTest netlist fault.NoStep) h
  lacking (fault.ImageFull len size bound) h = holds (λ netlist. LacksTest netlist (fault.ImageFull len size bound)) h
  lacking (fault.TestLimit count bound) h = holds (λ netlist. LacksTest netlist (fault.TestLimit count bound)) h
  lacking fault.Memory h = tt
