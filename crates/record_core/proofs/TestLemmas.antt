-- What `test` answers for the text of a netlist.
use Rattle.std.proofs.Common.{◌≡◌, ◌⊎◌, ℕ, List, inl, inr, refl}
use Rattle.net_model.specs.declared.hardware.Netlist.{Netlist}
use Rattle.net_model.specs.declared.fault.NetFault.{NetFault}
use Rattle.net_parser.specs.Texts.{IsNoNetText}
use Rattle.isa_extract.specs.Taken.{BreaksAnyTaken}
use Rattle.isa_extract.proofs.RoutedTaken.{no_text_fault_where_taken}
use Rattle.code_gen.specs.Refusals.{IsStepless}
use Rattle.test_command.proofs.TestLaws.{cells_of, no_broken, no_full, no_net_text, no_stepless, testable_of_text, weaker}
use Rattle.test_command.specs.Refusals.{HasTestCells, IsBeyondLimit, IsTestable, IsTestDataFull, IsTestTooLong}
use Rattle.test_command.specs.Texts.{IsTested, IsTestFault, LacksTest, NetHolds, tested_edition}
use Rattle.test_command.specs.declared.fault.TestFault.{TestFault}
use Rattle.test_command.specs.declared.fault.TestFault.TheVariants as testing
use Rattle.record_core.proofs.StageLemmas.{By-none, Just-none, Then-past}
use Rattle.record_core.specs.Answers.{TestAnswers, TestEnds}
use Rattle.record_core.specs.Inner.Statuses.{test_status}
use Rattle.record_core.specs.Stages.{By, Just, Then}
use Rattle.record_core.specs.declared.status.Status.{Status}
use Rattle.record_core.specs.declared.status.Status.TheVariants.{DataFull, Done, ImageFull, Memory, Net, NetText, NoStep, TestLimit}

module _ (line : Status → List ℕ) (net : List ℕ) where
  -- the later stages, by what the netlist has
  abbrev full : Status → Type 0
  full = By (λ (p : ℕ × ℕ). DataFull p.0 p.1) (λ (p : ℕ × ℕ). NetHolds net (λ netlist. IsTestDataFull netlist p.0 p.1))

  abbrev stepless : Status → Type 0
  stepless = Just NoStep (NetHolds net IsStepless)

  abbrev step_answers : Status → List ℕ → Type 0
  step_answers = Then line stepless (TestEnds line net)

  abbrev cell_answers : Status → List ℕ → Type 0
  cell_answers = Then line full step_answers

  past_net : (P : Netlist → Type 0) → NetHolds net P → (status : Status) (text : List ℕ) → cell_answers status text → TestAnswers line net status text
  past_net P h status text later = inr (
    By-none NetText (IsNoNetText net) (λ at none. no_net_text net P at h none),
    inr (By-none Net (BreaksAnyTaken tested_edition net) (λ fault breaks. no_broken net P fault h breaks), later),
  )

  answers_broken : (fault : NetFault) → BreaksAnyTaken tested_edition net fault → TestAnswers line net (Net fault) (line (Net fault))
  answers_broken fault breaks = inr (
    By-none NetText (IsNoNetText net) (λ at none. no_text_fault_where_taken tested_edition net fault at breaks none),
    inl ((fault, breaks, refl), refl),
  )

  past_cells : NetHolds net HasTestCells → (status : Status) (text : List ℕ) → step_answers status text → TestAnswers line net status text
  past_cells h status text later = past_net HasTestCells h status text
      (Then-past line full step_answers (By-none (λ (p : ℕ × ℕ). DataFull p.0 p.1) _ (λ p is. no_full net p.0 p.1 h is)) status text later)

  past_steps : NetHolds net IsTestable → (status : Status) (text : List ℕ) → TestEnds line net status text → TestAnswers line net status text
  past_steps h status text later = past_cells (cells_of net h) status text
      (Then-past line stepless (TestEnds line net) (Just-none NoStep _ (no_stepless net h)) status text later)

  -- a report is what is answered
  pub answers_report : (out : List ℕ) → IsTested net out → TestAnswers line net Done out
  answers_report out is = past_steps (testable_of_text net out is) Done out (inr (inr (refl, is)))

  answers_full : (need have : ℕ) → NetHolds net (λ netlist. IsTestDataFull netlist need have) → TestAnswers line net (DataFull need have) (line (DataFull need have))
  answers_full need have is = past_net (λ netlist. IsTestDataFull netlist need have) is (DataFull need have) (line (DataFull need have)) (inl (((need, have), is, refl), refl))

  answers_stepless : NetHolds net (λ netlist. LacksTest netlist testing.NoStep) → TestAnswers line net NoStep (line NoStep)
  answers_stepless h =
      past_cells (weaker net (λ netlist. LacksTest netlist testing.NoStep) HasTestCells (λ netlist x. x.0) h) NoStep (line NoStep)
      (inl ((weaker net (λ netlist. LacksTest netlist testing.NoStep) IsStepless (λ netlist x. x.1) h, refl), refl))

  answers_long : (len size bound : ℕ) → NetHolds net (λ netlist. LacksTest netlist (testing.ImageFull len size bound)) →
      TestAnswers line net (ImageFull len size bound) (line (ImageFull len size bound))
  answers_long len size bound h =
      let lacks : Netlist → Type 0 = λ netlist. LacksTest netlist (testing.ImageFull len size bound) in
      past_steps (weaker net lacks IsTestable (λ netlist x. x.0) h) (ImageFull len size bound) (line (ImageFull len size bound))
      (inl (len, size, bound, weaker net lacks (λ netlist. IsTestTooLong netlist len size bound) (λ netlist x. x.1) h, refl, refl))

  answers_limit : (count bound : ℕ) → NetHolds net (λ netlist. LacksTest netlist (testing.TestLimit count bound)) →
      TestAnswers line net (TestLimit count bound) (line (TestLimit count bound))
  answers_limit count bound h =
      let lacks : Netlist → Type 0 = λ netlist. LacksTest netlist (testing.TestLimit count bound) in
      past_steps (weaker net lacks IsTestable (λ netlist x. x.0) h) (TestLimit count bound) (line (TestLimit count bound))
      (inr (inl (count, bound, weaker net lacks (λ netlist. IsBeyondLimit netlist count bound) (λ netlist x. x.1) h, refl, refl)))

  -- why there is no self-test is what is answered
  pub answers_test_fault : (fault : TestFault) → IsTestFault net fault → (test_status fault ≡ Memory) ⊎ TestAnswers line net (test_status fault) (line (test_status fault))
  answers_test_fault (testing.NetText at) is = inr (inl ((at, is, refl), refl))
  answers_test_fault (testing.Net broken) is = inr (answers_broken broken is)
  answers_test_fault (testing.DataFull need have) is = inr (answers_full need have is)
  answers_test_fault testing.NoStep is = inr (answers_stepless is)
  answers_test_fault (testing.ImageFull len size bound) is = inr (answers_long len size bound is)
  answers_test_fault (testing.TestLimit count bound) is = inr (answers_limit count bound is)
  answers_test_fault testing.Memory is = inl refl

-- what is written on `Done` is a report
pub tested_of : (line : Status → List ℕ) (net text : List ℕ) → TestAnswers line net Done text → IsTested net text
tested_of line net text (inl ((at, reason, is), same)) = absurd cc
tested_of line net text (inr (net_text, inl ((broken, reason, is), same))) = absurd cc
tested_of line net text (inr (net_text, inr (rules, inl ((p, reason, is), same)))) = absurd cc
tested_of line net text (inr (net_text, inr (rules, inr (cells, inl ((reason, is), same))))) = absurd cc
tested_of line net text (inr (net_text, inr (rules, inr (cells, inr (steps, inl (len, size, bound, long, is, same)))))) = absurd cc
tested_of line net text (inr (net_text, inr (rules, inr (cells, inr (steps, inr (inl (count, bound, beyond, is, same))))))) = absurd cc
tested_of line net text (inr (net_text, inr (rules, inr (cells, inr (steps, inr (inr (is, tested))))))) = tested
