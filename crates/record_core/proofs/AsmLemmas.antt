-- What `asm` and `dis` answer.
use Rattle.std.proofs.Common.{◌≡◌, ◌⊎◌, ℕ, List, [], ◌∷◌, inl, inr, refl}
use Rattle.std.specs.List.{AllZip}
use Rattle.isa_extract.specs.Taken.{BreaksAnyTaken}
use Rattle.isa_extract.proofs.RoutedTaken.{no_text_fault_where_taken}
use Rattle.net_model.specs.declared.fault.NetFault.{NetFault}
use Rattle.asm_command.proofs.AsmLaws.{no_broken_rule, no_text_fault, no_wordless}
use Rattle.asm_text.specs.declared.line.Line.{Line}
use Rattle.asm_words.proofs.Clocked.{words_lie}
use Rattle.code_model.specs.Places.{words_of}
use Rattle.asm_command.proofs.Again.{clocks_alike}
use Rattle.asm_command.specs.Machines.{IsMachine, Machine, assembled_edition}
use Rattle.run_command.proofs.RunLaws.{no_image_fault}
use Rattle.asm_command.specs.Assembled.{HasWord, IsAssembled, IsAssembleFault, IsNoAsmFile, IsWordless}
use Rattle.asm_command.specs.Disassembled.{IsDisassembled, IsDisassembleFault, ShowsWord}
use Rattle.asm_command.specs.Machines.{IsMachineText}
use Rattle.asm_command.specs.declared.fault.AsmFault.{AsmFault}
use Rattle.asm_command.specs.declared.fault.AsmFault.TheVariants as assembling
use Rattle.asm_command.specs.declared.fault.DisFault.{DisFault}
use Rattle.asm_command.proofs.DisLaws.{image_file}
use Rattle.asm_command.specs.declared.fault.DisFault.TheVariants as showing
use Rattle.run_command.specs.Runs.{IsNoImageFile}
use Rattle.record_core.specs.Showing.{IsShownText}
use Rattle.record_core.proofs.NetLemmas.{NetStages, past_rules, stops_at_rule, stops_at_text}
use Rattle.record_core.proofs.StageLemmas.{By-none}
use Rattle.record_core.specs.Answers.{AsmAnswers, DisAnswers}
use Rattle.record_core.specs.Inner.Statuses.{asm_status, dis_status}
use Rattle.record_core.specs.Stages.{By, Then}
use Rattle.record_core.specs.declared.status.Status.{Status}
use Rattle.record_core.specs.declared.status.Status.TheVariants.{Done, Memory, Net, ImageText, AsmText, AsmWord}

-- ---- the netlist's stages, where editions are taken that have no modes

module _ (line : Status → List ℕ) (net : List ℕ) (Later : Status → List ℕ → Type 0) where
  abbrev Broken : NetFault → Type 0
  Broken = BreaksAnyTaken assembled_edition net

  -- the text of a machine passes them
  past_machine : (machine : Machine) → IsMachine net machine → (status : Status) (text : List ℕ) → Later status text → NetStages line net Broken Later status text
  past_machine machine is = past_rules line net Broken Later is.entries is.file.file.says (λ fault breaks. no_broken_rule net machine fault is breaks)

  stops_at_broken : (fault : NetFault) → Broken fault → NetStages line net Broken Later (Net fault) (line (Net fault))
  stops_at_broken fault breaks = stops_at_rule line net Broken Later fault (λ at none. no_text_fault_where_taken assembled_edition net fault at breaks none) breaks

-- ---- `asm`

module _ (line : Status → List ℕ) (net asm : List ℕ) where
  -- the later stages, by what the texts passed so far
  abbrev word_answers : Status → List ℕ → Type 0
  word_answers = Then line (By AsmWord (IsWordless net asm)) (λ status text. (status ≡ Done) × IsAssembled net asm text)

  abbrev line_answers : Status → List ℕ → Type 0
  line_answers = Then line (By AsmText (IsNoAsmFile net asm)) word_answers

  pub answers_image : (out : List ℕ) → IsAssembled net asm out → AsmAnswers line net asm Done out
  answers_image out is = past_machine line net line_answers is.machine is.is Done out (inr (
    By-none AsmText (IsNoAsmFile net asm) (no_text_fault net asm is.machine is.is is.lines is.says),
    inr (By-none AsmWord (IsWordless net asm) (λ number none. no_wordless net asm out number is none), (refl, is)),
  ))

  answers_no_line : (at : ℕ) → IsNoAsmFile net asm at → AsmAnswers line net asm (AsmText at) (line (AsmText at))
  answers_no_line at none =
      past_machine line net line_answers none.machine none.is (AsmText at) (line (AsmText at)) (inl ((at, none, refl), refl))

  answers_no_word : (number : ℕ) → IsWordless net asm number → AsmAnswers line net asm (AsmWord number) (line (AsmWord number))
  answers_no_word number none =
      past_machine line net line_answers none.machine none.is (AsmWord number) (line (AsmWord number)) (inr (
        By-none AsmText (IsNoAsmFile net asm) (no_text_fault net asm none.machine none.is _ none.says),
        inl ((number, none, refl), refl),
      ))

  -- a fault of the assembler is what is answered
  pub answers_asm_fault : (fault : AsmFault) → IsAssembleFault net asm fault
      → (asm_status fault ≡ Memory) ⊎ AsmAnswers line net asm (asm_status fault) (line (asm_status fault))
  answers_asm_fault (assembling.NetText at) is = inr (stops_at_text line net (BreaksAnyTaken assembled_edition net) line_answers at is)
  answers_asm_fault (assembling.Net broken) is = inr (stops_at_broken line net line_answers broken is)
  answers_asm_fault (assembling.Text at) is = inr (answers_no_line at is)
  answers_asm_fault (assembling.Word number) is = inr (answers_no_word number is)
  answers_asm_fault assembling.Memory is = inl refl

-- what is written on `Done` is assembled
pub assembled_of : (line : Status → List ℕ) (net asm text : List ℕ) → AsmAnswers line net asm Done text → IsAssembled net asm text
assembled_of line net asm text (inl ((at, reason, is), same)) = absurd cc
assembled_of line net asm text (inr (net_text, inl ((broken, reason, is), same))) = absurd cc
assembled_of line net asm text (inr (net_text, inr (rules, inl ((at, reason, is), same)))) = absurd cc
assembled_of line net asm text (inr (net_text, inr (rules, inr (lines, inl ((number, reason, is), same))))) = absurd cc
assembled_of line net asm text (inr (net_text, inr (rules, inr (lines, inr (words, (is, made)))))) = made

-- ---- `dis`

module _ (line : Status → List ℕ) (net image : List ℕ) where
  abbrev image_answers : Status → List ℕ → Type 0
  image_answers = Then line (By ImageText (IsNoImageFile net image)) (λ status text. (status ≡ Done) × IsDisassembled net image text)

  pub answers_lines : (out : List ℕ) → IsDisassembled net image out → DisAnswers line net image Done out
  answers_lines out is = past_machine line net image_answers is.machine is.is Done out (inr (
    By-none ImageText (IsNoImageFile net image) (λ at none. no_image_fault net image at (image_file net image out is) none),
    (refl, is),
  ))

  answers_no_image : (at : ℕ) → IsMachineText net → IsNoImageFile net image at → DisAnswers line net image (ImageText at) (line (ImageText at))
  answers_no_image at some none =
      past_machine line net image_answers some.machine some.is (ImageText at) (line (ImageText at)) (inl ((at, none, refl), refl))

  -- a fault of the disassembler is what is answered
  pub answers_dis_fault : (fault : DisFault) → IsDisassembleFault net image fault
      → (dis_status fault ≡ Memory) ⊎ DisAnswers line net image (dis_status fault) (line (dis_status fault))
  answers_dis_fault (showing.NetText at) is = inr (stops_at_text line net (BreaksAnyTaken assembled_edition net) image_answers at is)
  answers_dis_fault (showing.Net broken) is = inr (stops_at_broken line net image_answers broken is)
  answers_dis_fault (showing.ImageText at) is = inr (answers_no_image at is.0 is.1)
  answers_dis_fault showing.Memory is = inl refl

disassembled_of : (line : Status → List ℕ) (net image text : List ℕ) → DisAnswers line net image Done text → IsDisassembled net image text
disassembled_of line net image text (inl ((at, reason, is), same)) = absurd cc
disassembled_of line net image text (inr (net_text, inl ((broken, reason, is), same))) = absurd cc
disassembled_of line net image text (inr (net_text, inr (rules, inl ((at, reason, is), same)))) = absurd cc
disassembled_of line net image text (inr (net_text, inr (rules, inr (images, (is, shown))))) = shown

-- each word is one of its line's
all_lie : (net : List ℕ) (machine : Machine) → IsMachine net machine → (words : List ℕ) (lines : List Line) → AllZip (ShowsWord machine) words lines
    → AllZip (λ word line. HasWord machine line word) words lines
all_lie net machine is [] [] shown = tt
all_lie net machine is [] (line ∷ lines) shown = absurd shown
all_lie net machine is (word ∷ words) [] shown = absurd shown
all_lie net machine is (word ∷ words) (line ∷ lines) shown =
    (words_lie machine.netlist machine.patterns word line is.patterns.every shown.0, all_lie net machine is words lines shown.1)

-- what is written on `Done` shows the image
pub shown_of : (line : Status → List ℕ) (net image text : List ℕ) → DisAnswers line net image Done text → IsShownText net image text
shown_of line net image text answers =
    let shown = disassembled_of line net image text answers in
    record {
      shown = shown;
      lie = all_lie net shown.machine shown.is (words_of shown.said) shown.lines shown.shown;
      alike = λ out made s state. clocks_alike net image text out shown made s state;
    }
