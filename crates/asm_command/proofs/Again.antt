-- The text that is written of the lines of an image's words says these lines, none of it is
-- refused, and the words that are assembled of it clock as those of the image do.
use Rattle.std.proofs.Common.{◌≡◌, inl, inr, ℕ, ◌^◌, ◌<◌, List, [], ◌∷◌, ◌++◌, map, refl, sym, ap, subst, ◌∙◌, arith}
use Rattle.std.specs.List.{AllByRecursion, AllZip, concat}
use Rattle.std.proofs.lemmas.List.{length-map}
use Rattle.std.proofs.lemmas.Slice.Zip.{AllZip-long}
use Rattle.net_model.specs.Clock.{clock, counter_in, step, word_at}
use Rattle.code_model.specs.declared.image.Word.{Word}
use Rattle.code_model.specs.ImageFits.{CodeFits, limits_of}
use Rattle.code_model.specs.Places.{words_of}
use Rattle.text_lines.specs.Lines.{lines_of}
use Rattle.text_lines.proofs.Parts.{IsLine, lines-joined}
use Rattle.transfer_set.specs.TextMarks.{HasPlainNames}
use Rattle.isa_extract.proofs.PlainNames.{HasSpelledNames, plain_names, spelled_names}
use Rattle.asm_text.specs.declared.line.Line.{Line}
use Rattle.asm_text.specs.Lines.{LineFits, line_text}
use Rattle.asm_text.specs.Texts.{SayLines, lines_text}
use Rattle.asm_text.proofs.Whole.{body, body_ends, body_text}
use Rattle.asm_text.proofs.Words.{avoids_of}
use Rattle.asm_words.proofs.Clocked.{words_clock_alike, words_lie}
use Rattle.net_model.specs.declared.hardware.Netlist.{Netlist}
use Rattle.asm_command.specs.Machines.{IsMachine, Machine, texts_of}
use Rattle.asm_command.specs.Assembled.{HasLeastWord, HasWord}
use Rattle.asm_command.specs.Disassembled.{ShowsWord}
use Rattle.asm_command.specs.Laws.{ClocksAlike, IsTaken, ReadsAgain}
use Rattle.asm_command.specs.declared.fault.AsmFault.TheVariants as fault
use Rattle.asm_command.proofs.AsmLaws.{no_broken_rule, no_text_fault, one_lines}
use Rattle.asm_command.proofs.MachineLaws.{bits_are, machine_texts, narrow, no_net_text, one_machine, kept_of, rules_of}
use Rattle.asm_command.proofs.ShownLines.{shown_fits}
use Rattle.asm_command.proofs.Zips.{zip_at, zip_middle, zip_turned}

-- ---- reading

module _ (texts : List (List ℕ)) (bits : ℕ) where
  joined : (lines : List Line) → concat (map (line_text texts bits) lines) ≡ lines_text texts bits lines
  joined [] = refl
  joined (line ∷ lines) = ap (λ (rest : List ℕ). line_text texts bits line ++ rest) (joined lines)

  say_own : (lines : List Line) → AllByRecursion (LineFits texts bits) lines → SayLines texts bits (map (line_text texts bits) lines) lines
  say_own [] fit = tt
  say_own (line ∷ lines) fit = (record { text = refl; fits = fit.0 }, say_own lines fit.1)

module _ (machine : Machine) (net : List ℕ) (is : IsMachine net machine) where
  abbrev Bits : ℕ
  Bits = (limits_of machine.netlist).bits

  abbrev Fits : Line → Type 0
  Fits = LineFits (texts_of machine) Bits

  -- a line of the form ends with its one LF
  ends : (line : Line) → Fits line → IsLine (line_text (texts_of machine) Bits line)
  ends line fit = (
    body (texts_of machine) Bits line,
    avoids_of 10 (body (texts_of machine) Bits line) (body_ends (texts_of machine) Bits line (machine_texts net machine is) (narrow net machine is).narrow fit),
    body_text (texts_of machine) Bits line,
  )

  all_end : (lines : List Line) → AllByRecursion Fits lines → AllByRecursion IsLine (map (line_text (texts_of machine) Bits) lines)
  all_end [] fit = tt
  all_end (line ∷ lines) fit = (ends line fit.0, all_end lines fit.1)

  -- so the lines of their text are theirs
  parted : (lines : List Line) → AllByRecursion Fits lines → lines_of (lines_text (texts_of machine) Bits lines) ≡ map (line_text (texts_of machine) Bits) lines
  parted lines fit =
      ap lines_of (sym (joined (texts_of machine) Bits lines)) ∙ lines-joined (map (line_text (texts_of machine) Bits) lines) (all_end lines fit)

  -- the line that is shown of a word of the code fits
  own_fits : (word : ℕ) → word < 2 ^ Bits → (line : Line) → ShowsWord machine word line → Fits line
  own_fits word lt line shown =
      shown_fits machine.netlist (kept_of net machine is).order (rules_of net machine is)
      (subst (λ (n : Netlist). HasSpelledNames n) (sym is.netlist) (spelled_names net is.entries is.file.file.says))
      (subst (λ (n : Netlist). HasPlainNames n) (sym is.netlist) (plain_names net is.entries is.file.file.says))
      machine.patterns is.patterns word Bits (bits_are machine.netlist) lt line shown

  all_fit : (words : List Word) (lines : List Line) → AllByRecursion (CodeFits Bits) words → AllZip (ShowsWord machine) (map (λ (word : Word). word.word) words) lines → AllByRecursion Fits lines
  all_fit [] [] small shown = tt
  all_fit [] (line ∷ lines) small shown = absurd shown
  all_fit (word ∷ words) [] small shown = absurd shown
  all_fit (word ∷ words) (line ∷ lines) small shown = (own_fits word.word small.0.word line shown.0, all_fit words lines small.1 shown.1)

pub reads_again : ReadsAgain
reads_again net image text d =
    let fit = all_fit d.machine net d.is d.said.words d.lines d.read.is.fits.words d.shown in
    record {
      says =
          subst (λ (all : List (List ℕ)). SayLines (texts_of d.machine) (limits_of d.machine.netlist).bits all d.lines)
          (sym (ap lines_of d.written ∙ parted d.machine net d.is d.lines fit)) (say_own (texts_of d.machine) (limits_of d.machine.netlist).bits d.lines fit);
      few =
          (let long = AllZip-long (ShowsWord d.machine) (words_of d.said) d.lines d.shown in
          let same = length-map d.said.words (λ (word : Word). word.word) in
          let few = d.read.is.fits.few in omega arith);
    }

-- ---- words

-- a word is one of its line's
lies : (machine : Machine) (net : List ℕ) → IsMachine net machine → (word : ℕ) (line : Line) → ShowsWord machine word line → HasWord machine line word
lies machine net is word line shown = words_lie machine.netlist machine.patterns word line is.patterns.every shown

pub is_taken : IsTaken
is_taken net image text d (fault.NetText at) h = absurd (no_net_text net d.machine at d.is h)
is_taken net image text d (fault.Net broken) h = absurd (no_broken_rule net d.machine broken d.is h)
is_taken net image text d (fault.Text at) h = absurd (no_text_fault net text d.machine d.is d.lines (reads_again net image text d) at h)
is_taken net image text d (fault.Word number) h =
    absurd (
    let same : d.lines ≡ h.before ++ (h.line ∷ h.after) = one_lines net text d.machine h.machine d.is h.is d.lines (h.before ++ (h.line ∷ h.after)) (reads_again net image text d) h.says in
    let shown = zip_turned (ShowsWord d.machine) (words_of d.said) d.lines d.shown in
    let found = zip_middle (λ (line : Line) (word : ℕ). ShowsWord d.machine word line) h.before h.line h.after (words_of d.said) (subst (λ (ls : List Line). AllZip (λ (line : Line) (word : ℕ). ShowsWord d.machine word line) ls (words_of d.said)) same shown) in
    h.none found.0 (subst (λ (m : Machine). HasWord m h.line found.0) (one_machine net d.machine h.machine d.is h.is) (lies d.machine net d.is found.0 h.line found.1))
    )
is_taken net image text d fault.Memory h = refl

-- ---- clocks

pub clocks_alike : ClocksAlike
clocks_alike net image text out d a s state =
    let machine : a.machine ≡ d.machine = one_machine net a.machine d.machine a.is d.is in
    let lines : a.lines ≡ d.lines = one_lines net text a.machine d.machine a.is d.is a.lines d.lines a.says (reads_again net image text d) in
    let least : AllZip (HasLeastWord d.machine) d.lines a.words = subst (λ (ls : List Line). AllZip (HasLeastWord d.machine) ls a.words) lines (subst (λ (m : Machine). AllZip (HasLeastWord m) a.lines a.words) machine a.least) in
    elim (zip_at (ShowsWord d.machine) (λ (word : ℕ) (line : Line). HasLeastWord d.machine line word) (words_of d.said) a.words d.lines d.shown least (counter_in d.machine.netlist s))
    as (λ _. clock d.machine.netlist a.words s ≡ clock d.machine.netlist (words_of d.said) s) [
      | inl (line, shown, word) ↦
          words_clock_alike d.machine.netlist (kept_of net d.machine d.is).order d.machine.patterns (word_at d.machine.netlist (words_of d.said) s) (word_at d.machine.netlist a.words s) line
          (rules_of net d.machine d.is) d.is.patterns.every shown word.is (words_of d.said) a.words s state refl refl
      | inr same ↦ ap (step d.machine.netlist s) same
    ]
