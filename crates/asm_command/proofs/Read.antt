-- From what was read to the texts.
use Rattle.std.proofs.Common.{◌≡◌, ℕ, ◌+◌, ◌^◌, ◌<◌, List, [], ◌∷◌, ◌++◌, length, map, take, slice_index_or, refl, sym, ap, subst, ◌∙◌, arith}
use Rattle.std.specs.Prelude.{All}
use Rattle.std.specs.List.{AllByRecursion, AllZip}
use Rattle.std.proofs.lemmas.List.{length-map, map-append}
use Rattle.std.proofs.lemmas.List.Elements.{All-cons, All-head, All-nil, All-tail}
use Rattle.std.proofs.lemmas.Slice.Zip.{AllZip-long, all_zipped_more}
use Rattle.net_model.specs.CheckedRules.{Ordered}
use Rattle.net_model.specs.declared.hardware.Netlist.{Netlist}
use Rattle.net_model.specs.Nets.{word_width}
use Rattle.net_model.specs.Patterns.{ArePatterns}
use Rattle.code_model.specs.declared.image.Word.{Word}
use Rattle.code_model.specs.ImageFits.{CodeFits, limits_of}
use Rattle.viewed_text.specs.Texts.{IsRemarkedFault}
use Rattle.transfer_set.specs.Rows.{row_patterns}
use Rattle.isa_extract.specs.Extraction.{IsExtractedFrom}
use Rattle.isa_extract.specs.Taken.{IsTakenNet}
use Rattle.isa_extract.specs.declared.netlists.Isa.{Isa}
use Rattle.asm_text.specs.declared.line.Line.{Line}
use Rattle.asm_text.specs.Lines.{AreTransferTexts, LineFits}
use Rattle.asm_text.specs.Texts.{IsAsmFault, SayLines, lines_text}
use Rattle.text_lines.specs.Lines.{lines_of}
use Rattle.asm_command.specs.Machines.{IsMachine, Machine, texts_of, assembled_edition}
use Rattle.asm_command.specs.Assembled.{HasLeastWord, HasWord, IsAssembled, IsAssembleFault, SaysText, bare_word}
use Rattle.asm_command.specs.Disassembled.{IsDisassembled, IsDisassembleFault, ShowsWord}
use Rattle.asm_command.specs.Inner.Tables.{IsImageFault, IsOutOf, IsShownIn, IsSourceFault, IsTextFault, IsWordFault, SaysLines, machine_of, row_texts}
use Rattle.asm_command.specs.declared.fault.AsmFault.{AsmFault}
use Rattle.asm_command.specs.declared.fault.AsmFault.TheVariants as asm
use Rattle.asm_command.specs.declared.fault.DisFault.{DisFault}
use Rattle.asm_command.specs.declared.fault.DisFault.TheVariants as dis
use Rattle.asm_command.proofs.MachineLaws.{bits_are, kept_of, machine_texts, rules_of}
use Rattle.asm_command.proofs.Tables.{take_next, texts_are, word_small}

-- ---- lines

-- lines that are said fit
pub said_fit : (texts : List (List ℕ)) (bits : ℕ) (all : List (List ℕ)) (lines : List Line) → SayLines texts bits all lines → All (LineFits texts bits) lines
said_fit texts bits [] [] says = All-nil (LineFits texts bits)
said_fit texts bits [] (line ∷ lines) says = absurd says
said_fit texts bits (b ∷ bs) [] says = absurd says
said_fit texts bits (b ∷ bs) (line ∷ lines) says = All-cons (LineFits texts bits) line lines says.0.fits (said_fit texts bits bs lines says.1)

pub lines_fit : (texts : List (List ℕ)) (netlist : Netlist) (text : List ℕ) (lines : List Line) → SaysLines texts netlist text lines → All (LineFits texts (word_width netlist)) lines
lines_fit texts netlist text lines says =
    subst (λ (bits : ℕ). All (LineFits texts bits) lines) (bits_are netlist) (said_fit texts (limits_of netlist).bits (lines_of text) lines says.says)

module _ (netlist : Netlist) (extracted : Isa) (from : IsExtractedFrom netlist extracted) (text : List ℕ) where
  abbrev own : Machine
  own = machine_of netlist extracted

  own_texts : row_texts extracted.patterns.rows ≡ texts_of own
  own_texts = texts_are netlist extracted.book extracted.pool extracted.patterns from.ready

  -- lines of the kept texts are lines of the machine
  pub says_own : (lines : List Line) → SaysLines (row_texts extracted.patterns.rows) netlist text lines → SaysText own text lines
  says_own lines says = subst (λ (texts : List (List ℕ)). SaysLines texts netlist text lines) own_texts says

  pub fault_in_text : (fault : AsmFault) → IsTextFault (row_texts extracted.patterns.rows) netlist text fault → IsSourceFault own text fault
  fault_in_text (asm.NetText at) h = absurd h
  fault_in_text (asm.Net broken) h = absurd h
  fault_in_text (asm.Text at) h = subst (λ (texts : List (List ℕ)). IsAsmFault texts (limits_of netlist).bits (limits_of netlist).words text at) own_texts h
  fault_in_text (asm.Word number) h = absurd h
  fault_in_text asm.Memory h = tt

  pub fault_in_words : (lines : List Line) → SaysLines (row_texts extracted.patterns.rows) netlist text lines → (fault : AsmFault) → IsWordFault own lines fault → IsSourceFault own text fault
  fault_in_words lines says (asm.NetText at) h = absurd h
  fault_in_words lines says (asm.Net broken) h = absurd h
  fault_in_words lines says (asm.Text at) h = absurd h
  fault_in_words lines says (asm.Word number) h = record { lines = lines; says = says_own lines says; lacks = h }
  fault_in_words lines says asm.Memory h = tt

-- ---- the netlist

module _ (net : List ℕ) (checked : Ordered) (extracted : Isa) (read : IsTakenNet assembled_edition net checked) (from : IsExtractedFrom checked.netlist extracted) (are : ArePatterns checked.netlist (row_patterns extracted.pool extracted.patterns.rows)) where
  pub is_machine : IsMachine net (machine_of checked.netlist extracted)
  is_machine = record {
    entries = read.routed.entries;
    file = read.routed.file;
    taken = read.taken;
    netlist = read.routed.netlist.netlist;
    patterns = are;
  }

  pub texts_ready : AreTransferTexts (row_texts extracted.patterns.rows)
  texts_ready =
      subst AreTransferTexts (sym (texts_are checked.netlist extracted.book extracted.pool extracted.patterns from.ready))
      (machine_texts net (machine_of checked.netlist extracted) is_machine)

-- ---- assembled

-- the words of a line that fits are below 2 to the code's bits
line_small : (net : List ℕ) (machine : Machine) → IsMachine net machine → (line : Line) → LineFits (texts_of machine) (limits_of machine.netlist).bits line → (word : ℕ) → HasWord machine line word → word < 2 ^ (limits_of machine.netlist).bits
line_small net machine is line fits word does =
    subst (λ (n : ℕ). word < 2 ^ n) (sym (bits_are machine.netlist))
    (word_small machine.netlist (kept_of net machine is).order (rules_of net machine is) machine.patterns (texts_of machine) line
    (subst (λ (n : ℕ). LineFits (texts_of machine) n line) (bits_are machine.netlist) fits) word does)

module _ (net text : List ℕ) (machine : Machine) (is : IsMachine net machine) where
  -- the least words of lines that fit are the code's
  small_words : (lines : List Line) (words : List ℕ) → All (LineFits (texts_of machine) (limits_of machine.netlist).bits) lines → AllZip (HasLeastWord machine) lines words → AllByRecursion (CodeFits (limits_of machine.netlist).bits) (map bare_word words)
  small_words [] [] fit least = tt
  small_words [] (word ∷ words) fit least = absurd least
  small_words (line ∷ lines) [] fit least = absurd least
  small_words (line ∷ lines) (word ∷ words) fit least = (
    record { word = line_small net machine is line (All-head (LineFits (texts_of machine) (limits_of machine.netlist).bits) line lines fit) word least.0.is; patterns = tt },
    small_words lines words (All-tail (LineFits (texts_of machine) (limits_of machine.netlist).bits) line lines fit) least.1,
  )

  pub assembled_of : (out : List ℕ) → IsOutOf machine text out → IsAssembled net text out
  assembled_of out of = record {
    machine = machine;
    is = is;
    lines = of.least.lines;
    says = of.least.says;
    words = of.words;
    least = of.least.least;
    written = record {
      text = of.written;
      fits = record {
        bits = refl;
        few =
            (let long = AllZip-long (HasLeastWord machine) of.least.lines of.words of.least.least in
            let same = length-map of.words bare_word in
            let few = of.least.says.few in omega arith);
        temps = omega arith;
        places = tt;
        costs = tt;
        marks = tt;
        in_order = tt;
        words =
            small_words of.least.lines of.words
            (said_fit (texts_of machine) (limits_of machine.netlist).bits (lines_of text) of.least.lines of.least.says.says) of.least.least;
      };
    };
  }

  pub fault_of_source : (fault : AsmFault) → IsSourceFault machine text fault → IsAssembleFault net text fault
  fault_of_source (asm.NetText at) h = absurd h
  fault_of_source (asm.Net broken) h = absurd h
  fault_of_source (asm.Text at) h = record { machine = machine; is = is; none = h }
  fault_of_source (asm.Word number) h = record {
    machine = machine;
    is = is;
    before = h.lacks.before;
    line = h.lacks.line;
    after = h.lacks.after;
    says = subst (SaysText machine text) h.lacks.parts h.says;
    place = h.lacks.place;
    worded = h.lacks.worded;
    none = h.lacks.none;
  }
  fault_of_source asm.Memory h = tt

-- ---- disassembled

-- the words of an image that fits are the code's
pub image_words : (netlist : Netlist) (words : List Word) → AllByRecursion (CodeFits (limits_of netlist).bits) words → All (λ (word : Word). word.word < 2 ^ word_width netlist) words
image_words netlist [] fit = All-nil (λ (word : Word). word.word < 2 ^ word_width netlist)
image_words netlist (word ∷ words) fit =
    All-cons (λ (word : Word). word.word < 2 ^ word_width netlist) word words
    (subst (λ (n : ℕ). word.word < 2 ^ n) (bits_are netlist) fit.0.word) (image_words netlist words fit.1)

-- one more line
pub shown_next : (machine : Machine) (words : List Word) (n : ℕ) (word : Word) (lines : List Line) (line : Line) → n < length words → word ≡ slice_index_or words n word → AllZip (ShowsWord machine) (map (λ (word : Word). word.word) (take n words)) lines → ShowsWord machine word.word line
    → AllZip (ShowsWord machine) (map (λ (word : Word). word.word) (take (n + 1) words)) (lines ++ (line ∷ []))
shown_next machine words n word lines line lt is shown one =
    let more : map (λ (word : Word). word.word) (take (n + 1) words) ≡ map (λ (word : Word). word.word) (take n words) ++ (word.word ∷ []) =
    ap (map (λ (word : Word). word.word)) (take_next words n word lt is) ∙ map-append (λ (word : Word). word.word) (take n words) (word ∷ []) in
    subst (λ (ws : List ℕ). AllZip (ShowsWord machine) ws (lines ++ (line ∷ []))) (sym more) (all_zipped_more (ShowsWord machine) (map (λ (word : Word). word.word) (take n words)) lines word.word line shown one)

module _ (netlist : Netlist) (extracted : Isa) (from : IsExtractedFrom netlist extracted) where
  -- the text of lines by the kept texts is that by the machine's
  pub text_own : (lines : List Line) (text : List ℕ) → text ≡ lines_text (row_texts extracted.patterns.rows) (limits_of netlist).bits lines → text ≡ lines_text (texts_of (machine_of netlist extracted)) (limits_of netlist).bits lines
  text_own lines text e =
      e ∙ ap (λ (texts : List (List ℕ)). lines_text texts (limits_of netlist).bits lines) (texts_are netlist extracted.book extracted.pool extracted.patterns from.ready)

module _ (net image : List ℕ) (machine : Machine) (is : IsMachine net machine) where
  pub fault_of_image : (fault : DisFault) → IsImageFault machine.netlist image fault → IsDisassembleFault net image fault
  fault_of_image (dis.NetText at) h = absurd h
  fault_of_image (dis.Net broken) h = absurd h
  fault_of_image (dis.ImageText at) h = (
    record { machine = machine; is = is },
    record {
      entries = is.entries;
      net_file = record { file = is.file.file; taken = (let taken = is.taken in omega (arith, taken)) };
      none = subst (λ (n : Netlist). IsRemarkedFault n image at) is.netlist h;
    },
  )
  fault_of_image dis.Memory h = tt

  pub disassembled_of : (text : List ℕ) → IsShownIn machine image text → IsDisassembled net image text
  disassembled_of text of = record {
    machine = machine;
    is = is;
    said = of.image;
    read = of.read;
    lines = of.shown.lines;
    shown = of.shown.shown;
    written = of.shown.written;
  }
