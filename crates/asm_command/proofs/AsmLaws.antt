-- The answers of `assemble` exclude each other, and each is one.
use Rattle.std.proofs.Common.{◌≡◌, ℕ, ◌<◌, List, [], ◌∷◌, ◌++◌, length, inl, inr, sym, ap, subst, ◌∙◌, arith}
use Rattle.std.specs.List.{All, AllZip}
use Rattle.std.proofs.lemmas.Bool.{cases_lt}
use Rattle.std.proofs.lemmas.List.{append-nil}
use Rattle.net_model.specs.declared.fault.NetFault.{NetFault}
use Rattle.isa_extract.specs.Taken.{BreaksAnyTaken}
use Rattle.isa_extract.proofs.RoutedTaken.{no_broken_any_taken}
use Rattle.code_model.specs.ImageFits.{limits_of}
use Rattle.code_model.specs.ImageText.{image_text}
use Rattle.run_command.proofs.ImageLaws.{cut}
use Rattle.asm_text.specs.declared.line.Line.{Line}
use Rattle.asm_text.specs.Texts.{IsAsmFault}
use Rattle.asm_command.specs.Machines.{IsMachine, Machine, texts_of, assembled_edition}
use Rattle.asm_command.specs.Assembled.{HasLeastWord, HasWord, IsAssembled, IsNoAsmFile, IsWorded, IsWordless, SaysText, bare_image}
use Rattle.asm_command.proofs.MachineLaws.{machine_texts, narrow, one_machine}
use Rattle.asm_command.proofs.OneLine.{in_middle, no_fault, one_fault, text_one}
use Rattle.asm_command.proofs.Zips.{zip_middle, zip_one}

-- a least word is one
pub one_least : (machine : Machine) (line : Line) (v w : ℕ) → HasLeastWord machine line v → HasLeastWord machine line w → v ≡ w
one_least machine line v w a b = omega (arith, a.least w b.is, b.least v a.is)

module _ (net text : List ℕ) where
  -- the lines are one list
  pub one_lines : (a b : Machine) → IsMachine net a → IsMachine net b → (ls ms : List Line) → SaysText a text ls → SaysText b text ms → ls ≡ ms
  one_lines a b p q ls ms x y =
      let e : a ≡ b = one_machine net a b p q in
      text_one (texts_of a) (machine_texts net a p) (limits_of a.netlist).bits (narrow net a p).narrow (limits_of a.netlist).words text ls ms x
      (subst (λ (m : Machine). SaysText m text ms) (sym e) y)

  abbrev FaultOf : ℕ → Machine → Type 0
  FaultOf at m = IsAsmFault (texts_of m) (limits_of m.netlist).bits (limits_of m.netlist).words text at

  pub one_text_fault : (a b : ℕ) → IsNoAsmFile net text a → IsNoAsmFile net text b → a ≡ b
  one_text_fault a b p q =
      one_fault (texts_of p.machine) (limits_of p.machine.netlist).bits (limits_of p.machine.netlist).words text a b p.none
      (subst (FaultOf b) (one_machine net q.machine p.machine q.is p.is) q.none)

  -- a text that says lines has no fault
  pub no_text_fault : (machine : Machine) → IsMachine net machine → (lines : List Line) → SaysText machine text lines → (at : ℕ) → IsNoAsmFile net text at → ⊥
  no_text_fault machine is lines says at q =
      no_fault (texts_of machine) (limits_of machine.netlist).bits (limits_of machine.netlist).words text lines at says
      (subst (FaultOf at) (one_machine net q.machine machine q.is is) q.none)

  -- ---- lines without a word

  not_behind : (m n : ℕ) (p : IsWordless net text m) (q : IsWordless net text n) → length p.before < length q.before → ⊥
  not_behind m n p q lt =
      let whole = one_lines p.machine q.machine p.is q.is (p.before ++ (p.line ∷ p.after)) (q.before ++ (q.line ∷ q.after)) p.says q.says in
      let c = cut p.before (p.line ∷ p.after) q.before (q.line ∷ q.after) whole (omega arith) in
      go c.0 c.1 c.2
    where
      go : (more : List Line) → q.before ≡ p.before ++ more → p.line ∷ p.after ≡ more ++ (q.line ∷ q.after) → ⊥
      go [] same rest = omega (arith, lt, ap length (same ∙ append-nil p.before))
      go (line ∷ more) same rest =
          let e : line ≡ p.line = cc in
          let worded = in_middle (IsWorded q.machine) p.before line more (subst (All (IsWorded q.machine)) same q.worded) in
          let here : HasWord p.machine p.line worded.word = subst (λ (l : Line). HasWord p.machine l worded.word) e (subst (λ (x : Machine). HasWord x line worded.word) (one_machine net q.machine p.machine q.is p.is) worded.does) in
          p.none worded.word here

  pub one_wordless : (m n : ℕ) → IsWordless net text m → IsWordless net text n → m ≡ n
  one_wordless m n p q = elim (cases_lt (length p.before) (length q.before)) [
    | inl lt ↦ absurd (not_behind m n p q lt)
    | inr le ↦ elim (cases_lt (length q.before) (length p.before)) [
      | inl more ↦ absurd (not_behind n m q p more)
      | inr also ↦ omega (arith, p.place, q.place)
    ]
  ]

  -- where each line has a word none has none
  pub no_wordless : (out : List ℕ) (n : ℕ) → IsAssembled net text out → IsWordless net text n → ⊥
  no_wordless out n p q =
      let same : p.lines ≡ q.before ++ (q.line ∷ q.after) = one_lines p.machine q.machine p.is q.is p.lines (q.before ++ (q.line ∷ q.after)) p.says q.says in
      let found = zip_middle (HasLeastWord p.machine) q.before q.line q.after p.words (subst (λ (ls : List Line). AllZip (HasLeastWord p.machine) ls p.words) same p.least) in
      q.none found.0 (subst (λ (m : Machine). HasWord m q.line found.0) (one_machine net p.machine q.machine p.is q.is) found.1.is)

  -- ---- what is assembled

  pub one_assembled : (a b : List ℕ) → IsAssembled net text a → IsAssembled net text b → a ≡ b
  one_assembled a b p q =
      let e : q.machine ≡ p.machine = one_machine net q.machine p.machine q.is p.is in
      let lines : q.lines ≡ p.lines = one_lines q.machine p.machine q.is p.is q.lines p.lines q.says p.says in
      let least : AllZip (HasLeastWord p.machine) p.lines q.words = subst (λ (ls : List Line). AllZip (HasLeastWord p.machine) ls q.words) lines (subst (λ (m : Machine). AllZip (HasLeastWord m) q.lines q.words) e q.least) in
      let words : p.words ≡ q.words = zip_one (HasLeastWord p.machine) (one_least p.machine) p.lines p.words q.words p.least least in
      let back : p.machine ≡ q.machine = sym e in
      p.written.text ∙ (λ j. image_text (bare_image (limits_of (back j).netlist).bits (words j))) ∙ sym q.written.text

-- ---- the netlist's refusals

pub no_broken_rule : (net : List ℕ) (machine : Machine) (fault : NetFault) → IsMachine net machine → BreaksAnyTaken assembled_edition net fault → ⊥
no_broken_rule net machine fault is broken = no_broken_any_taken assembled_edition net is.entries fault is.file is.taken broken
