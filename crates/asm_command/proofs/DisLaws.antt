-- What an image is disassembled to is one.
use Rattle.std.proofs.Common.{◌≡◌, ℕ, ◌<◌, List, map, slice_get, sym, ap, subst, ◌∙◌, arith}
use Rattle.std.specs.List.{AllZip}
use Rattle.std.proofs.lemmas.List.Elements.{All-contains, All-from_recursion}
use Rattle.net_model.specs.declared.hardware.Netlist.{Netlist}
use Rattle.net_model.specs.Patterns.{Pattern}
use Rattle.code_model.specs.declared.image.Image.{Image}
use Rattle.code_model.specs.ImageFits.{limits_of}
use Rattle.viewed_text.specs.Texts.{IsImageRead}
use Rattle.code_model.specs.Places.{words_of}
use Rattle.run_command.specs.Runs.{IsImageFile}
use Rattle.viewed_text.proofs.Once.{one_read}
use Rattle.transfer_set.proofs.OnePatterns.{same_lists}
use Rattle.asm_text.specs.declared.line.Item.{Item}
use Rattle.asm_text.specs.declared.line.Line.{Line}
use Rattle.asm_text.specs.declared.line.Line.TheVariants.{Raw, Do}
use Rattle.asm_text.specs.Texts.{lines_text}
use Rattle.asm_words.specs.Asked.{Gives}
use Rattle.asm_words.specs.Shown.{IsLineOf, ShowsLine, item_of}
use Rattle.asm_words.specs.Slices.{line_slices, once}
use Rattle.asm_command.specs.Machines.{Machine, texts_of}
use Rattle.asm_command.specs.Disassembled.{IsDisassembled, ShowsWord}
use Rattle.asm_command.proofs.MachineLaws.{narrow, one_machine}
use Rattle.asm_command.proofs.Zips.{zip_one}

-- a word's line is one
module _ (netlist : Netlist) (patterns : List Pattern) (word : ℕ) where
  abbrev GivesAt : ℕ → Type 0
  GivesAt n = Gives netlist word (slice_get patterns n)

  numbers_one : (ns ms : List ℕ) (is js : List Item) → ShowsLine netlist patterns word ns is → ShowsLine netlist patterns word ms js → ns ≡ ms
  numbers_one ns ms is js p q =
      same_lists (λ m n. m < n) (λ x y a b. omega (arith, a, b)) ns ms p.ascend q.ascend
      (λ n c. q.all n (All-contains GivesAt ns n (All-from_recursion GivesAt ns p.gives) c))
      (λ n c. p.all n (All-contains GivesAt ms n (All-from_recursion GivesAt ms q.gives) c))

  pub line_one : (l m : Line) → IsLineOf netlist patterns word l → IsLineOf netlist patterns word m → l ≡ m
  line_one (Raw v) (Raw w) p q = ap Raw (p.is ∙ sym q.is)
  line_one (Raw v) (Do ms js) p q = absurd (p.clashes q.clean)
  line_one (Do ns is) (Raw w) p q = absurd (q.clashes p.clean)
  line_one (Do ns is) (Do ms js) p q =
      let numbers = numbers_one ns ms is js p q in
      let items : is ≡ js = p.bits ∙ ap (λ (k : List ℕ). map (item_of word) (once (line_slices patterns k))) numbers ∙ sym q.bits in
      (λ k. Do (numbers k) (items k))

module _ (net image : List ℕ) where
  pub one_disassembled : (a b : List ℕ) → IsDisassembled net image a → IsDisassembled net image b → a ≡ b
  one_disassembled a b p q =
      let e : q.machine ≡ p.machine = one_machine net q.machine p.machine q.is p.is in
      let read : IsImageRead p.machine.netlist image q.said = subst (λ (m : Machine). IsImageRead m.netlist image q.said) e q.read in
      let said : q.said ≡ p.said = one_read p.machine.netlist (narrow net p.machine p.is) image q.said p.said read p.read in
      let shown : AllZip (ShowsWord p.machine) (words_of p.said) q.lines = subst (λ (i : Image). AllZip (ShowsWord p.machine) (words_of i) q.lines) said (subst (λ (m : Machine). AllZip (ShowsWord m) (words_of q.said) q.lines) e q.shown) in
      let lines : p.lines ≡ q.lines = zip_one (ShowsWord p.machine) (line_one p.machine.netlist p.machine.patterns) (words_of p.said) p.lines q.lines p.shown shown in
      let back : p.machine ≡ q.machine = sym e in
      p.written ∙ (λ j. lines_text (texts_of (back j)) (limits_of (back j).netlist).bits (lines j)) ∙ sym q.written

  -- the image is one for the netlist
  pub image_file : (text : List ℕ) → IsDisassembled net image text → IsImageFile net image
  image_file text p = record {
    entries = p.is.entries;
    said = p.said;
    net_file = record { file = p.is.file.file; taken = (let taken = p.is.taken in omega (arith, taken)) };
    image_text = subst (λ (n : Netlist). IsImageRead n image p.said) p.is.netlist p.read;
  }
