-- Bytes are one machine's at most, and its patterns have texts of transfers.
use Rattle.std.proofs.Common.{◌≡◌, ◌<◌, ℕ, List, [], ◌∷◌, refl, sym, ap, subst, ◌∙◌, arith}
use Rattle.std.specs.Prelude.{slice_get}
use Rattle.net_model.specs.declared.hardware.Code.{Code}
use Rattle.net_model.specs.declared.hardware.Netlist.{Netlist}
use Rattle.net_model.specs.CheckedRules.{KeepsRules}
use Rattle.net_model.specs.ModeRules.{KeepsInOrder}
use Rattle.net_front.specs.Fronts.{taken_of}
use Rattle.net_model.specs.Nets.{code_bits, word_width}
use Rattle.net_model.specs.Patterns.{ArePatterns, Pattern}
use Rattle.net_model.specs.Written.{UnitsModel}
use Rattle.net_parser.specs.Texts.{IsNoNetText}
use Rattle.net_front.proofs.FrontLaws.{no_text_fault, rules_alone}
use Rattle.isa_extract.specs.Extracts.{IsRoutedFile}
use Rattle.isa_extract.proofs.PlainNames.{plain_names, spelled_names}
use Rattle.code_model.specs.ImageFits.{limits_in, limits_of}
use Rattle.image_text.proofs.Whole.{Narrow}
use Rattle.run_command.proofs.LimitLaws.{narrow_of}
use Rattle.transfer_set.proofs.OnePatterns.{patterns_one}
use Rattle.asm_text.specs.Lines.{AreTransferTexts}
use Rattle.asm_command.specs.Machines.{IsMachine, Machine, move_texts, texts_of}
use Rattle.asm_command.proofs.PatternTexts.{transfer_texts}

-- the first code's words are the instruction words
pub bits_are : (netlist : Netlist) → (limits_of netlist).bits ≡ word_width netlist
bits_are netlist = by netlist.codes
  where
    by : (codes : List Code) → (limits_in codes).bits ≡ code_bits (slice_get codes 0)
    by [] = refl
    by (code ∷ codes) = refl

-- the patterns of a netlist file have texts of transfers
pub file_texts : (net : List ℕ) (entries : UnitsModel) → IsRoutedFile net entries → entries.edition < 3 → (patterns : List Pattern) → ArePatterns (taken_of entries) patterns → AreTransferTexts (move_texts (taken_of entries) patterns)
file_texts net entries file early patterns are =
    let kept = rules_alone entries early file.file.keeps in
    transfer_texts (taken_of entries) kept.order kept.rules (spelled_names net entries file.file.says) (plain_names net entries file.file.says) patterns are

module _ (net : List ℕ) where
  pub one_machine : (a b : Machine) → IsMachine net a → IsMachine net b → a ≡ b
  one_machine a b p q =
      let entries : p.entries ≡ q.entries = p.file.file.says.only q.entries q.file.file.says.text in
      let e : a.netlist ≡ b.netlist = p.netlist ∙ ap taken_of entries ∙ sym q.netlist in
      let f : a.patterns ≡ b.patterns = patterns_one a.netlist a.patterns b.patterns p.patterns (subst (λ (n : Netlist). ArePatterns n b.patterns) (sym e) q.patterns) in
      (λ k. record { netlist = e k; patterns = f k })

  pub no_net_text : (machine : Machine) (at : ℕ) → IsMachine net machine → IsNoNetText net at → ⊥
  no_net_text machine at p none = no_text_fault net p.entries at p.file.file.says none

  module _ (machine : Machine) (is : IsMachine net machine) where
    -- its netlist has no modes
    early : is.entries.edition < 3
    early = let taken = is.taken in omega (arith, taken)

    pub kept_of : KeepsInOrder machine.netlist
    kept_of = subst KeepsInOrder (sym is.netlist) (rules_alone is.entries early is.file.file.keeps)

    pub rules_of : KeepsRules machine.netlist kept_of.order
    rules_of = kept_of.rules

    pub machine_texts : AreTransferTexts (texts_of machine)
    machine_texts =
        subst (λ (n : Netlist). AreTransferTexts (move_texts n machine.patterns)) (sym is.netlist)
        (file_texts net is.entries is.file early machine.patterns (subst (λ (n : Netlist). ArePatterns n machine.patterns) is.netlist is.patterns))

    pub narrow : Narrow (limits_of machine.netlist)
    narrow = subst (λ (n : Netlist). Narrow (limits_of n)) (sym is.netlist) (narrow_of net is.entries is.file.file)
