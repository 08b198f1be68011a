-- The words of a checked netlist's code.
use Rattle.std.proofs.Common.{◌≡◌, ℕ, ◌≤◌, List, [], ◌∷◌, length, map, refl, subst, arith}
use Rattle.std.specs.List.{AllByRecursion}
use Rattle.net_model.specs.declared.hardware.Code.{Code}
use Rattle.net_model.specs.declared.hardware.Netlist.{Netlist}
use Rattle.net_model.specs.CheckedRules.{CodeKeeps, KeepsRules}
use Rattle.net_model.specs.ModeRules.{base_at, KeepsModes}
use Rattle.net_model.proofs.Bases.{base_of}
use Rattle.net_model.proofs.ModeFaults.{first_keeps}
use Rattle.net_model.specs.Widths.{WordFits}
use Rattle.net_model.specs.Written.{UnitsModel}
use Rattle.net_front.specs.Fronts.{IsNetFile, taken_of}
use Rattle.net_front.proofs.FrontLaws.{taken_keeps}
use Rattle.code_model.specs.declared.image.Word.{Word}
use Rattle.code_model.specs.ImageFits.{CodeFits, limits_in, limits_of}
use Rattle.code_model.proofs.WordLimits.{word_fits}
use Rattle.image_text.proofs.Whole.{Narrow}

narrow_code : (netlist : Netlist) (codes : List Code) → AllByRecursion (CodeKeeps netlist) codes → AllByRecursion (λ (code : Code). code.words ≤ 65536) codes → length codes ≡ 1 → Narrow (limits_in codes)
narrow_code netlist [] keeps few one = absurd (omega arith)
narrow_code netlist (code ∷ codes) keeps few one = record { some = keeps.0.0.0; narrow = keeps.0.0.1; words = omega (arith, few.0) }

narrow_rules : (netlist : Netlist) (order : List ℕ) → KeepsRules netlist order → Narrow (limits_of netlist)
narrow_rules netlist order rules = narrow_code netlist netlist.codes rules.formed.codes rules.formed.limits.words rules.roles.code

-- the codes of a netlist are those of what it is in mode 0
pub first_codes : (netlist : Netlist) → (base_at netlist 0).codes ≡ netlist.codes
first_codes netlist = (base_of netlist netlist.special 0).codes

pub narrow_moded : (netlist : Netlist) → KeepsModes netlist → Narrow (limits_of netlist)
narrow_moded netlist keeps =
    let first = first_keeps netlist keeps in
    subst (λ (list : List Code). Narrow (limits_in list)) (first_codes netlist) (narrow_rules (base_at netlist 0) first.order first.rules)

pub narrow_of : (net : List ℕ) (entries : UnitsModel) → IsNetFile net entries → Narrow (limits_of (taken_of entries))
narrow_of net entries file = narrow_moded (taken_of entries) (taken_keeps entries file.keeps)

words_narrow : (netlist : Netlist) → length netlist.codes ≡ 1 → (words : List Word) → AllByRecursion (CodeFits (limits_of netlist).bits) words → AllByRecursion (WordFits netlist) (map (λ (w : Word). w.word) words)
words_narrow netlist one [] fits = tt
words_narrow netlist one (word ∷ words) fits = (word_fits netlist netlist.codes refl one word.word fits.0.word, words_narrow netlist one words fits.1)

pub words_fit : (netlist : Netlist) → KeepsModes netlist → (words : List Word) → AllByRecursion (CodeFits (limits_of netlist).bits) words → AllByRecursion (WordFits netlist) (map (λ (w : Word). w.word) words)
words_fit netlist keeps words fits =
    words_narrow netlist (subst (λ (list : List Code). length list ≡ 1) (first_codes netlist) (first_keeps netlist keeps).rules.roles.code) words fits
