-- An image that is made for a task and fits its netlist has words, and these fit.
use Rattle.std.proofs.Common.{◌≡◌, ℕ, zero, suc, ◌+◌, ◌^◌, ◌<◌, ◌≤◌, List, [], ◌∷◌, length, map, slice_get, slice_index, refl, sym, ◌∙◌, arith}
use Rattle.std.proofs.lemmas.Nat.{pow_pos}
use Rattle.std.specs.List.{AllByRecursion}
use Rattle.net_model.specs.declared.hardware.Code.{Code}
use Rattle.net_model.specs.declared.hardware.Netlist.{Netlist}
use Rattle.net_model.specs.CheckedRules.{code_size}
use Rattle.net_model.specs.Nets.{code_bits}
use Rattle.net_model.specs.Widths.{WordFits}
use Rattle.code_model.specs.declared.image.Image.{Image}
use Rattle.code_model.specs.declared.image.Mark.{Mark}
use Rattle.code_model.specs.declared.image.Word.{Word as CodeWord}
use Rattle.code_model.specs.ImageFits.{CodeFits, IsFitting, limits_in, limits_of}
use Rattle.code_model.specs.Places.{words_of}
use Rattle.src_trees.specs.Flows.{flow_in, program_flow}
use Rattle.src_model.specs.Written.{ProgramModel, stmts_of}
use Rattle.branch_fix.specs.Marked.{AreMarked, Ascend}
use Rattle.branch_fix.proofs.Marking.{some_label, ascend_within}
use Rattle.bank_view.specs.Views.{renamed_code, view_of}
use Rattle.bank_view.proofs.Kept.{same_size}

-- ---- there are words

some_marked : (end : ℕ) (marks : List Mark) → Ascend 0 marks end → (map (λ (mark : Mark). mark.label) marks ≡ [] → ⊥) → 1 ≤ end
some_marked end [] h some = absurd (some refl)
some_marked end (mark ∷ marks) h some = omega (arith, ascend_within (mark.address + 1) end marks h.1)

pub some_words : (l : ProgramModel) (words : ℕ) (marks : List Mark) → AreMarked (program_flow l) words marks → 1 ≤ words
some_words l words marks marked = some_marked words marks marked.apart (λ e. some_label (flow_in (stmts_of l.body) 0 0) (sym marked.each ∙ e))

-- ---- they fit

index_fits : (bits : ℕ) (words : List CodeWord) → AllByRecursion (CodeFits bits) words → (a : ℕ) → slice_index (map (λ (word : CodeWord). word.word) words) a < 2 ^ bits
index_fits bits [] fits a = pow_pos bits
index_fits bits (word ∷ words) fits zero = fits.0.word
index_fits bits (word ∷ words) fits (suc a) = index_fits bits words fits.1 a

word_fits : (codes : List Code) → length codes ≡ 1 → (word : ℕ) → word < 2 ^ (limits_in codes).bits → (n : ℕ) → 0 < code_bits (slice_get codes n) → word < 2 ^ code_bits (slice_get codes n)
word_fits [] e word lt n some = absurd (omega (arith, e))
word_fits (code ∷ codes) e word lt zero some = lt
word_fits (code ∷ []) e word lt (suc n) some = absurd (omega (arith, some))
word_fits (code ∷ other ∷ codes) e word lt (suc n) some = absurd (omega (arith, e))

pub words_fit : (netlist : Netlist) (image : Image) → length netlist.codes ≡ 1 → IsFitting (limits_of netlist) image → (a : ℕ) → WordFits netlist (slice_index (words_of image) a)
words_fit netlist image one fits a = record {
  fits = word_fits netlist.codes one (slice_index (words_of image) a) (index_fits (limits_of netlist).bits image.words fits.words a);
}

-- ---- the view's code is its netlist's

limits_same : (d : Netlist) (codes : List Code) → limits_in (map (renamed_code d) codes) ≡ limits_in codes
limits_same d [] = refl
limits_same d (code ∷ codes) = refl

pub same_limits : (d : Netlist) → limits_of (view_of d) ≡ limits_of d
same_limits d = limits_same d d.codes

pub same_code_size : (d : Netlist) → code_size (view_of d).codes ≡ code_size d.codes
same_code_size d = same_size d d.codes
