-- A word within an image's limits fits the netlist of its codes.
use Rattle.std.proofs.Common.{◌≡◌, ℕ, zero, suc, ◌^◌, ◌<◌, List, [], ◌∷◌, length, slice_get, arith}
use Rattle.net_model.specs.declared.hardware.Code.{Code}
use Rattle.net_model.specs.declared.hardware.Netlist.{Netlist}
use Rattle.net_model.specs.Nets.{code_bits}
use Rattle.net_model.specs.Widths.{WordFits}
use Rattle.code_model.specs.ImageFits.{limits_in}

pub word_fits : (netlist : Netlist) (codes : List Code) → netlist.codes ≡ codes → length codes ≡ 1 → (word : ℕ) → word < 2 ^ (limits_in codes).bits → WordFits netlist word
word_fits netlist [] is one word lt = absurd (omega arith)
word_fits netlist (code ∷ d ∷ codes) is one word lt = absurd (omega arith)
word_fits netlist (code ∷ []) is one word lt = record { fits = rw is by_code }
  where
    by_code : (k : ℕ) → 0 < code_bits (slice_get (code ∷ []) k) → word < 2 ^ code_bits (slice_get (code ∷ []) k)
    by_code zero some = lt
    by_code (suc k) some = absurd (omega arith)
