-- A register that no line of a memory text names is 0.
use Rattle.std.proofs.Common.{◌≡◌, ℕ, List, [], ◌∷◌, length, get_or, Option, Some, None, inl, inr, refl, sym, ap, ◌∙◌}
use Rattle.std.proofs.lemmas.List.{get_or-set_other}
use Rattle.rec_bits.proofs.Lists.{zeros_at}
use Rattle.text_lines.specs.Lines.{lines_of}
use Rattle.net_model.specs.declared.hardware.Netlist.{Netlist}
use Rattle.net_model.specs.declared.hardware.Storage.{Storage}
use Rattle.net_model.specs.declared.states.State.{State}
use Rattle.net_model.specs.Fixed.{mode_in}
use Rattle.net_model.specs.MemoryText.{blank, AllLead, IsMemoryText, SetsLine}
use Rattle.state_text.proofs.Starts.{regs_stay}

module _ (netlist : Netlist) (id : ℕ) where
  stays_by : (s t : State) (line : List ℕ) → SetsLine netlist (Some id) s line t → get_or t.regs id 0 ≡ get_or s.regs id 0
  stays_by s t line (inl (other, value, h, e)) = ap (λ (x : State). get_or x.regs id 0) e ∙ get_or-set_other s.regs other id value 0 (λ same. h.unnamed (ap Some same))
  stays_by s t line (inr (space, address, value, h, e)) = ap (λ (x : State). get_or x.regs id 0) e ∙ ap (λ (regs : List ℕ). get_or regs id 0) (regs_stay s space address value)

  stays : (lines : List (List ℕ)) (s t : State) → AllLead netlist (Some id) s lines t → get_or t.regs id 0 ≡ get_or s.regs id 0
  stays [] s t same = ap (λ (x : State). get_or x.regs id 0) (sym same)
  stays (line ∷ lines) s t (next, leads, more) = stays lines next t more ∙ stays_by s next line leads

-- a state whose text doesn't name the mode is in mode 0
pub calm_of_text : (netlist : Netlist) (special : Option ℕ) (bytes : List ℕ) (s : State) → IsMemoryText netlist special bytes s → mode_in special s ≡ 0
calm_of_text netlist None bytes s h = refl
calm_of_text netlist (Some id) bytes s h = stays netlist id (lines_of bytes) (blank netlist.storages) s h.lead ∙ zeros_at (length netlist.storages) id

pub calm_blank : (storages : List Storage) (special : Option ℕ) → mode_in special (blank storages) ≡ 0
calm_blank storages None = refl
calm_blank storages (Some id) = zeros_at (length storages) id
