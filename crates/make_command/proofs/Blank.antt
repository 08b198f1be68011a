-- The empty memory text sets nothing.
use Rattle.std.proofs.Common.{ℕ, ◌≡◌, List, [], ◌∷◌, ◌++◌, None, sym, ap, ◌∙◌}
use Rattle.text_lines.specs.Lines.{lines_of}
use Rattle.net_model.specs.declared.hardware.Netlist.{Netlist}
use Rattle.net_model.specs.declared.hardware.Storage.{Storage}
use Rattle.net_model.specs.declared.states.State.{State}
use Rattle.net_model.specs.Fixed.{mode_in}
use Rattle.net_model.specs.MemoryText.{IsMemoryFault, IsMemoryText, blank}
use Rattle.net_model.specs.ModeRules.{base_at}
use Rattle.net_model.proofs.Bases.{base_of}
use Rattle.code_model.specs.Machine.{IsCalm}
use Rattle.code_model.proofs.Bases.{at_in}
use Rattle.state_text.specs.Settings.{IsStartState}
use Rattle.state_text.proofs.Calm.{calm_blank}

pub blank_of_nothing : (netlist : Netlist) (s : State) → IsMemoryText netlist None [] s → s ≡ blank netlist.storages
unfolding lines_of
blank_of_nothing netlist s h = sym h.lead

no_line : (before : List (List ℕ)) (line : List ℕ) (after : List (List ℕ)) → (let none : List (List ℕ) = [] in none) ≡ before ++ (line ∷ after) → ⊥
no_line [] line after e = cc
no_line (first ∷ before) line after e = cc

pub no_fault_of_nothing : (netlist : Netlist) (at : ℕ) → IsMemoryFault netlist None [] at → ⊥
unfolding lines_of
no_fault_of_nothing netlist at h = no_line h.before h.line h.after h.lines

-- ---- read for what a netlist is in mode 0, it sets the blank state of the netlist

module _ (netlist base : Netlist) (first : base ≡ base_at netlist 0) where
  storages : base.storages ≡ netlist.storages
  storages = ap (λ (n : Netlist). n.storages) first ∙ (base_of netlist netlist.special 0).storages

  codes : base.codes ≡ netlist.codes
  codes = ap (λ (n : Netlist). n.codes) first ∙ (base_of netlist netlist.special 0).codes

  pub zeros_of_nothing : (s : State) → IsMemoryText base None [] s → s ≡ blank netlist.storages
  zeros_of_nothing s h = blank_of_nothing base s h ∙ ap (λ (list : List Storage). blank list) storages

  -- which starts it in mode 0, wherever it keeps its mode
  pub start_of_nothing : (s : State) → IsMemoryText base None [] s → IsStartState base s → IsCalm netlist 0 s
  start_of_nothing s h start = record {
    here = at_in base netlist 0 s storages codes (record { state = start.state; counter = start.counter });
    mode = ap (λ (t : State). mode_in netlist.special t) (zeros_of_nothing s h) ∙ calm_blank netlist.storages netlist.special;
  }
