-- What is read and written by what a netlist is in a mode is of the netlist.
use Rattle.std.proofs.Common.{◌≡◌, ◌∙◌, ◌<◌, ◌≤◌, ◌^◌, ap, refl, subst, sym, ℕ, List, length, Option, Some, None, slice_index}
use Rattle.std.specs.Prelude.{IfErr, IfOk, MatchResult, Result, Ok, Err}
use Rattle.std.specs.Result.{IsErrAnd}
use Rattle.std.proofs.lemmas.Result.{err_from_is_err_and}
use Rattle.rec_bits.specs.declared.fault.ParseFault.{ParseFault}
use Rattle.rec_bits.specs.declared.fault.ParseFault.TheVariants.{Text as NoText, Memory as ParseMemory}
use Rattle.net_model.specs.declared.hardware.Code.{Code}
use Rattle.net_model.specs.declared.hardware.Netlist.{Netlist}
use Rattle.net_model.specs.declared.states.State.{State}
use Rattle.net_model.specs.Fixed.{in_mode, mode_in}
use Rattle.net_model.specs.MemoryText.{IsMemoryFault, IsMemoryRefusal, IsMemoryText}
use Rattle.net_model.specs.ModeRules.{base_at}
use Rattle.net_model.specs.Nets.{counter_of}
use Rattle.net_model.specs.Widths.{IsState}
use Rattle.net_model.proofs.Bases.{base_of, state_in}
use Rattle.net_model.proofs.BaseTexts.{fault_of_base, text_of_base}
use Rattle.cycle_sim.specs.Moded.{IsHeldBy}
use Rattle.cycle_sim.specs.Shown.{Shown}
use Rattle.code_model.specs.declared.image.Image.{Image}
use Rattle.code_model.specs.ImageFits.{limits_in, limits_of}
use Rattle.viewed_text.specs.Texts.{IsImageRead, IsRemarkedRefusal}
use Rattle.viewed_text.proofs.Same.{Shares, fault_shared, read_shared}
use Rattle.state_text.specs.Settings.{IsStartState}
use Rattle.state_text.specs.Shown.{state_text}
use Rattle.run_command.specs.Inner.Runs.{IsImageFault, IsMemoryFaultOf, image_fault, memory_fault}
use Rattle.run_command.proofs.LimitLaws.{first_codes}

-- ---- an error in other words

module _ {T E D : Type 0} (Tells : E → D → Type 0) where
  pub told_ok : (r : Result T E) (s : Result T D) (P Q : T → Type 0) → ((x : T) → P x → Q x) → MatchResult r (λ x. s ≡ Ok x) (λ e. IsErrAnd s (Tells e)) → IfOk r P → IfOk s Q
  told_ok (Ok x) s P Q f told h = rw told (f x h)
  told_ok (Err e) s P Q f told h = let p = err_from_is_err_and {Q = Tells e} s told in rw p.1 tt

  pub told_err : (r : Result T E) (s : Result T D) (P : E → Type 0) (Q : D → Type 0) → ((e : E) (d : D) → Tells e d → P e → Q d) → MatchResult r (λ x. s ≡ Ok x) (λ e. IsErrAnd s (Tells e)) → IfErr r P → IfErr s Q
  told_err (Ok x) s P Q f told h = rw told tt
  told_err (Err e) s P Q f told h = let p = err_from_is_err_and {Q = Tells e} s told in rw p.1 (f e p.0 p.2 h)

-- ---- what a netlist is in a mode

-- the limits of images go by the codes
pub limits_first : (netlist first : Netlist) → first ≡ base_at netlist 0 → limits_of first ≡ limits_of netlist
limits_first netlist first e = ap limits_of e ∙ ap limits_in (first_codes netlist)

-- the storages of a netlist are those of what it is in a mode
storages_in : (netlist base : Netlist) (v : ℕ) → base ≡ base_at netlist v → base.storages ≡ netlist.storages
storages_in netlist base v e = ap (λ (n : Netlist). n.storages) e ∙ (base_of netlist netlist.special v).storages

-- the text of a state by the storages and the codes
text_in : (netlist : Netlist) (special : Option ℕ) (v cycles : ℕ) (s : State) → state_text (in_mode special v netlist) cycles s ≡ state_text netlist cycles s
text_in netlist None v cycles s = refl
text_in netlist (Some mode) v cycles s = refl

text_in_mode : (netlist base : Netlist) (v cycles : ℕ) (s : State) → base ≡ base_at netlist v → state_text base cycles s ≡ state_text netlist cycles s
text_in_mode netlist base v cycles s e = ap (λ (n : Netlist). state_text n cycles s) e ∙ text_in netlist netlist.special v cycles s

module _ (netlist first : Netlist) (e : first ≡ base_at netlist 0) where
  module _ (bytes : List ℕ) where
    -- ---- images

    shares : Shares first netlist
    shares = record { limits = limits_first netlist first e; storages = storages_in netlist first 0 e }

    pub image_first : (image : Image) → IsImageRead first bytes image → IsImageRead netlist bytes image
    image_first image h = read_shared first netlist shares bytes image h

    pub image_fault_first : (fault : ParseFault) → IsRemarkedRefusal first bytes fault → IsImageFault netlist bytes (image_fault fault)
    image_fault_first (NoText at) h = fault_shared first netlist shares bytes at h
    image_fault_first ParseMemory h = tt

    -- ---- memory texts

    pub memory_first : (s : State) → IsMemoryText first None bytes s → IsMemoryText netlist None bytes s
    memory_first s h = text_of_base netlist 0 None bytes s (subst (λ (n : Netlist). IsMemoryText n None bytes s) e h)

    pub memory_fault_first : (fault : ParseFault) → IsMemoryRefusal first None bytes fault → IsMemoryFaultOf netlist bytes (memory_fault fault)
    memory_fault_first (NoText at) h = fault_of_base netlist 0 None bytes at (subst (λ (n : Netlist). IsMemoryFault n None bytes at) e h)
    memory_fault_first ParseMemory h = tt

  pub start_first : (s : State) → IsStartState first s → IsStartState netlist s
  start_first s h = record {
    state = state_in first netlist s (storages_in netlist first 0 e) h.state;
    counter = ap (λ (codes : List Code). slice_index s.regs (counter_of codes)) (sym (ap (λ (n : Netlist). n.codes) e ∙ first_codes netlist)) ∙ h.counter;
  }

  -- room for the texts of the states of mode 0 is room for the text of a state that a simulator holds
  pub room_first : (whole sim : Shown) → whole.netlist ≡ netlist → IsHeldBy whole sim → (room : ℕ) →
      ((cycles : ℕ) (s : State) → cycles < 2 ^ 64 → IsState first s → length (state_text first cycles s) ≤ room) →
      (cycles : ℕ) → cycles < 2 ^ 64 → length (state_text sim.netlist cycles sim.state) ≤ room
  room_first whole sim same held room enough cycles small =
      let v : ℕ = mode_in whole.netlist.special whole.state in
      let stored : sim.netlist.storages ≡ first.storages =
      storages_in whole.netlist sim.netlist v held.netlist
      ∙ (ap (λ (n : Netlist). n.storages) same ∙ sym (storages_in netlist first 0 e)) in
      let text : state_text sim.netlist cycles sim.state ≡ state_text first cycles sim.state =
      text_in_mode whole.netlist sim.netlist v cycles sim.state held.netlist
      ∙ (ap (λ (n : Netlist). state_text n cycles sim.state) same ∙ sym (text_in_mode netlist first 0 cycles sim.state e)) in
      subst (λ (list : List ℕ). length list ≤ room) (sym text) (enough cycles sim.state small (state_in sim.netlist first sim.state stored held.fits))

-- the text of the simulator's state is that of the netlist's
pub text_held : (whole sim : Shown) → IsHeldBy whole sim → (cycles : ℕ) → state_text sim.netlist cycles sim.state ≡ state_text whole.netlist cycles whole.state
text_held whole sim held cycles =
    text_in_mode whole.netlist sim.netlist (mode_in whole.netlist.special whole.state) cycles sim.state held.netlist
    ∙ ap (λ (s : State). state_text whole.netlist cycles s) held.state
