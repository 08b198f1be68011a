-- The answers of a run exclude each other.
use Rattle.std.proofs.Common.{◌≡◌, ℕ, List, None, sym, ◌∙◌, ap, subst}
use Rattle.net_model.specs.Clock.{Reached, Clashed}
use Rattle.net_model.specs.NetFaults.{name_at}
use Rattle.net_model.specs.Written.{UnitsModel}
use Rattle.net_front.specs.Fronts.{taken_of}
use Rattle.net_front.specs.Taken.{IsTakenFile}
use Rattle.net_front.proofs.FrontLaws.{taken_keeps}
use Rattle.net_model.specs.MemoryText.{IsMemoryText, IsMemoryFault}
use Rattle.run_command.specs.Runs.{Loaded, IsLoaded, IsImageFile, IsNoImageFile, IsNoMemoryFile, ClashedAt, Clashes, ShowsState, clocked, run_edition}
use Rattle.viewed_text.proofs.Once.{one_read, one_remarked_fault}
use Rattle.run_command.proofs.LimitLaws.{narrow_of}
use Rattle.run_command.proofs.StateLaws.{no_state_fault, one_moded_state, one_state_fault}
use Rattle.viewed_text.specs.Texts.{IsImageRead, IsRemarkedFault}

-- bytes say one list of items
one_list : (net : List ℕ) (e f : UnitsModel) → IsTakenFile run_edition net e → IsTakenFile run_edition net f → f ≡ e
one_list net e f p q = q.file.says.only e p.file.says.text

module _ (net image : List ℕ) where
  pub one_image_fault : (a b : ℕ) → IsNoImageFile net image a → IsNoImageFile net image b → a ≡ b
  one_image_fault a b p q =
      one_remarked_fault (taken_of p.entries) image a b p.none
      (subst (λ e. IsRemarkedFault (taken_of e) image b) (one_list net p.entries q.entries p.net_file q.net_file) q.none)

  pub no_image_fault : (at : ℕ) → IsImageFile net image → IsNoImageFile net image at → ⊥
  no_image_fault at p q =
      let fault : IsRemarkedFault (taken_of p.entries) image at = subst (λ e. IsRemarkedFault (taken_of e) image at) (one_list net p.entries q.entries p.net_file q.net_file) q.none in
      fault.whole p.said p.image_text.remarks p.image_text.is

pub one_memory_fault : (net memory : List ℕ) (a b : ℕ) → IsNoMemoryFile net memory a → IsNoMemoryFile net memory b → a ≡ b
one_memory_fault net memory a b p q =
    one_state_fault (taken_of p.entries) None memory a b p.none
    (subst (λ e. IsMemoryFault (taken_of e) None memory b) (one_list net p.entries q.entries p.net_file q.net_file) q.none)

module _ (net image memory : List ℕ) where
  pub no_memory_fault : (loaded : Loaded) (at : ℕ) → IsLoaded net image memory loaded → IsNoMemoryFile net memory at → ⊥
  no_memory_fault loaded at p q =
      no_state_fault (taken_of loaded.entries) None memory loaded.start at p.memory_text
      (subst (λ e. IsMemoryFault (taken_of e) None memory at) (one_list net loaded.entries q.entries p.net_file q.net_file) q.none)

  -- three texts say one netlist, image and state
  one_loaded : (x y : Loaded) → IsLoaded net image memory x → IsLoaded net image memory y → y ≡ x
  one_loaded x y p q =
      let e : y.entries ≡ x.entries = one_list net x.entries y.entries p.net_file q.net_file in
      let i : y.image ≡ x.image = one_read (taken_of x.entries) (narrow_of net x.entries p.net_file.file) image y.image x.image
      (subst (λ z. IsImageRead (taken_of z) image y.image) e q.image_text) p.image_text in
      let s : y.start ≡ x.start = one_moded_state (taken_of x.entries) (taken_keeps x.entries p.net_file.file.keeps) None memory y.start x.start (subst (λ z. IsMemoryText (taken_of z) None memory y.start) e q.memory_text) p.memory_text in
      λ j. record { entries = e j; image = i j; start = s j }

  pub one_clash : (clocks : ℕ) (c d : ClashedAt) → Clashes net image memory clocks c → Clashes net image memory clocks d → c ≡ d
  one_clash clocks c d p q =
      let same : q.loaded ≡ p.loaded = one_loaded p.loaded q.loaded p.taken q.taken in
      let ends : Clashed c.cycle c.bus ≡ Clashed d.cycle d.bus = sym p.clashed ∙ (ap (λ (l : Loaded). clocked l clocks) (sym same) ∙ q.clashed) in
      let cycle : c.cycle ≡ d.cycle = cc in
      let bus : c.bus ≡ d.bus = cc in
      let at : c.at ≡ d.at = p.name ∙ (ap (λ (l : Loaded). name_at (taken_of l.entries) c.bus) (sym same) ∙ (ap (name_at (taken_of q.loaded.entries)) bus ∙ sym q.name)) in
      λ j. record { cycle = cycle j; bus = bus j; at = at j }

  pub no_clash_shown : (clocks : ℕ) (c : ClashedAt) (out : List ℕ) → Clashes net image memory clocks c → ShowsState net image memory clocks out → ⊥
  no_clash_shown clocks c out p q =
      let same : q.loaded ≡ p.loaded = one_loaded p.loaded q.loaded p.taken q.taken in
      let ends : Clashed c.cycle c.bus ≡ Reached q.last = sym p.clashed ∙ (ap (λ (l : Loaded). clocked l clocks) (sym same) ∙ q.reached) in
      cc
