-- What `run` answers for three texts.
use Rattle.std.proofs.Common.{◌≡◌, ◌⊎◌, ℕ, List, inl, inr, refl}
use Rattle.net_front.proofs.FrontLaws.{no_text_fault}
use Rattle.net_front.proofs.TakenLaws.{no_broken_for, no_text_fault_for, not_later}
use Rattle.net_front.specs.Taken.{BreaksTaken, IsLater, IsTakenFile, added_role}
use Rattle.net_model.specs.Written.{UnitsModel}
use Rattle.net_model.specs.declared.fault.NetFault.{NetFault}
use Rattle.net_parser.specs.Texts.{IsNoNetText}
use Rattle.run_command.proofs.RunLaws.{no_image_fault, no_memory_fault}
use Rattle.run_command.specs.Runs.{Loaded, IsLoaded, IsImageFile, IsNoImageFile, IsNoMemoryFile, ClashedAt, Clashes, ShowsState, IsRunFault, run_edition}
use Rattle.run_command.specs.declared.machine.RunFault.{RunFault}
use Rattle.run_command.specs.declared.machine.RunFault.TheVariants.{NetText as RunNetText, Net as RunNet, ImageText as NoImage, MemText as NoMemoryText, Clash as Clashed, Memory as RunMemory}
use Rattle.record_core.proofs.StageLemmas.{By-none}
use Rattle.record_core.specs.Answers.{RunAnswers, RunEnds}
use Rattle.record_core.specs.Stages.{By, Then}
use Rattle.record_core.specs.Inner.Statuses.{run_stop}
use Rattle.record_core.specs.declared.status.Status.{Status}
use Rattle.record_core.specs.declared.status.Status.TheVariants.{Done, NetText, Net, Memory, ImageText, MemText, Clash}
use Rattle.record_core.specs.declared.stop.Told.{Told}
use Rattle.record_core.specs.declared.stop.Told.TheVariants.{Nothing, Bus}

module _ (line : Told → Status → List ℕ) (net image memory : List ℕ) (clocks : ℕ) where
  -- the later stages, by what the texts passed so far
  abbrev memory_answers : Status → List ℕ → Type 0
  memory_answers = Then (line Nothing) (By MemText (IsNoMemoryFile net memory)) (RunEnds line net image memory clocks)

  abbrev image_answers : Status → List ℕ → Type 0
  image_answers = Then (line Nothing) (By ImageText (IsNoImageFile net image)) memory_answers

  past_net : (entries : UnitsModel) → IsTakenFile run_edition net entries → (status : Status) (text : List ℕ) → image_answers status text → RunAnswers line net image memory clocks status text
  past_net entries file status text later = inr (
    By-none NetText (IsNoNetText net) (λ at faulty. no_text_fault net entries at file.file.says faulty),
    inr (By-none Net (BreaksTaken run_edition net) (λ fault breaks. no_broken_for (IsLater run_edition) added_role net entries fault file.file (not_later run_edition entries.edition file.taken) breaks), later),
  )

  past_image : IsImageFile net image → (status : Status) (text : List ℕ) → memory_answers status text → RunAnswers line net image memory clocks status text
  past_image h status text later = past_net h.entries h.net_file status text (inr (By-none ImageText (IsNoImageFile net image) (λ at none. no_image_fault net image at h none), later))

  past_memory : (loaded : Loaded) → IsLoaded net image memory loaded → (status : Status) (text : List ℕ) → RunEnds line net image memory clocks status text → RunAnswers line net image memory clocks status text
  past_memory loaded taken status text later =
      past_image (record { entries = loaded.entries; said = loaded.image; net_file = taken.net_file; image_text = taken.image_text }) status text
      (inr (By-none MemText (IsNoMemoryFile net memory) (λ at none. no_memory_fault net image memory loaded at taken none), later))

  pub answers_state : (out : List ℕ) → ShowsState net image memory clocks out → RunAnswers line net image memory clocks Done out
  answers_state out shows = past_memory shows.loaded shows.taken Done out (inr (refl, shows))

  answers_clash : (c : ClashedAt) → Clashes net image memory clocks c → RunAnswers line net image memory clocks (Clash c.cycle c.bus) (line (Bus c.at) (Clash c.cycle c.bus))
  answers_clash c clashes = past_memory clashes.loaded clashes.taken (Clash c.cycle c.bus) (line (Bus c.at) (Clash c.cycle c.bus)) (inl (c, clashes, refl, refl))

  answers_no_net_text : (at : ℕ) → IsNoNetText net at → RunAnswers line net image memory clocks (NetText at) (line Nothing (NetText at))
  answers_no_net_text at none = inl ((at, none, refl), refl)

  answers_broken : (fault : NetFault) → BreaksTaken run_edition net fault → RunAnswers line net image memory clocks (Net fault) (line Nothing (Net fault))
  answers_broken fault breaks =
      inr (By-none NetText (IsNoNetText net) (λ at faulty. no_text_fault_for (IsLater run_edition) added_role net fault at breaks faulty), inl ((fault, breaks, refl), refl))

  answers_no_image : (at : ℕ) → IsNoImageFile net image at → RunAnswers line net image memory clocks (ImageText at) (line Nothing (ImageText at))
  answers_no_image at none = past_net none.entries none.net_file (ImageText at) (line Nothing (ImageText at)) (inl ((at, none, refl), refl))

  answers_no_memory : (at : ℕ) → IsImageFile net image → IsNoMemoryFile net memory at → RunAnswers line net image memory clocks (MemText at) (line Nothing (MemText at))
  answers_no_memory at has none = past_image has (MemText at) (line Nothing (MemText at)) (inl ((at, none, refl), refl))

  -- a fault of the run is what is answered
  pub answers_fault : (fault : RunFault) → IsRunFault net image memory clocks fault
      → ((run_stop fault).status ≡ Memory) ⊎ RunAnswers line net image memory clocks (run_stop fault).status (line (run_stop fault).told (run_stop fault).status)
  answers_fault (RunNetText at) is = inr (answers_no_net_text at is)
  answers_fault (RunNet fault) is = inr (answers_broken fault is)
  answers_fault (NoImage at) is = inr (answers_no_image at is)
  answers_fault (NoMemoryText at) is = inr (answers_no_memory at is.0 is.1)
  answers_fault (Clashed cycle bus at) is = inr (answers_clash (record { cycle = cycle; bus = bus; at = at }) is)
  answers_fault RunMemory is = inl refl

-- what is written on `Done` is the state
pub state_of : (line : Told → Status → List ℕ) (net image memory : List ℕ) (clocks : ℕ) (text : List ℕ) → RunAnswers line net image memory clocks Done text → ShowsState net image memory clocks text
state_of line net image memory clocks text (inl ((at, reason, is), same)) = absurd cc
state_of line net image memory clocks text (inr (net_text, inl ((fault, reason, is), same))) = absurd cc
state_of line net image memory clocks text (inr (net_text, inr (rules, inl ((at, reason, is), same)))) = absurd cc
state_of line net image memory clocks text (inr (net_text, inr (rules, inr (image_is, inl ((at, reason, is), same))))) = absurd cc
state_of line net image memory clocks text (inr (net_text, inr (rules, inr (image_is, inr (memory_is, inl (c, clashes, is, same)))))) = absurd cc
state_of line net image memory clocks text (inr (net_text, inr (rules, inr (image_is, inr (memory_is, inr (is, shows)))))) = shows
