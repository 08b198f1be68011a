-- What a run of an image on a netlist shows, and why there is none.
use Rattle.std.specs.Prelude.{ℕ, ◌≡◌, List, None}
use Rattle.net_model.specs.declared.hardware.Netlist.{Netlist}
use Rattle.net_model.specs.declared.states.State.{State}
use Rattle.net_model.specs.ModeRules.{AreModesOfNetlist, Moded}
use Rattle.net_model.specs.Clock.{Run, run, Reached, Clashed}
use Rattle.net_model.specs.NetFaults.{name_at}
use Rattle.net_model.specs.Written.{UnitsModel}
use Rattle.net_parser.specs.Texts.{IsNoNetText}
use Rattle.net_front.specs.Fronts.{taken_of}
use Rattle.net_front.specs.Taken.{BreaksTaken, IsTakenFile}
use Rattle.code_model.specs.declared.image.Image.{Image}
use Rattle.code_model.specs.Places.{words_of}
use Rattle.viewed_text.specs.Texts.{IsImageRead, IsRemarkedFault}
use Rattle.net_model.specs.MemoryText.{IsMemoryText, IsMemoryFault}
use Rattle.state_text.specs.Shown.{state_text}
use Rattle.run_command.specs.declared.machine.RunFault.{RunFault}
use Rattle.run_command.specs.declared.machine.RunFault.TheVariants.{NetText, Net, ImageText, MemText, Clash, Memory}

-- the newest edition of netlist texts that are run: those of the next have a bank
abbrev pub run_edition : ℕ
run_edition = 3

-- ---- texts

-- a netlist's text, an image for the netlist, and a state of it
pub record Loaded : Type 0 where
  pub entries : UnitsModel
  pub image : Image
  pub start : State

-- three texts say these
pub record IsLoaded (net image memory : List ℕ) (loaded : Loaded) : Type 0 where
  pub net_file : IsTakenFile run_edition net loaded.entries
  pub image_text : IsImageRead (taken_of loaded.entries) image loaded.image
  pub memory_text : IsMemoryText (taken_of loaded.entries) None memory loaded.start

-- the first bytes are a netlist's, and the second an image's for it
pub record IsImageFile (net image : List ℕ) : Type 0 where
  pub entries : UnitsModel
  pub said : Image
  pub net_file : IsTakenFile run_edition net entries
  pub image_text : IsImageRead (taken_of entries) image said

-- this netlist, which was checked in its modes, is taken for the bytes
pub record IsNetRead (net : List ℕ) (moded : Moded) : Type 0 where
  pub entries : UnitsModel
  pub file : IsTakenFile run_edition net entries
  pub netlist : moded.netlist ≡ taken_of entries
  pub modes : AreModesOfNetlist moded.netlist moded.bases

-- the words of the image that the bytes are
pub record AreImageWords (netlist : Netlist) (image words : List ℕ) : Type 0 where
  pub said : Image
  pub image_text : IsImageRead netlist image said
  pub words_are : words ≡ words_of said

-- ---- clocks

-- so many clocks of the netlist on the image's words, from the state
abbrev pub clocked : Loaded → ℕ → Run
clocked loaded clocks = run (taken_of loaded.entries) (words_of loaded.image) loaded.start clocks

-- these bytes are the text of the state that the clocks reach
pub record ShowsState (net image memory : List ℕ) (clocks : ℕ) (out : List ℕ) : Type 0 where
  pub loaded : Loaded
  pub taken : IsLoaded net image memory loaded
  pub last : State
  pub reached : clocked loaded clocks ≡ Reached last
  pub text : out ≡ state_text (taken_of loaded.entries) clocks last

-- ---- refusals

-- a clash: its cycle, the bus's net, and the offset of the bus's name in the netlist's text
pub record ClashedAt : Type 0 where
  pub cycle : ℕ
  pub bus : ℕ
  pub at : ℕ

-- the clocks end with this clash
pub record Clashes (net image memory : List ℕ) (clocks : ℕ) (clash : ClashedAt) : Type 0 where
  pub loaded : Loaded
  pub taken : IsLoaded net image memory loaded
  pub clashed : clocked loaded clocks ≡ Clashed clash.cycle clash.bus
  pub name : clash.at ≡ name_at (taken_of loaded.entries) clash.bus

-- the first bytes are a netlist's, and the second no image's for it, which shows at this offset
pub record IsNoImageFile (net image : List ℕ) (at : ℕ) : Type 0 where
  pub entries : UnitsModel
  pub net_file : IsTakenFile run_edition net entries
  pub none : IsRemarkedFault (taken_of entries) image at

-- the first bytes are a netlist's, and the second no memory text for it, which shows at this offset
pub record IsNoMemoryFile (net memory : List ℕ) (at : ℕ) : Type 0 where
  pub entries : UnitsModel
  pub net_file : IsTakenFile run_edition net entries
  pub none : IsMemoryFault (taken_of entries) None memory at

-- when each refusal comes; nothing is said where memory ran out
abbrev pub IsRunFault : List ℕ → List ℕ → List ℕ → ℕ → RunFault → Type 0
IsRunFault net image memory clocks (NetText at) = IsNoNetText net at
IsRunFault net image memory clocks (Net fault) = BreaksTaken run_edition net fault
IsRunFault net image memory clocks (ImageText at) = IsNoImageFile net image at
IsRunFault net image memory clocks (MemText at) = IsImageFile net image × IsNoMemoryFile net memory at
IsRunFault net image memory clocks (Clash cycle bus at) =
    Clashes net image memory clocks (record { cycle = cycle; bus = bus; at = at })
IsRunFault net image memory clocks Memory = Unit {0}
