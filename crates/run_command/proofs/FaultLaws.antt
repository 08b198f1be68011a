-- From what was read to the texts.
use Rattle.std.proofs.Common.{ℕ, List, None, sym, subst}
use Rattle.std.specs.List.{AllByRecursion}
use Rattle.net_model.specs.declared.hardware.Netlist.{Netlist}
use Rattle.net_model.specs.Widths.{WordFits}
use Rattle.net_model.specs.declared.states.State.{State}
use Rattle.net_model.specs.ModeRules.{Moded}
use Rattle.net_front.specs.Fronts.{taken_of}
use Rattle.net_front.proofs.FrontLaws.{taken_keeps}
use Rattle.code_model.specs.declared.image.Image.{Image}
use Rattle.code_model.specs.Places.{words_of}
use Rattle.code_model.specs.ImageFits.{CodeFits, limits_of}
use Rattle.viewed_text.specs.Texts.{IsImageRead}
use Rattle.run_command.proofs.LimitLaws.{words_fit}
use Rattle.net_model.specs.MemoryText.{IsMemoryText}
use Rattle.run_command.specs.Runs.{IsLoaded, IsImageFile, IsNetRead, ShowsState, IsRunFault}
use Rattle.run_command.specs.Inner.Runs.{IsEndText, IsEndFault}
use Rattle.run_command.specs.declared.machine.RunFault.{RunFault}
use Rattle.run_command.specs.declared.machine.RunFault.TheVariants.{NetText, Net, ImageText, MemText, Clash, Memory}

-- the words of an image that fits the netlist fit it
pub read_words_fit : (net image : List ℕ) (checked : Moded) → IsNetRead net checked → (said : Image) → IsImageRead checked.netlist image said → AllByRecursion (WordFits checked.netlist) (words_of said)
read_words_fit net image checked read said is =
    subst (λ (n : Netlist). AllByRecursion (WordFits n) (words_of said)) (sym read.netlist)
    (words_fit (taken_of read.entries) (taken_keeps read.entries read.file.file.keeps) said.words (subst (λ (n : Netlist). AllByRecursion (CodeFits (limits_of n).bits) said.words) read.netlist is.is.fits.words))

module _ (net image memory : List ℕ) (clocks : ℕ) (checked : Moded) (read : IsNetRead net checked) where
  module _ (said : Image) (image_is : IsImageRead checked.netlist image said) where
    abbrev image_file : IsImageFile net image
    image_file = record { entries = read.entries; said = said; net_file = read.file; image_text = subst (λ (n : Netlist). IsImageRead n image said) read.netlist image_is }

    module _ (start : State) (memory_is : IsMemoryText checked.netlist None memory start) where
      taken : IsLoaded net image memory (record { entries = read.entries; image = said; start = start })
      taken = record { net_file = read.file; image_text = image_file.image_text; memory_text = subst (λ (n : Netlist). IsMemoryText n None memory start) read.netlist memory_is }

      pub shows_of_end : (out : List ℕ) → IsEndText checked.netlist (words_of said) start clocks out → ShowsState net image memory clocks out
      shows_of_end out h =
          let moved : IsEndText (taken_of read.entries) (words_of said) start clocks out = subst (λ (n : Netlist). IsEndText n (words_of said) start clocks out) read.netlist h in
          record { loaded = record { entries = read.entries; image = said; start = start }; taken = taken; last = moved.0; reached = moved.1; text = moved.2 }

      pub fault_of_end : (fault : RunFault) → IsEndFault checked.netlist (words_of said) start clocks fault → IsRunFault net image memory clocks fault
      fault_of_end (NetText at) h = absurd h
      fault_of_end (Net fault) h = absurd h
      fault_of_end (ImageText at) h = absurd h
      fault_of_end (MemText at) h = absurd h
      fault_of_end (Clash cycle bus at) h =
          let moved : IsEndFault (taken_of read.entries) (words_of said) start clocks (Clash cycle bus at) = subst (λ (n : Netlist). IsEndFault n (words_of said) start clocks (Clash cycle bus at)) read.netlist h in
          record { loaded = record { entries = read.entries; image = said; start = start }; taken = taken; clashed = moved.0; name = moved.1 }
      fault_of_end Memory h = tt
