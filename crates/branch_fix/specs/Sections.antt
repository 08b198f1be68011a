-- The sections of a block: neighbouring jobs of one mode, with the words that put a mode other than
-- 0 and take it back.
use Rattle.std.specs.Prelude.{ℕ, zero, suc, ◌+◌, ◌≡◌, List, [], ◌∷◌, ◌++◌, drop}
use Rattle.net_model.specs.declared.hardware.Netlist.{Netlist}
use Rattle.net_model.specs.declared.states.State.{State}
use Rattle.net_model.specs.Clock.{clock, Next}
use Rattle.code_model.specs.declared.image.Image.{Image}
use Rattle.code_model.specs.Places.{words_of}
use Rattle.code_model.specs.Machine.{IsAt}
use Rattle.net_model.specs.Fixed.{mode_in}
use Rattle.src_trees.specs.Lowered.{JobModel}
use Rattle.src_trees.specs.Doing.{AllLie, all_done}
use Rattle.branch_fix.specs.Made.{Walks}

-- so many words from an address on do jobs in a mode, and leave the mode as it is
pub record DoesIn (netlist : Netlist) (image : Image) (temps v : ℕ)
    (jobs : List JobModel) (at n : ℕ) : Type 0 where
  pub walks : (s : State) → IsAt netlist at s → mode_in netlist.special s ≡ v → AllLie temps s.cells jobs →
      (t : State) × Walks netlist image at s n t × (mode_in netlist.special t ≡ v)
      × (drop temps t.cells ≡ drop temps (all_done jobs s.cells))

-- the word at an address leads from one mode to another and on to the next word, and the cells stay
pub record PutsMode (netlist : Netlist) (image : Image) (from to at : ℕ) : Type 0 where
  pub puts : (s : State) → IsAt netlist at s → mode_in netlist.special s ≡ from →
      (u : State) × (clock netlist (words_of image) s ≡ Next u) × IsAt netlist (at + 1) u
      × (mode_in netlist.special u ≡ to) × (u.cells ≡ s.cells)

-- jobs of one mode, and how many words their groups have
pub record Section : Type 0 where
  pub mode : ℕ
  pub jobs : List JobModel
  pub words : ℕ

-- those of a mode other than 0 stand between two mode words
abbrev pub section_room : ℕ → ℕ → ℕ
section_room zero n = n
section_room (suc v) n = n + 2

abbrev pub DoesSection : Netlist → Image → ℕ → ℕ → List JobModel → ℕ → ℕ → Type 0
DoesSection netlist image temps zero jobs at n = DoesIn netlist image temps 0 jobs at n
DoesSection netlist image temps (suc v) jobs at n =
    PutsMode netlist image 0 (suc v) at
    × DoesIn netlist image temps (suc v) jobs (at + 1) n
    × PutsMode netlist image (suc v) 0 (at + 1 + n)

-- the jobs of sections one after the other, and all their words
abbrev pub section_jobs : List Section → List JobModel
section_jobs [] = []
section_jobs (x ∷ sections) = x.jobs ++ section_jobs sections

abbrev pub sections_room : List Section → ℕ
sections_room [] = 0
sections_room (x ∷ sections) = section_room x.mode x.words + sections_room sections

-- each does its jobs, from an address on
abbrev pub DoSections : Netlist → Image → ℕ → List Section → ℕ → Type 0
DoSections netlist image temps [] at = Unit {0}
DoSections netlist image temps (x ∷ sections) at =
    DoesSection netlist image temps x.mode x.jobs at x.words
    × DoSections netlist image temps sections (at + section_room x.mode x.words)
