-- How the fetches of a command end.
use Rattle.std.specs.Prelude.{◌≡◌, ℕ, ◌<◌, ◌≤◌, ◌⊎◌, false, List, Vec, length, map}
use Rattle.std.specs.declared.alloc.Global.{Global}
use Rattle.rec_io.specs.Shelf.{ShelfState, LastFailed, NoneFailed}
use Rattle.record_core.specs.Answers.{file_at, file_limit, IsFileReadFault, IsFileTooLong}
use Rattle.record_core.specs.Stages.{By}
use Rattle.record_core.specs.declared.status.Status.{Status}
use Rattle.record_core.specs.declared.status.Status.TheVariants.{ReadFault, TooLong, Memory}

-- the bytes of each file
abbrev pub contents : List (Vec ℕ Global) → List (List ℕ)
contents files = map (λ file. file.items) files

-- the fetches end with this status: for want of memory, or as a file is too long, where none
-- failed, or as one failed
abbrev pub FetchStops : List (List ℕ) → ShelfState → ShelfState → Status → Type 0
FetchStops names before now status =
    ((status ≡ Memory) × NoneFailed before now)
    ⊎ ((By ReadFault (IsFileReadFault names before now) status × LastFailed before now)
    ⊎ (By (λ (p : ℕ × ℕ). TooLong p.0 p.1) (IsFileTooLong names before now) status × NoneFailed before now))

-- no file is longer than the limit
abbrev pub AreShort : List (List ℕ) → Type 0
AreShort files = (place : ℕ) → length (file_at files place) ≤ file_limit

-- the last fetch neither failed nor got too much
pub record FetchPasses (now : ShelfState) : Type 0 where
  pub ended : now.failed ≡ false
  pub short : now.taken ≤ file_limit

-- so it was, where there are files of these names
abbrev pub FetchesPass : List (List ℕ) → ShelfState → Type 0
FetchesPass names now = 0 < length names → FetchPasses now
