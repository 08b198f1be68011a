-- What a shelf means, and what its answers say. What is known of a shelf (its files where it tells
-- them, its count, and of the last fetch the name, the bytes got, which are at most the limit and
-- one, and whether it failed), and what each answer of a fetch says of it. Of fetches none failed
-- (`NoneFailed`, `NoFetchFailed`), or the last one did and was counted (`LastFailed`).
use Rattle.std.specs.Prelude.{◌≡◌, ℕ, ◌<◌, ◌≤◌, ◌⊎◌, Bool, true, false, List, length, Option, Some, IfSome, IsSomeAnd}
use Rattle.rec_io.specs.Causes.{count_after}
use Rattle.rec_io.specs.Files.{Files, file_of}
use Rattle.rec_io.specs.declared.shelf.Fetch.{Fetch}
use Rattle.rec_io.specs.declared.shelf.Fetch.TheVariants.{Failed, TooLong, Memory}

-- the five meanings of a shelf
pub record ShelfState : Type 0 where
  -- the files, where the shelf tells them
  pub files : Option Files
  -- how often a fetch has failed, up to the end of the count's type
  pub faults : ℕ
  -- how many bytes the last fetch got
  pub taken : ℕ
  -- the name that the last fetch was asked for
  pub last : List ℕ
  -- whether the last fetch failed
  pub failed : Bool

-- of one fetch, or of several, none failed: the last did not, and no fault was counted
pub record NoneFailed (before now : ShelfState) : Type 0 where
  pub last : now.failed ≡ false
  pub count : now.faults ≡ before.faults

-- the last failed, and none before it: one fault was counted
pub record LastFailed (before now : ShelfState) : Type 0 where
  pub last : now.failed ≡ true
  pub count : now.faults ≡ count_after before.faults

-- there was no fetch, or none failed
abbrev pub NoFetchFailed : ShelfState → ShelfState → Type 0
NoFetchFailed before now = (now ≡ before) ⊎ NoneFailed before now

-- all of the file was handed out
pub record IsGot (before now : ShelfState) (name : List ℕ) (limit : ℕ) (bytes : List ℕ) : Type 0 where
  pub asked : now.last ≡ name
  pub none : NoneFailed before now
  pub count : now.taken ≡ length bytes
  pub short : length bytes ≤ limit
  pub file : IfSome before.files (λ files. file_of files name ≡ Some bytes)

-- the file was not read, which is a fault
pub record IsFailed (before now : ShelfState) (name : List ℕ) : Type 0 where
  pub asked : now.last ≡ name
  pub fault : LastFailed before now

-- the file is longer than the limit, which the answer names; where the files are told, there is one
-- of this name
pub record IsLong (before now : ShelfState) (name : List ℕ) (limit told : ℕ) : Type 0 where
  pub asked : now.last ≡ name
  pub none : NoneFailed before now
  pub bound : told ≡ limit
  pub above : limit < now.taken
  pub file : IfSome before.files (λ files. IsSomeAnd (file_of files name) (λ bytes. limit < length bytes))

-- why nothing was handed out; want of memory has no cause here, and after it nothing is said of the
-- name
abbrev pub IsRefused : ShelfState → ShelfState → List ℕ → ℕ → Fetch → Type 0
IsRefused before now name limit Failed = IsFailed before now name
IsRefused before now name limit (TooLong told) = IsLong before now name limit told
IsRefused before now name limit Memory = NoneFailed before now
