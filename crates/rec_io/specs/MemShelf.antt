-- Files in memory, some of whose fetches fail.
use Rattle.std.specs.Prelude.{◌≡◌, ℕ, false, ◌⊎◌, List, [], None, Some, map, Contains, String, Vec, string_bytes}
use Rattle.std.specs.Option.{option_map_or}
use Rattle.std.specs.declared.alloc.Global.{Global}
use Rattle.rec_io.specs.Causes.{count_after}
use Rattle.rec_io.specs.Files.{Files, file_of}
use Rattle.rec_io.specs.Shelf.{ShelfState}
use Rattle.rec_io.specs.declared.mem_shelf.MemShelf.{MemShelf}

-- the files of these pairs of a name and bytes
abbrev pub pairs_of : List (String Global × Vec ℕ Global) → Files
pairs_of pairs = map (λ pair. (string_bytes pair.0, pair.1.items)) pairs

abbrev pub files_of : MemShelf → Files
files_of shelf = pairs_of shelf.files.items

-- the numbers, from 1, of the fetches that are to fail
abbrev pub fails_of : MemShelf → List ℕ
fails_of shelf = shelf.fails.items

-- how many fetches there were
abbrev pub fetches_of : MemShelf → ℕ
fetches_of shelf = shelf.fetches

-- the shelf tells its files
abbrev pub shelf_state : MemShelf → ShelfState
shelf_state shelf = record {
  files = Some (files_of shelf);
  faults = shelf.faults;
  taken = shelf.taken;
  last = option_map_or string_bytes shelf.last [];
  failed = shelf.failed;
}

-- the state before the first fetch
abbrev pub first_state : Files → ShelfState
first_state files = record { files = Some files; faults = 0; taken = 0; last = []; failed = false }

-- the next fetch of this name is to fail: its number is listed, or no pair has the name
abbrev pub IsFetchDue : MemShelf → List ℕ → Type 0
IsFetchDue shelf name =
    Contains (fails_of shelf) (count_after (fetches_of shelf))
    ⊎ (file_of (files_of shelf) name ≡ None)
