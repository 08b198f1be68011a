-- The fetches of a command's files.
use Rattle.std.proofs.Common.{◌≡◌, ℕ, ◌+◌, ◌<◌, ◌≤◌, List, [], ◌∷◌, ◌++◌, String, Vec, take, length, get_or, true, false, cond, Some, None, refl, inl, inr, zero, suc, arith, ap, sym, ◌∙◌}
use Rattle.std.proofs.lemmas.Grind.{common_steps}
use Rattle.std.proofs.lemmas.List.{take_more, get_or-map}
use Rattle.std.proofs.lemmas.Slice.Eq.{bytes_eq-Decides}
use Rattle.std.specs.Str.{bytes_eq}
use Rattle.std.specs.declared.alloc.Global.{Global}
use Rattle.std.specs.declared.option.Option.{Option}
use Rattle.rec_io.specs.Causes.{count_after}
use Rattle.rec_io.specs.Files.{Files}
use Rattle.rec_io.specs.Shelf.{ShelfState, IsFailed, IsLong, LastFailed, NoFetchFailed, NoneFailed}
use Rattle.record_core.specs.Answers.{file_limit, place_from, IsFile, AreFiles, HasFirst}
use Rattle.record_core.specs.Inner.Fetch.{contents, AreShort, FetchStops}
use Rattle.record_core.specs.Words.{texts_of, name_in}
use Rattle.record_core.specs.declared.status.Status.{Status}
use Rattle.record_core.specs.declared.status.Status.TheVariants.{ReadFault, TooLong}

-- ---- counts of faults, where no fetch has failed before

calm_count : (a b : ShelfState) → NoFetchFailed a b → b.faults ≡ a.faults
calm_count a b (inl same) = ap (λ (s : ShelfState). s.faults) same
calm_count a b (inr none) = none.count

pub none_later : (a b c : ShelfState) → NoFetchFailed a b → NoneFailed b c → NoneFailed a c
none_later a b c calm none = record { last = none.last; count = none.count ∙ calm_count a b calm }

pub last_later : (a b c : ShelfState) → NoFetchFailed a b → LastFailed b c → LastFailed a c
last_later a b c calm fault = record { last = fault.last; count = fault.count ∙ ap count_after (calm_count a b calm) }

-- ---- names

-- a name that stands in the list is found
pub place_from-found : (k : ℕ) (names : List (List ℕ)) (i : ℕ) → i < length names → place_from k names (get_or names i []) ≡ None → ⊥
place_from-found k [] i h none = absurd (omega arith)
place_from-found k (name ∷ names) zero h none =
    let same : bytes_eq name name ≡ true = (bytes_eq-Decides name name).1 refl in
    let e : cond true (Some k) (place_from (k + 1) names name) ≡ None = rw same at none in cc
place_from-found k (name ∷ names) (suc i) h none =
    let x : List ℕ = get_or names i [] in
    elim (bytes_eq name x) as (λ v. cond v (Some k) (place_from (k + 1) names x) ≡ None → ⊥) [
      | true ↦ λ e. cc
      | false ↦ λ e. place_from-found (k + 1) names i (omega arith) e
    ] none

-- it is found no later than there
place_from-first : (k : ℕ) (names : List (List ℕ)) (i p : ℕ) → i < length names → place_from k names (get_or names i []) ≡ Some p → p ≤ k + i
place_from-first k [] i p h found = absurd (omega arith)
place_from-first k (name ∷ names) zero p h found =
    let same : bytes_eq name name ≡ true = (bytes_eq-Decides name name).1 refl in
    let e : cond true (Some k) (place_from (k + 1) names name) ≡ Some p = rw same at found in
    let is : k ≡ p = cc in omega arith
place_from-first k (name ∷ names) (suc i) p h found =
    let x : List ℕ = get_or names i [] in
    elim (bytes_eq name x) as (λ v. cond v (Some k) (place_from (k + 1) names x) ≡ Some p → p ≤ k + suc i) [
      | true ↦ λ e. let is : k ≡ p = cc in omega arith
      | false ↦ λ e. let later = place_from-first (k + 1) names i p (omega arith) e in omega arith
    ] found

-- ---- files

-- the files before an earlier place
HasFirst-fewer : (files : Option Files) (names : List (List ℕ)) (k i : ℕ) → k ≤ i → HasFirst files names i → HasFirst files names k
HasFirst-fewer files names zero i h held = ([], tt)
HasFirst-fewer files [] (suc k) i h held = ([], tt)
HasFirst-fewer files (name ∷ names) (suc k) zero h held = absurd (omega arith)
HasFirst-fewer files (name ∷ names) (suc k) (suc i) h ([], held) = absurd held
HasFirst-fewer files (name ∷ names) (suc k) (suc i) h (bytes ∷ rest, held) =
    let fewer = HasFirst-fewer files names k i (omega arith) (rest, held.1) in
    (bytes ∷ fewer.0, (held.0, fewer.1))

-- the files before the first place of the name at a place
earlier_files : (files : Option Files) (names : List (List ℕ)) (i p : ℕ) → i < length names → place_from 0 names (get_or names i []) ≡ Some p → HasFirst files names i → HasFirst files names p
earlier_files files names i p h place held = let first = place_from-first 0 names i p h place in HasFirst-fewer files names p i (omega arith) held

-- a file that is not read stops the fetches
pub stops_failed : (names : List (List ℕ)) (name : List ℕ) (before now : ShelfState) (i file : ℕ) → i < length names → name ≡ get_or names i [] → HasFirst before.files names i → place_from 0 names (get_or names i []) ≡ Some file → IsFailed before now name → FetchStops names before now (ReadFault file)
stops_failed names name before now i file h is held place failed = inr (inl (
  (
    file,
    record {
      rose = (let count = failed.fault.count in omega arith);
      failed = failed.fault.last;
      place = rw (failed.asked, is) place;
      earlier = earlier_files before.files names i file h place held;
    },
    refl,
  ),
  failed.fault,
))

-- a file that is too long stops the fetches
pub stops_long : (names : List (List ℕ)) (name : List ℕ) (before now : ShelfState) (i told file : ℕ) → i < length names → name ≡ get_or names i [] → HasFirst before.files names i → place_from 0 names (get_or names i []) ≡ Some file → IsLong before now name file_limit told → FetchStops names before now (TooLong file told)
stops_long names name before now i told file h is held place long = inr (inr (
  (
    (file, told),
    record {
      bound = long.bound;
      above = rw long.bound long.above;
      ended = long.none.last;
      place = rw (long.asked, is) place;
      earlier = earlier_files before.files names i file h place held;
      longer = rw (long.asked, long.bound) long.file;
    },
    refl,
  ),
  long.none,
))

-- what stops the fetches stops those that began earlier
pub FetchStops-earlier : (names : List (List ℕ)) (first before now : ShelfState) (status : Status) → before.files ≡ first.files → NoFetchFailed first before → FetchStops names before now status → FetchStops names first now status
FetchStops-earlier names first before now status same calm (inl (is, none)) = inl (is, none_later first before now calm none)
FetchStops-earlier names first before now status same calm (inr (inl (read, fault))) =
    let why = read.1 in
    let last = last_later first before now calm fault in
    let count = last.count in
    inr (inl ((read.0, record { rose = omega arith; failed = why.failed; place = why.place; earlier = rw same at why.earlier }, read.2), last))
FetchStops-earlier names first before now status same calm (inr (inr (long, none))) =
    let why = long.1 in
    inr (inr ((long.0, record { bound = why.bound; above = why.above; ended = why.ended; place = why.place; earlier = rw same at why.earlier; longer = rw same at why.longer }, long.2), none_later first before now calm none))

-- one more file
AreFiles-append : (files : Option Files) (names contents : List (List ℕ)) (name bytes : List ℕ) → AreFiles files names contents → IsFile files name bytes → AreFiles files (names ++ name ∷ []) (contents ++ bytes ∷ [])
AreFiles-append files [] [] name bytes held file = (file, tt)
AreFiles-append files (n ∷ names) (b ∷ contents) name bytes held file = (held.0, AreFiles-append files names contents name bytes held.1 file)
AreFiles-append files [] (b ∷ contents) name bytes held file = absurd held
AreFiles-append files (n ∷ names) [] name bytes held file = absurd held

-- the file of the next name
pub AreFiles-next : (files : Option Files) (names : List (String Global)) (got : List (Vec ℕ Global)) (i : ℕ) (file : Vec ℕ Global) → i < length names → AreFiles files (take i (texts_of names)) (contents got) → IsFile files (name_in names i) file.items → AreFiles files (take (i + 1) (texts_of names)) (contents (got ++ file ∷ []))
AreFiles-next files names got i file h held is =
    let within : i < length (texts_of names) = grind (arith, common_steps) in
    let more : take (i + 1) (texts_of names) ≡ take i (texts_of names) ++ name_in names i ∷ [] = take_more (texts_of names) i [] within in
    let last : contents (got ++ file ∷ []) ≡ contents got ++ file.items ∷ [] = grind (arith, common_steps) in
    rw (more, last) (AreFiles-append files _ _ _ _ held is)

-- the bytes of the file at a place
pub contents-at : (got : List (Vec ℕ Global)) (i : ℕ) (file : Vec ℕ Global) (bytes : List ℕ) → i < length got → file ≡ get_or got i file → bytes ≡ file.items → bytes ≡ get_or (contents got) i []
contents-at got i file bytes h is same = let e = get_or-map (λ (f : Vec ℕ Global). f.items) got i file [] h in let k = ap (λ (f : Vec ℕ Global). f.items) is in same ∙ k ∙ sym e

-- the files that were fetched are short
pub files_short : (told : Option Files) (names files : List (List ℕ)) → AreFiles told names files → AreShort files
files_short told [] [] held place = omega arith
files_short told (name ∷ names) (file ∷ files) held zero = held.0.short
files_short told (name ∷ names) (file ∷ files) held (suc place) = files_short told names files held.1 place
files_short told [] (file ∷ files) held place = absurd held
files_short told (name ∷ names) [] held place = absurd held
