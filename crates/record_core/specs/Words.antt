-- The words of the command line, and the command that they ask for.
use Rattle.std.specs.Prelude.{ℕ, ◌≤◌, ◌&&◌, nat_le, List, [], ◌∷◌, Some, None, drop, map, option_map, take, String, string_bytes, codes, slice_index_or, if◌then◌else◌}
use Rattle.std.specs.declared.alloc.Global.{Global}
use Rattle.std.specs.declared.option.Option.{Option}
use Rattle.std.specs.Option.{option_map_or}
use Rattle.std.specs.Str.{bytes_eq}
use Rattle.text_lines.specs.Fields.{number_of}
use Rattle.record_core.specs.declared.words.Command.{Command}
use Rattle.record_core.specs.declared.words.Command.TheVariants.{Compile, Extract, Run, Go, Make, Asm, Dis, Test, Explain, Tune, Dual, Check}

-- the words as texts
abbrev pub texts_of : List (String Global) → List (List ℕ)
texts_of words = map string_bytes words

-- the most clocks of a run
abbrev pub clock_limit : ℕ
clock_limit = 1000000

abbrev pub within_limit : Option ℕ → Option ℕ
within_limit None = None
within_limit (Some clocks) = if nat_le clocks clock_limit then Some clocks else None

-- the number of clocks that a word asks for, in decimal digits without leading zeros
abbrev pub clocks_of : List ℕ → Option ℕ
clocks_of word = within_limit (number_of word)

-- the greatest number of a made-up program
abbrev pub job_limit : ℕ
job_limit = 1000

abbrev pub within_jobs : Option ℕ → Option ℕ
within_jobs None = None
within_jobs (Some job) = if nat_le 1 job && nat_le job job_limit then Some job else None

-- the number of the made-up program that a word asks for, from 1 on
abbrev pub job_number : List ℕ → Option ℕ
job_number word = within_jobs (number_of word)

-- the command of two files that a word names, if it names one
abbrev pub pair_command : List ℕ → Option Command
pair_command word =
    if bytes_eq word (codes "compile") then Some Compile
    else (if bytes_eq word (codes "asm") then Some Asm
    else (if bytes_eq word (codes "dis") then Some Dis
    else (if bytes_eq word (codes "explain") then Some Explain
    else (if bytes_eq word (codes "tune") then Some Tune else None))))

-- the command that the words ask for, if they have the form of one
abbrev pub command_of : List (List ℕ) → Option Command
command_of (word ∷ other ∷ []) =
    if bytes_eq word (codes "extract") then Some Extract
    else (if bytes_eq word (codes "test") then Some Test
    else (if bytes_eq word (codes "make") then option_map Make (job_number other) else None))
command_of (word ∷ net ∷ other ∷ []) = pair_command word
command_of (word ∷ net ∷ other ∷ part ∷ []) =
    if bytes_eq word (codes "dual") then Some Dual
    else (if bytes_eq word (codes "check") then Some Check else None)
command_of (word ∷ net ∷ other ∷ memory ∷ clocks ∷ []) =
    if bytes_eq word (codes "run") then option_map Run (clocks_of clocks)
    else (if bytes_eq word (codes "go") then option_map Go (clocks_of clocks) else None)
command_of _ = None

-- the number of a made-up program is one
abbrev pub CommandFits : Command → Type 0
CommandFits (Make number) = (1 ≤ number) × (number ≤ job_limit)
CommandFits _ = Unit {0}

-- how many files a command has
abbrev pub file_count : Command → ℕ
file_count Compile = 2
file_count Extract = 1
file_count (Run clocks) = 3
file_count (Go clocks) = 3
file_count (Make number) = 0
file_count Asm = 2
file_count Dis = 2
file_count Test = 1
file_count Explain = 2
file_count Tune = 2
file_count Dual = 3
file_count Check = 3

-- how many files the words ask for
abbrev pub files_asked : List (List ℕ) → ℕ
files_asked words = option_map_or file_count (command_of words) 0

-- the names of the command's files, in their order: they are the words after the first
abbrev pub names_of : Command → List (List ℕ) → List (List ℕ)
names_of command words = take (file_count command) (drop 1 words)

-- the name at this place
abbrev pub name_in : List (String Global) → ℕ → List ℕ
name_in words index = slice_index_or (texts_of words) index []
