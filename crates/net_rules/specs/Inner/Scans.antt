-- How far a scan has come.
use Rattle.std.specs.Prelude.{◌≡◌, ℕ, List, Option, Bool, is_some}
use Rattle.std.specs.Map.{lookup}
use Rattle.rec_bits.specs.Faults.{lesser_offset, least}
use Rattle.grammar.specs.declared.words.Ident.{Ident}
use Rattle.rec_bits.specs.Faults.{same_name}
use Rattle.net_model.specs.NameRules.{is_among, repeated}
use Rattle.net_model.specs.DriverRules.{names_new}

-- the table has these names
abbrev pub HasSeen : List (List ℕ × ℕ) → List (List ℕ) → Type 0
HasSeen table names = (name : List ℕ) → is_some (lookup (same_name name) table) ≡ is_among names name

-- what is repeated so far and further on is what is repeated in all
pub record Repeating (table : List (List ℕ × ℕ)) (found : Option ℕ) (rest : List Ident) (all : Option ℕ) : Type 0 where
  pub names : List (List ℕ)
  pub seen : HasSeen table names
  pub all_is : lesser_offset found (least (repeated names rest)) ≡ all

-- the names so far and further on are new where all are
pub record AllNew (table : List (List ℕ × ℕ)) (rest : List (List ℕ)) (all : Bool) : Type 0 where
  pub names : List (List ℕ)
  pub seen : HasSeen table names
  pub all_is : names_new names rest ≡ all
