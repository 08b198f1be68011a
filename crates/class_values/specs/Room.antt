-- How many classes a table may have.
use Rattle.std.specs.Prelude.{◌≤◌}
use Rattle.tree_laws.specs.declared.classes.Classes.{Classes}
use Rattle.tree_laws.specs.Classes.{class_count}
use Rattle.class_values.specs.declared.room.TheConstants.{MOST_CLASSES}

-- the table has as many classes as it may have
abbrev pub IsFull : Classes → Type 0
IsFull table = MOST_CLASSES ≤ class_count table
