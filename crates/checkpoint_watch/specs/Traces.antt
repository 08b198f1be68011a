-- What is shown of a trace.
use Rattle.std.specs.Prelude.{List, []}
use Rattle.code_model.specs.Machine.{TraceEntry, Traced, Shows, Clashes}

-- its checkpoints, and none where a clock clashes
abbrev pub entries_of : Traced → List TraceEntry
entries_of (Shows entries) = entries
entries_of Clashes = []
