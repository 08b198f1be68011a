use Rattle.std.proofs.Common.{◌≡◌, ◌++◌, map, take}
use Rattle.fault_places.specs.Notes.{blank_for}
use Rattle.fault_places.proofs.notes.add_caret.Given as goal

abbrev pub invariant-loop-byte : goal.invariant-loop-byte
invariant-loop-byte l = l.note.items ≡ l.initial.note.items ++ map blank_for (take l.byte-index l.before)
