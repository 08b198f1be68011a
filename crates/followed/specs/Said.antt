-- What hints say, as a relation.
use Rattle.std.specs.Prelude.{ℕ, ◌==◌, if◌then◌else◌, List, [], ◌∷◌, map}
use Rattle.sym_expr.specs.declared.pool.Node.{Node}
use Rattle.follow.specs.Relations.{Relation}
use Rattle.mark_start.specs.declared.hints.Hint.{Hint}
use Rattle.segment.specs.Asked.{holding_of, known_of}

abbrev pub relation_of : List Node → Hint → Relation
relation_of pool hint = record { holdings = map (holding_of pool) hint.holdings; known = map known_of hint.numbers }

-- the relation of an address is what the first hint of it says
abbrev pub relation_at : List Node → List Hint → ℕ → Relation
relation_at pool [] address = record { holdings = []; known = [] }
relation_at pool (hint ∷ hints) address = if hint.address == address then relation_of pool hint else relation_at pool hints address
