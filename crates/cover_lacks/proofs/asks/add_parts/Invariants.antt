use Rattle.cover_lacks.specs.Inner.Asked.{AddsParts, search_stock}
use Rattle.cover_lacks.proofs.asks.add_parts.Given as goal

abbrev pub invariant-loop-part : goal.invariant-loop-part
invariant-loop-part l = AddsParts (search_stock l.search) l.below l.parts l.part-index l.initial.numbers.items l.numbers.items
