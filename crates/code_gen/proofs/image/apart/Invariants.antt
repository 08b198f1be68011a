use Rattle.std.proofs.Common.{◌≡◌, map}
use Rattle.isa_extract.specs.declared.netlists.Isa.{Isa}
use Rattle.code_gen.specs.Inner.Planning.{AreOperations}
use Rattle.code_gen.proofs.image.apart.Given as goal

abbrev pub invariant-loop-isa : goal.invariant-loop-isa
invariant-loop-isa l = record {
  books : l.books.items ≡ map (λ (isa : Isa). isa.book) l.yielded;
  rest : AreOperations l.yielded l.rest.items;
}
